-- The line of a choice is that of one declared actor.
use Rattle.std.proofs.Common.{◌≡◌, ℕ, ◌<◌, true, not, nat_le, ◌&&◌, List, [], ◌∷◌, length, codes, Some, refl, sym, ap, ◌∙◌, arith}
use Rattle.std.proofs.lemmas.Fmt.{decimal_injective}
use Rattle.std.specs.Fmt.{decimal}
use Rattle.std.specs.List.{list_all}
use Rattle.loft_lex.specs.Bytes.{is_letter, is_name_byte, begins}
use Rattle.loft_lex.specs.Word.{is_word}
use Rattle.loft_spelling.proofs.Sets.{and_both}
use Rattle.loft_base.specs.declared.ids.SchedId.{SchedId}
use Rattle.loft_tree.specs.NamedFits.{IsName, IsScheduler, ClientHolds, IsNamed}
use Rattle.loft_tree.specs.declared.heads.Client.{Client}
use Rattle.loft_tree.specs.declared.heads.Heads.{Heads}
use Rattle.loft_tree.specs.declared.heads.HeadItem.TheVariants as item
use Rattle.loft_orders.specs.Text.{scheduler_name, client_name}
use Rattle.loft_history.specs.History.{Choice, TakeBy, GiveBy, PickBy, PostBy, ClientBy}
use Rattle.loft_history.specs.Report.{choice_line}
use Rattle.loft_soundness.proofs.ListLemmas.{within_some, each_at}
use Rattle.loft_report_head.specs.Declared.{HasOwnNames, IsDeclared}
use Rattle.loft_report_head.proofs.Lines.{no_feed, no_feed_append, name_no_feed, decimal_no_feed, cancel}

name_is_plain : (name : List ℕ) → IsName name → no_feed name ≡ true
name_is_plain name p =
    let a = and_both (begins is_letter name && list_all is_name_byte name && nat_le (length name) 64) (not (is_word name)) p in
    let b = and_both (begins is_letter name && list_all is_name_byte name) (nat_le (length name) 64) a.0 in
    name_no_feed name (and_both (begins is_letter name) (list_all is_name_byte name) b.0).1

-- ---- names of actors

scheduler_there : (h : Heads) (s : SchedId) → IsScheduler h s → IsNamed h (item.Scheduler s) (scheduler_name h s)
scheduler_there h s p = let x = within_some h.schedulers s.0 p in rw x.1 refl

client_there : (h : Heads) (c : ℕ) → c < length h.clients → IsNamed h (item.Client c) (client_name h c)
client_there h c p = let x = within_some h.clients c p in rw x.1 refl

scheduler_plain : (h : Heads) → HasOwnNames h → (s : SchedId) → IsScheduler h s → no_feed (scheduler_name h s) ≡ true
scheduler_plain h own s p = let x = within_some h.schedulers s.0 p in rw x.1 (name_is_plain x.0 (each_at IsName h.schedulers s.0 x.0 own.schedulers x.1))

client_plain : (h : Heads) → HasOwnNames h → (c : ℕ) → c < length h.clients → no_feed (client_name h c) ≡ true
client_plain h own c p = let x = within_some h.clients c p in rw x.1 (name_is_plain x.0.name (each_at (ClientHolds h) h.clients c x.0 own.clients x.1).name)

same_scheduler : (h : Heads) → HasOwnNames h → (s q : SchedId) → IsScheduler h s → IsScheduler h q → scheduler_name h s ≡ scheduler_name h q → s ≡ q
same_scheduler h own s q a b e =
    let there : IsNamed h (item.Scheduler q) (scheduler_name h s) = scheduler_there h q b ∙ ap (λ (n : List ℕ). Some n) (sym e) in
    let same : item.Scheduler s ≡ item.Scheduler q = own.differ.declarations (item.Scheduler s) (item.Scheduler q) (scheduler_name h s) (scheduler_there h s a) there in
    cc

same_client : (h : Heads) → HasOwnNames h → (c d : ℕ) → c < length h.clients → d < length h.clients → client_name h c ≡ client_name h d → c ≡ d
same_client h own c d a b e =
    let there : IsNamed h (item.Client d) (client_name h c) = client_there h d b ∙ ap (λ (n : List ℕ). Some n) (sym e) in
    let same : item.Client c ≡ item.Client d = own.differ.declarations (item.Client c) (item.Client d) (client_name h c) (client_there h c a) there in
    cc

-- ---- lines

pub choice_plain : (h : Heads) → HasOwnNames h → (c : Choice) → IsDeclared h c → no_feed (choice_line h c) ≡ true
choice_plain h own (TakeBy s) p = no_feed_append (codes "take ") (scheduler_name h s) refl (scheduler_plain h own s p)
choice_plain h own (GiveBy s) p = no_feed_append (codes "give ") (scheduler_name h s) refl (scheduler_plain h own s p)
choice_plain h own (PickBy w) p = no_feed_append (codes "pick ") (decimal w) refl (decimal_no_feed w p)
choice_plain h own (PostBy w) p = no_feed_append (codes "post ") (decimal w) refl (decimal_no_feed w p)
choice_plain h own (ClientBy c) p = no_feed_append (codes "client ") (client_name h c) refl (client_plain h own c p)

-- the third byte of a line, which is another one for each kind of choice
abbrev third : List ℕ → ℕ
third [] = 0
third (a ∷ []) = 0
third (a ∷ b ∷ []) = 0
third (a ∷ b ∷ c ∷ cs) = c

pub same_choice : (h : Heads) → HasOwnNames h → (c d : Choice) → IsDeclared h c → IsDeclared h d → choice_line h c ≡ choice_line h d → c ≡ d
same_choice h own (TakeBy s) (TakeBy q) a b e = ap (λ (x : SchedId). TakeBy x) (same_scheduler h own s q a b (cancel (codes "take ") (scheduler_name h s) (scheduler_name h q) e))
same_choice h own (GiveBy s) (GiveBy q) a b e = ap (λ (x : SchedId). GiveBy x) (same_scheduler h own s q a b (cancel (codes "give ") (scheduler_name h s) (scheduler_name h q) e))
same_choice h own (PickBy w) (PickBy v) a b e = ap (λ (x : ℕ). PickBy x) (decimal_injective w v a b (cancel (codes "pick ") (decimal w) (decimal v) e))
same_choice h own (PostBy w) (PostBy v) a b e = ap (λ (x : ℕ). PostBy x) (decimal_injective w v a b (cancel (codes "post ") (decimal w) (decimal v) e))
same_choice h own (ClientBy c) (ClientBy d) a b e = ap (λ (x : ℕ). ClientBy x) (same_client h own c d a b (cancel (codes "client ") (client_name h c) (client_name h d) e))
same_choice h own (TakeBy s) (GiveBy q) a b e = absurd (let f : 107 ≡ 118 = ap third e in omega (arith, f))
same_choice h own (TakeBy s) (PickBy q) a b e = absurd (let f : 107 ≡ 99 = ap third e in omega (arith, f))
same_choice h own (TakeBy s) (PostBy q) a b e = absurd (let f : 107 ≡ 115 = ap third e in omega (arith, f))
same_choice h own (TakeBy s) (ClientBy q) a b e = absurd (let f : 107 ≡ 105 = ap third e in omega (arith, f))
same_choice h own (GiveBy s) (TakeBy q) a b e = absurd (let f : 118 ≡ 107 = ap third e in omega (arith, f))
same_choice h own (GiveBy s) (PickBy q) a b e = absurd (let f : 118 ≡ 99 = ap third e in omega (arith, f))
same_choice h own (GiveBy s) (PostBy q) a b e = absurd (let f : 118 ≡ 115 = ap third e in omega (arith, f))
same_choice h own (GiveBy s) (ClientBy q) a b e = absurd (let f : 118 ≡ 105 = ap third e in omega (arith, f))
same_choice h own (PickBy s) (TakeBy q) a b e = absurd (let f : 99 ≡ 107 = ap third e in omega (arith, f))
same_choice h own (PickBy s) (GiveBy q) a b e = absurd (let f : 99 ≡ 118 = ap third e in omega (arith, f))
same_choice h own (PickBy s) (PostBy q) a b e = absurd (let f : 99 ≡ 115 = ap third e in omega (arith, f))
same_choice h own (PickBy s) (ClientBy q) a b e = absurd (let f : 99 ≡ 105 = ap third e in omega (arith, f))
same_choice h own (PostBy s) (TakeBy q) a b e = absurd (let f : 115 ≡ 107 = ap third e in omega (arith, f))
same_choice h own (PostBy s) (GiveBy q) a b e = absurd (let f : 115 ≡ 118 = ap third e in omega (arith, f))
same_choice h own (PostBy s) (PickBy q) a b e = absurd (let f : 115 ≡ 99 = ap third e in omega (arith, f))
same_choice h own (PostBy s) (ClientBy q) a b e = absurd (let f : 115 ≡ 105 = ap third e in omega (arith, f))
same_choice h own (ClientBy s) (TakeBy q) a b e = absurd (let f : 105 ≡ 107 = ap third e in omega (arith, f))
same_choice h own (ClientBy s) (GiveBy q) a b e = absurd (let f : 105 ≡ 118 = ap third e in omega (arith, f))
same_choice h own (ClientBy s) (PickBy q) a b e = absurd (let f : 105 ≡ 99 = ap third e in omega (arith, f))
same_choice h own (ClientBy s) (PostBy q) a b e = absurd (let f : 105 ≡ 115 = ap third e in omega (arith, f))
