-- Names of what a program declares.
use Rattle.std.proofs.Common.{◌≡◌, ℕ, ◌<◌, Bool, true, false, not, nat_le, ◌&&◌, List, length, codes, Option, Some, None, slice_get, refl, sym, ap, subst, ◌∙◌, arith}
use Rattle.std.specs.List.{list_all, position_from}
use Rattle.std.specs.Str.{bytes_eq}
use Rattle.std.proofs.lemmas.Slice.Eq.{bytes_eq-Decides}
use Rattle.loft_lex.specs.Bytes.{is_letter, is_name_byte, begins}
use Rattle.loft_lex.specs.Fits.{is_name}
use Rattle.loft_lex.specs.Word.{is_word, word_of}
use Rattle.loft_spelling.proofs.Sets.{and_both}
use Rattle.loft_base.specs.declared.ids.Maker.{Maker}
use Rattle.loft_base.specs.declared.ids.Maker.TheVariants as maker
use Rattle.loft_base.specs.declared.ids.SchedId.{SchedId}
use Rattle.loft_base.specs.declared.ids.EventId.{EventId}
use Rattle.loft_base.specs.declared.ids.ModuleId.{ModuleId}
use Rattle.loft_tree.specs.NamedFits.{IsName, IsNamed, EventHolds, SignatureHolds, ClientHolds}
use Rattle.loft_tree.specs.declared.heads.Heads.{Heads}
use Rattle.loft_tree.specs.declared.heads.EventHead.{EventHead}
use Rattle.loft_tree.specs.declared.heads.Signature.{Signature}
use Rattle.loft_tree.specs.declared.heads.Client.{Client}
use Rattle.loft_tree.specs.declared.heads.HeadItem.{HeadItem}
use Rattle.loft_tree.specs.declared.heads.HeadItem.TheVariants as item
use Rattle.loft_orders.specs.Text.{scheduler_name, client_name, module_name, event_name, maker_name}
use Rattle.loft_order_lines.specs.Texts.{OwnNames, MakerHasText, ModuleHasText, EventHasText}
use Rattle.loft_order_lines.proofs.Lists.{within_some, each_at, position_there, position_none}

-- ---- the bytes of a name

pub name_bytes : (name : List ℕ) → IsName name → list_all is_name_byte name ≡ true
name_bytes name p =
    let a = and_both (begins is_letter name && list_all is_name_byte name && nat_le (length name) 64) (not (is_word name)) p in
    let b = and_both (begins is_letter name && list_all is_name_byte name) (nat_le (length name) 64) a.0 in
    (and_both (begins is_letter name) (list_all is_name_byte name) b.0).1

pub name_begins : (name : List ℕ) → IsName name → begins is_letter name ≡ true
name_begins name p =
    let a = and_both (begins is_letter name && list_all is_name_byte name && nat_le (length name) 64) (not (is_word name)) p in
    let b = and_both (begins is_letter name && list_all is_name_byte name) (nat_le (length name) 64) a.0 in
    (and_both (begins is_letter name) (list_all is_name_byte name) b.0).0

start_no : is_name (codes "start") ≡ false
unfolding word_of
start_no = refl

-- a word of the language is no name
pub never_start : (name : List ℕ) → IsName name → name ≡ codes "start" → ⊥
never_start name p e = let q : is_name (codes "start") ≡ true = subst (λ n. is_name n ≡ true) e p in let f : false ≡ true = sym start_no ∙ q in absurd cc

-- ---- what has a name

pub scheduler_there : (h : Heads) (s : SchedId) → s.0 < length h.schedulers → IsNamed h (item.Scheduler s) (scheduler_name h s)
scheduler_there h s p = let x = within_some h.schedulers s.0 p in rw x.1 refl

pub client_there : (h : Heads) (c : ℕ) → c < length h.clients → IsNamed h (item.Client c) (client_name h c)
client_there h c p = let x = within_some h.clients c p in rw x.1 refl

pub module_there : (h : Heads) (m : ModuleId) → ModuleHasText h m → IsNamed h (item.Module m) (module_name h m)
module_there h m p = let x = within_some h.modules m.0 p in rw x.1 refl

pub event_there : (h : Heads) (e : EventId) → EventHasText h e → IsNamed h (item.Event e) (event_name h e)
event_there h e p = let x = within_some h.events e.0 p in rw x.1 refl

-- ---- names

scheduler_is : (h : Heads) → OwnNames h → (s : SchedId) → s.0 < length h.schedulers → IsName (scheduler_name h s)
scheduler_is h own s p = let x = within_some h.schedulers s.0 p in rw x.1 (each_at IsName h.schedulers s.0 x.0 own.hold.within.schedulers x.1)

client_is : (h : Heads) → OwnNames h → (c : ℕ) → c < length h.clients → IsName (client_name h c)
client_is h own c p = let x = within_some h.clients c p in rw x.1 (each_at (ClientHolds h) h.clients c x.0 own.hold.within.clients x.1).name

pub module_is : (h : Heads) → OwnNames h → (m : ModuleId) → ModuleHasText h m → IsName (module_name h m)
module_is h own m p = let x = within_some h.modules m.0 p in rw x.1 (each_at (SignatureHolds h) h.modules m.0 x.0 own.hold.within.modules x.1).name

pub event_is : (h : Heads) → OwnNames h → (e : EventId) → EventHasText h e → IsName (event_name h e)
event_is h own e p = let x = within_some h.events e.0 p in rw x.1 (each_at (EventHolds h) h.events e.0 x.0 own.hold.within.events x.1).name

pub maker_bytes : (h : Heads) → OwnNames h → (m : Maker) → MakerHasText h m → list_all is_name_byte (maker_name h m) ≡ true
maker_bytes h own maker.Source p = refl
maker_bytes h own (maker.Sched s) p = name_bytes (scheduler_name h (record { 0 = s })) (scheduler_is h own (record { 0 = s }) p)
maker_bytes h own (maker.Client c) p = name_bytes (client_name h c) (client_is h own c p)

pub maker_begins : (h : Heads) → OwnNames h → (m : Maker) → MakerHasText h m → begins is_letter (maker_name h m) ≡ true
maker_begins h own maker.Source p = refl
maker_begins h own (maker.Sched s) p = name_begins (scheduler_name h (record { 0 = s })) (scheduler_is h own (record { 0 = s }) p)
maker_begins h own (maker.Client c) p = name_begins (client_name h c) (client_is h own c p)

-- the declaration that a maker is
abbrev pub item_of : Maker → ℕ → HeadItem
item_of maker.Source n = item.Start n
item_of (maker.Sched s) n = item.Scheduler (record { 0 = s })
item_of (maker.Client c) n = item.Client c

pub maker_there : (h : Heads) (m : Maker) → MakerHasText h m → (m ≡ maker.Source → ⊥) → IsNamed h (item_of m 0) (maker_name h m)
maker_there h maker.Source p n = absurd (n refl)
maker_there h (maker.Sched s) p n = scheduler_there h (record { 0 = s }) p
maker_there h (maker.Client c) p n = client_there h c p

pub maker_starts : (h : Heads) → OwnNames h → (m : Maker) → MakerHasText h m → maker_name h m ≡ codes "start" → m ≡ maker.Source
maker_starts h own maker.Source p e = refl
maker_starts h own (maker.Sched s) p e = absurd (never_start (scheduler_name h (record { 0 = s })) (scheduler_is h own (record { 0 = s }) p) e)
maker_starts h own (maker.Client c) p e = absurd (never_start (client_name h c) (client_is h own c p) e)

-- the number of a declaration
abbrev number_of_item : HeadItem → ℕ
number_of_item (item.Scheduler s) = s.0
number_of_item (item.Event e) = e.0
number_of_item (item.Shared x) = x.0
number_of_item (item.Module m) = m.0
number_of_item (item.Start t) = t
number_of_item (item.Client c) = c

-- ---- one name

pub one_name : (h : Heads) → OwnNames h → (a b : HeadItem) (name : List ℕ) → IsNamed h a name → IsNamed h b name → a ≡ b
one_name h own a b name p q = own.differ.declarations a b name p q

pub same_bytes : (a b : List ℕ) → bytes_eq a b ≡ true → a ≡ b
same_bytes a b e = (bytes_eq-Decides a b).0 e

pub bytes_same : (a b : List ℕ) → a ≡ b → bytes_eq a b ≡ true
bytes_same a b e = (bytes_eq-Decides a b).1 e

-- ---- the index of what has a name

-- the first that passes is the only one
found : {A : Type 0} (p : A → Bool) (xs : List A) (r : Option ℕ) (k : ℕ) (x : A) → r ≡ position_from p 0 xs → slice_get xs k ≡ Some x → p x ≡ true
    → ((j : ℕ) (y : A) → slice_get xs j ≡ Some y → p y ≡ true → j ≡ k) → r ≡ Some k
found p xs None k x is there passes only = absurd (position_none p xs 0 k x (sym is) there passes)
found p xs (Some i) k x is there passes only =
    let (j, y, at, where_at, also) = position_there p xs 0 i (sym is) in
    let same : j ≡ k = only j y where_at also in
    let e : i ≡ k = omega (arith, at, same) in
    ap (λ (n : ℕ). Some n) e

pub module_found : (h : Heads) → OwnNames h → (name : List ℕ) (r : Option ℕ) → r ≡ position_from (λ (other : Signature). bytes_eq other.name name) 0 h.modules → (m : ModuleId) → ModuleHasText h m → name ≡ module_name h m → r ≡ Some m.0
module_found h own name r is m has same =
    let x = within_some h.modules m.0 has in
    let n : module_name h m ≡ x.0.name = rw x.1 refl in
    let mine : IsNamed h (item.Module m) name = rw x.1 (ap (λ (l : List ℕ). Some l) (sym (same ∙ n))) in
    found (λ (other : Signature). bytes_eq other.name name) h.modules r m.0 x.0 is x.1 (bytes_same x.0.name name (sym (same ∙ n))) (λ j y at also.
    let its : IsNamed h (item.Module (record { 0 = j })) name = rw at (ap (λ (l : List ℕ). Some l) (same_bytes y.name name also)) in
    let one : item.Module (record { 0 = j }) ≡ item.Module m = one_name h own (item.Module (record { 0 = j })) (item.Module m) name its mine in
    ap number_of_item one)

pub event_found : (h : Heads) → OwnNames h → (name : List ℕ) (r : Option ℕ) → r ≡ position_from (λ (other : EventHead). bytes_eq other.name name) 0 h.events → (e : EventId) → EventHasText h e → name ≡ event_name h e → r ≡ Some e.0
event_found h own name r is e has same =
    let x = within_some h.events e.0 has in
    let n : event_name h e ≡ x.0.name = rw x.1 refl in
    let mine : IsNamed h (item.Event e) name = rw x.1 (ap (λ (l : List ℕ). Some l) (sym (same ∙ n))) in
    found (λ (other : EventHead). bytes_eq other.name name) h.events r e.0 x.0 is x.1 (bytes_same x.0.name name (sym (same ∙ n))) (λ j y at also.
    let its : IsNamed h (item.Event (record { 0 = j })) name = rw at (ap (λ (l : List ℕ). Some l) (same_bytes y.name name also)) in
    let one : item.Event (record { 0 = j }) ≡ item.Event e = one_name h own (item.Event (record { 0 = j })) (item.Event e) name its mine in
    ap number_of_item one)

scheduler_found : (h : Heads) → OwnNames h → (name : List ℕ) (r : Option ℕ) → r ≡ position_from (λ (other : List ℕ). bytes_eq other name) 0 h.schedulers → (s : ℕ) → s < length h.schedulers → name ≡ scheduler_name h (record { 0 = s }) → r ≡ Some s
scheduler_found h own name r is s has same =
    let x = within_some h.schedulers s has in
    let n : scheduler_name h (record { 0 = s }) ≡ x.0 = rw x.1 refl in
    let mine : IsNamed h (item.Scheduler (record { 0 = s })) name = rw x.1 (ap (λ (l : List ℕ). Some l) (sym (same ∙ n))) in
    found (λ (other : List ℕ). bytes_eq other name) h.schedulers r s x.0 is x.1 (bytes_same x.0 name (sym (same ∙ n))) (λ j y at also.
    let its : IsNamed h (item.Scheduler (record { 0 = j })) name = rw at (ap (λ (l : List ℕ). Some l) (same_bytes y name also)) in
    let one : item.Scheduler (record { 0 = j }) ≡ item.Scheduler (record { 0 = s }) = one_name h own (item.Scheduler (record { 0 = j })) (item.Scheduler (record { 0 = s })) name its mine in
    ap number_of_item one)

client_found : (h : Heads) → OwnNames h → (name : List ℕ) (r : Option ℕ) → r ≡ position_from (λ (other : Client). bytes_eq other.name name) 0 h.clients → (c : ℕ) → c < length h.clients → name ≡ client_name h c → r ≡ Some c
client_found h own name r is c has same =
    let x = within_some h.clients c has in
    let n : client_name h c ≡ x.0.name = rw x.1 refl in
    let mine : IsNamed h (item.Client c) name = rw x.1 (ap (λ (l : List ℕ). Some l) (sym (same ∙ n))) in
    found (λ (other : Client). bytes_eq other.name name) h.clients r c x.0 is x.1 (bytes_same x.0.name name (sym (same ∙ n))) (λ j y at also.
    let its : IsNamed h (item.Client j) name = rw at (ap (λ (l : List ℕ). Some l) (same_bytes y.name name also)) in
    let one : item.Client j ≡ item.Client c = one_name h own (item.Client j) (item.Client c) name its mine in
    ap number_of_item one)

-- a client's name is no scheduler's
client_apart : (h : Heads) → OwnNames h → (name : List ℕ) (i : ℕ) → position_from (λ (other : List ℕ). bytes_eq other name) 0 h.schedulers ≡ Some i → (c : ℕ) → c < length h.clients → name ≡ client_name h c → ⊥
client_apart h own name i is c has same =
    let (j, y, at, there, also) = position_there (λ (other : List ℕ). bytes_eq other name) h.schedulers 0 i is in
    let its : IsNamed h (item.Scheduler (record { 0 = j })) name = rw there (ap (λ (l : List ℕ). Some l) (same_bytes y name also)) in
    let there_too = client_there h c has in
    let mine : IsNamed h (item.Client c) name = subst (IsNamed h (item.Client c)) (sym same) there_too in
    let one : item.Scheduler (record { 0 = j }) ≡ item.Client c = one_name h own (item.Scheduler (record { 0 = j })) (item.Client c) name its mine in
    cc

-- where a scheduler has the name, the maker is that one
pub maker_scheduler : (h : Heads) → OwnNames h → (name : List ℕ) (i : ℕ) → position_from (λ (other : List ℕ). bytes_eq other name) 0 h.schedulers ≡ Some i
    → (m : Maker) → MakerHasText h m → (m ≡ maker.Source → ⊥) → name ≡ maker_name h m → maker.Sched i ≡ m
maker_scheduler h own name i is maker.Source has other same = absurd (other refl)
maker_scheduler h own name i is (maker.Sched s) has other same =
    let f : position_from (λ (o : List ℕ). bytes_eq o name) 0 h.schedulers ≡ Some s = scheduler_found h own name (position_from (λ (o : List ℕ). bytes_eq o name) 0 h.schedulers) refl s has same in
    let e : i ≡ s = cc in
    ap (λ (n : ℕ). maker.Sched n) e
maker_scheduler h own name i is (maker.Client c) has other same = absurd (client_apart h own name i is c has same)

-- where none has it, the maker is a client
pub maker_client : (h : Heads) → OwnNames h → (name : List ℕ) → position_from (λ (other : List ℕ). bytes_eq other name) 0 h.schedulers ≡ None
    → (r : Option ℕ) → r ≡ position_from (λ (other : Client). bytes_eq other.name name) 0 h.clients
    → (m : Maker) → MakerHasText h m → (m ≡ maker.Source → ⊥) → name ≡ maker_name h m → (c : ℕ) × (r ≡ Some c) × (maker.Client c ≡ m)
maker_client h own name none r is maker.Source has other same = absurd (other refl)
maker_client h own name none r is (maker.Sched s) has other same =
    absurd (let f : position_from (λ (o : List ℕ). bytes_eq o name) 0 h.schedulers ≡ Some s = scheduler_found h own name (position_from (λ (o : List ℕ). bytes_eq o name) 0 h.schedulers) refl s has same in cc)
maker_client h own name none r is (maker.Client c) has other same = (c, client_found h own name r is c has same, refl)
