-- The legal histories are those whose entries each come next, and these are made by choices.
use Rattle.std.proofs.Common.{◌≡◌, inl, inr, ℕ, ◌≤◌, arith, Bool, true, false, List, [], ◌∷◌, ◌++◌, map, length, refl, sym, ◌∙◌, ap, subst, Option, Some, None, Ok, append_assoc, append-nil}
use Rattle.std.proofs.lemmas.Bool.{lt-ltb, ltb-true, ltb-false}
use Rattle.std.proofs.lemmas.List.Elements.{filter-append}
use Rattle.std.specs.Prelude.{◌↔◌, if◌then◌else◌, nat_lt}
use Rattle.loft_orders.specs.declared.thread.Thread.{Thread}
use Rattle.loft_orders.specs.declared.order.Order.{Order}
use Rattle.loft_orders.specs.declared.order.Sent.{Sent}
use Rattle.loft_orders.specs.declared.entry.Actor.{Actor}
use Rattle.loft_orders.specs.declared.entry.Entry.{Entry}
use Rattle.loft_orders.specs.declared.entry.Entry.TheVariants.{Take, Give, Pick, Post, Client}
use Rattle.loft_base.specs.declared.options.RunOptions.{RunOptions}
use Rattle.loft_sense.specs.Machine.{Prog, heads}
use Rattle.loft_history.specs.History.{choice_of, waiting, jobs, unposted, unsent, replayed, has_turn, sent_last, entry_of_first, pick_of, entry_of, with_entry, hist_on, hist}
use Rattle.loft_history.specs.Legal.{actor_of, same_actor, of, AtEach, IsFirst, TakesDue, IsFaithful, IsNextOrder, IsNextOf, IsDeclared, IsLegal, IsNoCaller, HasNoCallers, ComesNext}
use Rattle.loft_history.proofs.HistoryLemmas.{take_allowed, give_allowed}
use Rattle.loft_history.proofs.GrowthLemmas.{own_before, next_own}
use Rattle.loft_history.proofs.LegalLemmas.{same_actor_self, legal_next, legal_none, made_is_legal}

-- an actor's own list, parted at one of its entries
own_parts : (before : List Entry) (e : Entry) (after : List Entry) → of (actor_of e) (before ++ e ∷ after) ≡ of (actor_of e) before ++ e ∷ of (actor_of e) after
own_parts before e after =
    filter-append (λ (d : Entry). same_actor (actor_of e) (actor_of d)) before (e ∷ after)
    ∙ ap (λ (b : Bool). of (actor_of e) before ++ (if b then e ∷ of (actor_of e) after else of (actor_of e) after)) (same_actor_self (actor_of e))

-- each entry of a legal history is its actor's next
own_next : (x : Prog) (o : RunOptions) (before : List Entry) (e : Entry) (after : List Entry) → IsLegal x o (before ++ e ∷ after) → IsNextOf x o (actor_of e) before e
own_next x o before e after legal =
    let a : Actor = actor_of e in
    let f : IsFaithful x o a (of a before ++ e ∷ of a after) = subst (IsFaithful x o a) (own_parts before e after) (legal.faithful a) in
    next_own x o a before e (own_before x o a (of a before ++ e ∷ []) (of a after) (subst (IsFaithful x o a) (sym (append_assoc (of a before) (e ∷ []) (of a after))) f))

-- what an entry of a worker or a client is, by what is left
picks_first : (w : ℕ) (left : List Sent) (waits : List Thread) (job : Thread) → left ≡ [] → IsFirst job waits → pick_of w left waits ≡ Some (Pick w job)
picks_first w [] [] job free first = absurd first
picks_first w [] (t ∷ waits) job free first = ap (λ (u : Thread). Some (Pick w u)) (sym first)
picks_first w (m ∷ left) waits job free first = absurd cc

first_made : {A : Type 0} (make : A → Entry) (a : A) (all : List A) → IsFirst a all → entry_of_first make all ≡ Some (make a)
first_made make a [] first = absurd first
first_made make a (b ∷ all) first = ap (λ c. Some (make c)) (sym first)

if_allowed : (allowed : Bool) (next : Option Entry) → allowed ≡ true → (if allowed then next else None) ≡ next
if_allowed true next is = refl
if_allowed false next is = absurd cc

client_comes : (x : Prog) (o : RunOptions) (before : List Entry) (c : ℕ) (sent : Sent) (declared : Bool) → nat_lt c (length (heads x).clients) ≡ declared
    → IsNextOrder x c before sent → ComesNext x o before (Client c sent)
client_comes x o before c sent true is next = inl (first_made (Client c) sent (unsent (heads x) c before) (next.source (ltb-true c (length (heads x).clients) is)))
client_comes x o before c sent false is next = let beyond : length (heads x).clients ≤ c = ltb-false c (length (heads x).clients) is in inr (beyond, next.caller beyond)

-- each entry of a legal history may come where it stands
comes : (x : Prog) (o : RunOptions) (h : List Entry) (e : Entry) → IsDeclared (heads x) o (actor_of e) → TakesDue (heads x) h e → IsNextOf x o (actor_of e) h e → ComesNext x o h e
comes x o h (Take s batch) declared takes next =
    inl (take_allowed _ _ _ (Take s (waiting (heads x) s h)) (lt-ltb s.0 _ declared) next.0 (ap (has_turn x o.limits (replayed x o.limits s h).machine) (sym takes) ∙ next.1)
    ∙ ap (λ (b : List Order). Some (Take s b)) (sym takes))
comes x o h (Give s sent) declared takes next =
    inl (give_allowed _ _ (Give s (sent_last (replayed x o.limits s h).notes)) (lt-ltb s.0 _ declared) next.0 ∙ ap (λ (ms : List Sent). Some (Give s ms)) (sym next.1))
comes x o h (Pick w job) declared takes next =
    inl (if_allowed (nat_lt w o.workers) (pick_of w (unposted x o w h) (jobs h)) (lt-ltb w o.workers declared) ∙ picks_first w (unposted x o w h) (jobs h) job next takes)
comes x o h (Post w sent) declared takes next =
    inl (if_allowed (nat_lt w o.workers) (entry_of_first (Post w) (unposted x o w h)) (lt-ltb w o.workers declared) ∙ first_made (Post w) sent (unposted x o w h) next)
comes x o h (Client c sent) declared takes next = client_comes x o h c sent (nat_lt c (length (heads x).clients)) refl next

legal_entry : (x : Prog) (o : RunOptions) (before : List Entry) (e : Entry) (after : List Entry) → IsLegal x o (before ++ e ∷ after) → ComesNext x o before e
legal_entry x o before e after legal = comes x o before e (legal.declared before e after refl) (legal.routed before e after refl) (own_next x o before e after legal)

-- each entry of a history, after those before it
pub split_on : (P : List Entry → Entry → Type 0) (before : List Entry) (e : Entry) (after : List Entry) → AtEach P (before ++ e ∷ after) → AtEach P ((before ++ e ∷ []) ++ after)
split_on P before e after each = subst (AtEach P) (sym (append_assoc before (e ∷ []) after)) each

grown : (x : Prog) (o : RunOptions) (before after : List Entry) → IsLegal x o before → AtEach (ComesNext x o) (before ++ after) → IsLegal x o (before ++ after)
grown x o before [] legal each = subst (IsLegal x o) (sym (append-nil before)) legal
grown x o before (e ∷ after) legal each =
    subst (IsLegal x o) (append_assoc before (e ∷ []) after)
    (grown x o (before ++ e ∷ []) after (legal_next x o before e legal (each before e after refl)) (split_on (ComesNext x o) before e after each))

-- a history is legal exactly where each entry may come after those before it
pub legal_exactly : (x : Prog) (o : RunOptions) (h : List Entry) → IsLegal x o h ↔ AtEach (ComesNext x o) h
legal_exactly x o h = (λ legal before e after same. legal_entry x o before e after (subst (IsLegal x o) same legal), λ each. grown x o [] h (legal_none x o) each)

-- the entry is that of its choice
abbrev pub IsChosen : Prog → RunOptions → List Entry → Entry → Type 0
IsChosen x o h e = entry_of x o h (choice_of e) ≡ Some e

chosen_next : (x : Prog) (o : RunOptions) (h : List Entry) (e : Entry) → IsNoCaller (heads x) (actor_of e) → ComesNext x o h e → IsChosen x o h e
chosen_next x o h e none (inl is) = is
chosen_next x o h (Take s batch) none (inr call) = absurd call
chosen_next x o h (Give s sent) none (inr call) = absurd call
chosen_next x o h (Pick w job) none (inr call) = absurd call
chosen_next x o h (Post w sent) none (inr call) = absurd call
chosen_next x o h (Client c sent) none (inr call) = let beyond : length (heads x).clients ≤ c = call.0 in absurd (omega (arith, none, beyond))

made_on : (x : Prog) (o : RunOptions) (before after : List Entry) → AtEach (IsChosen x o) (before ++ after) → hist_on x o (map choice_of after) before ≡ Ok (before ++ after)
made_on x o before [] each = ap (λ (h : List Entry). Ok h) (sym (append-nil before))
made_on x o before (e ∷ after) each =
    ap (λ (entry : Option Entry). with_entry before entry (hist_on x o (map choice_of after))) (each before e after refl)
    ∙ (made_on x o (before ++ e ∷ []) after (split_on (IsChosen x o) before e after each)
    ∙ ap (λ (h : List Entry). Ok h) (append_assoc before (e ∷ []) after))

-- a legal history without callers is that of its choices
pub legal_is_made : (x : Prog) (o : RunOptions) (h : List Entry) → HasNoCallers (heads x) h → IsLegal x o h → hist x o (map choice_of h) ≡ Ok h
legal_is_made x o h none legal = made_on x o [] h (λ before e after same. chosen_next x o before e (none before e after same) ((legal_exactly x o h).0 legal before e after same))

pub made_exactly : (x : Prog) (o : RunOptions) (h : List Entry) → HasNoCallers (heads x) h → IsLegal x o h ↔ (hist x o (map choice_of h) ≡ Ok h)
made_exactly x o h none = (legal_is_made x o h none, made_is_legal x o (map choice_of h) h)
