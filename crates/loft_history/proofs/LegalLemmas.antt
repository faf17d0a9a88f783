-- The histories of choices are the legal ones.
use Rattle.std.proofs.Common.{◌≡◌, inl, inr, ℕ, ◌<◌, ◌≤◌, eq-eqb, arith, Bool, true, false, List, [], ◌∷◌, ◌++◌, length, refl, sym, ◌∙◌, ap, subst, Some, None, Ok, append-nil}
use Rattle.std.proofs.lemmas.Bool.{eqb-true, ltb-true, ltb-false}
use Rattle.std.proofs.lemmas.List.Elements.{filter-append}
use Rattle.std.specs.Prelude.{if◌then◌else◌, not, ◌&&◌, nat_lt}
use Rattle.loft_tree.specs.declared.heads.Heads.{Heads}
use Rattle.loft_orders.specs.declared.order.Sent.{Sent}
use Rattle.loft_orders.specs.declared.entry.Actor.{Actor}
use Rattle.loft_orders.specs.declared.entry.Actor.TheVariants as actor
use Rattle.loft_orders.specs.declared.entry.Entry.{Entry}
use Rattle.loft_orders.specs.declared.entry.Entry.TheVariants.{Take, Give, Pick, Post, Client}
use Rattle.loft_base.specs.declared.options.RunOptions.{RunOptions}
use Rattle.loft_sense.specs.Machine.{Prog, heads}
use Rattle.loft_history.specs.History.{Choice, TakeBy, GiveBy, PickBy, PostBy, ClientBy, choice_of, is_open, waiting, jobs, unposted, unsent, replayed, has_turn, sent_last, entry_of_first, pick_of, entry_of, hist_on, hist}
use Rattle.loft_history.specs.Legal.{actor_of, same_actor, of, IsFirst, TakesDue, IsFaithful, IsDeclared, IsLegal, IsNoCaller, HasNoCallers, IsCallersEntry, ComesNext, IsNextOf}
use Rattle.loft_history.proofs.AtEachLemmas.{at_each-append, at_each_none}
use Rattle.loft_history.proofs.GrowthLemmas.{grows}
use Rattle.loft_history.proofs.HistoryLemmas.{is_same, same_self, from_first, same_history, on_if, on_first, on_pick, choice_kept, unsent_none}

-- ---- one more entry

pub same_actor_self : (a : Actor) → same_actor a a ≡ true
same_actor_self (actor.Sched s) = same_self s
same_actor_self (actor.Worker w) = eq-eqb w w refl
same_actor_self (actor.Client c) = eq-eqb c c refl

is_same_actor : (a b : Actor) → same_actor a b ≡ true → a ≡ b
is_same_actor (actor.Sched a) (actor.Sched b) e = ap actor.Sched (is_same a b e)
is_same_actor (actor.Sched a) (actor.Worker b) e = absurd cc
is_same_actor (actor.Sched a) (actor.Client b) e = absurd cc
is_same_actor (actor.Worker a) (actor.Sched b) e = absurd cc
is_same_actor (actor.Worker a) (actor.Worker b) e = ap actor.Worker (eqb-true a b e)
is_same_actor (actor.Worker a) (actor.Client b) e = absurd cc
is_same_actor (actor.Client a) (actor.Sched b) e = absurd cc
is_same_actor (actor.Client a) (actor.Worker b) e = absurd cc
is_same_actor (actor.Client a) (actor.Client b) e = ap actor.Client (eqb-true a b e)

-- another's entry leaves an actor's list as it was
faithful_one : (x : Prog) (o : RunOptions) (a : Actor) (l : List Entry) (e : Entry) (own : Bool) → IsFaithful x o a l → (own ≡ true → IsFaithful x o a (l ++ e ∷ []))
    → IsFaithful x o a (l ++ (if own then e ∷ [] else []))
faithful_one x o a l e true f next = next refl
faithful_one x o a l e false f next = subst (IsFaithful x o a) (sym (append-nil l)) f

faithful_next : (x : Prog) (o : RunOptions) (a : Actor) (h : List Entry) (e : Entry) → IsFaithful x o a (of a h) → IsFaithful x o (actor_of e) (of (actor_of e) h ++ e ∷ []) → IsFaithful x o a (of a (h ++ e ∷ []))
faithful_next x o a h e f mine =
    subst (IsFaithful x o a) (sym (filter-append (λ (d : Entry). same_actor a (actor_of d)) h (e ∷ [])))
    (faithful_one x o a (of a h) e (same_actor a (actor_of e)) f (λ own.
    subst (λ (b : Actor). IsFaithful x o b (of b h ++ e ∷ [])) (sym (is_same_actor a (actor_of e) own)) mine))

-- An entry that may come next: its actor is declared, it takes what is due, and it is the next of its actor's own list.
pub record IsAllowed (x : Prog) (o : RunOptions) (h : List Entry) (e : Entry) : Type 0 where
  pub declared : IsDeclared (heads x) o (actor_of e)
  pub takes : TakesDue (heads x) h e
  pub next : IsNextOf x o (actor_of e) h e

-- a legal history and one more entry
legal_more : (x : Prog) (o : RunOptions) (h : List Entry) (e : Entry) → IsLegal x o h → IsAllowed x o h e → IsLegal x o (h ++ e ∷ [])
legal_more x o h e legal may = record {
  declared = at_each-append (λ before f. IsDeclared (heads x) o (actor_of f)) h e legal.declared may.declared;
  routed = at_each-append (TakesDue (heads x)) h e legal.routed may.takes;
  faithful = λ a. faithful_next x o a h e (legal.faithful a) (grows x o (actor_of e) h e (legal.faithful (actor_of e)) may.next);
}

-- a client with something left to give is one of the source
gives_own : {Q : Type 0} (h : Heads) (c : ℕ) (es : List Entry) (sent : Sent) (rest : List Sent) → unsent h c es ≡ sent ∷ rest → length h.clients ≤ c → Q
gives_own h c es sent rest first beyond = let none : [] ≡ sent ∷ rest = sym (unsent_none h c es beyond) ∙ first in absurd cc

-- what an allowed choice says
on_take : {Q : Type 0} (declared was turn : Bool) (a e : Entry) → (if declared && not was && turn then Some a else None) ≡ Some e → (declared ≡ true → was ≡ false → turn ≡ true → a ≡ e → Q) → Q
on_take true false true a e is on = on refl refl refl cc
on_take true false false a e is on = absurd cc
on_take true true turn a e is on = absurd cc
on_take false was turn a e is on = absurd cc

on_give : {Q : Type 0} (declared was : Bool) (a e : Entry) → (if declared && was then Some a else None) ≡ Some e → (declared ≡ true → was ≡ true → a ≡ e → Q) → Q
on_give true true a e is on = on refl refl cc
on_give true false a e is on = absurd cc
on_give false was a e is on = absurd cc

-- the entry of an allowed choice
chosen_allowed : (x : Prog) (o : RunOptions) (h : List Entry) (c : Choice) (e : Entry) → entry_of x o h c ≡ Some e → IsAllowed x o h e
chosen_allowed x o h (TakeBy s) e is =
    on_take (nat_lt s.0 (length (heads x).schedulers)) (is_open s h) (has_turn x o.limits (replayed x o.limits s h).machine (waiting (heads x) s h)) (Take s (waiting (heads x) s h)) e is
    (λ declared shut turn same. subst (IsAllowed x o h) same (record { declared = ltb-true s.0 _ declared; takes = refl; next = (shut, turn) }))
chosen_allowed x o h (GiveBy s) e is =
    on_give (nat_lt s.0 (length (heads x).schedulers)) (is_open s h) (Give s (sent_last (replayed x o.limits s h).notes)) e is
    (λ declared opened same. subst (IsAllowed x o h) same (record { declared = ltb-true s.0 _ declared; takes = tt; next = (opened, refl) }))
chosen_allowed x o h (PickBy w) e is =
    on_if (nat_lt w o.workers) (pick_of w (unposted x o w h) (jobs h)) e is (λ declared picks.
    on_pick w (unposted x o w h) (jobs h) e picks (λ free first.
    on_first (Pick w) (jobs h) e first (λ job rest all same.
    subst (IsAllowed x o h) same (record { declared = ltb-true w o.workers declared; takes = subst (IsFirst job) (sym all) refl; next = free }))))
chosen_allowed x o h (PostBy w) e is =
    on_if (nat_lt w o.workers) (entry_of_first (Post w) (unposted x o w h)) e is (λ declared first.
    on_first (Post w) (unposted x o w h) e first (λ sent rest all same.
    subst (IsAllowed x o h) same (record { declared = ltb-true w o.workers declared; takes = tt; next = subst (IsFirst sent) (sym all) refl })))
chosen_allowed x o h (ClientBy c) e is =
    on_first (Client c) (unsent (heads x) c h) e is (λ sent rest all same.
    subst (IsAllowed x o h) same (record {
      declared = tt;
      takes = tt;
      next = record { source = λ declared. subst (IsFirst sent) (sym all) refl; caller = λ beyond. gives_own (heads x) c h sent rest all beyond };
    }))

called_allowed : (x : Prog) (o : RunOptions) (h : List Entry) (e : Entry) → IsCallersEntry x h e → IsAllowed x o h e
called_allowed x o h (Take s batch) call = absurd call
called_allowed x o h (Give s sent) call = absurd call
called_allowed x o h (Pick w job) call = absurd call
called_allowed x o h (Post w sent) call = absurd call
called_allowed x o h (Client c sent) call =
    record { declared = tt; takes = tt; next = record { source = λ declared. let beyond = call.0 in absurd (omega (arith, declared, beyond)); caller = λ beyond. call.1 } }

-- an entry of a choice keeps a history legal
legal_step : (x : Prog) (o : RunOptions) (h : List Entry) (c : Choice) (e : Entry) → IsLegal x o h → entry_of x o h c ≡ Some e → IsLegal x o (h ++ e ∷ [])
legal_step x o h c e legal is = legal_more x o h e legal (chosen_allowed x o h c e is)

pub legal_next : (x : Prog) (o : RunOptions) (h : List Entry) (e : Entry) → IsLegal x o h → ComesNext x o h e → IsLegal x o (h ++ e ∷ [])
legal_next x o h e legal (inl is) = legal_step x o h (choice_of e) e legal is
legal_next x o h e legal (inr call) = legal_more x o h e legal (called_allowed x o h e call)

legal_on : (x : Prog) (o : RunOptions) (cs : List Choice) (h g : List Entry) → IsLegal x o h → hist_on x o cs h ≡ Ok g → IsLegal x o g
legal_on x o [] h g legal made = subst (IsLegal x o) (same_history x o h g made) legal
legal_on x o (c ∷ cs) h g legal made =
    from_first x o h (entry_of x o h c) cs g made (λ e is on. legal_on x o cs (h ++ e ∷ []) g (legal_step x o h c e legal is) on)

pub faithful_none : (x : Prog) (o : RunOptions) (a : Actor) → IsFaithful x o a []
faithful_none x o (actor.Sched s) = record { turns = tt; due = at_each_none _ }
faithful_none x o (actor.Worker w) = tt
faithful_none x o (actor.Client c) = record { source = λ declared. tt; caller = λ beyond. at_each_none _ }

pub legal_none : (x : Prog) (o : RunOptions) → IsLegal x o []
legal_none x o = record { declared = at_each_none _; routed = at_each_none _; faithful = faithful_none x o }

-- the history of a list of choices is legal
pub made_is_legal : (x : Prog) (o : RunOptions) (choices : List Choice) (h : List Entry) → hist x o choices ≡ Ok h → IsLegal x o h
made_is_legal x o choices h made = legal_on x o choices [] h (legal_none x o) made

-- and has no callers
declared_client : (h : Heads) (c : ℕ) (es : List Entry) (sent : Sent) (rest : List Sent) (declared : Bool) → nat_lt c (length h.clients) ≡ declared → unsent h c es ≡ sent ∷ rest → c < length h.clients
declared_client h c es sent rest true is first = ltb-true c (length h.clients) is
declared_client h c es sent rest false is first = gives_own h c es sent rest first (ltb-false c (length h.clients) is)

no_caller : (x : Prog) (o : RunOptions) (h : List Entry) (e : Entry) → entry_of x o h (choice_of e) ≡ Some e → IsNoCaller (heads x) (actor_of e)
no_caller x o h (Take s batch) is = tt
no_caller x o h (Give s sent) is = tt
no_caller x o h (Pick w job) is = tt
no_caller x o h (Post w sent) is = tt
no_caller x o h (Client c sent) is =
    on_first (Client c) (unsent (heads x) c h) (Client c sent) is (λ m rest all same. declared_client (heads x) c h m rest (nat_lt c (length (heads x).clients)) refl all)

callers_on : (x : Prog) (o : RunOptions) (cs : List Choice) (h g : List Entry) → HasNoCallers (heads x) h → hist_on x o cs h ≡ Ok g → HasNoCallers (heads x) g
callers_on x o [] h g none made = subst (HasNoCallers (heads x)) (same_history x o h g made) none
callers_on x o (c ∷ cs) h g none made =
    from_first x o h (entry_of x o h c) cs g made (λ e is on.
    callers_on x o cs (h ++ e ∷ []) g
    (at_each-append (λ before f. IsNoCaller (heads x) (actor_of f)) h e none (no_caller x o h e (subst (λ (d : Choice). entry_of x o h d ≡ Some e) (sym (choice_kept x o h c e is)) is))) on)

pub made_without_callers : (x : Prog) (o : RunOptions) (choices : List Choice) (h : List Entry) → hist x o choices ≡ Ok h → HasNoCallers (heads x) h
made_without_callers x o choices h made = callers_on x o choices [] h (at_each_none _) made
