-- What is closed is legal, where each actor is faithful.
use Rattle.std.proofs.Common.{◌≡◌, Bool, true, false, List, [], ◌∷◌, ◌++◌, refl, sym, subst, Some}
use Rattle.std.specs.List.{All}
use Rattle.std.proofs.lemmas.List.Elements.{All-weaker, All-head, All-tail}
use Rattle.loft_code.specs.View.{automata_of}
use Rattle.loft_code.specs.declared.raw.CodeProgram.{CodeProgram}
use Rattle.loft_orders.specs.declared.entry.Actor.{Actor}
use Rattle.loft_orders.specs.declared.entry.Entry.{Entry}
use Rattle.loft_base.specs.declared.options.RunOptions.{RunOptions}
use Rattle.loft_sense.specs.Machine.{Prog, Code, heads}
use Rattle.loft_history.specs.Legal.{actor_of, same_actor, of, AtEach, IsRouted, IsFaithful, IsDeclared, IsLegal}
use Rattle.loft_history.proofs.LegalLemmas.{faithful_none}
use Rattle.loft_world.specs.State.{State}
use Rattle.loft_baton.specs.declared.knows.Own.{Own}
use Rattle.loft_baton.specs.declared.knows.Knows.{Knows}
use Rattle.loft_baton.specs.Knowing.{has, Follows}
use Rattle.loft_baton.specs.Faithful.{AreFaithful}
use Rattle.loft_baton.proofs.HistoryLemmas.{same-true, off, both_ways, of_none, all_has}

-- a fact of each entry, wherever it stands
all_at : (P : Entry → Type 0) (before : List Entry) (e : Entry) (after : List Entry) → All P (before ++ e ∷ after) → P e
all_at P [] e after all = All-head P e after all
all_at P (d ∷ before) e after all = all_at P before e after (All-tail P d (before ++ e ∷ after) all)

at_each : (P : Entry → Type 0) (h : List Entry) → All P h → AtEach (λ before e. P e) h
at_each P h all before e after is = all_at P before e after (subst (All P) is all)

module _ (x : Prog) (o : RunOptions) (own : List Own) (h : List Entry)
    (entries : All (λ (w : Own). of w.actor h ≡ w.entries) own)
    (only : All (λ e. has own (actor_of e) ≡ true) h)
    (faithful : AreFaithful x o own) where
  Is : Own → Type 0
  Is w = IsDeclared (heads x) o w.actor × IsFaithful x o w.actor w.entries

  declared_one : All (λ (w : Own). IsDeclared (heads x) o w.actor) own
  declared_one = All-weaker (λ (w : Own). IsDeclared (heads x) o w.actor × IsFaithful x o w.actor w.entries) (λ (w : Own). IsDeclared (heads x) o w.actor) (λ w f. f.0) own faithful

  faithful_one : All (λ (w : Own). IsFaithful x o w.actor (of w.actor h)) own
  faithful_one = λ k d l. subst (IsFaithful x o _) (sym (entries k d l)) (faithful k d l).1

  all_declared : All (λ e. IsDeclared (heads x) o (actor_of e)) h
  all_declared =
      All-weaker (λ e. has own (actor_of e) ≡ true) (λ e. IsDeclared (heads x) o (actor_of e))
      (λ e m. all_has (λ a. IsDeclared (heads x) o a) own (actor_of e) declared_one m) h only

  -- an actor that isn't among these has no entries
  none : (a : Actor) → has own a ≡ false → of a h ≡ []
  none a apart =
      of_none a h
      (All-weaker (λ e. has own (actor_of e) ≡ true) (λ e. same_actor a (actor_of e) ≡ false)
      (λ e m. off (λ s. both_ways (subst (λ b. has own b ≡ true) (sym (same-true a (actor_of e) s)) m) apart)) h only)

  all_faithful : (a : Actor) → IsFaithful x o a (of a h)
  all_faithful a =
      elim (has own a) as (λ (b : Bool). has own a ≡ b → IsFaithful x o a (of a h)) [
        | true ↦ (λ is. all_has (λ b. IsFaithful x o b (of b h)) own a faithful_one is)
        | false ↦ (λ is. subst (IsFaithful x o a) (sym (none a is)) (faithful_none x o a))
      ] refl

  pub legal : IsRouted (heads x) h → IsLegal x o h
  legal routed = record { declared = at_each (λ e. IsDeclared (heads x) o (actor_of e)) h all_declared; routed = routed; faithful = all_faithful }

pub closed_legal : (c : CodeProgram) (o : RunOptions) (v : Knows) (w : State)
    → Follows v w → All (λ e. has v.own (actor_of e) ≡ true) w.history
    → IsRouted w.heads w.history
    → v.code ≡ Some c → AreFaithful (Code (automata_of c)) o v.own
    → IsLegal (Code (automata_of c)) o w.history
closed_legal c o v w follows only routed is faithful =
    legal (Code (automata_of c)) o v.own w.history follows.own only faithful (subst (λ h. IsRouted h w.history) (follows.code c is).heads routed)
