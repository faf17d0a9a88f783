use Rattle.std.proofs.Common.{◌≡◌, true, sym, subst}
use Rattle.std.proofs.lemmas.List.Elements.{All-weaker}
use Rattle.std.specs.List.{All}
use Rattle.loft_history.specs.Legal.{actor_of}
use Rattle.loft_world.specs.State.{State}
use Rattle.loft_baton.specs.Knowing.{among, Follows, has}
use Rattle.loft_baton.proofs.HistoryLemmas.{all_among}
use Rattle.loft_baton.proofs.baton.Baton.close.Goals as goal

pub returns-clause-only : goal.returns-clause-only
returns-clause-only g c =
    let v = c.args.p.knows in
    let h = subst (Follows v) (sym c.world.view_is) c.hold.ensures.follows in
    subst (λ (w : State). All (λ e. has v.own (actor_of e) ≡ true) w.history) (sym c.into_world.ensures)
    (All-weaker (λ e. among v.given (actor_of e) ≡ true) (λ e. has v.own (actor_of e) ≡ true) (λ e m. all_among (λ a. has v.own a ≡ true) v.given (actor_of e) c.requires.whole m) c.world.inside.world.history (h.given c.requires.gives))
