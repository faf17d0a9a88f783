use Rattle.std.proofs.Common.{ap, sym, ◌∙◌, subst}
use Rattle.loft_baton.specs.Knowing.{IsIdle}
use Rattle.loft_baton.specs.PassValue.{PassValue}
use Rattle.loft_baton.proofs.Moves.{takes}
use Rattle.loft_baton.proofs.baton.Baton.hold.Goals as goal

pub try_pop_as-requires-clause-rule : goal.try_pop_as-requires-clause-rule
try_pop_as-requires-clause-rule g c =
    let known = c.loop.invariant.1 ∙ ap (λ (t : PassValue). t.knows) c.p.view_is in
    takes _ _ (subst IsIdle (sym known) c.requires.idle)
