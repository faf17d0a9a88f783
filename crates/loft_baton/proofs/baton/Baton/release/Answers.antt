use Rattle.std.proofs.Common.{ap, sym, subst}
use Rattle.loft_baton.specs.declared.knows.Knows.{Knows}
use Rattle.loft_baton.specs.Knowing.{IsHolding, Adds}
use Rattle.loft_baton.specs.PassValue.{PassValue}
use Rattle.loft_baton.proofs.Moves.{releases, empty}
use Rattle.loft_baton.proofs.baton.Baton.release.Goals as goal

pub push_as-requires-clause-rule : goal.push_as-requires-clause-rule
push_as-requires-clause-rule g c =
    let p = ap (λ (t : PassValue). t.knows) c.p.view_is in
    let held = subst IsHolding (sym p) c.requires.holds in
    (releases _ _ _ _ held (subst (λ (v : Knows). Adds v c.h.inside.world) (sym p) (subst (Adds c.args.p.now.knows) (sym c.h.view_is) c.requires.adds)), empty _ _ held)
