use Rattle.std.proofs.Common.{ap, sym, subst}
use Rattle.loft_baton.specs.Knowing.{IsIdle}
use Rattle.loft_baton.specs.PassValue.{PassValue}
use Rattle.loft_baton.proofs.Sharing.{merges}
use Rattle.loft_baton.proofs.baton.Baton.join.Goals as goal

pub absorb-requires-clause-rule : goal.absorb-requires-clause-rule
absorb-requires-clause-rule c =
    let p = ap (λ (t : PassValue). t.knows) c.p.view_is in
    let q = ap (λ (t : PassValue). t.knows) c.q.view_is in
    merges _ _ _ _ (subst IsIdle (sym p) c.requires.idle.0) (subst IsIdle (sym q) c.requires.idle.1)
