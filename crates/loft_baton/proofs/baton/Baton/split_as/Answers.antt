use Rattle.std.proofs.Common.{◌≡◌, true, false, ap, sym, subst}
use Rattle.loft_baton.specs.declared.knows.Knows.{Knows}
use Rattle.loft_baton.specs.Knowing.{among, IsIdle}
use Rattle.loft_baton.specs.PassValue.{PassValue}
use Rattle.loft_baton.proofs.Sharing.{forks}
use Rattle.loft_baton.proofs.baton.Baton.split_as.Goals as goal

pub another-inner-requires-clause-rule : goal.another-inner-requires-clause-rule
another-inner-requires-clause-rule g c =
    let p = ap (λ (t : PassValue). t.knows) c.p.view_is in
    let idle = subst (λ (v : Knows). IsIdle v) (sym p) c.requires.idle in
    let gives = subst (λ (v : Knows). v.gives ≡ true) (sym p) c.requires.gives in
    forks _ _ _ idle gives (subst (λ (v : Knows). among v.given g.J.Argument.actor ≡ false) (sym p) (subst (λ a. among c.args.p.now.knows.given a ≡ false) c.requires.name c.requires.new))
