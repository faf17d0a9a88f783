use Rattle.std.proofs.Common.{rules, refl}
use Rattle.loft_base.proofs.lists.Sequence.as_mut_slice.Goals as goal

pub returns : goal.returns
returns g c = ((refl, λ left. cc (c.self.view_is, c.self.inside.items.ok.0)), search rules)
