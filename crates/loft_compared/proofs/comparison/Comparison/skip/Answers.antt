use Rattle.std.proofs.Common.{arith}
use Rattle.loft_compared.specs.Walks.{left_of}
use Rattle.loft_compared.proofs.Skipping.{skips}
use Rattle.loft_compared.proofs.comparison.Comparison.skip.Goals as goal

pub invariant_of-self : goal.invariant_of-self
invariant_of-self g c =
    skips g.X.KnownText.text c.self.inside.equal c.in-Some.equal c.args.bytes.now (left_of c.self.inside.rest) (left_of c.skip.new.self) c.self.inside.found c.args.self.now
    c.self.view_is c.requires c.self.invariant (c.skip.ensures.skipped c.if-skip.true) (omega (arith, c.in-Some.ensures.1))
