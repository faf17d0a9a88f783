use Rattle.std.proofs.Common.{length, ◌∙◌, arith}
use Rattle.loft_step.proofs.Lines.{jumps_on}
use Rattle.loft_step.proofs.jump.landing.Goals as goal

pub jumping-preserved : goal.jumping-preserved
jumping-preserved c =
    c.jumping.invariant ∙ jumps_on c.args.lines.now (length c.args.lines.now) c.jumping._jumps c.jumping.op c.in-Some-jump_of.target c.get.result c.in-Some.line c.jump_of.result (omega arith) c.get.ensures.lookup c.in-Some.is c.jump_of.ensures c.in-Some-jump_of.is
