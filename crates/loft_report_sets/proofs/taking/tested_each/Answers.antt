use Rattle.std.proofs.Common.{arith}
use Rattle.loft_report_shape.proofs.HonestSets.{honest}
use Rattle.loft_report_sets.proofs.taking.tested_each.Goals as goal

pub loop-n-init : goal.loop-n-init
loop-n-init c = record { within = omega arith; begun = (honest c.args.p).live }
