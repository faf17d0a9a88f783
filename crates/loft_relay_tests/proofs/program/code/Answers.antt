use Rattle.std.proofs.Common.{map, ap}
use Rattle.loft_code.specs.View.{lines_of}
use Rattle.loft_relay_tests.proofs.Sample.{sample_fits}
use Rattle.loft_relay_tests.proofs.program.code.Goals as goal

pub new-raw-requires : goal.new-raw-requires
new-raw-requires c = sample_fits _ c.in_ok-heads.ensures (ap (map lines_of) c.new.ensures.items)
