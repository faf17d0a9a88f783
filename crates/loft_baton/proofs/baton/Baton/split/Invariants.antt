use Rattle.std.specs.Prelude.{None}
use Rattle.loft_baton.proofs.baton.Baton.split.Given as goal

abbrev pub ghosts-split_as : goal.ghosts-split_as
ghosts-split_as a = record { code = None; actor = a.a }
