use Rattle.loft_tree.specs.ProgramView.{program_of}
use Rattle.loft_tree.specs.Resolved.{resolved_of}
use Rattle.loft_sense.specs.Machine.{Tree}
use Rattle.loft_replay.proofs.whole.follow_whole.Given as goal

-- the program and the options
abbrev pub ghosts-follow_whole_in : goal.ghosts-follow_whole_in
ghosts-follow_whole_in a = record { program = Tree (resolved_of (program_of a.p.now)); options = a.o.now }
