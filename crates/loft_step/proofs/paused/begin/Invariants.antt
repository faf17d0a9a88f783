use Rattle.loft_step.proofs.paused.begin.Given as goal

abbrev pub ghosts-begin_counted : goal.ghosts-begin_counted
ghosts-begin_counted a = record { name = a.blank.name; parts = a.blank.parts }
