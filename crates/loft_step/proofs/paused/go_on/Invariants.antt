use Rattle.loft_step.proofs.paused.go_on.Given as goal

abbrev pub ghosts-go_on_counted : goal.ghosts-go_on_counted
ghosts-go_on_counted a = record { name = a.blank.name; parts = a.blank.parts }
