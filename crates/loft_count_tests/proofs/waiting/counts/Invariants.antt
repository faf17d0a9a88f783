use Rattle.loft_count_tests.proofs.waiting.counts.Given as goal

abbrev pub ghosts-five : goal.ghosts-five
ghosts-five a = record { name = a.blank.name; parts = a.blank.parts }
