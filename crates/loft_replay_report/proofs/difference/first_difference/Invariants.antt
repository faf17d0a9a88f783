use Rattle.loft_report_shape.specs.Text.{text_of}
use Rattle.loft_report_reader.specs.Answer.{report_in}
use Rattle.loft_replay_report.proofs.difference.first_difference.Given as goal

-- the text of the report
abbrev pub ghosts-first_difference_in : goal.ghosts-first_difference_in
ghosts-first_difference_in a = record { text = text_of (report_in a.r.now) }
