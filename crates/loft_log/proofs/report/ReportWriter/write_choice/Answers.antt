use Rattle.loft_log.proofs.report.ReportWriter.write_choice.Goals as goal

pub returns : goal.returns
returns g c = c.write_line.ensures _ c.make_choice_line.ensures
