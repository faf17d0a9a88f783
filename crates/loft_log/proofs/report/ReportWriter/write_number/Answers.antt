use Rattle.loft_log.proofs.report.ReportWriter.write_number.Goals as goal

pub returns : goal.returns
returns g c = c.write_line.ensures _ c.make_number_line.ensures
