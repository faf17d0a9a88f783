use Rattle.std.proofs.Common.{◌∙◌, ap}
use Rattle.loft_base.specs.Writing.{are_lines}
use Rattle.loft_gen_command.proofs.WholeLines.{summary_lines}
use Rattle.loft_gen_command.proofs.writing.write_summary.Goals as goal

pub write_lines-requires : goal.write_lines-requires
write_lines-requires g c = ap are_lines c.as_slice.ensures.value ∙ summary_lines c.args.k _ c.in_ok-text.ensures
