use Rattle.std.proofs.Common.{◌∙◌, inl, ap}
use Rattle.loft_base.specs.Writing.{are_lines}
use Rattle.loft_gen_command.proofs.WholeLines.{generated_lines}
use Rattle.loft_gen_command.proofs.writing.write_source.Goals as goal

pub write_lines-requires : goal.write_lines-requires
write_lines-requires g c = ap are_lines (c.as_slice.ensures.value ∙ c.in_ok-text.ensures) ∙ generated_lines c.args.k

pub returns : goal.returns
returns g c = inl (c.as_slice.result.now, c.as_slice.ensures.value ∙ c.in_ok-text.ensures, c.write_lines.ensures)
