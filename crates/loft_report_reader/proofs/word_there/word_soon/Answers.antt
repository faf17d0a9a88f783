use Rattle.std.proofs.Common.{ap, sym}
use Rattle.loft_report_shape.specs.Word.{word_of}
use Rattle.loft_report_reader.proofs.word_there.word_soon.Goals as goal

pub returns-then-is_at : goal.returns-then-is_at
unfolding word_of
returns-then-is_at c = sym (ap word_of (c.is_at.ensures c.if-is_at.true))

pub returns-then-is_print : goal.returns-then-is_print
unfolding word_of
returns-then-is_print c = sym (ap word_of (c.is_print.ensures c.if-is_print.true))

pub returns-then-is_coop : goal.returns-then-is_coop
unfolding word_of
returns-then-is_coop c = sym (ap word_of (c.is_coop.ensures c.if-is_coop.true))
