use Rattle.std.proofs.Common.{sym, ◌∙◌}
use Rattle.loft_order_lines.proofs.Cuts.{is_cut, is_uncut}
use Rattle.loft_order_lines.proofs.cut.cut_at.Goals as goal

pub returns-in-Some : goal.returns-in-Some
returns-in-Some c = is_cut c.args.byte c.in-Some.index c.args.bytes.now (sym c.first_of.ensures.first ∙ c.in-Some.is)

pub returns-in-None : goal.returns-in-None
returns-in-None c = is_uncut c.args.byte c.args.bytes.now (sym c.first_of.ensures.first ∙ c.in-None.is)
