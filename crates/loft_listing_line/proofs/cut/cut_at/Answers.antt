use Rattle.std.proofs.Common.{sym, ◌∙◌}
use Rattle.loft_listing_line.proofs.Cutting.{never_without, cut_parts}
use Rattle.loft_listing_line.proofs.cut.cut_at.Goals as goal

pub returns-in_err-index : goal.returns-in_err-index
returns-in_err-index c before after cut =
    absurd (never_without c.args.byte c.args.text.now before after cut (sym c.first_of.ensures.first ∙ c.in_err-index.was))

pub returns : goal.returns
returns c before after cut =
    cut_parts c.args.byte c.in_ok-index.index c.args.text.now before after cut (sym c.first_of.ensures.first ∙ c.in_ok-index.was)
