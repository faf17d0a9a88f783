use Rattle.std.proofs.Common.{sym, ◌∙◌}
use Rattle.loft_listing_line.proofs.Cutting.{never_without, position_cut, line_parts, line_cut, line_whole}
use Rattle.loft_listing_line.proofs.line.first_line.Goals as goal

pub returns-in_err-index-clause-only : goal.returns-in_err-index-clause-only
returns-in_err-index-clause-only c line rest (front, ends, plain) whole =
    absurd (never_without 10 c.args.text.now front rest (line_cut c.args.text.now line rest front whole ends plain) (sym c.first_of.ensures.first ∙ c.in_err-index.was))

pub returns-clause-cut : goal.returns-clause-cut
returns-clause-cut c =
    let found = sym c.first_of.ensures.first ∙ c.in_ok-index.was in
    let (before, after, cut) = position_cut 10 0 c.in_ok-index.index c.args.text.now found in
    let parts = line_parts c.in_ok-index.index c.args.text.now before after cut found in
    ((before, parts.0, cut.first), line_whole c.args.text.now before after _ _ cut parts.0 parts.1)

pub returns-clause-only : goal.returns-clause-only
returns-clause-only c line rest (front, ends, plain) whole =
    let found = sym c.first_of.ensures.first ∙ c.in_ok-index.was in
    let parts = line_parts c.in_ok-index.index c.args.text.now front rest (line_cut c.args.text.now line rest front whole ends plain) found in
    (parts.0 ∙ sym ends, parts.1)
