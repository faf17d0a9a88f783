use Rattle.std.proofs.Common.{sym, ◌∙◌}
use Rattle.loft_listing_line.specs.Sorts.{begins_line, sort_of}
use Rattle.loft_listing_line.proofs.Sorting.{is_title, line_begins, first_byte}
use Rattle.loft_listing_line.proofs.sort.line_sort.Goals as goal

pub returns-then-eq : goal.returns-then-eq
returns-then-eq c l is = is_title l c.args.line.now is (sym c.eq.ensures ∙ c.if-eq.true)

pub returns-in-len1-up : goal.returns-in-len1-up
returns-in-len1-up c l is =
    c.line_sort_by.ensures (sort_of l) (first_byte (begins_line (sort_of l)) c.args.line.now
    (line_begins l c.args.line.now is (sym c.eq.ensures ∙ c.if-eq.false) (sym c.eq-2.ensures ∙ c.if-eq-2.false)))
