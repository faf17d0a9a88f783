use Rattle.std.proofs.Common.{sym, ◌∙◌}
use Rattle.loft_listing_line.specs.Sorts.{begins_deed, sort_of_instruction}
use Rattle.loft_listing_line.proofs.Sorting.{stop_or_do, enter_only, deed_begins, first_byte}
use Rattle.loft_listing_line.proofs.sort.deed_sort.Goals as goal

pub returns-then-contains : goal.returns-then-contains
returns-then-contains c i fits same =
    c.statement_deed_sort.ensures ∙ stop_or_do i c.args.text.now fits same (sym c.contains.ensures.value ∙ c.if-contains.true)

pub returns-then-eq : goal.returns-then-eq
returns-then-eq c i fits same =
    enter_only i c.args.text.now fits same (sym c.contains.ensures.value ∙ c.if-contains.false) (sym c.eq.ensures ∙ c.if-eq.true)

pub returns-else-eq : goal.returns-else-eq
returns-else-eq c i fits same =
    c.deed_sort_by.ensures (sort_of_instruction i) (first_byte (begins_deed (sort_of_instruction i)) c.args.text.now
    (deed_begins i c.args.text.now fits same (sym c.contains.ensures.value ∙ c.if-contains.false) (sym c.eq.ensures ∙ c.if-eq.false)))
