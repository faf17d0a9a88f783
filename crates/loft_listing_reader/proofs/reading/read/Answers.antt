use Rattle.std.proofs.Common.{◌≡◌, inr, sym, ap, ◌∙◌}
use Rattle.loft_listing_reader.specs.Lists.{line_number}
use Rattle.loft_listing_reader.specs.declared.error.ListError.TheVariants.{Line}
use Rattle.loft_listing_reader.proofs.Judging.{known_fault, known_listing}
use Rattle.loft_listing_reader.proofs.reading.read.Goals as goal

pub returns-in-Some-clause-only_line : goal.returns-in-Some-clause-only_line
returns-in-Some-clause-only_line c n (at, fault, is) short =
    let e = c.in_ok-drafted.ensures in
    let found = known_fault c.args.text.now c.in_ok-drafted.drafted.draft c.in_ok-drafted.drafted.stop c.in_ok-table.fault e.only e.only_stops c.in_ok-table.ensures.least at fault in
    let same : c.in-Some.at ≡ at = cc (sym c.in-Some.is ∙ found) in
    (tt, inr (ap Line (c.line_number.ensures ∙ ap (line_number c.args.text.now) same ∙ sym is)))

pub returns-clause-lists : goal.returns-clause-lists
returns-clause-lists c =
    let e = c.in_ok-drafted.ensures in
    let (d, said, memory, right) = known_listing c.args.text.now c.in_ok-drafted.drafted.draft c.in_ok-drafted.drafted.stop c.in_ok-table.fault e.whole e.stops c.in_ok-table.ensures.least c.in-None.is in
    (d, record { said = said; right = right; numbers = c.in_ok-code_of-in-None.ensures d memory })

pub returns-clause-only_line : goal.returns-clause-only_line
returns-clause-only_line c n (at, fault, is) short =
    let e = c.in_ok-drafted.ensures in
    let found = known_fault c.args.text.now c.in_ok-drafted.drafted.draft c.in_ok-drafted.drafted.stop c.in_ok-table.fault e.only e.only_stops c.in_ok-table.ensures.least at fault in
    absurd (cc (sym c.in-None.is ∙ found))
