use Rattle.loft_listing_line.specs.Rows.{bare_line}
use Rattle.loft_listing_line.specs.RowView.{row_of}
use Rattle.loft_listing_line.proofs.Finding.{some_found}
use Rattle.loft_listing_line.proofs.FoundRows.{row_written, row_fits, row_kept}
use Rattle.loft_listing_line.proofs.read.read_row.Goals as goal

pub returns-clause-only : goal.returns-clause-only
returns-clause-only c l is short =
    let found = c.in_ok-row.ensures.found l is.fits is.written short in
    let same = some_found row_of bare_line c.in_ok-row.field-0 c.in-Some.row l c.in-Some.is found in
    let fits = row_fits c.in_ok-row.field-0 c.in-Some.row c.in-Some.is c.in_ok-row.ensures.fits in
    row_kept c.in-Some.row l c.args.line.now c.is_written-written.result c.keep_written.result same (row_written c.in-Some.row l c.args.line.now fits is same)
    c.is_written-written.ensures c.keep_written.ensures.kept c.keep_written.ensures.gone
