use Rattle.loft_listing_line.specs.RowView.{row_of}
use Rattle.loft_listing_line.proofs.OneRow.{one_row}
use Rattle.loft_listing_line.proofs.read.is_written.Goals as goal

pub put_row-requires : goal.put_row-requires
put_row-requires c = one_row (row_of c.args.row.now) c.requires
