-- What a line in memory is as a plain value.
use Rattle.loft_tree.specs.View.{expression_of, statement_of, named_of, place_name_of, head_of, order_of, declaration_of}
use Rattle.loft_listing_line.specs.declared.row.Row.{Row}
use Rattle.loft_listing_line.specs.declared.row.Row.TheVariants as row
use Rattle.loft_listing_line.specs.declared.row.OperationRow.{OperationRow}
use Rattle.loft_listing_line.specs.declared.row.Deed.{Deed}
use Rattle.loft_listing_line.specs.declared.row.Deed.TheVariants as deed
use Rattle.loft_listing_line.specs.Instructions.{Instruction, Do, Stop, Branch, Enter, Count, Turn, Jump, End as EndOf}
use Rattle.loft_listing_line.specs.Rows.{ListingLine, Title, Item, Head, Local, Operation, End, Client, Order, Close}

abbrev pub deed_of : Deed → Instruction
deed_of (deed.Do statement) = Do (statement_of statement)
deed_of (deed.Stop number statement) = Stop number (statement_of statement)
deed_of (deed.Branch target test) = Branch target (expression_of test)
deed_of deed.Enter = Enter
deed_of (deed.Count count) = Count (expression_of count)
deed_of (deed.Turn target) = Turn target
deed_of (deed.Jump target) = Jump target
deed_of deed.End = EndOf

abbrev pub operation_of : OperationRow → ListingLine
operation_of o = Operation o.number (place_name_of o.place) o.depth (deed_of o.deed)

abbrev pub row_of : Row → ListingLine
row_of row.Title = Title
row_of (row.Item item) = Item (declaration_of item)
row_of (row.Head head) = Head (head_of head)
row_of (row.Local local) = Local (named_of local)
row_of (row.Operation operation) = operation_of operation
row_of row.End = End
row_of (row.Client name) = Client name
row_of (row.Order order) = Order (order_of order)
row_of row.Close = Close
