use Rattle.std.proofs.Common.{◌≡◌, ◌++◌, map, drop}
use Rattle.std.specs.List.{flat_map}
use Rattle.loft_code.specs.View.{line_of}
use Rattle.loft_listing_line.specs.Rows.{line_text}
use Rattle.loft_listing.specs.Making.{IsWhole}
use Rattle.loft_listing.specs.Lines.{operation_lines}
use Rattle.loft_listing.proofs.operation.put_operations.Given as goal

-- the operations that are left come after
abbrev pub invariant-loop-number : goal.invariant-loop-number
invariant-loop-number l =
    IsWhole l.listing → IsWhole l.initial.listing
    × (l.listing.out.text.items ++ flat_map line_text (operation_lines l.heads l.module l.number (map line_of (drop l.number l.lines)))
    ≡ l.initial.listing.out.text.items ++ flat_map line_text (operation_lines l.heads l.module 0 (map line_of l.lines)))
