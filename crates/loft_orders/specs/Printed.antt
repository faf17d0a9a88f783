-- Printed lines.
use Rattle.std.specs.Prelude.{ℕ, List}
use Rattle.loft_orders.specs.declared.line.Bytes.{Bytes}
use Rattle.loft_orders.specs.declared.line.Bytes.TheVariants.{Own, OfText}

-- The bytes of a line, wherever they are.
abbrev pub bytes_of : Bytes → List ℕ
bytes_of (Own bytes) = bytes.items
bytes_of (OfText text) = text
