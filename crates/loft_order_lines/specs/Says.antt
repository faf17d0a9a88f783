-- Which order the line of a batch says (docs/REPORT.md, "An instant").
use Rattle.std.specs.Prelude.{◌≡◌, ℕ, List, ◌++◌}
use Rattle.loft_tree.specs.declared.heads.Heads.{Heads}
use Rattle.loft_orders.specs.declared.order.Order.{Order}
use Rattle.loft_orders.specs.declared.order.Mark.{Mark}
use Rattle.loft_orders.specs.Lines.{mark_word}
use Rattle.loft_orders.specs.Text.{order_text}
use Rattle.loft_order_lines.specs.Texts.{OrderHasText}

-- the line is what a report has of the order, with some mark
pub record Says (h : Heads) (line : List ℕ) (o : Order) : Type 0 where
  pub mark : Mark
  pub text : line ≡ mark_word mark ++ order_text h o
  pub own : OrderHasText h o
