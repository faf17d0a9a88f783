use Rattle.std.proofs.Common.{◌≡◌, ◌++◌}
use Rattle.loft_block.specs.Blocks.{sent_if}
use Rattle.loft_block.proofs.Blocks.{left_if}
use Rattle.loft_block.proofs.block.fill.Given as goal

-- the orders, and what the run still sends, are as before
abbrev pub invariant-filling : goal.invariant-filling
invariant-filling g l = l.orders ++ sent_if (g.I.Interpreter.comes_to l.interpreter) l.run ≡ l.fn.orders ++ sent_if (g.I.Interpreter.comes_to l.interpreter) l.fn.run

abbrev pub decreases-filling : goal.decreases-filling
decreases-filling g l = left_if (g.I.Interpreter.left l.interpreter) l.run
