-- What each statement of a program with numbers is as a plain value.
use Rattle.std.proofs.Common.{◌≡◌, ℕ, map, ap, sym, ◌∙◌}
use Rattle.std.specs.Global.{Vec}
use Rattle.loft_base.specs.declared.ids.ModuleId.{ModuleId}
use Rattle.loft_tree.specs.declared.action.Action.{Action}
use Rattle.loft_tree.specs.declared.action.Pause.{Pause}
use Rattle.loft_tree.specs.declared.named.NamedExpr.{NamedExpr}
use Rattle.loft_tree.specs.declared.named.NamedStmt.{NamedStmt}
use Rattle.loft_tree.specs.declared.named.NamedStmt.TheOpen as layer
use Rattle.loft_tree.specs.declared.named.NamedStmt.TheVariants as stmt
use Rattle.loft_tree.specs.declared.named.NamedStmt.TheFolds.{fold-roll-NamedStmt}
use Rattle.loft_tree.specs.NamedTree.{NamedStatement, Do, Hold, Run, If, While, Repeat}
use Rattle.loft_tree.specs.NamedView.{term_of, action_of, pause_of, statement_layer, statement_of, statements_of}

pub named_do : (at : ℕ) (action : Action) → statement_of (stmt.Do at action) ≡ Do at (action_of action)
named_do at action = ap statement_of (sym (stmt.rolls-Do at action)) ∙ fold-roll-NamedStmt NamedStatement statement_layer (layer.Do at action)

pub named_hold : (at stop : ℕ) (pause : Pause) → statement_of (stmt.Hold at stop pause) ≡ Hold at stop (pause_of pause)
named_hold at stop pause = ap statement_of (sym (stmt.rolls-Hold at stop pause)) ∙ fold-roll-NamedStmt NamedStatement statement_layer (layer.Hold at stop pause)

pub named_run : (at stop called : ℕ) (m : ModuleId) (arguments : Vec NamedExpr) → statement_of (stmt.Run at stop called m arguments) ≡ Run at stop called m (map term_of arguments.items)
named_run at stop called m arguments = ap statement_of (sym (stmt.rolls-Run at stop called m arguments)) ∙ fold-roll-NamedStmt NamedStatement statement_layer (layer.Run at stop called m arguments)

pub named_if : (at : ℕ) (test : NamedExpr) (first second : Vec NamedStmt) → statement_of (stmt.If at test first second) ≡ If at (term_of test) (statements_of first.items) (statements_of second.items)
named_if at test first second = ap statement_of (sym (stmt.rolls-If at test first second)) ∙ fold-roll-NamedStmt NamedStatement statement_layer (layer.If at test first second)

pub named_while : (at : ℕ) (test : NamedExpr) (body : Vec NamedStmt) → statement_of (stmt.While at test body) ≡ While at (term_of test) (statements_of body.items)
named_while at test body = ap statement_of (sym (stmt.rolls-While at test body)) ∙ fold-roll-NamedStmt NamedStatement statement_layer (layer.While at test body)

pub named_repeat : (at : ℕ) (count : NamedExpr) (body : Vec NamedStmt) → statement_of (stmt.Repeat at count body) ≡ Repeat at (term_of count) (statements_of body.items)
named_repeat at count body = ap statement_of (sym (stmt.rolls-Repeat at count body)) ∙ fold-roll-NamedStmt NamedStatement statement_layer (layer.Repeat at count body)

-- for the functions that make and match statements
pub ruleset named_statements = (named_do, named_hold, named_run, named_if, named_while, named_repeat)
