-- What code in memory is as a plain value. The offsets in expressions and variables mean nothing, and are left out.
use Rattle.std.specs.Prelude.{List, map}
use Rattle.loft_base.specs.declared.ids.EventId.{EventId}
use Rattle.loft_tree.specs.declared.heads.Heads.{Heads}
use Rattle.loft_tree.specs.declared.named.NamedExpr.{NamedExpr}
use Rattle.loft_tree.specs.declared.named.EventUse.{EventUse}
use Rattle.loft_tree.specs.declared.action.Action.{Action}
use Rattle.loft_tree.specs.declared.action.Pause.{Pause}
use Rattle.loft_tree.specs.NamedView as named
use Rattle.loft_tree.specs.NamedView.{term_of, event_use_of}
use Rattle.loft_tree.specs.Resolved as resolved
use Rattle.loft_tree.specs.Resolved.{Exp, exp_of, exps_of, events_of}
use Rattle.loft_code.specs.declared.op.Op.{Op}
use Rattle.loft_code.specs.declared.op.Op.TheVariants as op
use Rattle.loft_code.specs.declared.raw.CodeLine.{CodeLine}
use Rattle.loft_code.specs.declared.raw.ModuleCode.{ModuleCode}
use Rattle.loft_code.specs.declared.raw.CodeProgram.{CodeProgram}
use Rattle.loft_code.specs.Operations.{Operation, Do, Hold, Call, Branch, Enter, Count, Turn, Jump, End, Line, Automata}

abbrev pub exp_in : NamedExpr → Exp
exp_in e = exp_of (term_of e)

abbrev pub exps_in : List NamedExpr → List Exp
exps_in es = exps_of (map term_of es)

abbrev pub events_in : List EventUse → List EventId
events_in es = events_of (map event_use_of es)

abbrev pub action_of : Action → resolved.Action
action_of a = resolved.action_of (named.action_of a)

abbrev pub pause_of : Pause → resolved.Pause
pause_of p = resolved.pause_of (named.pause_of p)

abbrev pub operation_of : Op → Operation
operation_of (op.Do action) = Do (action_of action)
operation_of (op.Hold stop pause) = Hold stop (pause_of pause)
operation_of (op.Run stop m arguments) = Call stop m (exps_in arguments.items)
operation_of (op.Branch target test) = Branch target (exp_in test)
operation_of op.Enter = Enter
operation_of (op.Count count) = Count (exp_in count)
operation_of (op.Turn target) = Turn target
operation_of (op.Jump target) = Jump target
operation_of op.End = End

abbrev pub line_of : CodeLine → Line
line_of l = record { place = l.place; depth = l.depth; operation = operation_of l.op }

abbrev pub lines_of : ModuleCode → List Line
lines_of m = map line_of m.lines.items

abbrev pub code_of : Heads → List ModuleCode → Automata
code_of h ms = record { heads = h; modules = map lines_of ms }

abbrev pub automata_of : CodeProgram → Automata
automata_of c = code_of c.heads c.modules.items
