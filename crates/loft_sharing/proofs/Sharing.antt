-- Threads may share valid code. The check finds this of each part, but not of a whole program at once: the parts are put together
-- here.
use Prim.{tt}
use denote.Struct.Struct.{Struct}
use denote.Struct.Declared as declared
use denote.Param.Send.{IsSync, sendable, struct_sync, recorded_sync}
use Rattle.std.proofs.Crossing.{crosses, Vec-sync}
use Rattle.loft_base.proofs.ids.EventId.TheSendSync as event
use Rattle.loft_base.proofs.ids.ModuleId.TheSendSync as module_id
use Rattle.loft_base.proofs.ids.SchedId.TheSendSync as scheduler
use Rattle.loft_base.proofs.ids.SharedId.TheSendSync as shared
use Rattle.loft_tree.proofs.heads.Heads.TheSendSync as heads
use Rattle.loft_tree.proofs.heads.Place.TheSendSync as place
use Rattle.loft_tree.proofs.kinds.Control.TheSendSync as control
use Rattle.loft_tree.proofs.named.Target.TheSendSync as target
use Rattle.loft_tree.proofs.named.NamedExpr.TheLaws.TheKnot as knot
use Rattle.loft_tree.proofs.shared_text.SharedText.TheSendSync as text
use Rattle.loft_tree.specs.contracts.action.Action as Action
use Rattle.loft_tree.specs.contracts.action.Pause as Pause
use Rattle.loft_code.specs.contracts.op.Op as Op
use Rattle.loft_code.specs.contracts.raw.CodeLine as CodeLine
use Rattle.loft_code.specs.contracts.raw.ModuleCode as ModuleCode
use Rattle.loft_code.specs.contracts.raw.CodeProgram as Program
use Rattle.loft_code.specs.contracts.raw.RawCode as Raw
use Rattle.loft_code.specs.contracts.valid.Code as Code

ruleset parts = (sendable, crosses, event.the_field_sync, module_id.the_field_sync, scheduler.the_field_sync, shared.the_field_sync, event.the_sync, module_id.the_sync, scheduler.the_sync, place.the_field_sync, control.the_field_sync, target.the_field_sync, target.the_sync, knot.crosses, text.the_sync)

pub action : IsSync (Action.the_field.row)
action = search parts depth 60 fits 50000

pub pause : IsSync (Pause.the_field.row)
pause = search parts depth 60 fits 50000

pub op : IsSync (Op.the_field.row)
op = search (parts, action, pause) depth 60 fits 50000

pub line : IsSync (CodeLine.the_field.row)
line = search (parts, op) depth 60 fits 50000

-- the row of a declared struct, from that of its fields
row_of : (T : declared.Declared) → IsSync (Struct (declared.shape T)) → IsSync (declared.row T)
row_of T s = recorded_sync (Struct (declared.shape T)) T.D T.to T.to_one s

pub line_row : IsSync CodeLine.the_row
line_row = row_of CodeLine.the_type line

pub each : IsSync (ModuleCode.the_field.row)
each = struct_sync (declared.shape ModuleCode.the_type) (Vec-sync CodeLine.the_row line_row, tt)

pub each_row : IsSync ModuleCode.the_row
each_row = row_of ModuleCode.the_type each

pub program : IsSync (Program.the_field.row)
program = struct_sync (declared.shape Program.the_type) (heads.the_field_sync, (Vec-sync ModuleCode.the_row each_row, tt))

pub raw : IsSync Raw.the_row
raw = search (sendable, program) depth 20

pub code : IsSync Code.the_row
code = search (sendable, raw) depth 20
