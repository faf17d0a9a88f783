-- What the engine is between two instants.
use Rattle.std.specs.Prelude.{Bool, is_none}
use Rattle.loft_base.specs.declared.ids.SchedId.{SchedId}
use Rattle.loft_tree.specs.ProgramView.{program_of}
use Rattle.loft_tree.specs.Resolved.{resolved_of}
use Rattle.loft_base.specs.declared.options.Limits.{Limits}
use Rattle.loft_sense.specs.Machine.{Prog, Tree, Mach}
use Rattle.loft_instant.specs.States as state
use Rattle.loft_plain.specs.declared.engine.PlainEngine.{PlainEngine}

abbrev pub tree_of : PlainEngine → Prog
tree_of e = Tree (resolved_of (program_of e.engine.setting.interpreter.placed.now))

abbrev pub scheduler_of : PlainEngine → SchedId
scheduler_of e = e.engine.setting.scheduler

abbrev pub limits_of : PlainEngine → Limits
limits_of e = e.engine.setting.limits

abbrev pub machine_of : PlainEngine → Mach
machine_of e = state.machine_of e.engine.setting.scheduler e.engine.state

-- an instant ran out of memory
abbrev pub has_failed : PlainEngine → Bool
has_failed e = is_none e.engine.state
