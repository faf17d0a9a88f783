-- What the engine is between two instants.
use Rattle.std.specs.Prelude.{Bool, is_none}
use Rattle.loft_base.specs.declared.ids.SchedId.{SchedId}
use Rattle.loft_code.specs.View.{automata_of}
use Rattle.loft_base.specs.declared.options.Limits.{Limits}
use Rattle.loft_sense.specs.Machine.{Prog, Code, Mach}
use Rattle.loft_line_engine.specs.States as state
use Rattle.loft_engine.specs.declared.engine.CodeEngine.{CodeEngine}

abbrev pub code_of : CodeEngine → Prog
code_of e = Code (automata_of e.engine.setting.interpreter.code.now)

abbrev pub scheduler_of : CodeEngine → SchedId
scheduler_of e = e.engine.setting.scheduler

abbrev pub limits_of : CodeEngine → Limits
limits_of e = e.engine.setting.limits

abbrev pub machine_of : CodeEngine → Mach
machine_of e = state.machine_of e.engine.setting.scheduler e.engine.state

-- an instant ran out of memory
abbrev pub has_failed : CodeEngine → Bool
has_failed e = is_none e.engine.state
