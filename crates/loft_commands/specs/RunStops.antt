-- What stops a run of code, and the command that it is part of.
use Rattle.loft_base.specs.declared.writing.WriteError.{WriteError}
use Rattle.loft_base.specs.declared.writing.WriteError.TheVariants as write
use Rattle.loft_refusal.specs.declared.refusal.Stopped.{Stopped}
use Rattle.loft_refusal.specs.declared.refusal.Stopped.TheVariants.{SinkFault, NoMemory}
use Rattle.loft_commands.specs.declared.code_run.RunError.{RunError}
use Rattle.loft_commands.specs.declared.code_run.RunError.TheVariants as run

abbrev pub run_error_of_write : WriteError → RunError
run_error_of_write write.Sink = run.Sink
run_error_of_write write.NoMemory = run.NoMemory

abbrev pub stop_of_run : RunError → Stopped
stop_of_run run.Sink = SinkFault
stop_of_run run.NoMemory = NoMemory
