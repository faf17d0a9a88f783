-- What stops the command, by what a part of it answered.
use Rattle.loft_base.specs.declared.writing.WriteError.{WriteError}
use Rattle.loft_base.specs.declared.writing.WriteError.TheVariants as write
use Rattle.loft_report_reader.specs.declared.error.LogError.{LogError}
use Rattle.loft_report_reader.specs.declared.error.LogError.TheVariants as log
use Rattle.loft_report_file.specs.declared.error.ReportFileError.{ReportFileError}
use Rattle.loft_report_file.specs.declared.error.ReportFileError.TheVariants as file
use Rattle.loft_replay_error.specs.declared.error.ReplayError.{ReplayError}
use Rattle.loft_replay_error.specs.declared.error.ReplayError.TheVariants as error
use Rattle.loft_refusal.specs.declared.refusal.Stopped.{Stopped}
use Rattle.loft_refusal.specs.declared.refusal.Stopped.TheVariants as stopped
use Rattle.loft_replay_command.specs.declared.refusal.LogRefusal.TheVariants.{NoReport, Entry, Instant, Byte}
use Rattle.loft_replay_command.specs.declared.refusal.ReplayStop.{ReplayStop}
use Rattle.loft_replay_command.specs.declared.refusal.ReplayStop.TheVariants.{Source, Log, FileFault, SinkFault, NoMemory}

-- the reading of a source
abbrev pub stop_of_source : Stopped → ReplayStop
stop_of_source (stopped.Refused r) = Source r
stop_of_source stopped.FileFault = FileFault
stop_of_source stopped.SinkFault = SinkFault
stop_of_source stopped.NoMemory = NoMemory

-- the reading of a text as a report
abbrev pub stop_of_log : LogError → ReplayStop
stop_of_log (log.Line n byte) = Log (NoReport (log.Line n byte))
stop_of_log (log.Ends byte) = Log (NoReport (log.Ends byte))
stop_of_log log.TooLong = Log (NoReport log.TooLong)
stop_of_log log.NoMemory = NoMemory

-- the reading of a file as a report
abbrev pub stop_of_file : ReportFileError → ReplayStop
stop_of_file file.Failed = FileFault
stop_of_file (file.Log e) = stop_of_log e

-- the replay of a whole report
abbrev pub stop_of_whole : ReplayError → ReplayStop
stop_of_whole (error.Log e) = stop_of_log e
stop_of_whole (error.NotAllowed n) = Log (Entry n)
stop_of_whole (error.Differs byte) = Log (Byte byte)
stop_of_whole error.NoMemory = NoMemory

-- the replay of a block
abbrev pub stop_of_block : ReplayError → ReplayStop
stop_of_block (error.Log e) = stop_of_log e
stop_of_block (error.NotAllowed n) = Log (Instant n)
stop_of_block (error.Differs byte) = Log (Byte byte)
stop_of_block error.NoMemory = NoMemory

-- the writing of the answer
abbrev pub stop_of_write : WriteError → ReplayStop
stop_of_write write.Sink = SinkFault
stop_of_write write.NoMemory = NoMemory
