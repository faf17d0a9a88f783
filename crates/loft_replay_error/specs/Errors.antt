-- Errors of reading among those of replay.
use Rattle.loft_report_reader.specs.declared.error.LogError.{LogError}
use Rattle.loft_report_reader.specs.declared.error.LogError.TheVariants as log
use Rattle.loft_replay_error.specs.declared.error.ReplayError.{ReplayError}
use Rattle.loft_replay_error.specs.declared.error.ReplayError.TheVariants.{Log, NoMemory}

abbrev pub of_log : LogError → ReplayError
of_log log.NoMemory = NoMemory
of_log e = Log e
