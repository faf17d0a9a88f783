-- The lines by which the command `replay` refuses (docs/COMMANDS.md, "Fault lines"); of a source by `line_of`.
use Rattle.std.specs.Prelude.{ℕ, List, [], ◌++◌, codes}
use Rattle.std.specs.Fmt.{decimal}
use Rattle.loft_report_reader.specs.declared.error.LogError.{LogError}
use Rattle.loft_report_reader.specs.declared.error.LogError.TheVariants as log
use Rattle.loft_replay_command.specs.declared.refusal.LogRefusal.{LogRefusal}
use Rattle.loft_replay_command.specs.declared.refusal.LogRefusal.TheVariants.{NoReport, Entry, Instant, Byte}

-- the source has no scheduler of the name
abbrev pub unknown_scheduler_line : List ℕ
unknown_scheduler_line = codes "source: unknown scheduler"

-- the line of a text that isn't a report; out of memory has none
abbrev pub report_line : LogError → List ℕ
report_line (log.Line n byte) = codes "log: line " ++ (decimal n ++ (codes ", byte " ++ decimal byte))
report_line (log.Ends byte) = codes "log: ends at byte " ++ decimal byte
report_line log.TooLong = codes "log: too long"
report_line log.NoMemory = []

-- the line of a report that is refused
abbrev pub log_line : LogRefusal → List ℕ
log_line (NoReport e) = report_line e
log_line (Entry n) = codes "log: entry " ++ (decimal n ++ codes " not allowed")
log_line (Instant n) = codes "log: instant " ++ (decimal n ++ codes " not allowed")
log_line (Byte byte) = codes "log: differs at byte " ++ decimal byte
