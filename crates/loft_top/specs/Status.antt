-- How the program may end (docs/COMMANDS.md, "Statuses").
use Rattle.std.specs.Prelude.{ℕ, Result, Ok, Err}
use Rattle.loft_base.specs.declared.writing.WriteError.{WriteError}
use Rattle.loft_base.specs.declared.writing.WriteError.TheVariants as write
use Rattle.loft_top.specs.declared.status.Status.{Status}
use Rattle.loft_top.specs.declared.status.Status.TheVariants.{Done, Usage, Source, Log, FileFault, SinkFault, NoMemory}

-- the number with which the program ends
abbrev pub code_of : Status → ℕ
code_of Done = 0
code_of Usage = 2
code_of Source = 3
code_of Log = 4
code_of FileFault = 5
code_of SinkFault = 6
code_of NoMemory = 7

-- a source, a listing or a text with locks is refused, unless a file or the sink fails or the program is out of memory
abbrev pub IsRefusedStatus : Status → Type 0
IsRefusedStatus Done = ⊥
IsRefusedStatus Usage = ⊥
IsRefusedStatus Source = Unit {0}
IsRefusedStatus Log = ⊥
IsRefusedStatus FileFault = Unit {0}
IsRefusedStatus SinkFault = Unit {0}
IsRefusedStatus NoMemory = Unit {0}

-- a report is refused, unless a file or the sink fails or the program is out of memory
abbrev pub IsLogRefused : Status → Type 0
IsLogRefused Done = ⊥
IsLogRefused Usage = ⊥
IsLogRefused Source = ⊥
IsLogRefused Log = Unit {0}
IsLogRefused FileFault = Unit {0}
IsLogRefused SinkFault = Unit {0}
IsLogRefused NoMemory = Unit {0}

-- contents are answered, unless a file or the sink fails or the program is out of memory
abbrev pub IsAccepted : Status → Type 0
IsAccepted Done = Unit {0}
IsAccepted Usage = ⊥
IsAccepted Source = ⊥
IsAccepted Log = ⊥
IsAccepted FileFault = Unit {0}
IsAccepted SinkFault = Unit {0}
IsAccepted NoMemory = Unit {0}

-- how a command ends whose text was written so, where it ends with this status if the text is whole
abbrev pub status_of_write : Status → Result (Unit {0}) WriteError → Status
status_of_write whole (Ok done) = whole
status_of_write whole (Err write.Sink) = SinkFault
status_of_write whole (Err write.NoMemory) = NoMemory
