-- The ranges of a command's numbers (docs/LANGUAGE.md, "Limits"; docs/GENERATED.md).
use Rattle.std.specs.Prelude.{◌≤◌}
use Rattle.loft_base.specs.Options.{AreInRange}
use Rattle.loft_gen.specs.declared.source.TheConstants.{GENERATED_MAX}
use Rattle.loft_arguments.specs.Command.{FileCommand, Run, Exec, Show, Check, Compile, Bound, Expand, Command, OfFile, Replay, Gen, GenRun}

-- the numbers of a command have their ranges
abbrev pub KeepsRanges : FileCommand → Type 0
KeepsRanges (Run file options) = AreInRange options
KeepsRanges (Exec file options) = AreInRange options
KeepsRanges (Show file) = Unit {0}
KeepsRanges (Check file) = Unit {0}
KeepsRanges (Compile file) = Unit {0}
KeepsRanges (Bound file) = Unit {0}
KeepsRanges (Expand file) = Unit {0}

abbrev pub IsInRanges : Command → Type 0
IsInRanges (OfFile c) = KeepsRanges c
IsInRanges (Replay source report only) = Unit {0}
IsInRanges (Gen number) = (1 ≤ number) × (number ≤ GENERATED_MAX)
IsInRanges (GenRun number) = (1 ≤ number) × (number ≤ GENERATED_MAX)
