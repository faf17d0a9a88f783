-- The options of a run of code.
use Rattle.std.specs.Prelude.{ℕ}
use Rattle.loft_base.specs.declared.options.Limits.{Limits}
use Rattle.loft_base.specs.declared.options.RunOptions.{RunOptions}

-- these limits, and so many workers
abbrev pub options_of : Limits → ℕ → RunOptions
options_of limits workers = record { limits = limits; workers = workers }
