-- How many of each a source may have (docs/LANGUAGE.md, "Limits").
use Rattle.std.specs.Prelude.{ℕ, [], Option, Some, None}
use Rattle.loft_tree.specs.declared.limits.TheConstants.{MAX_NESTING}
use Rattle.loft_form.specs.Form.{Limits, State}
use Rattle.loft_grammar.specs.declared.counts.Counted.{Counted}
use Rattle.loft_grammar.specs.declared.counts.Counted.TheVariants.{Scheduler, Event, Shared, Module, Start, Client, Order, Parameter, Local, Statement, Operand, Argument, Choice}
use Rattle.loft_grammar.specs.Counts.{most, none}
use Rattle.loft_grammar.specs.Language.{Language}

-- all that is counted has a limit
abbrev pub limits : Limits Language
limits = record { most = λ what. Some (most what) }

-- How many there may be in a statement that is a line by itself: as in a source, but as many statements, arguments of a
-- call and events of a `select` as there are.
abbrev pub most_in_line : Counted → Option ℕ
most_in_line Scheduler = Some (most Scheduler)
most_in_line Event = Some (most Event)
most_in_line Shared = Some (most Shared)
most_in_line Module = Some (most Module)
most_in_line Start = Some (most Start)
most_in_line Client = Some (most Client)
most_in_line Order = Some (most Order)
most_in_line Parameter = Some (most Parameter)
most_in_line Local = Some (most Local)
most_in_line Statement = None
most_in_line Operand = Some (most Operand)
most_in_line Argument = None
most_in_line Choice = None

-- the limits of such a line
abbrev pub line_limits : Limits Language
line_limits = record { most = most_in_line }

-- how many nestings may be open
abbrev pub nesting : ℕ
nesting = MAX_NESTING

-- nothing is counted yet
abbrev pub beginning : State Language
beginning = record { counts = none; due = [] }
