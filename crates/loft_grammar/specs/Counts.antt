-- Counting, and the limits (docs/LANGUAGE.md, "Limits").
use Rattle.std.specs.Prelude.{ℕ, ◌^◌, ◌-◌}
use Rattle.loft_tree.specs.declared.limits.TheConstants.{MAX_SCHEDULERS, MAX_EVENTS, MAX_SHARED, MAX_MODULES, MAX_STARTS, MAX_CLIENTS, MAX_ORDERS, MAX_PARAMETERS, MAX_LOCALS, MAX_STATEMENTS, MAX_OPERANDS, MAX_ARGUMENTS, MAX_CHOICES}
use Rattle.loft_grammar.specs.declared.counts.Counted.{Counted}
use Rattle.loft_grammar.specs.declared.counts.Counted.TheVariants.{Scheduler, Event, Shared, Module, Start, Client, Order, Parameter, Local, Statement, Operand, Argument, Choice}
use Rattle.loft_grammar.specs.declared.counts.Counts.{Counts}

-- how many there may be
abbrev pub most : Counted → ℕ
most Scheduler = MAX_SCHEDULERS
most Event = MAX_EVENTS
most Shared = MAX_SHARED
most Module = MAX_MODULES
most Start = MAX_STARTS
most Client = MAX_CLIENTS
most Order = MAX_ORDERS
most Parameter = MAX_PARAMETERS
most Local = MAX_LOCALS
most Statement = MAX_STATEMENTS
most Operand = MAX_OPERANDS
most Argument = MAX_ARGUMENTS
most Choice = MAX_CHOICES

-- the largest number of them that can be counted
abbrev pub largest : Counted → ℕ
largest Statement = 2 ^ 32 - 1
largest Argument = 2 ^ 32 - 1
largest Choice = 2 ^ 32 - 1
largest _ = 2 ^ 16 - 1

-- how many there were
abbrev pub number : Counted → Counts → ℕ
number Scheduler c = c.schedulers
number Event c = c.events
number Shared c = c.shared
number Module c = c.modules
number Start c = c.starts
number Client c = c.clients
number Order c = c.orders
number Parameter c = c.parameters
number Local c = c.locals
number Statement c = c.statements
number Operand c = c.operands
number Argument c = c.arguments
number Choice c = c.choices

-- the counts, with n of these
abbrev pub put : Counted → ℕ → Counts → Counts
put Scheduler n c = record c { schedulers = n }
put Event n c = record c { events = n }
put Shared n c = record c { shared = n }
put Module n c = record c { modules = n }
put Start n c = record c { starts = n }
put Client n c = record c { clients = n }
put Order n c = record c { orders = n }
put Parameter n c = record c { parameters = n }
put Local n c = record c { locals = n }
put Statement n c = record c { statements = n }
put Operand n c = record c { operands = n }
put Argument n c = record c { arguments = n }
put Choice n c = record c { choices = n }

-- nothing is counted yet
abbrev pub none : Counts
none = record { schedulers = 0; events = 0; shared = 0; modules = 0; starts = 0; clients = 0; orders = 0; parameters = 0; locals = 0; statements = 0; operands = 0; arguments = 0; choices = 0 }
