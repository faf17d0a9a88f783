-- Choices with the names of those who make them.
use Rattle.loft_tree.specs.declared.heads.Heads.{Heads}
use Rattle.loft_orders.specs.Text.{client_name, scheduler_name}
use Rattle.loft_history.specs.History.{Choice, TakeBy, GiveBy, PickBy, PostBy, ClientBy}
use Rattle.loft_report_shape.specs.declared.raw.Choice.{Choice as RawChoice}
use Rattle.loft_report_shape.specs.declared.raw.Choice.TheVariants as raw

-- the choice as a report tells it
abbrev pub named : Heads → Choice → RawChoice
named h (TakeBy s) = raw.Take (scheduler_name h s)
named h (GiveBy s) = raw.Give (scheduler_name h s)
named h (PickBy w) = raw.Pick w
named h (PostBy w) = raw.Post w
named h (ClientBy c) = raw.Client (client_name h c)
