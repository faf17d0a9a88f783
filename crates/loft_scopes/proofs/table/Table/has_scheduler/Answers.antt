use Rattle.std.proofs.Common.{◌∙◌, sym, ap}
use Rattle.std.specs.List.{list_any}
use Rattle.loft_scopes.specs.Faults.{declares_scheduler, is_scheduler}
use Rattle.loft_scopes.specs.Tables.{declared_of, sort_of}
use Rattle.loft_scopes.proofs.Positions.{list_any-map}
use Rattle.loft_scopes.proofs.table.Table.has_scheduler.Goals as goal

pub returns : goal.returns
returns c =
    c.any_scheduler.ensures ∙ ap (λ xs. list_any (λ d. is_scheduler (sort_of d.sort)) xs) c.deref.ensures.value
    ∙ sym (list_any-map declares_scheduler declared_of c.self.inside.entries.items) ∙ ap (λ ds. list_any declares_scheduler ds) c.self.view_is
