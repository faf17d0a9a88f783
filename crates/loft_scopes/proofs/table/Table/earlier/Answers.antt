use Rattle.std.proofs.Common.{◌∙◌, sym, ap}
use Rattle.std.proofs.lemmas.Option.{slice_get-map}
use Rattle.std.specs.Option.{option_map}
use Rattle.std.specs.Prelude.{slice_get}
use Rattle.loft_scopes.specs.Tables.{declared_of}
use Rattle.loft_scopes.proofs.Keys.{got, earlier_at}
use Rattle.loft_scopes.proofs.table.Table.earlier.Goals as goal

pub returns-in-Everywhere : goal.returns-in-Everywhere
returns-in-Everywhere c =
    ap (option_map declared_of) (c.copied.ensures ∙ got c.get.result c.deref.result.now c.first-position.result c.get.ensures.lookup.0 c.get.ensures.lookup.1 ∙ ap (λ xs. slice_get xs c.first-position.result) c.deref.ensures.value)
    ∙ sym (slice_get-map declared_of c.self.inside.entries.items c.first-position.result)
    ∙ rw (c.self.view_is, c.first-position.ensures) (earlier_at c.args.self.now (declared_of c.args.declaration.now) c.in-Everywhere.is)
