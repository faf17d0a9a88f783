use Rattle.std.proofs.Common.{◌∙◌, sym, ap}
use Rattle.std.proofs.lemmas.Option.{slice_get-map}
use Rattle.std.specs.Option.{option_map}
use Rattle.std.specs.Prelude.{slice_get}
use Rattle.loft_scopes.specs.Tables.{declared_of}
use Rattle.loft_scopes.proofs.Keys.{got, meaning_at}
use Rattle.loft_scopes.proofs.table.Table.meaning.Goals as goal

pub returns : goal.returns
returns c =
    ap (option_map declared_of) (c.copied.ensures ∙ got c.get.result c.deref.result.now c.min.result c.get.ensures.lookup.0 c.get.ensures.lookup.1 ∙ ap (λ xs. slice_get xs c.min.result) c.deref.ensures.value)
    ∙ sym (slice_get-map declared_of c.self.inside.entries.items c.min.result)
    ∙ rw (c.self.view_is, c.min.ensures, c.first-everywhere.ensures, c.first-here.ensures) (meaning_at c.args.self.now c.args.scope c.args.name.now)
