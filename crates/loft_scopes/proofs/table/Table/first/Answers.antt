use Rattle.std.proofs.Common.{◌≡◌, ◌∙◌, ap, map, length, arith}
use Rattle.std.proofs.lemmas.List.{length-map}
use Rattle.loft_scopes.specs.Tables.{declared_of, is_sought}
use Rattle.std.specs.List.{position_or_len}
use Rattle.loft_scopes.proofs.Keys.{first_found}
use Rattle.loft_scopes.proofs.table.Table.first.Goals as goal

pub returns : goal.returns
returns c =
    let long : c.len.result ≡ length (map declared_of c.self.inside.entries.items) = omega (arith, length-map c.self.inside.entries.items declared_of) in
    c.unwrap_or.ensures
    ∙ first_found c.self.inside.firsts (map declared_of c.self.inside.entries.items) (c.args.reach, c.text.result) c.args.name.now.text c.copied-position.result c.len.result
    (c.copied-position.ensures ∙ c.get.ensures.value) c.self.invariant long c.text.ensures
    ∙ ap (λ ds. position_or_len (is_sought c.args.reach c.args.name.now.text) ds) c.self.view_is
