use Rattle.std.proofs.Common.{◌≡◌, ◌∙◌, sym, ap, subst, ℕ, map, length, List, arith, ◌∷◌, []}
use Rattle.std.proofs.lemmas.List.{length-map, map-append}
use Rattle.loft_scopes.specs.Scopes.{Declared}
use Rattle.loft_scopes.specs.declared.table.Reach.TheVariants.{Anywhere, In}
use Rattle.loft_scopes.specs.Tables.{declared_of, IndexesFirsts, NotesFirst}
use Rattle.loft_scopes.proofs.Keys.{indexes_more}
use Rattle.loft_scopes.proofs.table.add.Goals as goal

pub returns-clause-firsts : goal.returns-clause-firsts
returns-clause-firsts c =
    let before = c.args.entries.now.items in
    let many : c.len-position.result ≡ length (map declared_of before) = omega (arith, length-map before declared_of) in
    subst (λ (ds : List Declared). IndexesFirsts c.note_first-2.new.firsts ds)
    (sym (ap (map declared_of) c.in_ok-push.ensures.items ∙ map-append declared_of before (c.args.declaration ∷ [])))
    (indexes_more c.args.firsts.now c.note_first.new.firsts c.note_first-2.new.firsts (map declared_of before) (declared_of c.args.declaration)
    c.text-name.result c.text-name.ensures c.requires
    (subst (λ (n : ℕ). NotesFirst c.args.firsts.now c.note_first.new.firsts (Anywhere, c.text-name.result) n) many c.in_ok-note_first.ensures)
    (subst (λ (n : ℕ). NotesFirst c.note_first.new.firsts c.note_first-2.new.firsts (In c.args.declaration.scope, c.text-name.result) n) many c.in_ok-note_first-2.ensures))
