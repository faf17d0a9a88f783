use Rattle.std.proofs.Common.{◌≡◌, ◌∙◌, sym, ap, refl, List, Some, None}
use Rattle.std.specs.Prelude.{slice_get}
use Rattle.std.proofs.lemmas.Option.{slice_get_read, slice_get_past}
use Rattle.loft_tree.specs.declared.named.NamedStmt.{NamedStmt}
use Rattle.loft_tree.specs.declared.named.Module.{Module}
use Rattle.loft_tree.specs.NamedView.{statements_of}
use Rattle.loft_tree.specs.Resolved.{body_of}
use Rattle.loft_standing.proofs.Bodies.{body_is, module_body}
use Rattle.loft_standing.proofs.search.body.Goals as goal

pub returns-in-Some-clause-body : goal.returns-in-Some-clause-body
returns-in-Some-clause-body c =
    let there : slice_get c.args.program.now.modules.items c.args.module.0 ≡ Some c.in-Some.module.now =
    sym (ap (λ (ms : List Module). slice_get ms c.args.module.0) c.as_slice.ensures.value)
    ∙ slice_get_read c.as_slice.result.now _ c.args.module.0 c.in-Some.module.now refl c.in-Some.ensures.lookup.3.0 c.in-Some.ensures.lookup.1 in
    ap (λ (ss : List NamedStmt). body_of (statements_of ss)) c.as_slice-in-Some.ensures.value
    ∙ (sym (ap module_body there) ∙ sym (body_is c.args.program.now c.args.module))

pub returns-in-None-clause-body : goal.returns-in-None-clause-body
returns-in-None-clause-body c =
    let gone : slice_get c.args.program.now.modules.items c.args.module.0 ≡ None =
    sym (ap (λ (ms : List Module). slice_get ms c.args.module.0) c.as_slice.ensures.value)
    ∙ slice_get_past c.as_slice.result.now c.args.module.0 c.in-None.ensures.lookup.3 in
    sym (ap module_body gone) ∙ sym (body_is c.args.program.now c.args.module)
