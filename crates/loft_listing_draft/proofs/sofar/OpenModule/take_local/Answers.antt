use Rattle.std.proofs.Common.{◌≡◌, ◌<◌, [], ◌∷◌, ◌++◌, length, map, refl, ap, ◌∙◌, arith}
use Rattle.std.proofs.lemmas.List.{map-append}
use Rattle.loft_tree.specs.View.{named_of}
use Rattle.loft_tree.specs.declared.limits.TheConstants.{MAX_LOCALS}
use Rattle.loft_listing_line.specs.Rows.{Local}
use Rattle.loft_listing_draft.specs.declared.sofar.OpenModule.{OpenModule}
use Rattle.loft_listing_draft.specs.Lined.{variable_at}
use Rattle.loft_listing_draft.proofs.TakenLines.{take_more, with_module, local_goes}
use Rattle.loft_listing_draft.proofs.sofar.OpenModule.take_local.Goals as goal

pub returns-then-len-lt-MAX_LOCALS-clause-taken :
    goal.returns-then-len-lt-MAX_LOCALS-clause-taken
returns-then-len-lt-MAX_LOCALS-clause-taken c w =
    let o = c.args.self in
    let before = o.locals.items in
    let v = variable_at c.args.at (named_of c.args.local.now) in
    let n : OpenModule = record { head = o.head; locals = c.push_to.new.all; operations = o.operations } in
    let put : map named_of c.push_to.new.all.items ≡ map named_of before ++ v ∷ [] =
    ap (map named_of) (c.push_to.ensures.more w) ∙ map-append named_of before (c.variable_at-local.result ∷ [])
    ∙ ap (λ x. map named_of before ++ x ∷ []) (c.variable_at-local.ensures.copy (c.push_to.ensures.before w)) in
    let few : length before < MAX_LOCALS = omega arith in
    take_more (with_module c.args.done o) (with_module c.args.done n) c.args.at (Local v) c.more.result c.more.ensures
    (local_goes c.args.done o n c.args.at v (grind (arith, c.is_empty.ensures, c.if-is_empty.true)) few refl put refl)
