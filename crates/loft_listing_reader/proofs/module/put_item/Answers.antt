use Rattle.std.proofs.Common.{◌≡◌, [], ◌∷◌, ◌++◌, length, map, sym, ap, ◌∙◌, arith}
use Rattle.std.proofs.lemmas.List.{map-append}
use Rattle.loft_tree.specs.Source.{Module}
use Rattle.loft_tree.specs.View.{declaration_of, head_of, named_of, statements_of}
use Rattle.loft_scopes.specs.declared.scope.Scope.TheVariants.{Within}
use Rattle.loft_code.specs.View.{lines_of}
use Rattle.loft_listing_reader.proofs.Coding.{held_line, module_said}
use Rattle.loft_listing_reader.proofs.module.put_item.Goals as goal

pub returns-in_ok-push-clause-item : goal.returns-in_ok-push-clause-item
returns-in_ok-push-clause-item c i declares is =
    let ds = c.args.table.now in
    let before = c.args.code.now.items in
    let held = c.args.operations.now in
    let m = c.in-Module in
    let first : Module (head_of m.head) (map named_of m.locals.items) (statements_of m.body.items) ≡ i.declaration = ap declaration_of (sym m.is) ∙ declares in
    let number : c.len.result ≡ length before = omega (arith, c.len.ensures, c.args.code.now.ok.0) in
    let code : lines_of c.in_ok-module_code.field-0 ≡ map (held_line ds (Within (length before))) held =
    c.in_ok-module_code.ensures ∙ ap (λ n. map (held_line ds (Within n)) held) number in
    ap (map lines_of) c.in_ok-push.ensures.items ∙ map-append lines_of before (c.in_ok-module_code.field-0 ∷ [])
    ∙ ap (λ ls. map lines_of before ++ ls)
    (ap (λ ls. ls ∷ []) code ∙ module_said ds (length before) (head_of m.head) (map named_of m.locals.items) (statements_of m.body.items) i held first is)
