use Rattle.std.proofs.Common.{◌≡◌, ◌+◌, ◌<◌, ◌≤◌, ◌++◌, List, length, map, drop, get_or, refl, sym, ap, subst, ◌∙◌, arith}
use Rattle.loft_tree.specs.View.{declaration_of, source_of}
use Rattle.loft_tree.specs.declared.program.Item.{Item}
use Rattle.loft_name_faults.proofs.Uses.{next_module-le}
use Rattle.loft_scopes.specs.declared.scope.Scope.TheVariants.{Within}
use Rattle.loft_listing_draft.specs.Drafts.{operations_of}
use Rattle.loft_listing_draft.specs.InMemory.{held_operation}
use Rattle.loft_listing_names.specs.Wrong.{modules_wrong, operations_wrong}
use Rattle.loft_listing_reader.specs.AllWrong.{IsLeastOf}
use Rattle.loft_listing_reader.proofs.Items.{Left, held_in, next_held, all_done, same_length, few_held}
use Rattle.loft_listing_reader.proofs.wrong.first_wrong_operation.Goals as goal

pub next_module-number-requires : goal.next_module-number-requires
next_module-number-requires c =
    let few = few_held c.args.draft.now c.requires in
    let lt : c.loop-index.index < length c.args.draft.now.items.items = subst (λ (xs : List Item). c.loop-index.index < length xs) c.deref-item-items.ensures.value c.loop-index-test.true in
    let le = c.loop-index.invariant.few in
    omega arith

pub loop-index-preserved : goal.loop-index-preserved
loop-index-preserved c =
    let i = c.loop-index.index in
    let number = c.loop-index.number in
    let ds = c.args.table.now in
    let items = c.args.draft.now.items.items in
    let operations = c.args.draft.now.operations.items in
    let item = c.item-item.result in
    let value = c.deref-item-items.ensures.value in
    let lt : i < length items = subst (λ (xs : List Item). i < length xs) value c.loop-index-test.true in
    let is : item ≡ get_or items i item = c.item-item.is ∙ ap (λ (xs : List Item). get_or xs i item) value in
    let same = same_length c.args.draft.now c.requires in
    record {
      few = let le = next_module-le number (declaration_of item) in let few = c.loop-index.invariant.few in omega (arith, c.next_module-number.ensures);
      least = λ d memory.
          let (done, least, left) = c.loop-index.invariant.least d memory in
          let next = next_held (λ m x. operations_wrong ds (Within m) (operations_of x)) (modules_wrong ds) (λ m. refl) (λ m x xs. refl) d
          items operations i item c.index.result.now number done lt is (omega (arith, same, lt)) c.index.ensures left in
          let held : map held_operation c.as_slice-operations.result.now ≡ operations_of next.item = ap (map held_operation) c.as_slice-operations.ensures.value ∙ next.written in
          let wrong : IsLeastOf c.first_wrong.result (operations_wrong ds (Within number) (operations_of next.item)) =
          subst (λ os. IsLeastOf c.first_wrong.result (operations_wrong ds (Within number) os)) held c.first_wrong.ensures in (
            done ++ operations_wrong ds (Within number) (operations_of next.item),
            c.earlier-first.ensures done (operations_wrong ds (Within number) (operations_of next.item)) least wrong,
            subst (λ n. Left (λ m x. operations_wrong ds (Within m) (operations_of x)) (modules_wrong ds) (λ m. refl) (λ m x xs. refl) d (source_of (drop (i + 1) items)) (held_in (drop (i + 1) operations)) n
                (done ++ operations_wrong ds (Within number) (operations_of next.item)))
                (sym c.next_module-number.ensures) next.left,
          );
    }

pub returns : goal.returns
returns c d memory =
    let (done, least, left) = c.loop-index.invariant.least d memory in
    let long : length c.args.draft.now.items.items ≤ c.loop-index.index = subst (λ (xs : List Item). length xs ≤ c.loop-index.index) c.deref-item-items.ensures.value c.loop-index-test.false in
    subst (IsLeastOf c.loop-index.first)
    (all_done (λ m x. operations_wrong c.args.table.now (Within m) (operations_of x)) (modules_wrong c.args.table.now) (λ m. refl) (λ m x xs. refl) d
    c.args.draft.now.items.items c.loop-index.index _ c.loop-index.number done long left)
    least
