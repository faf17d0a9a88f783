use Rattle.std.proofs.Common.{◌≡◌, ◌+◌, ◌<◌, ◌≤◌, ◌++◌, List, length, map, drop, get_or, refl, sym, ap, subst, ◌∙◌, arith}
use Rattle.loft_tree.specs.View.{declaration_of, source_of}
use Rattle.loft_tree.specs.declared.program.Item.{Item}
use Rattle.loft_name_faults.proofs.Uses.{next_module-le}
use Rattle.loft_scopes.specs.Modules.{next_module}
use Rattle.loft_code.specs.View.{lines_of}
use Rattle.loft_listing_draft.specs.Drafts.{operations_of}
use Rattle.loft_listing_draft.specs.InMemory.{held_operation}
use Rattle.loft_listing_reader.specs.Numbered.{module_lines, modules_from}
use Rattle.loft_listing_reader.proofs.Items.{Left, held_in, next_held, all_done, same_length, few_held}
use Rattle.loft_listing_reader.proofs.module.modules_code.Goals as goal

pub put_item-requires-clause-few : goal.put_item-requires-clause-few
put_item-requires-clause-few c =
    let few = few_held c.args.draft.now c.requires in
    let lt : c.loop-index.index < length c.args.draft.now.items.items = subst (λ (xs : List Item). c.loop-index.index < length xs) c.deref-item-items.ensures.value c.loop-index-test.true in
    let le = c.loop-index.invariant.few in
    omega arith

pub returns : goal.returns
returns c d memory =
    let long : length c.args.draft.now.items.items ≤ c.loop-index.index = subst (λ (xs : List Item). length xs ≤ c.loop-index.index) c.deref-item-items.ensures.value c.loop-index-test.false in
    all_done (λ m x. module_lines c.args.table.now m x.declaration x.operations) (modules_from c.args.table.now) (λ m. refl) (λ m x xs. refl) d
    c.args.draft.now.items.items c.loop-index.index _ _ _ long (c.loop-index.invariant.left d memory)

pub loop-index-preserved : goal.loop-index-preserved
loop-index-preserved c =
    let i = c.loop-index.index in
    let number = length c.loop-index.code.items in
    let ds = c.args.table.now in
    let items = c.args.draft.now.items.items in
    let operations = c.args.draft.now.operations.items in
    let item = c.item-item.result in
    let value = c.deref-item-items.ensures.value in
    let lt : i < length items = subst (λ (xs : List Item). i < length xs) value c.loop-index-test.true in
    let is : item ≡ get_or items i item = c.item-item.is ∙ ap (λ (xs : List Item). get_or xs i item) value in
    let same = same_length c.args.draft.now c.requires in
    let counted : length c.put_item.new.code.items ≡ next_module number (declaration_of item) = c.in_ok-put_item.ensures.counted in
    record {
      few = let le = next_module-le number (declaration_of item) in let few = c.loop-index.invariant.few in omega (arith, counted);
      left = λ d memory.
          let next = next_held (λ m x. module_lines ds m x.declaration x.operations) (modules_from ds) (λ m. refl) (λ m x xs. refl) d
          items operations i item c.index.result.now number (map lines_of c.loop-index.code.items) lt is (omega (arith, same, lt)) c.index.ensures (c.loop-index.invariant.left d memory) in
          let held : map held_operation c.as_slice.result.now ≡ operations_of next.item = ap (map held_operation) c.as_slice.ensures.value ∙ next.written in
          let put = c.in_ok-put_item.ensures.item next.item next.declares held in
          subst (λ ls. Left (λ m x. module_lines ds m x.declaration x.operations) (modules_from ds) (λ m. refl) (λ m x xs. refl) d (source_of (drop (i + 1) items)) (held_in (drop (i + 1) operations))
          (length c.put_item.new.code.items) ls) (sym put)
          (subst (λ n. Left (λ m x. module_lines ds m x.declaration x.operations) (modules_from ds) (λ m. refl) (λ m x xs. refl) d (source_of (drop (i + 1) items)) (held_in (drop (i + 1) operations)) n
          (map lines_of c.loop-index.code.items ++ module_lines ds number next.item.declaration next.item.operations)) (sym counted) next.left);
    }
