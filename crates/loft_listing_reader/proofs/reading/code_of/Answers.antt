use Rattle.std.proofs.Common.{◌≡◌, ◌<◌, ◌^◌, List, length, sym, ap, subst, ◌∙◌}
use Rattle.loft_tree.specs.View as view
use Rattle.loft_tree.specs.declared.program.Item.{Item}
use Rattle.loft_numbers.specs.Numbers.{heads_of}
use Rattle.loft_code.specs.Fits.{RawFits}
use Rattle.loft_code.specs.Operations.{Automata}
use Rattle.loft_code.specs.View.{code_of}
use Rattle.loft_listing_reader.specs.Numbered.{numbered}
use Rattle.loft_listing_reader.proofs.Items.{few_held}
use Rattle.loft_listing_reader.proofs.Judging.{code_known}
use Rattle.loft_listing_reader.proofs.KeepsCode.{numbered_keeps}
use Rattle.loft_listing_reader.proofs.reading.code_of.Goals as goal

pub heads-requires : goal.heads-requires
heads-requires c =
    let (d, fits, memory, right) = c.requires.right in
    subst (λ (xs : List Item). length xs < 2 ^ 32) (sym c.as_slice.ensures.value) (few_held c.args.draft.now (d, fits, memory))

pub new-requires : goal.new-requires
new-requires c =
    let (d, fits, memory, right) = c.requires.right in
    let heads : c.in_ok-heads.heads ≡ heads_of c.args.table.now (view.source_of c.args.draft.now.items.items) =
    c.in_ok-heads.ensures ∙ ap (λ (xs : List Item). heads_of c.args.table.now (view.source_of xs)) c.as_slice.ensures.value in
    let is : code_of c.in_ok-heads.heads c.in_ok-modules.modules.items ≡ numbered d =
    code_known c.args.table.now (view.source_of c.args.draft.now.items.items) d c.requires.table memory.items c.in_ok-heads.heads c.in_ok-modules.modules.items heads (c.in_ok-modules.ensures d memory) in
    subst (λ (a : Automata). RawFits a) (sym is) (numbered_keeps d fits right)
