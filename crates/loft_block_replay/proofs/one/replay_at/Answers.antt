use Rattle.std.proofs.Common.{◌≡◌, ◌<◌, ℕ, List, ◌++◌, Some, Ok, length, min, take, sym, ap, subst, ◌∙◌}
use Rattle.std.specs.Prelude.{slice_get}
use Rattle.std.specs.List.{flat_map}
use Rattle.loft_report_shape.specs.declared.raw.RawBlock.{RawBlock}
use Rattle.loft_report_shape.specs.Text.{head_text, block_text}
use Rattle.loft_report_reader.specs.Answer.{report_in}
use Rattle.loft_standing.specs.Stops.{tree_of}
use Rattle.loft_replay_error.specs.Difference.{DifferAt}
use Rattle.loft_raw_block.specs.Offsets.{last_place}
use Rattle.loft_block_replay.specs.Answer.{offset_of_block, HasCause}
use Rattle.loft_block_replay.proofs.RangeLemmas.{limits_in_range}
use Rattle.loft_block_replay.proofs.AnswerLemmas.{got_some, stopped_ends, whole_ends, difference_none, difference_some, capped, stopped_cause, stopped_exact, right_cause, right_exact, other_cause, other_exact}
use Rattle.loft_block_replay.proofs.one.replay_at.Goals as goal

pub replay_block-requires : goal.replay_block-requires
replay_block-requires c = limits_in_range (report_in c.args.r.now) c.args.r.now.shaped c.options_of_reports_are_in_range.ensures

pub returns-in-Stopped-clause-cause : goal.returns-in-Stopped-clause-cause
returns-in-Stopped-clause-cause c =
    let x = tree_of c.args.p.now in
    let r = report_in c.args.r.now in
    let s = c.args.s in
    let index = c.args.index in
    let block = c.index-blocks-index.result in
    let below : index < length c.as_slice-blocks.result.now = subst (λ (bs : List RawBlock). index < length bs) (sym c.as_slice-blocks.ensures) c.requires.within in
    let there = subst (λ (bs : List RawBlock). slice_get bs index ≡ Some block) c.as_slice-blocks.ensures (got_some c.as_slice-blocks.result.now index block below c.index-blocks-index.is) in
    let stop = stopped_ends x r.options.limits s block.instants c.as_slice.result.now _ c.in-Stopped.entry c.as_slice.ensures c.in-Stopped.is c.in_ok-entry.ensures in
    stopped_cause x r s index block c.requires.first there c.in-Stopped.entry stop

pub returns-in-Stopped-clause-exact : goal.returns-in-Stopped-clause-exact
returns-in-Stopped-clause-exact c answer is =
    let x = tree_of c.args.p.now in
    let r = report_in c.args.r.now in
    let s = c.args.s in
    let index = c.args.index in
    let block = c.index-blocks-index.result in
    let below : index < length c.as_slice-blocks.result.now = subst (λ (bs : List RawBlock). index < length bs) (sym c.as_slice-blocks.ensures) c.requires.within in
    let there = subst (λ (bs : List RawBlock). slice_get bs index ≡ Some block) c.as_slice-blocks.ensures (got_some c.as_slice-blocks.result.now index block below c.index-blocks-index.is) in
    let stop = stopped_ends x r.options.limits s block.instants c.as_slice.result.now _ c.in-Stopped.entry c.as_slice.ensures c.in-Stopped.is c.in_ok-entry.ensures in
    stopped_exact x r s index block c.requires.first there c.in-Stopped.entry stop answer is

pub returns-in-None-clause-cause : goal.returns-in-None-clause-cause
returns-in-None-clause-cause c =
    let x = tree_of c.args.p.now in
    let r = report_in c.args.r.now in
    let s = c.args.s in
    let index = c.args.index in
    let block = c.index-blocks-index.result in
    let below : index < length c.as_slice-blocks.result.now = subst (λ (bs : List RawBlock). index < length bs) (sym c.as_slice-blocks.ensures) c.requires.within in
    let there = subst (λ (bs : List RawBlock). slice_get bs index ≡ Some block) c.as_slice-blocks.ensures (got_some c.as_slice-blocks.result.now index block below c.index-blocks-index.is) in
    let bytes = c.in-Whole.bytes in
    let whole = whole_ends x r.options.limits s block.instants c.as_slice.result.now _ bytes c.as_slice.ensures c.in-Whole.is c.in_ok-entry.ensures in
    let same = difference_none (block_text block) c.as_slice-in-Whole.result.now c.first_difference.result c.in-None.is c.first_difference.ensures ∙ c.as_slice-in-Whole.ensures in
    subst (λ (b : List ℕ). HasCause x r s (Ok b)) (sym c.into_vec.ensures) (right_cause x r s index block c.requires.first there bytes whole same)

pub returns-in-None-clause-exact : goal.returns-in-None-clause-exact
returns-in-None-clause-exact c answer is =
    let x = tree_of c.args.p.now in
    let r = report_in c.args.r.now in
    let s = c.args.s in
    let index = c.args.index in
    let block = c.index-blocks-index.result in
    let below : index < length c.as_slice-blocks.result.now = subst (λ (bs : List RawBlock). index < length bs) (sym c.as_slice-blocks.ensures) c.requires.within in
    let there = subst (λ (bs : List RawBlock). slice_get bs index ≡ Some block) c.as_slice-blocks.ensures (got_some c.as_slice-blocks.result.now index block below c.index-blocks-index.is) in
    let bytes = c.in-Whole.bytes in
    let whole = whole_ends x r.options.limits s block.instants c.as_slice.result.now _ bytes c.as_slice.ensures c.in-Whole.is c.in_ok-entry.ensures in
    let same = difference_none (block_text block) c.as_slice-in-Whole.result.now c.first_difference.result c.in-None.is c.first_difference.ensures ∙ c.as_slice-in-Whole.ensures in
    ap (λ (b : List ℕ). Ok b) c.into_vec.ensures ∙ right_exact x r s index block c.requires.first there bytes whole same answer is

pub returns-in-Some-clause-cause : goal.returns-in-Some-clause-cause
returns-in-Some-clause-cause c =
    let x = tree_of c.args.p.now in
    let r = report_in c.args.r.now in
    let s = c.args.s in
    let index = c.args.index in
    let block = c.index-blocks-index.result in
    let below : index < length c.as_slice-blocks.result.now = subst (λ (bs : List RawBlock). index < length bs) (sym c.as_slice-blocks.ensures) c.requires.within in
    let there = subst (λ (bs : List RawBlock). slice_get bs index ≡ Some block) c.as_slice-blocks.ensures (got_some c.as_slice-blocks.result.now index block below c.index-blocks-index.is) in
    let bytes = c.in-Whole.bytes in
    let whole = whole_ends x r.options.limits s block.instants c.as_slice.result.now _ bytes c.as_slice.ensures c.in-Whole.is c.in_ok-entry.ensures in
    let differ = subst (λ (t : List ℕ). DifferAt (block_text block) t c.in-Some.byte) c.as_slice-in-Whole.ensures (difference_some (block_text block) c.as_slice-in-Whole.result.now c.first_difference.result c.in-Some.byte c.in-Some.is c.first_difference.ensures) in
    let before = c.offset_after.ensures ∙ ap (λ (bs : List RawBlock). min last_place (length (head_text r ++ flat_map block_text (take index bs)))) c.as_slice-blocks.ensures in
    let at = capped (offset_of_block r index) c.in-Some.byte c.offset_after.result c.saturating_add.result before c.saturating_add.ensures in
    other_cause x r s index block c.requires.first there bytes c.in-Some.byte c.saturating_add.result whole differ at

pub returns-in-Some-clause-exact : goal.returns-in-Some-clause-exact
returns-in-Some-clause-exact c answer is =
    let x = tree_of c.args.p.now in
    let r = report_in c.args.r.now in
    let s = c.args.s in
    let index = c.args.index in
    let block = c.index-blocks-index.result in
    let below : index < length c.as_slice-blocks.result.now = subst (λ (bs : List RawBlock). index < length bs) (sym c.as_slice-blocks.ensures) c.requires.within in
    let there = subst (λ (bs : List RawBlock). slice_get bs index ≡ Some block) c.as_slice-blocks.ensures (got_some c.as_slice-blocks.result.now index block below c.index-blocks-index.is) in
    let bytes = c.in-Whole.bytes in
    let whole = whole_ends x r.options.limits s block.instants c.as_slice.result.now _ bytes c.as_slice.ensures c.in-Whole.is c.in_ok-entry.ensures in
    let differ = subst (λ (t : List ℕ). DifferAt (block_text block) t c.in-Some.byte) c.as_slice-in-Whole.ensures (difference_some (block_text block) c.as_slice-in-Whole.result.now c.first_difference.result c.in-Some.byte c.in-Some.is c.first_difference.ensures) in
    let before = c.offset_after.ensures ∙ ap (λ (bs : List RawBlock). min last_place (length (head_text r ++ flat_map block_text (take index bs)))) c.as_slice-blocks.ensures in
    let at = capped (offset_of_block r index) c.in-Some.byte c.offset_after.result c.saturating_add.result before c.saturating_add.ensures in
    other_exact x r s index block c.requires.first there bytes c.in-Some.byte c.saturating_add.result whole differ at answer is
