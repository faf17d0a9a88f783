use Rattle.std.proofs.Common.{◌-◌, ◌<◌, length, take, drop, arith, ◌∙◌}
use Rattle.loft_lock_pairs.proofs.MarkLemmas.{rising_front, rising_behind, told_middle, told_before, told_behind, tail_shorter}
use Rattle.loft_lock_pairs.proofs.marks.+use_at.Goals as goal

pub use_at-requires : goal.use_at-requires
use_at-requires t c =
    let shorter : length c.split_at.result.0.now < length c.args.marks.now =
    omega (arith, c.split_at.ensures.front_len, c.split_at.ensures.back_len, c.in-len1-up.len_at_least) in
    (omega (arith, shorter, c.decreases), rising_front c.args.marks.now c.split_at.result.0.now c.split_at.result.1.now c.split_at.ensures.by_index.0 c.requires)

pub use_at-requires-else-at-mark : goal.use_at-requires-else-at-mark
use_at-requires-else-at-mark t c =
    let rest = c.split_at.result.1.now in
    let shorter : length (take (length c.split_at.result.1.now - 1) (drop 1 c.split_at.result.1.now)) < length c.args.marks.now =
    omega (arith, tail_shorter c.split_at.result.1.now c.in-len1-up.len_at_least, c.split_at.ensures.back_len) in
    (omega (arith, shorter, c.decreases), rising_behind c.args.marks.now c.split_at.result.0.now rest c.split_at.ensures.by_index.0 c.in-len1-up.len_at_least c.requires)

pub returns-then-mark-at : goal.returns-then-mark-at
returns-then-mark-at t c =
    told_middle c.args.marks.now c.split_at.result.0.now c.split_at.result.1.now _ c.args.at c.split_at.ensures.by_index.0 c.in-len1-up.len_at_least c.requires c.if-mark-at.true

pub returns-then-at-mark : goal.returns-then-at-mark
returns-then-at-mark t c =
    c.use_at.ensures ∙ told_before c.args.marks.now c.split_at.result.0.now c.split_at.result.1.now _ c.args.at c.split_at.ensures.by_index.0 c.in-len1-up.len_at_least c.requires c.if-at-mark.true

pub returns-else-at-mark : goal.returns-else-at-mark
returns-else-at-mark t c =
    c.use_at-else-at-mark.ensures
    ∙ told_behind c.args.marks.now c.split_at.result.0.now c.split_at.result.1.now _ c.args.at c.split_at.ensures.by_index.0 c.in-len1-up.len_at_least c.requires c.if-mark-at.false c.if-at-mark.false
