use Rattle.std.proofs.Common.{◌≡◌, ◌<◌, ◌-◌, ℕ, List, [], true, false, codes, length, refl, sym, subst, ◌∙◌}
use Rattle.std.specs.List.{flat_map}
use Rattle.loft_replay_error.specs.Difference.{DifferAt}
use Rattle.loft_raw_block.proofs.CompareLemmas.{block_front, left_within, seen_same, seen_other, none_left, some_left}
use Rattle.loft_raw_block.proofs.compare.first_difference.Goals.{else-matched-via-then-matched+else-is_empty, else-matched-via-else-matched}
use Rattle.loft_raw_block.proofs.compare.first_difference.Goals as goal

pub overflow_sub-result : goal.overflow_sub-result
overflow_sub-result c = left_within c.args.text.now c.piece-4.new.self.left.now _ c.piece-4.new.self.is_same (c.piece-4.ensures c.args.text.now _ (c.match_instants.ensures c.args.text.now _ (c.piece-3.ensures c.args.text.now _ (c.piece-2.ensures c.args.text.now _ (c.piece.ensures c.args.text.now [] refl)))))

pub returns-then-is_empty : goal.returns-then-is_empty
returns-then-is_empty c =
    let front = block_front (codes "scheduler ") c.args.block.now.name c.as_slice.result.now (flat_map (λ instant. instant) c.args.block.now.instants) c.args.block.now.last c.as_slice-2.result.now c.as_slice.ensures c.as_slice-2.ensures in
    let none = none_left c.piece-4.new.self.left.now c.is_empty.result c.is_empty.ensures c.if-is_empty.true in
    sym front ∙ seen_same c.args.text.now c.piece-4.new.self.left.now _ c.piece-4.new.self.is_same c.if-matched.true none (c.piece-4.ensures c.args.text.now _ (c.match_instants.ensures c.args.text.now _ (c.piece-3.ensures c.args.text.now _ (c.piece-2.ensures c.args.text.now _ (c.piece.ensures c.args.text.now [] refl)))))

pub returns-else-matched : goal.returns-else-matched
returns-else-matched c =
    let front = block_front (codes "scheduler ") c.args.block.now.name c.as_slice.result.now (flat_map (λ instant. instant) c.args.block.now.instants) c.args.block.now.last c.as_slice-2.result.now c.as_slice.ensures c.as_slice-2.ensures in
    let whole = c.piece-4.ensures c.args.text.now _ (c.match_instants.ensures c.args.text.now _ (c.piece-3.ensures c.args.text.now _ (c.piece-2.ensures c.args.text.now _ (c.piece.ensures c.args.text.now [] refl)))) in
    let some : c.piece-4.new.self.is_same ≡ true → 0 < length c.piece-4.new.self.left.now = elim c.else-matched.branch [
      | else-matched-via-then-matched+else-is_empty w ↦ (λ e. some_left c.piece-4.new.self.left.now w.is_empty.result w.is_empty.ensures w.if-is_empty.false)
      | else-matched-via-else-matched w ↦ (λ e. let f = w.if-matched.false in absurd cc)
    ] in
    subst (λ (l : List ℕ). DifferAt l c.args.text.now (length c.args.text.now - length c.piece-4.new.self.left.now)) front (seen_other c.args.text.now c.piece-4.new.self.left.now _ c.piece-4.new.self.is_same some whole)
