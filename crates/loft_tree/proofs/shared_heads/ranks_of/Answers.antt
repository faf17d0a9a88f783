use Rattle.std.proofs.Common.{ℕ, List, [], ◌∷◌, ◌++◌, map, sym, ap, ◌∙◌, arith}
use Rattle.std.specs.List.{range_with_len}
use Rattle.std.proofs.lemmas.List.FromFn.{map-range_with_len_more}
use Rattle.loft_tree.specs.Ranks.{rank_in}
use Rattle.loft_tree.proofs.shared_heads.ranks_of.Goals as goal

pub loop-number-preserved : goal.loop-number-preserved
loop-number-preserved c =
    let f : ℕ → ℕ = rank_in c.args.heads.now in
    let n : ℕ = c.loop-number.number in
    c.in_ok-push.ensures.items
    ∙ ap (λ (l : List ℕ). l ++ c.rank_of.result ∷ []) c.loop-number.invariant
    ∙ ap (λ (r : ℕ). map f (range_with_len 0 n) ++ r ∷ []) c.rank_of.ensures
    ∙ sym (map-range_with_len_more f 0 n n (omega arith))
