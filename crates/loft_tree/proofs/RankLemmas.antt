-- The ranks of shared variables, by the numbers of these.
use Rattle.std.proofs.Common.{◌≡◌, ℕ, ◌<◌, ◌≤◌, List, Option, Some, length, map, slice_get, sym, ap, ◌∙◌, subst, arith}
use Rattle.std.specs.Prelude.{take, filter}
use Rattle.std.specs.List.{range_with_len}
use Rattle.std.specs.Option.{option_map_or}
use Rattle.std.proofs.lemmas.List.FromFn.{get_or-map-range_with_len, length-map-range_with_len}
use Rattle.std.proofs.lemmas.Option.{get_or_from_slice_get, slice_get_past, slice_get_within}
use Rattle.loft_tree.specs.declared.heads.SharedHead.{SharedHead}
use Rattle.loft_tree.specs.Ranks.{is_at, rank_in}

abbrev pub ranks_of : List SharedHead → List ℕ
ranks_of xs = map (rank_in xs) (range_with_len 0 (length xs))

many : (xs : List SharedHead) (ranks : List ℕ) → ranks ≡ ranks_of xs → length ranks ≡ length xs
many xs ranks are = ap length are ∙ length-map-range_with_len (rank_in xs) 0 (length xs)

-- what stands at a number is its rank
pub rank_found : (xs : List SharedHead) (ranks : List ℕ) (k r : ℕ) → ranks ≡ ranks_of xs → slice_get ranks k ≡ Some r → r ≡ rank_in xs k
rank_found xs ranks k r are found =
    let within : k < length xs = omega (arith, slice_get_within ranks k r found, many xs ranks are) in
    sym (get_or_from_slice_get (ranks_of xs) k r 0 (subst (λ (l : List ℕ). slice_get l k ≡ Some r) are found))
    ∙ get_or-map-range_with_len (rank_in xs) 0 (length xs) k k 0 within (omega arith)

no_rank : (xs : List SharedHead) (k : ℕ) → length xs ≤ k → 0 ≡ rank_in xs k
no_rank xs k past = sym (ap (λ (o : Option SharedHead). option_map_or (λ v. length (filter (is_at v.scheduler) (take k xs))) o 0) (slice_get_past xs k past))

-- where there are no more ranks there is no variable with that number
pub rank_missing : (xs : List SharedHead) (ranks : List ℕ) (k : ℕ) → ranks ≡ ranks_of xs → length ranks ≤ k → 0 ≡ rank_in xs k
rank_missing xs ranks k are past = no_rank xs k (omega (arith, past, many xs ranks are))
