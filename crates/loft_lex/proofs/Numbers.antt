-- Values of digits grow.
use Rattle.std.proofs.Common.{◌≡◌, ℕ, suc, ◌+◌, ◌-◌, ◌*◌, ◌≤◌, ◌<◌, List, [], ◌∷◌, length, get_or, drop, drop-cons, arith}
use Rattle.std.specs.List.{fold}
use Rattle.loft_lex.specs.Bytes.{max_number, value_of}

grows : (v : ℕ) (bs : List ℕ) → v ≤ fold (λ value digit. value * 10 + (digit - 48)) v bs
grows v [] = omega arith
grows v (b ∷ bs) = omega (arith, grows (v * 10 + (b - 48)) bs)

-- a value that is too large stays so
pub too_large : (v i : ℕ) (ds : List ℕ) → i < length ds → max_number < v * 10 + (get_or ds i 0 - 48) → fold (λ value digit. value * 10 + (digit - 48)) v (drop i ds) ≡ value_of ds → max_number < value_of ds
too_large v i ds inside large so_far =
    let bigger : v * 10 + (get_or ds i 0 - 48) ≤ fold (λ value digit. value * 10 + (digit - 48)) v (drop i ds) = rw (drop-cons ds i 0) (grows (v * 10 + (get_or ds i 0 - 48)) (drop (suc i) ds)) in
    omega arith
