-- What a grammar has to show of its sets of spellings, and of the test that tells how far a spelling goes.
use Rattle.std.proofs.Common.{◌≡◌, ℕ, true, false, List, [], ◌∷◌, ◌++◌}
use Rattle.loft_spelling.specs.Script.{Script}
use Rattle.loft_spelling.specs.Stops.{IsBegun}
use Rattle.loft_spelling.specs.Reading.{Test}

-- The test tells exactly which bytes go on with a spelling. No spelling is empty, each place that isn't over has one, and one that is over has none.
pub record Tested (S : Script) (takes : Test S) : Type 0 where
  pub goes_on : (at : S.Place) (w : List ℕ) (b : ℕ) → IsBegun S at w → takes at w b ≡ true → IsBegun S at (w ++ b ∷ [])
  pub only : (at : S.Place) (w : List ℕ) (b : ℕ) → IsBegun S at (w ++ b ∷ []) → takes at w b ≡ true
  pub some : (at : S.Place) → S.whole at [] ≡ false
  pub live : (at : S.Place) → S.over at ≡ false → IsBegun S at []
  pub closed : (at : S.Place) → S.over at ≡ true → (w : List ℕ) → S.whole at w ≡ false
  pub none : (at : S.Place) → S.over at ≡ true → (w : List ℕ) (b : ℕ) → takes at w b ≡ false
