-- The index of a thread among those that are linked.
use Rattle.std.specs.Prelude.{◌≡◌, ℕ, ◌+◌, ◌<◌, Bool, true, false, List, ◌++◌, take, drop, length, Option, Some, None, slice_get, slice_set}
use Rattle.loft_base.specs.declared.ids.ThreadId.{ThreadId}
use Rattle.loft_sense.specs.Apply.{is_linked, without_first, suspend}
use Rattle.loft_passes.specs.declared.runner.Runner.{Runner}
use Rattle.loft_passes.specs.View.{standing_of, standings_of}

-- the first thread with the id stands at this index
pub record IsAtIndex (i : ℕ) (t : ThreadId) (rs : List Runner) : Type 0 where
  pub there : i < length rs
  pub is_linked : is_linked t (standings_of rs) ≡ true
  pub unlinked : without_first t (standings_of rs) ≡ standings_of (take i rs ++ drop (i + 1) rs)
  pub suspended : (b : Bool) (r q : Runner) → slice_get rs i ≡ Some r → standing_of q ≡ record (standing_of r) { suspended = b } → suspend t b (standings_of rs) ≡ standings_of (slice_set rs i q)

-- whether there is one, and where the first is
abbrev pub IsPosition : Option ℕ → ThreadId → List Runner → Type 0
IsPosition None t rs = is_linked t (standings_of rs) ≡ false
IsPosition (Some i) t rs = IsAtIndex i t rs
