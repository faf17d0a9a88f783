-- A whole file, read by a walk over it.
use Rattle.std.proofs.Common.{◌≡◌, ℕ, ◌<◌, ◌≤◌, List, [], ◌++◌, length, Option, Some, None, IfSome, arith, refl, ◌∙◌}
use Rattle.std.proofs.lemmas.List.{take_all}
use Rattle.loft_base.specs.Walk.{count_of, part_of, given, IsWithin, Grows}
use Rattle.loft_base.specs.declared.walk.FileWalk.{FileWalk}

-- these bytes are what the walk gave so far of the file
pub record IsFront (whole : List ℕ) (walk : FileWalk) (file : List ℕ) : Type 0 where
  pub bytes : whole ≡ given walk file
  pub inside : IsWithin walk file

front_at_first : (walk : FileWalk) (file : List ℕ) → count_of walk ≡ 0 → IsFront [] walk file
front_at_first walk file none = record { bytes = rw none refl; inside = omega (arith, none) }

front_grows : (file whole : List ℕ) (old new : FileWalk) → IsFront whole old file → Grows file old new → IsFront (whole ++ part_of new) new file
front_grows file whole old new front grows = record { bytes = rw (front.bytes, grows.bytes) refl; inside = grows.within }

-- of a file that may be known: nothing was given yet
pub known-first : (known : Option (List ℕ)) (walk : FileWalk) → count_of walk ≡ 0 → IfSome known (IsFront [] walk)
known-first None walk none = tt
known-first (Some file) walk none = front_at_first walk file none

-- a part makes a longer front
pub known-grows : (known : Option (List ℕ)) (whole : List ℕ) (old new : FileWalk) → IfSome known (IsFront whole old) → IfSome known (λ file. IsWithin old file → Grows file old new) → IfSome known (IsFront (whole ++ part_of new) new)
known-grows None whole old new front grows = tt
known-grows (Some file) whole old new front grows = front_grows file whole old new front (grows front.inside)

-- at the end of the file the front is the file
pub known-end : (known : Option (List ℕ)) (whole : List ℕ) (walk : FileWalk) → IfSome known (IsFront whole walk) → IfSome known (λ file. length file ≤ count_of walk) → IfSome known (λ file. whole ≡ file)
known-end None whole walk front end = tt
known-end (Some file) whole walk front end = front.bytes ∙ take_all (count_of walk) file end

-- a file of which the walk gave more than the limit is longer
pub known-longer : (known : Option (List ℕ)) (whole : List ℕ) (old new : FileWalk) {limit : ℕ} → IfSome known (IsFront whole old) → IfSome known (λ file. IsWithin old file → Grows file old new) → limit < count_of new → IfSome known (λ file. limit < length file)
known-longer None whole old new front grows past = tt
known-longer (Some file) whole old new front grows past = let within = (grows front.inside).within in omega (arith, within, past)
