-- What a walk gave grows part by part.
use Rattle.std.proofs.Common.{◌≡◌, ℕ, ◌+◌, ◌≤◌, List, length, take, drop, Option, Some, None, IfSome, arith, ap, length-take, length-drop}
use Rattle.std.proofs.Math.Seq.{take-add}
use Rattle.loft_base.specs.Outside.{IsPart}
use Rattle.loft_base.specs.Walk.{IsWithin, Grows}
use Rattle.loft_base.specs.declared.walk.FileWalk.{FileWalk}

one_more : (file : List ℕ) (old new : FileWalk) (k : ℕ) (into : List ℕ) → new.at ≡ old.at + k → take new.count new.buffer.items ≡ take k into → k ≤ length into → IsPart file old.at k into → IsWithin old file → Grows file old new
one_more file old new k into at last fits part within = record {
  bytes = rw (at, last, part.bytes) (take-add old.at k file);
  within = omega (arith, at, within, ap length part.bytes, length-take k into, length-take k (drop old.at file), length-drop old.at file, fits);
}

-- the same where the file is known
pub grows : (known : Option (List ℕ)) (old new : FileWalk) (k : ℕ) (into : List ℕ) → new.at ≡ old.at + k → take new.count new.buffer.items ≡ take k into → k ≤ length into → IfSome known (λ file. IsPart file old.at k into)
    → IfSome known (λ file. IsWithin old file → Grows file old new)
grows None old new k into at last fits part = part
grows (Some file) old new k into at last fits part = one_more file old new k into at last fits part
