-- What reading and writing do over any reader or writer, where its bytes are known.
use Rattle.std.specs.Prelude.{ℕ, List, take, Option, None, Some, Result, IsErr}
use Rattle.std.specs.Io.KnownBytes.{Appends, ReadConsumes}

-- the bytes that a writer is known to hold grow by a prefix of these
abbrev pub AppendsPrefix : Option (List ℕ) → Option (List ℕ) → List ℕ → Type 0
AppendsPrefix old new bytes = (n : ℕ) × Appends old new (take n bytes)

-- the open file is read on: the part is the next of its remaining bytes, and it stays open; where none is open the read fails
abbrev pub ReadsOn : {F E : Type 0} → (F → Option (List ℕ)) → Option F → Option F → Result ℕ E → List ℕ → Type 0
ReadsOn remaining None new result into = IsErr result
ReadsOn remaining (Some file) None result into = ⊥
ReadsOn remaining (Some file) (Some rest) result into = ReadConsumes (remaining file) (remaining rest) result into
