-- What is wrong in a draft that is read.
use Rattle.std.specs.Prelude.{◌≡◌, ℕ, List, [], ◌∷◌, Option, Some, None, MatchOption}
use Rattle.loft_listing_draft.specs.Drafts.{Draft, DraftFits}
use Rattle.loft_listing_draft.specs.InMemory.{IsInMemory}
use Rattle.loft_listing_draft.specs.declared.draft.Draft.{Draft as DraftInMemory}
use Rattle.loft_listing_names.specs.Wrong.{wrong_offsets, IsLeast}

-- what is held in memory is a draft that keeps its limits
abbrev pub IsDraft : DraftInMemory → Type 0
IsDraft m = (d : Draft) × DraftFits d × IsInMemory m d

-- the least of these offsets; none where there are none
abbrev pub IsLeastOf : Option ℕ → List ℕ → Type 0
IsLeastOf least ns = MatchOption least (ns ≡ []) (λ n. IsLeast n ns)

-- the offset of a stop, if there is one, and those of wrong lines
abbrev pub all_wrong : Option ℕ → Draft → List ℕ
all_wrong None d = wrong_offsets d
all_wrong (Some stop) d = stop ∷ wrong_offsets d
