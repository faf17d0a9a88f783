-- The first of several faults, by the order of specs/Faults.
use Rattle.std.specs.Prelude.{ℕ, Bool, nat_lt, ◌==◌, ◌&&◌, ◌||◌, if◌then◌else◌, List, [], ◌∷◌, Option, Some, None}
use Rattle.loft_scopes.specs.declared.error.NameError.{NameError}
use Rattle.loft_scopes.specs.Faults.{place_of, rank_of, first_of}

-- m is less than n, or they are the same and this is so
abbrev pub before : ℕ → ℕ → Bool → Bool
before m n rest = nat_lt m n || (m == n && rest)

-- e comes before d
abbrev pub precedes : NameError → NameError → Bool
precedes e d = before (place_of e) (place_of d) (before (rank_of e) (rank_of d) (nat_lt (first_of e) (first_of d)))

-- the first so far, once e is found too
abbrev pub sooner : Option NameError → NameError → NameError
sooner None e = e
sooner (Some d) e = if precedes e d then e else d

-- the first so far, once these are found too
abbrev pub least_of : Option NameError → List NameError → Option NameError
least_of first [] = first
least_of first (e ∷ es) = least_of (Some (sooner first e)) es
