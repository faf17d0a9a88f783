-- The names and kinds of a generated program are correct.
use Rattle.std.proofs.Common.{◌≡◌, ℕ, List, [], ◌∷◌, ◌++◌, map, refl, ap, ◌∙◌}
use Rattle.loft_tree.specs.Source.{Source}
use Rattle.loft_scopes.specs.declared.counts.DeclarationCounts.{DeclarationCounts}
use Rattle.loft_scopes.specs.Scopes.{Declared, after, declared, declared_from}
use Rattle.loft_scopes.specs.declared.error.NameError.{NameError}
use Rattle.loft_scopes.specs.Faults.{NamesFit, faults, twice_from, uses_from}
use Rattle.loft_generated.specs.Walks.{start, walks}

-- starts without names declare nothing
none_declared : (n : DeclarationCounts) (ns : List ℕ) → declared_from n (map start ns) ≡ []
none_declared n [] = refl
none_declared n (number ∷ ns) = none_declared (after n (start number)) ns

-- what the walk declares, before any start
abbrev pub walk_declared : List Declared
walk_declared = declared (walks 0 [])

-- how many declarations stand before the starts
abbrev pub before_starts : DeclarationCounts
before_starts = record { schedulers = 4; events = 0; shared = 4; modules = 1; starts = 0; clients = 0 }

pub declared_is : (rounds : ℕ) (ns : List ℕ) → declared (walks rounds ns) ≡ walk_declared
declared_is rounds ns = ap (λ (ds : List Declared). walk_declared ++ ds) (none_declared before_starts ns)

-- each start makes a thread of the walk, with one number
starts_right : (ns : List ℕ) → uses_from walk_declared 1 (map start ns) ≡ []
starts_right [] = refl
starts_right (number ∷ ns) = starts_right ns

abbrev faults_by : List Declared → Source → List NameError
faults_by ds p = twice_from [] ds ++ uses_from ds 0 p

none_wrong : (rounds : ℕ) (ns : List ℕ) → faults (walks rounds ns) ≡ []
none_wrong rounds ns = ap (λ (ds : List Declared). faults_by ds (walks rounds ns)) (declared_is rounds ns) ∙ starts_right ns

pub names_are : (rounds : ℕ) (ns : List ℕ) → NamesFit (walks rounds ns)
names_are rounds ns = record { scheduler = refl; faultless = none_wrong rounds ns }
