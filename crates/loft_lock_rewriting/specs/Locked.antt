-- Locks that a text declares by the first form.
use Rattle.std.specs.Prelude.{◌≡◌, ◌≢◌, ℕ, List, ◌++◌, ◌∷◌}
use Rattle.loft_tree.specs.Fits.{Each}
use Rattle.loft_lex.specs.Symbol.{What, Named, Keyword, Numeral, Quoted, Mark, Unreadable}
use Rattle.loft_lock_sources.specs.SourceLocks.{LockNames}
use Rattle.loft_lock_forms.specs.Rewriting.{LockForm, Declares, TakesIt, GivesIt, held_name, free_name, takes_name, gives_name, forms}

-- the names that the forms of the lock write
abbrev pub lock_names : List ℕ → List ℕ → LockNames
lock_names l a = record { held = held_name l; free = free_name l; takes = takes_name l; gives = gives_name l; at = a }

-- where a name is said, it's none that the forms of the lock write
abbrev pub IsOther : List ℕ → List ℕ → Type 0
IsOther l text = (text ≢ held_name l) × (text ≢ takes_name l) × (text ≢ gives_name l)

abbrev pub SaysOther : List ℕ → What → Type 0
SaysOther l (Named text) = IsOther l text
SaysOther l (Keyword v) = Unit {0}
SaysOther l (Numeral v) = Unit {0}
SaysOther l (Quoted text) = Unit {0}
SaysOther l (Mark v) = Unit {0}
SaysOther l Unreadable = Unit {0}

-- the form doesn't declare the lock
abbrev pub DeclaresOther : List ℕ → LockForm → Type 0
DeclaresOther l (Declares k a) = k ≢ l
DeclaresOther l (TakesIt k) = Unit {0}
DeclaresOther l (GivesIt k) = Unit {0}

-- What a text says has the first form of the lock, and no name that its forms write.
pub record IsDeclared (ws : List What) (l a : List ℕ) : Type 0 where
  pub before : List LockForm
  pub after : List LockForm
  pub are : forms 0 ws ≡ before ++ Declares l a ∷ after
  pub reserved : Each (SaysOther l) ws

-- What a text says has it once, and no name that its forms write.
pub record HasForm (ws : List What) (l a : List ℕ) : Type 0 where
  pub before : List LockForm
  pub after : List LockForm
  pub are : forms 0 ws ≡ before ++ Declares l a ∷ after
  pub once_before : Each (DeclaresOther l) before
  pub once_after : Each (DeclaresOther l) after
  pub reserved : Each (SaysOther l) ws
