-- What the tokens of a rewritten text stand for.
use Rattle.std.specs.Prelude.{ℕ, zero, suc, List, [], ◌∷◌, Option, Some, None}
use Rattle.loft_lex.specs.Symbol.{What}
use Rattle.loft_lock_forms.specs.Marks.{Use, TakeOf, GiveOf}
use Rattle.loft_lock_forms.specs.Rewriting.{LockForm, Declares, TakesIt, GivesIt, more_of, form_at, with_form}

-- so many tokens that stand for no use of a lock
abbrev pub none : ℕ → List (Option Use) → List (Option Use)
none zero us = us
none (suc n) us = None ∷ none n us

-- those that replace a form: the name after `run` stands for the form
abbrev pub form_uses : LockForm → List (Option Use) → List (Option Use)
form_uses (Declares l a) us = none 54 us
form_uses (TakesIt l) us = None ∷ Some (TakeOf l) ∷ none 3 us
form_uses (GivesIt l) us = None ∷ Some (GiveOf l) ∷ none 3 us

-- all of them, by what the text says
abbrev pub uses : ℕ → List What → List (Option Use)
uses skip [] = []
uses zero (x ∷ xs) = with_form (form_at x xs) (None ∷ uses 0 xs) (λ f. form_uses f (uses (more_of f) xs))
uses (suc skip) (x ∷ xs) = uses skip xs
