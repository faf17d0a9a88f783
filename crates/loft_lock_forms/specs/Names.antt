-- Names of locks that are too long, and names that are reserved (docs/LOCKS.md, "What is refused").
use Rattle.std.specs.Prelude.{ℕ, zero, suc, Bool, false, ◌||◌, List, [], ◌∷◌, length, Option, Some, None, if◌then◌else◌, nat_lt}
use Rattle.std.specs.Str.{bytes_eq}
use Rattle.loft_lex.specs.declared.token.Token.{Token}
use Rattle.loft_lex.specs.Symbol.{What, Named, Keyword, Numeral, Quoted, Mark, Unreadable}
use Rattle.loft_lock_forms.specs.Rewriting.{LockForm, Declares, TakesIt, GivesIt, lock_of, more_of, form_at, held_name, free_name, takes_name, gives_name, with_form, says, all_say}

-- the offset of the first token
abbrev pub place_of : List Token → ℕ
place_of [] = 0
place_of (t ∷ ts) = t.from

-- The offset of the first name of a lock in a form that has more than 57 bytes; the first `skip` tokens belong to a form before.
abbrev pub long_name : List ℕ → ℕ → List Token → Option ℕ
long_name text skip [] = None
long_name text zero (t ∷ ts) =
    with_form (form_at (says text t) (all_say text ts)) (long_name text 0 ts)
    (λ f. if nat_lt 57 (length (lock_of f)) then Some (place_of ts) else long_name text (more_of f) ts)
long_name text (suc skip) (t ∷ ts) = long_name text skip ts

-- the first form of the lock declares this name
abbrev pub declares_name : List ℕ → List ℕ → Bool
declares_name l name = bytes_eq name (held_name l) || bytes_eq name (free_name l) || bytes_eq name (takes_name l) || bytes_eq name (gives_name l)

-- one of these forms does
abbrev pub is_declared : List LockForm → List ℕ → Bool
is_declared [] name = false
is_declared (Declares l a ∷ fs) name = declares_name l name || is_declared fs name
is_declared (TakesIt l ∷ fs) name = is_declared fs name
is_declared (GivesIt l ∷ fs) name = is_declared fs name

abbrev pub says_declared : List LockForm → What → Bool
says_declared fs (Named name) = is_declared fs name
says_declared fs (Keyword v) = false
says_declared fs (Numeral v) = false
says_declared fs (Quoted text) = false
says_declared fs (Mark v) = false
says_declared fs Unreadable = false

-- the offset of the first token that names what one of these forms declares
abbrev pub reserved_name : List ℕ → List LockForm → List Token → Option ℕ
reserved_name text fs [] = None
reserved_name text fs (t ∷ ts) = if says_declared fs (says text t) then Some t.from else reserved_name text fs ts
