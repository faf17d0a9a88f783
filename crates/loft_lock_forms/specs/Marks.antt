-- The `run`s that stand in place of forms, by where in the written text the names stand that they run (docs/LOCKS.md, "Pairs").
use Rattle.std.specs.Prelude.{ℕ, zero, suc, ◌+◌, ◌≤◌, ◌==◌, List, [], ◌∷◌, length, slice_range, Option, Some, None, if◌then◌else◌}
use Rattle.loft_lex.specs.declared.token.Token.{Token}
use Rattle.loft_lock_forms.specs.Rewriting.{LockForm, Declares, TakesIt, GivesIt, more_of, form_at, form_text, with_form, says, all_say}

-- `lock l;` and `unlock l;`
pub data Use : Type 0 where
  TakeOf : (lock : List ℕ) → Use
  GiveOf : (lock : List ℕ) → Use

-- the `run` that stands in place of one, and the offset of the name that it runs
pub record Mark : Type 0 where
  pub at : ℕ
  pub used : Use

-- what the `run` of the name at this offset stands for
abbrev pub use_at : List Mark → ℕ → Option Use
use_at [] k = None
use_at (m ∷ ms) k = if m.at == k then Some m.used else use_at ms k

-- that of a form whose text begins at this offset, before those that follow; `run ` has four bytes
abbrev pub form_mark : LockForm → ℕ → List Mark → List Mark
form_mark (Declares l a) start rest = rest
form_mark (TakesIt l) start rest = record { at = start + 4; used = TakeOf l } ∷ rest
form_mark (GivesIt l) start rest = record { at = start + 4; used = GiveOf l } ∷ rest

-- Those in what is written for the text from `at` on, of which these are the tokens; the first `skip` of them belong to a form
-- before, and `put` bytes are written before it.
abbrev pub marks : List ℕ → ℕ → ℕ → ℕ → List Token → List Mark
marks text put at skip [] = []
marks text put at zero (t ∷ ts) =
    with_form (form_at (says text t) (all_say text ts)) (marks text (put + length (slice_range text at t.to)) t.to 0 ts)
    (λ f. let start = put + length (slice_range text at t.from) in form_mark f start (marks text (start + length (form_text f [])) t.to (more_of f) ts))
marks text put at (suc skip) (t ∷ ts) = marks text put t.to skip ts

-- all of them
abbrev pub text_marks : List ℕ → List Token → List Mark
text_marks text ts = marks text 0 0 0 ts

-- their offsets rise, from this one on
abbrev pub AreRising : ℕ → List Mark → Type 0
AreRising at [] = Unit {0}
AreRising at (m ∷ ms) = (at ≤ m.at) × AreRising (suc m.at) ms
