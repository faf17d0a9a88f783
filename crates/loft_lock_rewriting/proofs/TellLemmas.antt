-- The names after `run` in what a rewritten text says are told by what its tokens stand for.
use Rattle.std.proofs.Common.{◌≡◌, ℕ, zero, suc, Bool, true, false, ◌&&◌, ◌||◌, List, [], ◌∷◌, ◌==◌, drop, Option, Some, None, refl, sym, ap}
use Rattle.std.proofs.lemmas.Bool.{false≢true}
use Rattle.loft_tree.specs.Fits.{Each}
use Rattle.loft_lex.specs.declared.sign.Sign.TheVariants as sign
use Rattle.loft_lex.specs.Symbol.{What, Named, Keyword, Numeral, Quoted, Mark, Unreadable}
use Rattle.loft_grammar.specs.Language.{is_name, kind_of}
use Rattle.loft_grammar.specs.Symbols.{bytes_of}
use Rattle.loft_lock_forms.specs.Marks.{Use, TakeOf, GiveOf}
use Rattle.loft_lock_sources.specs.SourceLocks.{LockNames}
use Rattle.loft_lock_sources.proofs.ToldLemmas.{TellsName}
use Rattle.loft_lock_symbols.proofs.RunLemmas.{says_run}
use Rattle.loft_lock_forms.specs.Rewriting.{LockForm, Declares, TakesIt, GivesIt, more_of, takes_name, gives_name, form_at, form_says, with_form, rewritten}
use Rattle.loft_lock_rewriting.specs.Locked.{lock_names, SaysOther}
use Rattle.loft_lock_rewriting.proofs.Uses.{none, form_uses, uses}

abbrev first_byte : ℕ → List ℕ → Bool
first_byte k [] = false
first_byte k (b ∷ bs) = b == k

-- whether a name among the first n stands right after `run`
abbrev names_run : Bool → ℕ → List What → Bool
names_run after zero xs = false
names_run after (suc n) [] = false
names_run after (suc n) (x ∷ xs) = (is_name (kind_of x) && after) || names_run (says_run x) n xs

-- whether the one after the first n stands right after `run`
abbrev later : Bool → ℕ → List What → Bool
later after zero xs = after
later after (suc n) [] = after
later after (suc n) (x ∷ xs) = later (says_run x) n xs

both_false : (a b : Bool) → (a || b) ≡ false → (a ≡ false) × (b ≡ false)
both_false true b e = absurd (false≢true (sym e))
both_false false b e = (refl, e)

not_both : (a b : Bool) → (a && b) ≡ false → b ≡ true → a ≡ true → ⊥
not_both true true e f g = false≢true (sym e)
not_both true false e f g = false≢true f
not_both false b e f g = false≢true g

module _ (l a : List ℕ) where
  abbrev n : LockNames
  n = lock_names l a

  -- a name after `run` is told
  abbrev pub WhatTells : Bool → What → Option Use → Type 0
  WhatTells after x u = after ≡ true → is_name (kind_of x) ≡ true → TellsName n l (bytes_of x) u

  abbrev pub TellsIn : Bool → List What → List (Option Use) → Type 0
  TellsIn after [] us = Unit {0}
  TellsIn after (x ∷ xs) [] = ⊥
  TellsIn after (x ∷ xs) (u ∷ us) = WhatTells after x u × TellsIn (says_run x) xs us

  -- where no name stands after `run` there is nothing to tell
  quiet : (k : ℕ) (after : Bool) (xs : List What) (us : List (Option Use)) → names_run after k xs ≡ false → TellsIn (later after k xs) (drop k xs) us → TellsIn after xs (none k us)
  quiet zero after xs us e h = h
  quiet (suc k) after [] us e h = tt
  quiet (suc k) after (x ∷ xs) us e h =
      let parts = both_false (is_name (kind_of x) && after) (names_run (says_run x) k xs) e in
      (λ is named. absurd (not_both (is_name (kind_of x)) after parts.0 is named), quiet k (says_run x) xs us parts.1 h)

  source_tells : (after : Bool) (x : What) → SaysOther l x → WhatTells after x None
  source_tells after (Named text) h = λ is named. (λ e. absurd (h.1 e), λ e. absurd (h.2 e), λ e. absurd cc, λ e. absurd cc)
  source_tells after (Keyword v) h = λ is named. absurd (false≢true named)
  source_tells after (Numeral v) h = λ is named. absurd (false≢true named)
  source_tells after (Quoted text) h = λ is named. absurd (false≢true named)
  source_tells after (Mark v) h = λ is named. absurd (false≢true named)
  source_tells after Unreadable h = λ is named. absurd (false≢true named)

  takes_tells : (k : List ℕ) → TellsName n l (takes_name k) (Some (TakeOf k))
  takes_tells k = (
    λ e. ap (λ (m : List ℕ). Some (TakeOf m)) (ap (drop 5) e),
    λ e. absurd (false≢true (ap (first_byte 117) e)),
    λ e. let same : k ≡ l = cc in ap takes_name same,
    λ e. absurd cc,
  )

  gives_tells : (k : List ℕ) → TellsName n l (gives_name k) (Some (GiveOf k))
  gives_tells k = (
    λ e. absurd (false≢true (ap (first_byte 108) e)),
    λ e. ap (λ (m : List ℕ). Some (GiveOf m)) (ap (drop 7) e),
    λ e. absurd cc,
    λ e. let same : k ≡ l = cc in ap gives_name same,
  )

  form_tells : (f : LockForm) (xs : List What) (us : List (Option Use)) (after : Bool) → TellsIn false xs us → TellsIn after (form_says f xs) (form_uses f us)
  form_tells (Declares k b) xs us after h = quiet 54 after (form_says (Declares k b) xs) us refl h
  form_tells (TakesIt k) xs us after h = (λ is named. absurd (false≢true named), (λ is named. takes_tells k, quiet 3 false (Mark sign.Open ∷ Mark sign.Close ∷ Mark sign.Semicolon ∷ xs) us refl h))
  form_tells (GivesIt k) xs us after h = (λ is named. absurd (false≢true named), (λ is named. gives_tells k, quiet 3 false (Mark sign.Open ∷ Mark sign.Close ∷ Mark sign.Semicolon ∷ xs) us refl h))

  tells_by : (o : Option LockForm) (x : What) (xs : List What) (after : Bool) → SaysOther l x → ((skip : ℕ) (d : Bool) → TellsIn d (rewritten skip xs) (uses skip xs))
      → TellsIn after (with_form o (x ∷ rewritten 0 xs) (λ f. form_says f (rewritten (more_of f) xs))) (with_form o (None ∷ uses 0 xs) (λ f. form_uses f (uses (more_of f) xs)))
  tells_by None x xs after h rest = (source_tells after x h, rest 0 (says_run x))
  tells_by (Some f) x xs after h rest = form_tells f (rewritten (more_of f) xs) (uses (more_of f) xs) after (rest (more_of f) false)

  pub tells : (xs : List What) (skip : ℕ) (after : Bool) → Each (SaysOther l) xs → TellsIn after (rewritten skip xs) (uses skip xs)
  tells [] skip after each = tt
  tells (x ∷ xs) zero after each = tells_by (form_at x xs) x xs after each.0 (λ skip d. tells xs skip d each.1)
  tells (x ∷ xs) (suc skip) after each = tells xs skip after each.1
