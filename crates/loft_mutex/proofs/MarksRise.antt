-- The marks of a text rise.
use Rattle.std.proofs.Common.{◌≡◌, ℕ, zero, suc, ◌+◌, ◌≤◌, List, [], ◌∷◌, ◌++◌, length, slice_range, Option, Some, None, refl, arith, length-append}
use Rattle.std.specs.Prelude.{codes}
use Rattle.loft_lex.specs.declared.token.Token.{Token}
use Rattle.loft_lock_forms.specs.Rewriting.{LockForm, Declares, TakesIt, GivesIt, more_of, form_at, form_text, with_form, says, all_say}
use Rattle.loft_lock_forms.specs.Marks.{Mark, form_mark, marks, AreRising}

lower : (ms : List Mark) (a b : ℕ) → a ≤ b → AreRising b ms → AreRising a ms
lower [] a b le r = tt
lower (m ∷ ms) a b le r = (omega (arith, le, r.0), r.1)

-- a text that begins with so many bytes has as many
at_least : (front rest : List ℕ) (n : ℕ) → length front ≡ n → n ≤ length (front ++ rest)
at_least front rest n is = omega (arith, length-append front rest, is)

form_rises : (f : LockForm) (start : ℕ) (rest : List Mark) → AreRising (start + length (form_text f [])) rest → AreRising start (form_mark f start rest)
form_rises (Declares l a) start rest r = lower rest start (start + length (form_text (Declares l a) [])) (omega arith) r
form_rises (TakesIt l) start rest r =
    let long = at_least (codes "run lock_") (l ++ (codes "();" ++ [])) 9 refl in
    (omega arith, lower rest (suc (start + 4)) (start + length (form_text (TakesIt l) [])) (omega (arith, long)) r)
form_rises (GivesIt l) start rest r =
    let long = at_least (codes "run unlock_") (l ++ (codes "();" ++ [])) 11 refl in
    (omega arith, lower rest (suc (start + 4)) (start + length (form_text (GivesIt l) [])) (omega (arith, long)) r)

module _ (text : List ℕ) where
  token_rises : (put at : ℕ) (t : Token) (ts : List Token) (o : Option LockForm) → ((p a k : ℕ) → AreRising p (marks text p a k ts))
      → AreRising put (with_form o (marks text (put + length (slice_range text at t.to)) t.to 0 ts)
      (λ f. let start = put + length (slice_range text at t.from) in form_mark f start (marks text (start + length (form_text f [])) t.to (more_of f) ts)))
  token_rises put at t ts None rest =
      lower (marks text (put + length (slice_range text at t.to)) t.to 0 ts) put (put + length (slice_range text at t.to)) (omega arith) (rest (put + length (slice_range text at t.to)) t.to 0)
  token_rises put at t ts (Some f) rest =
      let start = put + length (slice_range text at t.from) in
      lower (form_mark f start (marks text (start + length (form_text f [])) t.to (more_of f) ts)) put start (omega arith)
      (form_rises f start (marks text (start + length (form_text f [])) t.to (more_of f) ts) (rest (start + length (form_text f [])) t.to (more_of f)))

  pub marks_rise : (put at skip : ℕ) (ts : List Token) → AreRising put (marks text put at skip ts)
  marks_rise put at skip [] = tt
  marks_rise put at zero (t ∷ ts) = token_rises put at t ts (form_at (says text t) (all_say text ts)) (λ p a k. marks_rise p a k ts)
  marks_rise put at (suc skip) (t ∷ ts) = marks_rise put t.to skip ts
