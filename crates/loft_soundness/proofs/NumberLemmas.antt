-- What is outside the numbers of a body is no stop of it; programs whose names are correct have numbered stops.
use Rattle.std.proofs.Common.{◌≡◌, ℕ, zero, suc, ◌+◌, ◌<◌, ◌≤◌, ◌==◌, inl, inr, Bool, true, false, List, [], ◌∷◌, map, Option, Some, None, slice_get, refl, sym, ap, ◌∙◌, subst, arith}
use Rattle.std.specs.Prelude.{◌⊎◌, if◌then◌else◌, unwrap_or}
use Rattle.std.proofs.lemmas.Bool.{eq-eqb, eqb-true, cases_lt}
use Rattle.loft_tree.specs.declared.heads.Signature.{Signature}
use Rattle.loft_tree.specs.declared.heads.Heads.{Heads}
use Rattle.loft_tree.specs.Stops as named
use Rattle.loft_tree.specs.NamedTree as tree
use Rattle.loft_tree.specs.NamedTree.{NamedStatement, NamedStatements, NamedModule, NamedProgram}
use Rattle.loft_tree.specs.NamedFits.{BodiesHold, NamedFits}
use Rattle.loft_tree.specs.Resolved.{Empty, step_of, body_of, resolved_of}
use Rattle.loft_sense.specs.Tree.{first_some, at_stop}
use Rattle.loft_soundness.specs.Numbered.{stops_in, body_stops, StepNumbered, BodyNumbered, IsNumbered}

-- ---- a look-up of stops

pub elsewhere : {A : Type 0} (here k : ℕ) (x : A) → (here ≡ k → ⊥) → at_stop here k x ≡ None
elsewhere {A} here k x apart = by (here == k) refl
  where
    by : (b : Bool) → (here == k) ≡ b → (if b then Some x else None) ≡ None
    by true e = absurd (apart (eqb-true here k e))
    by false e = refl

pub found_here : {A : Type 0} (k : ℕ) (x : A) → at_stop k k x ≡ Some x
found_here k x = ap (λ b. if b then Some x else None) (eq-eqb k k refl)

pub neither : {A : Type 0} (a b : Option A) → a ≡ None → b ≡ None → first_some a b ≡ None
neither a b e f = ap (λ o. first_some o b) e ∙ f

pub in_first : {A : Type 0} (a b : Option A) (x : A) → a ≡ Some x → first_some a b ≡ Some x
in_first a b x e = ap (λ o. first_some o b) e

pub in_second : {A : Type 0} (a b : Option A) (x : A) → a ≡ None → b ≡ Some x → first_some a b ≡ Some x
in_second a b x e f = ap (λ o. first_some o b) e ∙ f

pub none_some : {A : Type 0} (o : Option A) (x : A) → o ≡ None → o ≡ Some x → ⊥
none_some o x e f = absurd cc

-- k is none of the so many numbers that come after n
abbrev pub IsOutside : ℕ → ℕ → ℕ → Type 0
IsOutside k n many = (k ≤ n) ⊎ (n + many < k)

pub outside_left : (k n a b : ℕ) → IsOutside k n (a + b) → IsOutside k n a
outside_left k n a b (inl h) = inl h
outside_left k n a b (inr h) = inr (omega (arith, h))

pub outside_right : (k n a b : ℕ) → IsOutside k n (a + b) → IsOutside k (n + a) b
outside_right k n a b (inl h) = inl (omega (arith, h))
outside_right k n a b (inr h) = inr (omega (arith, h))

pub outside_one : (here k n : ℕ) → here ≡ n + 1 → IsOutside k n 1 → here ≡ k → ⊥
outside_one here k n e (inl h) same = omega (arith, e, h, same)
outside_one here k n e (inr h) same = omega (arith, e, h, same)

-- a number is outside those before n + a, or outside those after it
pub apart : (k n a b : ℕ) → IsOutside k n a ⊎ IsOutside k (n + a) b
apart k n a b = by (cases_lt (n + a) k)
  where
    by : (n + a < k) ⊎ (k ≤ n + a) → IsOutside k n a ⊎ IsOutside k (n + a) b
    by (inl h) = inl (inr h)
    by (inr h) = inr (inl h)

-- ---- programs with offsets

cc_sum : {a b c d : ℕ} → a ≡ b → c ≡ d → a + c ≡ b + d
cc_sum e f = omega (arith, e, f)

mutual
  stops_same : (s : NamedStatement) → stops_in (step_of s) ≡ named.stops_in s
  stops_same (tree.Do at action) = refl
  stops_same (tree.Hold at stop pause) = refl
  stops_same (tree.Run at stop called m arguments) = refl
  stops_same (tree.If at test first second) = cc_sum (body_stops_same first) (body_stops_same second)
  stops_same (tree.While at test body) = body_stops_same body
  stops_same (tree.Repeat at count body) = body_stops_same body

  body_stops_same : (b : NamedStatements) → body_stops (body_of b) ≡ named.body_stops b
  body_stops_same tree.Done = refl
  body_stops_same (tree.Then first rest) = cc_sum (stops_same first) (body_stops_same rest)

mutual
  step_numbered : (s : NamedStatement) (n : ℕ) → named.IsNumbered s n → StepNumbered (step_of s) n
  step_numbered (tree.Do at action) n h = tt
  step_numbered (tree.Hold at stop pause) n h = h
  step_numbered (tree.Run at stop called m arguments) n h = h
  step_numbered (tree.If at test first second) n h =
      (body_numbered first n h.0, subst (λ k. BodyNumbered (body_of second) (n + k)) (sym (body_stops_same first)) (body_numbered second (n + named.body_stops first) h.1))
  step_numbered (tree.While at test body) n h = body_numbered body n h
  step_numbered (tree.Repeat at count body) n h = body_numbered body n h

  body_numbered : (b : NamedStatements) (n : ℕ) → named.AreNumbered b n → BodyNumbered (body_of b) n
  body_numbered tree.Done n h = tt
  body_numbered (tree.Then first rest) n h =
      (step_numbered first n h.0, subst (λ k. BodyNumbered (body_of rest) (n + k)) (sym (stops_same first)) (body_numbered rest (n + named.stops_in first) h.1))

bodies_numbered : (h : Heads) (ms : List Signature) (xs : List NamedModule) (k : ℕ) → BodiesHold h ms xs → BodyNumbered (unwrap_or (slice_get (map (λ m. body_of m.body) xs) k) Empty) 0
bodies_numbered h [] [] k hold = tt
bodies_numbered h [] (x ∷ xs) k hold = absurd hold
bodies_numbered h (m ∷ ms) [] k hold = tt
bodies_numbered h (m ∷ ms) (x ∷ xs) zero hold = body_numbered x.body 0 hold.0.stops
bodies_numbered h (m ∷ ms) (x ∷ xs) (suc k) hold = bodies_numbered h ms xs k hold.1

pub is_numbered : (n : NamedProgram) → NamedFits n → IsNumbered (resolved_of n)
is_numbered n fits m = bodies_numbered n.heads n.heads.modules n.modules m.0 fits.bodies
