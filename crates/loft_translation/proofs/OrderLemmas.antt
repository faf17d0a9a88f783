-- The stops of the compiler's code are numbered in order.
use Rattle.std.proofs.Common.{◌≡◌, ℕ, zero, suc, ◌+◌, false, List, [], ◌∷◌, ◌++◌, length, take, Option, Some, None, slice_get, refl, sym, ap, ◌∙◌, subst, arith}
use Rattle.std.specs.Prelude.{if◌then◌else◌, is_some}
use Rattle.std.specs.List.{count_by}
use Rattle.std.proofs.lemmas.Bool.{not_from_true, eq-eqb}
use Rattle.std.proofs.lemmas.List.Sums.{sum_by-cons}
use Rattle.loft_tree.specs.declared.heads.Place.{Place}
use Rattle.loft_tree.specs.declared.heads.Heads.{Heads}
use Rattle.loft_tree.specs.declared.kinds.Kind.{Kind}
use Rattle.loft_tree.specs.Resolved.{Step, Do, Hold, Call, Choose, Loop, Times, Body, Empty, Then}
use Rattle.loft_code.specs.Operations.{Line, stop_of}
use Rattle.loft_code.specs.Operations as op
use Rattle.loft_code.specs.Valid.{is_stop, stops_before, is_wrong_stop}
use Rattle.loft_sense.specs.Stands.{leads_step, leads}
use Rattle.loft_translation.specs.Compiled.{line, step_lines, body_lines}
use Rattle.loft_soundness.specs.Numbered.{stops_in as step_stops, body_stops}
use Rattle.loft_translation.proofs.StepLemmas.{StepPasses, BodyPasses}

-- ---- how many stops there are

abbrev one_if_stop : Line → ℕ
one_if_stop l = if is_stop l then 1 else 0

abbrev stops_in : List Line → ℕ
stops_in [] = 0
stops_in (l ∷ ls) = one_if_stop l + stops_in ls

stops_counted : (ls : List Line) → count_by is_stop ls ≡ stops_in ls
stops_counted [] = refl
stops_counted (l ∷ ls) = sum_by-cons one_if_stop l ls ∙ ap (λ n. one_if_stop l + n) (stops_counted ls)

stops_in-append : (xs ys : List Line) → stops_in (xs ++ ys) ≡ stops_in xs + stops_in ys
stops_in-append [] ys = omega arith
stops_in-append (x ∷ xs) ys = omega (arith, stops_in-append xs ys)

mutual
  step_count : (h : Heads) (s : Step) (at d : ℕ) (p : Place) → stops_in (step_lines h s at d p) ≡ step_stops s
  step_count h (Do action) at d p = refl
  step_count h (Hold k pause) at d p = refl
  step_count h (Call k m arguments) at d p = refl
  step_count h (Choose test first Empty) at d p = omega (arith, body_count h first (at + 1) d p)
  step_count h (Choose test first (Then s rest)) at d p =
      let x = body_lines h first (at + 1) d p in
      let y = body_lines h (Then s rest) (at + 1 + length x + 1) d p in
      omega (
        arith,
        body_count h first (at + 1) d p,
        body_count h (Then s rest) (at + 1 + length x + 1) d p,
        stops_in-append x (line (leads h first p) d (op.Jump (at + 1 + length x + 1 + length y)) ∷ y),
      )
  step_count h (Loop test body) at d p =
      let x = body_lines h body (at + 1 + 1) d p in
      omega (arith, body_count h body (at + 1 + 1) d p, stops_in-append x (line (leads h body p) d (op.Jump (at + 1)) ∷ []))
  step_count h (Times count body) at d p =
      let x = body_lines h body (at + 1 + 1) (d + 1) p in
      omega (arith, body_count h body (at + 1 + 1) (d + 1) p, stops_in-append x (line (leads h body p) (d + 1) (op.Jump (at + 1)) ∷ []))

  body_count : (h : Heads) (b : Body) (at d : ℕ) (p : Place) → stops_in (body_lines h b at d p) ≡ body_stops b
  body_count h Empty at d p = refl
  body_count h (Then s rest) at d p =
      let x = step_lines h s at d p in
      let y = body_lines h rest (at + length x) d (leads_step h s p) in
      omega (arith, step_count h s at d p, body_count h rest (at + length x) d (leads_step h s p), stops_in-append x y)

-- ---- their numbers

-- after so many stops each of these has the next number
abbrev pub InOrder : ℕ → List Line → Type 0
InOrder k [] = Unit {0}
InOrder k (l ∷ ls) = (is_wrong_stop (stop_of l.operation) k ≡ false) × InOrder (k + one_if_stop l) ls

pub in_order-append : (k : ℕ) (xs ys : List Line) → InOrder k xs → InOrder (k + stops_in xs) ys → InOrder k (xs ++ ys)
in_order-append k [] ys all others = let same : k + 0 ≡ k = omega arith in subst (λ n. InOrder n ys) same others
in_order-append k (x ∷ xs) ys all others =
    let same : k + (one_if_stop x + stops_in xs) ≡ k + one_if_stop x + stops_in xs = omega arith in
    (all.0, in_order-append (k + one_if_stop x) xs ys all.1 (subst (λ n. InOrder n ys) same others))

-- the stops of the lines before a list of lines
after : (k j : ℕ) (xs ys : List Line) → stops_in xs ≡ j → InOrder k xs → InOrder (k + j) ys → InOrder k (xs ++ ys)
after k j xs ys many all others = in_order-append k xs ys all (subst (λ n. InOrder (k + n) ys) (sym many) others)

-- a line that is no stop
past : (k : ℕ) (l : Line) (ls : List Line) → stop_of l.operation ≡ None → InOrder k ls → InOrder k (l ∷ ls)
past k l ls none others =
    let zero_more : k ≡ k + 0 = omega arith in
    let same : k ≡ k + one_if_stop l = zero_more ∙ ap (λ (o : Option ℕ). k + (if is_some o then 1 else 0)) (sym none) in
    (ap (λ (o : Option ℕ). is_wrong_stop o k) none, subst (λ n. InOrder n ls) same others)

right_stop : (j k : ℕ) → j ≡ k + 1 → is_wrong_stop (Some j) k ≡ false
right_stop j k is = not_from_true _ (eq-eqb j (k + 1) is)

module _ (h : Heads) (slots : List Kind) where
  mutual
    step_in_order : (s : Step) (at d k : ℕ) (p : Place) → StepPasses h slots s d k p → InOrder k (step_lines h s at d p)
    step_in_order (Do action) at d k p passes = (refl, tt)
    step_in_order (Hold j pause) at d k p passes = (right_stop j k passes.1, tt)
    step_in_order (Call j m arguments) at d k p passes = (right_stop j k passes.1, tt)
    step_in_order (Choose test first Empty) at d k p passes =
        let x = body_lines h first (at + 1) d p in
        past k (line p d (op.Branch (at + 1 + length x) test)) x refl (body_in_order first (at + 1) d k p passes.1)
    step_in_order (Choose test first (Then s rest)) at d k p passes =
        let x = body_lines h first (at + 1) d p in
        let other = at + 1 + length x + 1 in
        let y = body_lines h (Then s rest) other d p in
        let jump = line (leads h first p) d (op.Jump (other + length y)) in
        past k (line p d (op.Branch other test)) (x ++ jump ∷ y) refl
        (after k (body_stops first) x (jump ∷ y) (body_count h first (at + 1) d p) (body_in_order first (at + 1) d k p passes.1)
        (past (k + body_stops first) jump y refl (body_in_order (Then s rest) other d (k + body_stops first) p passes.2)))
    step_in_order (Loop test body) at d k p passes =
        let x = body_lines h body (at + 1 + 1) d p in
        let jump = line (leads h body p) d (op.Jump (at + 1)) in
        let branch = line p d (op.Branch (at + 1 + 1 + length x + 1) test) in
        past k (line p d op.Enter) (branch ∷ (x ++ jump ∷ [])) refl
        (past k branch (x ++ jump ∷ []) refl
        (after k (body_stops body) x (jump ∷ []) (body_count h body (at + 1 + 1) d p) (body_in_order body (at + 1 + 1) d k p passes.1) (past (k + body_stops body) jump [] refl tt)))
    step_in_order (Times count body) at d k p passes =
        let x = body_lines h body (at + 1 + 1) (d + 1) p in
        let jump = line (leads h body p) (d + 1) (op.Jump (at + 1)) in
        let turn = line p (d + 1) (op.Turn (at + 1 + 1 + length x + 1)) in
        past k (line p d (op.Count count)) (turn ∷ (x ++ jump ∷ [])) refl
        (past k turn (x ++ jump ∷ []) refl
        (after k (body_stops body) x (jump ∷ []) (body_count h body (at + 1 + 1) (d + 1) p) (body_in_order body (at + 1 + 1) (d + 1) k p passes.1) (past (k + body_stops body) jump [] refl tt)))

    pub body_in_order : (b : Body) (at d k : ℕ) (p : Place) → BodyPasses h slots b d k p → InOrder k (body_lines h b at d p)
    body_in_order Empty at d k p passes = tt
    body_in_order (Then s rest) at d k p passes =
        let x = step_lines h s at d p in
        after k (step_stops s) x (body_lines h rest (at + length x) d (leads_step h s p)) (step_count h s at d p) (step_in_order s at d k p passes.0)
        (body_in_order rest (at + length x) d (k + step_stops s) (leads_step h s p) passes.1)

-- ---- each one by its number

in_order_from : (k : ℕ) (ls : List Line) (p : ℕ) (l : Line) → InOrder k ls → slice_get ls p ≡ Some l → is_wrong_stop (stop_of l.operation) (k + stops_in (take p ls)) ≡ false
in_order_from k [] p l all at = absurd cc
in_order_from k (x ∷ xs) zero l all at =
    let same : x ≡ l = cc in
    let none : k ≡ k + 0 = omega arith in
    subst (λ n. is_wrong_stop (stop_of l.operation) n ≡ false) none (subst (λ (y : Line). is_wrong_stop (stop_of y.operation) k ≡ false) same all.0)
in_order_from k (x ∷ xs) (suc p) l all at =
    let same : k + one_if_stop x + stops_in (take p xs) ≡ k + (one_if_stop x + stops_in (take p xs)) = omega arith in
    subst (λ n. is_wrong_stop (stop_of l.operation) n ≡ false) same (in_order_from (k + one_if_stop x) xs p l all.1 at)

pub right_at : (ls : List Line) (p : ℕ) (l : Line) → InOrder 0 ls → slice_get ls p ≡ Some l → is_wrong_stop (stop_of l.operation) (stops_before ls p) ≡ false
right_at ls p l all at =
    let same : 0 + stops_in (take p ls) ≡ stops_before ls p = omega (arith, stops_counted (take p ls)) in
    subst (λ n. is_wrong_stop (stop_of l.operation) n ≡ false) same (in_order_from 0 ls p l all at)

-- the end of a module is no stop
pub with_end : (ls : List Line) (p : Place) → InOrder 0 ls → InOrder 0 (ls ++ line p 0 op.End ∷ [])
with_end ls p all = in_order-append 0 ls (line p 0 op.End ∷ []) all (past (0 + stops_in ls) (line p 0 op.End) [] refl tt)
