-- In valid code jumps lead to an operation that is no jump, and each stop is found under its number.
use Rattle.std.proofs.Common.{◌≡◌, ◌⊎◌, inl, inr, ℕ, zero, suc, ◌+◌, ◌<◌, ◌≤◌, IsTrue, Bool, true, false, List, [], ◌∷◌, length, Option, Some, None, slice_get, refl, sym, ap, ◌∙◌, subst, arith}
use Rattle.std.specs.Prelude.{if◌then◌else◌}
use Rattle.std.specs.Option.{option_and_then}
use Rattle.std.proofs.lemmas.Bool.{eq-eqb, eqb-true}
use Rattle.std.proofs.lemmas.Option.{slice_get_within}
use Rattle.loft_base.specs.declared.ids.ModuleId.{ModuleId}
use Rattle.loft_tree.specs.declared.heads.Place.{Place}
use Rattle.loft_tree.specs.declared.heads.Signature.{Signature}
use Rattle.loft_code.specs.Operations.{Operation, Do, Hold, Call, Branch, Enter, Count, Turn, Jump, End, Line, Automata, way, goes_on_at, is_test, stop_of}
use Rattle.loft_code.specs.Places.{place_left}
use Rattle.loft_code.specs.Valid.{test_in, Valid}
use Rattle.loft_code.specs.Leads.{IsModule, IsReached, LeadsOn}
use Rattle.loft_tree.specs.Fits.{Each}
use Rattle.loft_code.proofs.Leading.{valid_passes, leads_on, jump_leads, one_stop}
use Rattle.loft_sense.specs.Code.{jump_of, jump_at, follow, land, is_number, stop_from}

-- ---- where a jump leads

jump_is : (o : Operation) (t : ℕ) → jump_of o ≡ Some t → o ≡ Jump t
jump_is (Do action) t e = absurd cc
jump_is (Hold k pause) t e = absurd cc
jump_is (Call k m arguments) t e = absurd cc
jump_is (Branch u test) t e = absurd cc
jump_is Enter t e = absurd cc
jump_is (Count count) t e = absurd cc
jump_is (Turn u) t e = absurd cc
jump_is (Jump u) t e = let same : u ≡ t = cc in ap Jump same
jump_is End t e = absurd cc

test_is_no_jump : (o : Operation) → is_test o ≡ true → jump_of o ≡ None
test_is_no_jump (Do action) e = refl
test_is_no_jump (Hold k pause) e = refl
test_is_no_jump (Call k m arguments) e = refl
test_is_no_jump (Branch u test) e = refl
test_is_no_jump Enter e = refl
test_is_no_jump (Count count) e = refl
test_is_no_jump (Turn u) e = refl
test_is_no_jump (Jump u) e = absurd cc
test_is_no_jump End e = refl

-- an operation that is no jump is where it is
stays : (lines : List Line) (n t : ℕ) → jump_at lines t ≡ None → land lines n t ≡ t
stays lines zero t e = refl
stays lines (suc n) t e = ap (λ (o : Option ℕ). follow o t (land lines n)) e

jump_there : (lines : List Line) (p : ℕ) (l : Line) → slice_get lines p ≡ Some l → jump_at lines p ≡ jump_of l.operation
jump_there lines p l at = ap (option_and_then (λ (l : Line). jump_of l.operation)) at

-- operation p is no jump, and has this place and depth
pub record IsLanded (lines : List Line) (here : Place) (depth p : ℕ) : Type 0 where
  pub reached : IsReached lines here (way p depth)
  pub is_no_jump : jump_of reached.next.operation ≡ None

-- ---- where a stop is found

zero_first : (q : ℕ) → 0 + q ≡ q
zero_first q = omega arith

number_is : (o : Option ℕ) (k : ℕ) → o ≡ Some k → is_number o k ≡ true
number_is o k e = subst (λ (o : Option ℕ). is_number o k ≡ true) (sym e) (eq-eqb k k refl)

is_numbered : (o : Option ℕ) (k : ℕ) → is_number o k ≡ true → o ≡ Some k
is_numbered None k e = absurd cc
is_numbered (Some j) k e = ap (λ (i : ℕ). Some i) (eqb-true j k e)

-- the first of its number, where no operation before it bears that number
found_from : (first : ℕ) (ls : List Line) (q k : ℕ) (l : Line) → slice_get ls q ≡ Some l → stop_of l.operation ≡ Some k
    → ((j : ℕ) (n : Line) → j < q → slice_get ls j ≡ Some n → stop_of n.operation ≡ Some k → ⊥) → stop_from first ls k ≡ Some (first + q)
found_from first [] q k l at e none = absurd cc
found_from first (x ∷ xs) zero k l at e none =
    let same : x ≡ l = cc in
    let is : is_number (stop_of x.operation) k ≡ true = number_is (stop_of x.operation) k (ap (λ (y : Line). stop_of y.operation) same ∙ e) in
    let here : first ≡ first + 0 = omega arith in
    ap (λ (b : Bool). if b then Some first else stop_from (first + 1) xs k) is ∙ ap (λ (p : ℕ). Some p) here
found_from first (x ∷ xs) (suc q) k l at e none =
    by (is_number (stop_of x.operation) k) refl (found_from (first + 1) xs q k l at e (λ j n less there same. none (suc j) n (omega (arith, less)) there same))
  where
    by : (b : Bool) → is_number (stop_of x.operation) k ≡ b → stop_from (first + 1) xs k ≡ Some (first + 1 + q) → (if b then Some first else stop_from (first + 1) xs k) ≡ Some (first + suc q)
    by true is rest = absurd (none zero x (omega arith) refl (is_numbered (stop_of x.operation) k is))
    by false is rest = let same : first + 1 + q ≡ first + suc q = omega arith in rest ∙ ap (λ (p : ℕ). Some p) same

-- ---- a module of valid code

module _ (c : Automata) (valid : Valid c) (m : ModuleId) (signature : Signature) (lines : List Line) (is : IsModule c m signature lines) where
  -- a jump leads to an operation of its own place and depth
  jump_reaches : (p t : ℕ) (l : Line) → slice_get lines p ≡ Some l → jump_of l.operation ≡ Some t → IsReached lines l.place (way t l.depth)
  jump_reaches p t l at e =
      let leads : LeadsOn c.heads lines p l = leads_on c.heads signature lines p l at (valid_passes c m signature lines p l valid is at) in
      (subst (λ (o : Operation). Each (IsReached lines (place_left c.heads l.place o)) (goes_on_at o p l.depth)) (jump_is l.operation t e) leads).0

  later_or_test : (p t : ℕ) (l : Line) → slice_get lines p ≡ Some l → jump_of l.operation ≡ Some t → (p < t) ⊎ IsTrue (test_in (slice_get lines t))
  later_or_test p t l at e = jump_leads c.heads signature lines p t l (jump_is l.operation t e) (valid_passes c m signature lines p l valid is at)

  -- over as many jumps as there are operations after it
  pub lands : (n p : ℕ) (here : Place) (depth : ℕ) → length lines ≤ n + p → IsReached lines here (way p depth) → IsLanded lines here depth (land lines n p)
  lands zero p here depth past r = absurd (omega (arith, past, slice_get_within lines p r.next r.at))
  lands (suc n) p here depth past r =
      subst (λ (o : Option ℕ). IsLanded lines here depth (follow o p (land lines n))) (sym (jump_there lines p r.next r.at)) (by (jump_of r.next.operation) refl (λ t. lands n t here depth))
    where
      at_test : (t : ℕ) (q : IsReached lines here (way t depth)) → IsTrue (test_in (slice_get lines t)) → IsLanded lines here depth (land lines n t)
      at_test t q test =
          let no_jump = test_is_no_jump q.next.operation (subst (λ (o : Option Line). test_in o ≡ true) q.at test) in
          subst (IsLanded lines here depth) (sym (stays lines n t (jump_there lines t q.next q.at ∙ no_jump))) (record { reached = q; is_no_jump = no_jump })

      by : (o : Option ℕ) → jump_of r.next.operation ≡ o → ((t : ℕ) → length lines ≤ n + t → IsReached lines here (way t depth) → IsLanded lines here depth (land lines n t))
          → IsLanded lines here depth (follow o p (land lines n))
      by None e rest = record { reached = r; is_no_jump = e }
      by (Some t) e rest =
          let there = jump_reaches p t r.next r.at e in
          let q : IsReached lines here (way t depth) = record { next = there.next; at = there.at; place = there.place ∙ r.place; depth = there.depth ∙ r.depth } in
          elim (later_or_test p t r.next r.at e) [
            | inl later ↦ rest t (omega (arith, past, later)) q
            | inr test ↦ at_test t q test
          ]

  -- ---- stops

  pub found : (q k : ℕ) (l : Line) → slice_get lines q ≡ Some l → stop_of l.operation ≡ Some k → stop_from 0 lines k ≡ Some q
  found q k l at e = found_from 0 lines q k l at e (λ j n less there same.
      let here : j ≡ q = one_stop c.heads signature lines j q k n l there at same e (valid_passes c m signature lines j n valid is there) (valid_passes c m signature lines q l valid is at) in
      omega (arith, less, here)) ∙ ap (λ (p : ℕ). Some p) (zero_first q)
