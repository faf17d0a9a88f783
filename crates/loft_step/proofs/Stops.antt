-- The stops of a module, by their numbers.
use Rattle.std.proofs.Common.{◌≡◌, ℕ, zero, suc, ◌+◌, ◌<◌, ◌≤◌, ◌⊎◌, inl, inr, Bool, true, false, List, [], ◌∷◌, refl, sym, ap, subst, ◌∙◌, take, cond, count_by, is_some, eq-eqb, Option, Some, None, arith}
use Rattle.std.proofs.lemmas.Bool.{eqb-true, cases_lt}
use Rattle.std.proofs.lemmas.Option.{slice_get_within, slice_get_cases}
use Rattle.std.proofs.lemmas.List.{take-take}
use Rattle.std.proofs.lemmas.List.Sums.{sum_by-take-le}
use Rattle.std.specs.Prelude.{slice_get, unwrap_or, if◌then◌else◌}
use Rattle.std.specs.Option.{option_and_then}
use Rattle.loft_base.specs.declared.ids.ModuleId.{ModuleId}
use Rattle.loft_tree.specs.declared.heads.Signature.{Signature}
use Rattle.loft_code.specs.Operations.{Line, Automata, stop_of}
use Rattle.loft_code.specs.Fits.{LinesFit, RawFits}
use Rattle.loft_code.specs.Valid.{is_stop, stops_before, Valid}
use Rattle.loft_code.specs.Leads.{IsModule}
use Rattle.loft_code.proofs.Checked.{each_at, stops_next}
use Rattle.loft_code.proofs.Leading.{valid_passes, stop_number, small_stop, one_stop}
use Rattle.loft_sense.specs.Code.{lines_at, is_number, stop_from}
use Rattle.loft_step.specs.Lines.{HasNoStop, IsLastStop, LiesIn, StopsAreNumbered}

-- ---- numbers

pub same_number : (o : Option ℕ) (k : ℕ) → is_number o k ≡ true → o ≡ Some k
same_number None k is = absurd cc
same_number (Some here) k is = ap (λ (n : ℕ). Some n) (eqb-true here k is)

is_same : (o : Option ℕ) (k : ℕ) → o ≡ Some k → is_number o k ≡ true
is_same o k is = ap (λ (x : Option ℕ). is_number x k) is ∙ eq-eqb k k refl

-- ---- the search

-- the stop at an operation
abbrev stop_in : List Line → ℕ → Option ℕ
stop_in lines p = option_and_then (λ (l : Line). stop_of l.operation) (slice_get lines p)

stop_there : (lines : List Line) (p : ℕ) (l : Line) (o : Option ℕ) → slice_get lines p ≡ Some l → stop_of l.operation ≡ o → stop_in lines p ≡ o
stop_there lines p l o at is = ap (option_and_then (λ (n : Line). stop_of n.operation)) at ∙ is

same_stop : (o : Option ℕ) (j k : ℕ) → o ≡ Some j → o ≡ Some k → j ≡ k
same_stop o j k one other = ap (λ (x : Option ℕ). unwrap_or x 0) (sym one ∙ other)

no_stop : (o : Option ℕ) (k : ℕ) → o ≡ None → o ≡ Some k → ⊥
no_stop o k none some = absurd (let e : None ≡ Some k = sym none ∙ some in cc)

module _ (lines : List Line) (numbered : StopsAreNumbered lines) (k low high to op j : ℕ) (found : IsLastStop lines low to op j) where
  number_is : (p : ℕ) (l : Line) → p ≡ op → slice_get lines p ≡ Some l → stop_of l.operation ≡ Some k → j ≡ k
  number_is p l here at stop =
      same_stop (stop_in lines op) j k (stop_there lines op found.line (Some j) found.here found.stop)
      (subst (λ (q : ℕ). stop_in lines q ≡ Some k) here (stop_there lines p l (Some k) at stop))

  -- it has a smaller one
  pub lies_after : j < k → LiesIn lines k low high → LiesIn lines k to high
  lies_after less lies p l at stop = elim (cases_lt p to) [
    | inl lt ↦ absurd (elim (cases_lt op p) [
      | inl after ↦ no_stop (stop_of l.operation) k (found.last p l (omega (arith, after)) lt at) stop
      | inr le ↦ elim (cases_lt p op) [
        | inl before ↦ let more = (numbered op j found.line found.here found.stop).order p k l before at stop in omega (arith, more, less)
        | inr ge ↦ let same = number_is p l (omega (arith, le, ge)) at stop in omega (arith, same, less)
      ]
    ])
    | inr ge ↦ (ge, (lies p l at stop).1)
  ]

  -- it has a greater one
  pub lies_before : k < j → LiesIn lines k low high → LiesIn lines k low op
  lies_before more lies p l at stop = elim (cases_lt p op) [
    | inl lt ↦ ((lies p l at stop).0, lt)
    | inr ge ↦ absurd (elim (cases_lt op p) [
      | inl after ↦ let less = (numbered p k l at stop).order op j found.line after found.here found.stop in omega (arith, more, less)
      | inr le ↦ let same = number_is p l (omega (arith, le, ge)) at stop in omega (arith, same, more)
    ])
  ]

none_here : (b : Bool) (o rest : Option ℕ) → (b ≡ true → ⊥) → rest ≡ None → (if b then o else rest) ≡ None
none_here true o rest never is = absurd (never refl)
none_here false o rest never is = is

absent_from : (lines : List Line) (base k : ℕ) → ((p : ℕ) (l : Line) → slice_get lines p ≡ Some l → stop_of l.operation ≡ Some k → ⊥) → stop_from base lines k ≡ None
absent_from [] base k none = refl
absent_from (x ∷ xs) base k none =
    none_here (is_number (stop_of x.operation) k) (Some base) (stop_from (base + 1) xs k)
    (λ is. none 0 x refl (same_number (stop_of x.operation) k is))
    (absent_from xs (base + 1) k (λ p l at stop. none (suc p) l at stop))

-- no operation is left
pub nowhere : (lines : List Line) (k low high : ℕ) → high ≤ low → LiesIn lines k low high → stop_from 0 lines k ≡ None
nowhere lines k low high over lies = absent_from lines 0 k (λ p l at stop. let there = lies p l at stop in omega (arith, over, there.0, there.1))

-- the operation that is there isn't stop k
pub lies_on : (lines : List Line) (k op high : ℕ) (here : Line) → slice_get lines op ≡ Some here → is_number (stop_of here.operation) k ≡ false → LiesIn lines k op high → LiesIn lines k (op + 1) high
lies_on lines k op high here at other lies p l there stop = elim (cases_lt op p) [
  | inl lt ↦ (omega (arith, lt), (lies p l there stop).1)
  | inr le ↦ absurd (
      let same : p ≡ op = omega (arith, le, (lies p l there stop).0) in
      let found : is_number (stop_in lines op) k ≡ true = is_same (stop_in lines op) k (subst (λ (q : ℕ). stop_in lines q ≡ Some k) same (stop_there lines p l (Some k) there stop)) in
      let e : true ≡ false = sym found ∙ (ap (λ (o : Option ℕ). is_number o k) (stop_there lines op here (stop_of here.operation) at refl) ∙ other) in cc)
]

-- the operation that is there isn't a stop
pub none_there : (lines : List Line) (p : ℕ) (here : Line) → slice_get lines p ≡ Some here → stop_of here.operation ≡ None → (l : Line) → slice_get lines p ≡ Some l → stop_of l.operation ≡ None
none_there lines p here at none l also = sym (stop_there lines p l (stop_of l.operation) also refl) ∙ stop_there lines p here None at none

-- one more operation isn't a stop
pub no_stop_more : (lines : List Line) (op next to : ℕ) → next ≡ op + 1 → HasNoStop lines next to → ((l : Line) → slice_get lines op ≡ Some l → stop_of l.operation ≡ None) → HasNoStop lines op to
no_stop_more lines op next to is none here p l after before at = elim (cases_lt op p) [
  | inl lt ↦ none p l (omega (arith, is, lt)) before at
  | inr le ↦ let same : p ≡ op = omega (arith, le, after) in here l (subst (λ (q : ℕ). slice_get lines q ≡ Some l) same at)
]

-- ---- valid code

-- no operation but p is stop k
abbrev OnlyThere : List Line → ℕ → ℕ → Type 0
OnlyThere lines p k = (q : ℕ) (n : Line) → slice_get lines q ≡ Some n → stop_of n.operation ≡ Some k → q ≡ p

by_number : (lines : List Line) (base p k : ℕ) (l : Line) → slice_get lines p ≡ Some l → stop_of l.operation ≡ Some k → OnlyThere lines p k → stop_from base lines k ≡ Some (base + p)
by_number [] base p k l at is only = absurd cc
by_number (x ∷ xs) base zero k l at is only =
    let same : x ≡ l = cc in
    let here : base ≡ base + 0 = omega arith in
    ap (λ (b : Bool). if b then Some base else stop_from (base + 1) xs k) (is_same (stop_of x.operation) k (ap (λ (n : Line). stop_of n.operation) same ∙ is))
    ∙ ap (λ (n : ℕ). Some n) here
by_number (x ∷ xs) base (suc p) k l at is only = elim (cases (is_number (stop_of x.operation) k)) [
  | inl found ↦ absurd (let e : 0 ≡ suc p = only 0 x refl (same_number (stop_of x.operation) k found) in omega (arith, e))
  | inr other ↦
      let there : base + 1 + p ≡ base + suc p = omega arith in
      ap (λ (b : Bool). if b then Some base else stop_from (base + 1) xs k) other
      ∙ (by_number xs (base + 1) p k l at is (λ q n on is_k. let e : suc q ≡ suc p = only (suc q) n on is_k in omega (arith, e))
      ∙ ap (λ (n : ℕ). Some n) there)
]
  where
    cases : (b : Bool) → (b ≡ true) ⊎ (b ≡ false)
    cases true = inl refl
    cases false = inr refl

-- a stop counts for those after it
more_stops : (lines : List Line) (q p j : ℕ) (l : Line) → q < p → slice_get lines q ≡ Some l → stop_of l.operation ≡ Some j → stops_before lines q + 1 ≤ stops_before lines p
more_stops lines q p j l lt at stop =
    let counted : ◌≡◌ {A = ℕ} (if is_stop l then 1 else 0) 1 = ap (λ (o : Option ℕ). if is_some o then 1 else 0) stop in
    let within : stops_before (take p lines) (q + 1) ≤ count_by is_stop (take p lines) = sum_by-take-le (λ x. cond (is_stop x) 1 0) (take p lines) (q + 1) in
    let same : stops_before (take p lines) (q + 1) ≡ stops_before lines (q + 1) = ap (count_by is_stop) (take-take (q + 1) p lines (omega (arith, lt))) in
    omega (arith, stops_next lines q l at, counted, within, same)

module _ (c : Automata) (valid : Valid c) (fits : RawFits c) (m : ModuleId) where
  numbered : (signature : Signature) (lines : List Line) → IsModule c m signature lines → StopsAreNumbered lines
  numbered signature lines is p k l at stop =
      let good = valid_passes c m signature lines p l valid is at in
      let number = small_stop c.heads signature lines p k l stop good in
      let few = (each_at LinesFit c.modules m.0 lines fits.each is.code).few in
      record {
        first =
            let there : 0 + p ≡ p = omega arith in
            by_number lines 0 p k l at stop (λ q n on is_k. one_stop c.heads signature lines q p k n l on at is_k stop (valid_passes c m signature lines q n valid is on) good)
            ∙ ap (λ (n : ℕ). Some n) there;
        some = number.0;
        small = omega (arith, number.1, few, slice_get_within lines p l at);
        order = λ q j n lt on is_j.
            omega (arith, more_stops lines q p j n lt on is_j, stop_number c.heads signature lines p k l stop good, stop_number c.heads signature lines q j n is_j (valid_passes c m signature lines q n valid is on));
      }

  none_numbered : StopsAreNumbered []
  none_numbered p k l at stop = absurd cc

  -- each stop is found by its number
  pub stops_are_numbered : StopsAreNumbered (lines_at c m)
  stops_are_numbered = elim (slice_get_cases c.modules m.0).1 [
    | inl found ↦ elim (slice_get_cases c.heads.modules m.0).1 [
      | inl declared ↦ subst (λ (o : Option (List Line)). StopsAreNumbered (unwrap_or o [])) (sym found.2) (numbered declared.0 found.0 (record { declared = declared.2; code = found.2 }))
      | inr past ↦ absurd (omega (arith, found.1, past.0, fits.all_modules))
    ]
    | inr past ↦ subst (λ (o : Option (List Line)). StopsAreNumbered (unwrap_or o [])) (sym past.1) none_numbered
  ]
