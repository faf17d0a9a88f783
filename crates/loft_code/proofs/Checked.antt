-- The operations that were asked so far have no error.
use Rattle.std.proofs.Common.{◌≡◌, ◌==◌, ℕ, zero, suc, ◌+◌, ◌<◌, ◌≤◌, Bool, true, false, take, Some, None, slice_get, refl, ap, sym, subst, ◌∙◌, inl, inr, get_or, map, length, List, [], ◌∷◌, Option, arith, length-take, below_more}
use Rattle.std.specs.Prelude.{if◌then◌else◌, Result, Ok, Err, MatchResult}
use Rattle.std.proofs.lemmas.Option.{slice_get_within, get_or_from_slice_get, slice_get_past, slice_get_read, slice_get-map}
use Rattle.std.proofs.lemmas.Bool.{cases_lt}
use Rattle.std.specs.Option.{option_map}
use Rattle.std.proofs.lemmas.List.Sums.{count_by_more_yes, count_by_more_no, count_by-le-length}
use Rattle.loft_base.specs.declared.ids.ModuleId.{ModuleId}
use Rattle.loft_tree.specs.declared.heads.Signature.{Signature}
use Rattle.loft_tree.specs.declared.heads.Heads.{Heads}
use Rattle.loft_tree.specs.Fits.{Each}
use Rattle.loft_code.specs.declared.error.CodeError.{CodeError}
use Rattle.loft_code.specs.declared.raw.CodeLine.{CodeLine}
use Rattle.loft_code.specs.declared.raw.ModuleCode.{ModuleCode}
use Rattle.loft_code.specs.Operations.{Line, Automata}
use Rattle.loft_code.specs.View.{line_of, lines_of}
use Rattle.loft_code.specs.Fits.{AreFew, LinesFit}
use Rattle.loft_code.specs.Valid.{is_stop, stops_before, line_error, errors_in, error_in, module_error, error_at, NoError, FirstError, Valid, CodeFault}

pub record LinesSoFar (h : Heads) (m : ModuleId) (signature : Signature) (lines : List Line) (number before : ℕ) : Type 0 where
  pub stops : before ≡ stops_before lines number
  pub none : (p : ℕ) → p < number → errors_in h m signature lines p ≡ None

-- ---- stops

-- there are no more stops than operations
pub few_stops : (lines : List Line) (p : ℕ) → stops_before lines p ≤ p
few_stops lines p = omega (arith, count_by-le-length is_stop (take p lines), length-take p lines)

one_more : (b : Bool) (lines : List Line) (p : ℕ) (l : Line) → slice_get lines p ≡ Some l → is_stop l ≡ b
    → stops_before lines (p + 1) ≡ stops_before lines p + (if b then 1 else 0)
one_more true lines p l at is =
    count_by_more_yes is_stop lines p l (slice_get_within lines p l at) (ap is_stop (get_or_from_slice_get lines p l l at) ∙ is)
one_more false lines p l at is =
    let same : stops_before lines (p + 1) ≡ stops_before lines p =
    count_by_more_no is_stop lines p l (slice_get_within lines p l at) (ap is_stop (get_or_from_slice_get lines p l l at) ∙ is) in
    omega (arith, same)

pub stops_next : (lines : List Line) (p : ℕ) (l : Line) → slice_get lines p ≡ Some l → stops_before lines (p + 1) ≡ stops_before lines p + (if is_stop l then 1 else 0)
stops_next lines p l at = one_more (is_stop l) lines p l at refl

-- ---- errors

module _ (h : Heads) (m : ModuleId) (signature : Signature) (lines : List Line) where
  -- the error of an operation that is there
  pub error_is : (p : ℕ) (l : Line) → slice_get lines p ≡ Some l → errors_in h m signature lines p ≡ line_error h m signature lines p l
  error_is p l at = ap (error_in h m signature lines p) at

  pub so_far_at_first : LinesSoFar h m signature lines 0 0
  so_far_at_first = record { stops = refl; none = λ p lt. absurd (omega (arith, lt)) }

  -- one more operation has none
  pub so_far_next : (p before more : ℕ) (l : Line) → slice_get lines p ≡ Some l → more ≡ (if is_stop l then 1 else 0)
      → line_error h m signature lines p l ≡ None → LinesSoFar h m signature lines p before
      → LinesSoFar h m signature lines (p + 1) (before + more)
  so_far_next p before more l at is none so_far = record {
    stops = omega (arith, stops_next lines p l at, is, so_far.stops);
    none = below_more (λ q. errors_in h m signature lines q ≡ None) p so_far.none (error_is p l at ∙ none);
  }

  -- an error after operations without one
  pub first_here : (p before : ℕ) (l : Line) (e : CodeError) → slice_get lines p ≡ Some l → line_error h m signature lines p l ≡ Some e
      → LinesSoFar h m signature lines p before → FirstError (errors_in h m signature lines) e
  first_here p before l e at is so_far = record { op = p; here = error_is p l at ∙ is; before = so_far.none }

  -- past the end there is no operation
  past_end : (ls : List Line) (p : ℕ) → 0 < length ls → length ls ≤ p → error_in h m signature ls p (slice_get ls p) ≡ None
  past_end [] p some past = absurd (omega (arith, some))
  past_end (l ∷ ls) p some past = ap (error_in h m signature (l ∷ ls) p) (slice_get_past (l ∷ ls) p past)

  -- no operation has an error
  pub all_asked : (number before : ℕ) → 0 < length lines → length lines ≤ number → LinesSoFar h m signature lines number before
      → (p : ℕ) → errors_in h m signature lines p ≡ None
  all_asked number before some past so_far p =
      elim (cases_lt p number) [
        | inl lt ↦ so_far.none p lt
        | inr ge ↦ past_end lines p some (omega (arith, past, ge))
      ]

-- the line that stands at a number in memory
pub line_at : (ls : List CodeLine) (p : ℕ) (l : CodeLine) → p < length ls → l ≡ get_or ls p l → slice_get (map line_of ls) p ≡ Some (line_of l)
line_at ls p l lt is = slice_get-map line_of ls p ∙ ap (option_map line_of) (slice_get_read ls _ p l refl lt is)

-- ---- modules

module _ (c : Automata) where
  -- an error after modules without one
  pub first_module : (k : ℕ) (e : CodeError) → FirstError (error_at c (record { 0 = k })) e
      → ((j : ℕ) → j < k → NoError (error_at c (record { 0 = j }))) → CodeFault c e
  first_module k e fault before = record { «module» = record { 0 = k }; fault = fault; before = λ m lt. before m.0 lt }

  undeclared : (m : ModuleId) (signature : Option Signature) (p : ℕ) → module_error c.heads m signature None p ≡ None
  undeclared m None p = refl
  undeclared m (Some signature) p = refl

  -- no module has an error
  pub all_modules : (k : ℕ) → length c.modules ≤ k → ((j : ℕ) → j < k → NoError (error_at c (record { 0 = j }))) → Valid c
  all_modules k past before m p =
      elim (cases_lt m.0 k) [
        | inl lt ↦ before m.0 lt p
        | inr ge ↦ ap (λ (lines : Option (List Line)). module_error c.heads m (slice_get c.heads.modules m.0) lines p) (slice_get_past c.modules m.0 (omega (arith, past, ge)))
            ∙ undeclared m (slice_get c.heads.modules m.0) p
      ]

  -- a module that is declared has the errors of its operations
  pub module_is : (m : ModuleId) (signature : Signature) (lines : List Line) → slice_get c.heads.modules m.0 ≡ Some signature → slice_get c.modules m.0 ≡ Some lines
      → (p : ℕ) → errors_in c.heads m signature lines p ≡ error_at c m p
  module_is m signature lines declared at p =
      ap (λ (ls : Option (List Line)). module_error c.heads m (Some signature) ls p) (sym at)
      ∙ ap (λ (s : Option Signature). module_error c.heads m s (slice_get c.modules m.0) p) (sym declared)

-- the answer to the one is the answer to the other
pub same_answer : {A : Type 0} (f g : ℕ → Option CodeError) (r : Result A CodeError) → ((p : ℕ) → f p ≡ g p)
    → MatchResult r (λ x. NoError f) (FirstError f) → MatchResult r (λ x. NoError g) (FirstError g)
same_answer f g (Ok x) same none = λ p. sym (same p) ∙ none p
same_answer f g (Err e) same fault = record { op = fault.op; here = sym (same fault.op) ∙ fault.here; before = λ p lt. sym (same p) ∙ fault.before p lt }

-- what each of a list is, the one with this number is
pub each_at : {A : Type 0} (P : A → Type 0) (xs : List A) (k : ℕ) (x : A) → Each P xs → slice_get xs k ≡ Some x → P x
each_at P [] k x each at = absurd cc
each_at P (y ∷ ys) zero x each at = let same : y ≡ x = cc in subst P same each.0
each_at P (y ∷ ys) (suc k) x each at = each_at P ys k x each.1 at

pub code_at : (ms : List ModuleCode) (k : ℕ) (m : ModuleCode) → k < length ms → m ≡ get_or ms k m → slice_get (map lines_of ms) k ≡ Some (lines_of m)
code_at ms k m lt is = slice_get-map lines_of ms k ∙ ap (option_map lines_of) (slice_get_read ms _ k m refl lt is)

-- what isn't empty has an element
pub some_from_test : (n : ℕ) → (n == 0) ≡ false → 0 < n
some_from_test zero not_empty = absurd cc
some_from_test (suc n) not_empty = omega arith

-- each module of code that keeps the limits has few enough operations
pub each_few : (ls : List (List Line)) → Each LinesFit ls → Each AreFew ls
each_few [] fit = tt
each_few (l ∷ ls) fit = (fit.0.few, each_few ls fit.1)
