-- What valid code keeps in each operation.
use Rattle.std.proofs.Common.{◌≡◌, ℕ, ◌+◌, ◌<◌, ◌≤◌, Bool, true, false, not, ◌&&◌, ◌||◌, ◌==◌, List, length, take, Option, Some, None, refl, sym, ap, ◌∙◌, arith}
use Rattle.std.specs.Prelude.{slice_get, nat_lt, nat_le, if◌then◌else◌}
use Rattle.std.proofs.lemmas.List.{length-take}
use Rattle.std.proofs.lemmas.List.Sums.{count_by-le-length}
use Rattle.std.proofs.lemmas.Bool.{eqb-true, ltb-true, ltb-false}
use Rattle.loft_base.specs.declared.ids.ModuleId.{ModuleId}
use Rattle.loft_lex.specs.Bytes.{max_number}
use Rattle.loft_tree.specs.declared.heads.Signature.{Signature}
use Rattle.loft_tree.specs.declared.heads.Heads.{Heads}
use Rattle.loft_tree.specs.Fits.{Each}
use Rattle.loft_tree.specs.NamedFits.{slots_of}
use Rattle.loft_names.proofs.HeadsLists.{each_from_get}
use Rattle.loft_code.specs.declared.limits.TheConstants.{MAX_DEPTH, MAX_OPERATIONS}
use Rattle.loft_code.specs.declared.error.CodeError.{CodeError}
use Rattle.loft_code.specs.declared.error.CodeError.TheVariants.{JumpOut, BadName, BadStop, BadPlace, BadCount}
use Rattle.loft_code.specs.Places.{has_bad_place}
use Rattle.loft_code.specs.Names.{has_bad_name, has_place, operation_has}
use Rattle.loft_code.specs.Operations.{Operation, Do, Hold, Call, Branch, Enter, Count, Turn, Jump, End, Line, Automata, is_last, stop_of}
use Rattle.loft_code.specs.Valid.{Valid, error_at, error_in, has_bad_count, has_bad_stop, is_stop, is_wrong_stop, jumps_out, leads_out, line_error, module_error, op_at, stops_before, test_in}

-- the numbers in an operation can be written
abbrev pub IsSmall : Operation → Type 0
IsSmall (Do action) = Unit {0}
IsSmall (Hold k pause) = k ≤ max_number
IsSmall (Call k m arguments) = k ≤ max_number
IsSmall (Branch t test) = t ≤ max_number
IsSmall Enter = Unit {0}
IsSmall (Count count) = Unit {0}
IsSmall (Turn t) = t ≤ max_number
IsSmall (Jump t) = t ≤ max_number
IsSmall End = Unit {0}

-- an operation of a module with this signature
pub record LinePasses (h : Heads) (m : Signature) (l : Line) : Type 0 where
  pub named : (has_place h l.place && operation_has h (slots_of m) l.operation) ≡ true
  pub numbers : IsSmall l.operation
  pub depth : l.depth ≤ MAX_DEPTH

-- ---- tests

not_first : (b : Bool) (e : CodeError) (rest : Option CodeError) → (if b then Some e else rest) ≡ None → (b ≡ false) × (rest ≡ None)
not_first true e rest none = absurd cc
not_first false e rest none = (refl, none)

neither : (a b : Bool) → (a || b) ≡ false → (a ≡ false) × (b ≡ false)
neither true b is = absurd cc
neither false b is = (refl, is)

not_false : (b : Bool) → not b ≡ false → b ≡ true
not_false true is = refl
not_false false is = absurd cc

-- ---- numbers

stop_small : (lines : List Line) (p : ℕ) (k : ℕ) → length lines ≤ MAX_OPERATIONS → is_wrong_stop (Some k) (stops_before lines p) ≡ false → k ≤ max_number
stop_small lines p k few right =
    let number : k ≡ stops_before lines p + 1 = eqb-true k (stops_before lines p + 1) (not_false (k == stops_before lines p + 1) right) in
    omega (arith, number, count_by-le-length is_stop (take p lines), length-take p lines, few)

-- a target is the number of an operation
target_small : (lines : List Line) (t : ℕ) (others : Bool) → length lines ≤ MAX_OPERATIONS → (not (nat_lt t (length lines)) || others) ≡ false → t ≤ max_number
target_small lines t others few right =
    let within : t < length lines = ltb-true t (length lines) (not_false (nat_lt t (length lines)) (neither (not (nat_lt t (length lines))) others right).0) in
    omega (arith, within, few)

numbers_small : (lines : List Line) (p : ℕ) (o : Operation) → length lines ≤ MAX_OPERATIONS → leads_out lines p o ≡ false → is_wrong_stop (stop_of o) (stops_before lines p) ≡ false → IsSmall o
numbers_small lines p (Do action) few leads stop = tt
numbers_small lines p (Hold k pause) few leads stop = stop_small lines p k few stop
numbers_small lines p (Call k m arguments) few leads stop = stop_small lines p k few stop
numbers_small lines p (Branch t test) few leads stop = target_small lines t (nat_le t p) few leads
numbers_small lines p Enter few leads stop = tt
numbers_small lines p (Count count) few leads stop = tt
numbers_small lines p (Turn t) few leads stop = target_small lines t (nat_le t p) few leads
numbers_small lines p (Jump t) few leads stop = target_small lines t (nat_le t p && not (test_in (slice_get lines t))) few leads
numbers_small lines p End few leads stop = tt

depth_small : (lines : List Line) (p : ℕ) (l : Line) → has_bad_count lines p l ≡ false → l.depth ≤ MAX_DEPTH
depth_small lines p l right =
    let off : nat_lt MAX_DEPTH l.depth ≡ false = (neither _ (nat_lt MAX_DEPTH l.depth) right).1 in
    ltb-false MAX_DEPTH l.depth off

-- an operation without an error
passes : (h : Heads) (m : ModuleId) (signature : Signature) (lines : List Line) (p : ℕ) (l : Line) → length lines ≤ MAX_OPERATIONS → line_error h m signature lines p l ≡ None → LinePasses h signature l
passes h m signature lines p l few none =
    let one = not_first (jumps_out lines p l.operation) (JumpOut (op_at m p)) _ none in
    let two = not_first (has_bad_name h (slots_of signature) l) (BadName (op_at m p)) _ one.1 in
    let three = not_first (has_bad_stop lines p l.operation) (BadStop (op_at m p)) _ two.1 in
    let four = not_first (has_bad_place h signature lines p l) (BadPlace (op_at m p)) _ three.1 in
    let five = not_first (has_bad_count lines p l) (BadCount (op_at m p)) _ four.1 in
    let named = not_false (has_place h l.place && operation_has h (slots_of signature) l.operation) two.0 in
    let leads = neither (leads_out lines p l.operation) ((p + 1 == length lines) && not (is_last l.operation)) one.0 in
    record {
      named = named;
      numbers = numbers_small lines p l.operation few leads.0 three.0;
      depth = depth_small lines p l five.0;
    }

-- the operations of valid code
pub all_pass : (c : Automata) → Valid c → (k : ℕ) (m : Signature) (lines : List Line) → slice_get c.heads.modules k ≡ Some m → slice_get c.modules k ≡ Some lines → length lines ≤ MAX_OPERATIONS
    → Each (LinePasses c.heads m) lines
all_pass c valid k m lines is has few = each_from_get (LinePasses c.heads m) lines (λ p l at.
    let id : ModuleId = record { 0 = k } in
    let none : error_at c id p ≡ None = valid id p in
    let here : module_error c.heads id (Some m) (Some lines) p ≡ None = (λ i. module_error c.heads id (sym is i) (sym has i) p) ∙ none in
    let error : error_in c.heads id m lines p (Some l) ≡ None = ap (error_in c.heads id m lines p) (sym at) ∙ here in
    passes c.heads id m lines p l few error)
