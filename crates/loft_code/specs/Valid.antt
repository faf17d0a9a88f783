-- What is wrong with code, and which of it comes first (docs/CODE.md, "Valid code").
use Rattle.std.specs.Prelude.{◌≡◌, ℕ, ◌+◌, ◌<◌, nat_lt, nat_le, Bool, true, false, not, ◌==◌, ◌&&◌, ◌||◌, List, [], ◌∷◌, length, take, Option, Some, None, is_some, slice_get, if◌then◌else◌}
use Rattle.std.specs.List.{count_by}
use Rattle.loft_base.specs.declared.ids.ModuleId.{ModuleId}
use Rattle.loft_tree.specs.declared.heads.Signature.{Signature}
use Rattle.loft_tree.specs.declared.heads.Heads.{Heads}
use Rattle.loft_tree.specs.NamedFits.{slots_of}
use Rattle.loft_code.specs.declared.limits.TheConstants.{MAX_DEPTH}
use Rattle.loft_code.specs.declared.error.OpAt.{OpAt}
use Rattle.loft_code.specs.declared.error.CodeError.{CodeError}
use Rattle.loft_code.specs.declared.error.CodeError.TheVariants.{JumpOut, BadName, BadStop, BadPlace, BadCount, KindMismatch}
use Rattle.loft_code.specs.declared.ways.Way.{Way}
use Rattle.loft_code.specs.Operations.{Operation, Branch, Turn, Jump, Line, Automata, goes_on_at, is_test, is_end, is_turn, is_last, stop_of}
use Rattle.loft_code.specs.Names.{has_bad_name}
use Rattle.loft_code.specs.Places.{has_bad_place}
use Rattle.loft_code.specs.Kinds.{has_bad_kind}

-- ---- targets

abbrev pub test_in : Option Line → Bool
test_in None = false
test_in (Some l) = is_test l.operation

-- A target isn't an operation of the module; or operation p goes to its own number or a smaller one, but for a `jump` to a `branch` or `turn`.
abbrev pub leads_out : List Line → ℕ → Operation → Bool
leads_out lines p (Branch t test) = not (nat_lt t (length lines)) || nat_le t p
leads_out lines p (Turn t) = not (nat_lt t (length lines)) || nat_le t p
leads_out lines p (Jump t) = not (nat_lt t (length lines)) || (nat_le t p && not (test_in (slice_get lines t)))
leads_out lines p operation = false

-- the same, or it is the last operation and neither `jump` nor `end`
abbrev pub jumps_out : List Line → ℕ → Operation → Bool
jumps_out lines p o = leads_out lines p o || ((p + 1 == length lines) && not (is_last o))

-- ---- stops

abbrev pub is_stop : Line → Bool
is_stop l = is_some (stop_of l.operation)

-- how many stops stand before operation p
abbrev pub stops_before : List Line → ℕ → ℕ
stops_before lines p = count_by is_stop (take p lines)

abbrev pub is_wrong_stop : Option ℕ → ℕ → Bool
is_wrong_stop None before = false
is_wrong_stop (Some k) before = not (k == before + 1)

-- The stops of a module are numbered 1, 2, .. in order, and this one has another number. Of all that are wrong the first is the answer.
abbrev pub has_bad_stop : List Line → ℕ → Operation → Bool
has_bad_stop lines p o = is_wrong_stop (stop_of o) (stops_before lines p)

-- ---- counts

abbrev pub has_depth : ℕ → Option Line → Bool
has_depth depth None = true
has_depth depth (Some l) = depth == l.depth

-- one of the operations at which it goes on has another depth
abbrev pub leads_off : List Line → List Way → Bool
leads_off lines [] = false
leads_off lines (w ∷ ws) = not (has_depth w.depth (slice_get lines w.at)) || leads_off lines ws

-- Operation 0 or an `end` has a depth other than 0; or an operation at which it goes on has another depth than the one that it leaves; or a `turn`
-- has depth 0; or the depth is above 32.
abbrev pub has_bad_count : List Line → ℕ → Line → Bool
has_bad_count lines p l =
    (((p == 0) || is_end l.operation) && not (l.depth == 0))
    || leads_off lines (goes_on_at l.operation p l.depth)
    || (is_turn l.operation && (l.depth == 0))
    || nat_lt MAX_DEPTH l.depth

-- ---- the first error

abbrev pub op_at : ModuleId → ℕ → OpAt
op_at m p = record { «module» = m; op = p }

-- the first error of operation p of a module, if it has one
abbrev pub line_error : Heads → ModuleId → Signature → List Line → ℕ → Line → Option CodeError
line_error h m signature lines p l =
    if jumps_out lines p l.operation then Some (JumpOut (op_at m p))
    else if has_bad_name h (slots_of signature) l then Some (BadName (op_at m p))
    else if has_bad_stop lines p l.operation then Some (BadStop (op_at m p))
    else if has_bad_place h signature lines p l then Some (BadPlace (op_at m p))
    else if has_bad_count lines p l then Some (BadCount (op_at m p))
    else if has_bad_kind h (slots_of signature) l then Some (KindMismatch (op_at m p))
    else None

-- a module without operations has JumpOut at operation 0
abbrev pub empty_error : ModuleId → List Line → ℕ → Option CodeError
empty_error m [] p = if p == 0 then Some (JumpOut (op_at m p)) else None
empty_error m (l ∷ ls) p = None

abbrev pub error_in : Heads → ModuleId → Signature → List Line → ℕ → Option Line → Option CodeError
error_in h m signature lines p None = empty_error m lines p
error_in h m signature lines p (Some l) = line_error h m signature lines p l

-- the first errors of the operations of a module
abbrev pub errors_in : Heads → ModuleId → Signature → List Line → ℕ → Option CodeError
errors_in h m signature lines p = error_in h m signature lines p (slice_get lines p)

-- the same of a module that is declared
abbrev pub module_error : Heads → ModuleId → Option Signature → Option (List Line) → ℕ → Option CodeError
module_error h m None lines p = None
module_error h m (Some signature) None p = None
module_error h m (Some signature) (Some lines) p = errors_in h m signature lines p

abbrev pub error_at : Automata → ModuleId → ℕ → Option CodeError
error_at c m p = module_error c.heads m (slice_get c.heads.modules m.0) (slice_get c.modules m.0) p

-- ---- valid code

-- no operation of a module has an error, where these are the first errors of its operations
abbrev pub NoError : (ℕ → Option CodeError) → Type 0
NoError errors = (p : ℕ) → errors p ≡ None

-- the first operation that has an error, and its first one
pub record FirstError (errors : ℕ → Option CodeError) (e : CodeError) : Type 0 where
  pub op : ℕ
  pub here : errors op ≡ Some e
  pub before : (p : ℕ) → p < op → errors p ≡ None

-- no operation has an error
abbrev pub Valid : Automata → Type 0
Valid c = (m : ModuleId) → NoError (error_at c m)

-- the first operation that has an error, modules in the order of the text, and its first one
pub record CodeFault (c : Automata) (e : CodeError) : Type 0 where
  pub «module» : ModuleId
  pub fault : FirstError (error_at c «module») e
  pub before : (m : ModuleId) → m.0 < «module».0 → NoError (error_at c m)
