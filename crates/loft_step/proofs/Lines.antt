-- The operations of a module, and where they lead.
use Rattle.std.proofs.Common.{◌≡◌, ◌≢◌, ℕ, zero, suc, ◌+◌, ◌-◌, ◌<◌, List, refl, sym, ap, ◌∙◌, length, get_or, Option, Some, None, arith}
use Rattle.std.proofs.lemmas.Option.{slice_get-map, slice_get_past, slice_get_read}
use Rattle.std.specs.Prelude.{map, slice_get}
use Rattle.std.specs.Option.{option_map, option_and_then}
use Rattle.std.specs.Borrow.{Bor}
use Rattle.std.specs.Slice.{IsItemAt}
use Rattle.loft_code.specs.declared.raw.CodeLine.{CodeLine}
use Rattle.loft_code.specs.Operations.{Line}
use Rattle.loft_code.specs.View.{line_of, operation_of}
use Rattle.loft_sense.specs.Code.{jump_of, jump_at, follow, land}
use Rattle.loft_step.specs.Lines.{line_in}

-- the operation with a number, if there is one
pub got : (lines : List CodeLine) (q : ℕ) (r : Option (Bor CodeLine)) → IsItemAt lines q r → line_in r ≡ slice_get (map line_of lines) q
got lines q None is = sym (slice_get-map line_of lines q ∙ ap (option_map line_of) (slice_get_past lines q is.3))
got lines q (Some l) is = sym (slice_get-map line_of lines q ∙ ap (option_map line_of) (slice_get_read lines (length lines) q l.now refl is.3.0 is.1))

-- the operation with a number that is there
pub item_at : (lines : List CodeLine) (q : ℕ) (l : CodeLine) → q < length lines → l ≡ get_or lines q l → slice_get (map line_of lines) q ≡ Some (line_of l)
item_at lines q l lt is = slice_get-map line_of lines q ∙ ap (option_map line_of) (slice_get_read lines (length lines) q l refl lt is)

-- ---- jumps

-- an operation that is no `jump` is where it leads
pub lands_here : (lines : List Line) (n p : ℕ) → jump_at lines p ≡ None → land lines n p ≡ p
lands_here lines zero p e = refl
lands_here lines (suc n) p e = ap (λ (o : Option ℕ). follow o p (land lines n)) e

-- a `jump` leads where its target leads, over one jump less
pub lands_there : (lines : List Line) (n p t : ℕ) → n ≢ 0 → jump_at lines p ≡ Some t → land lines n p ≡ land lines (n - 1) t
lands_there lines zero p t some e = absurd (some refl)
lands_there lines (suc n) p t some e =
    let same : n ≡ suc n - 1 = omega arith in
    ap (λ (o : Option ℕ). follow o p (land lines n)) e ∙ ap (λ (k : ℕ). land lines k t) same

jump_there : (lines : List Line) (p : ℕ) (l : Line) (t : ℕ) → Some l ≡ slice_get lines p → jump_of l.operation ≡ Some t → jump_at lines p ≡ Some t
jump_there lines p l t at is = ap (option_and_then (λ (k : Line). jump_of k.operation)) (sym at) ∙ is

-- one jump more, of n
pub jumps_on : (lines : List CodeLine) (n i p t : ℕ) (r : Option (Bor CodeLine)) (l : Bor CodeLine) (o : Option ℕ) → i < n → IsItemAt lines p r → r ≡ Some l → o ≡ jump_of (operation_of l.now.op) → o ≡ Some t
    → land (map line_of lines) (n - i) p ≡ land (map line_of lines) (n - (i + 1)) t
jumps_on lines n i p t r l o lt item is jump leads =
    let some : n - i ≢ 0 = omega arith in
    let less : n - i - 1 ≡ n - (i + 1) = omega arith in
    lands_there (map line_of lines) (n - i) p t some (jump_there (map line_of lines) p (line_of l.now) t (ap line_in (sym is) ∙ got lines p r item) (sym jump ∙ leads))
    ∙ ap (λ (k : ℕ). land (map line_of lines) k t) less
