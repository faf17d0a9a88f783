-- Code is valid, or has one first fault.
use Rattle.std.proofs.Common.{◌≡◌, ℕ, zero, suc, ◌+◌, ◌<◌, ◌≤◌, ◌⊎◌, inl, inr, List, [], ◌∷◌, length, Option, Some, None, slice_get, refl, sym, ap, ◌∙◌, arith, below_more, add-one, subst}
use Rattle.std.proofs.lemmas.Option.{slice_get_past}
use Rattle.std.proofs.lemmas.Bool.{cases_lt}
use Rattle.std.proofs.Math.Dec.{eqb-suc-zero}
use Rattle.loft_base.specs.declared.ids.ModuleId.{ModuleId}
use Rattle.loft_tree.specs.declared.heads.Signature.{Signature}
use Rattle.loft_tree.specs.declared.heads.Heads.{Heads}
use Rattle.loft_code.specs.declared.error.CodeError.{CodeError}
use Rattle.loft_code.specs.Operations.{Line, Automata}
use Rattle.loft_code.specs.Valid.{empty_error, error_in, module_error, error_at, NoError, FirstError, Valid, CodeFault}
use Rattle.loft_code.proofs.Checked.{all_modules}

-- ---- one module

module _ (errors : ℕ → Option CodeError) where
  abbrev None_below : ℕ → Type 0
  None_below n = (p : ℕ) → p < n → errors p ≡ None

  here_or_not : (n : ℕ) (o : Option CodeError) → errors n ≡ o → None_below n → None_below (n + 1) ⊎ ((e : CodeError) × FirstError errors e)
  here_or_not n None is none = inl (below_more (λ p. errors p ≡ None) n none is)
  here_or_not n (Some e) is none = inr (e, record { op = n; here = is; before = none })

  then_here : (n : ℕ) → None_below n ⊎ ((e : CodeError) × FirstError errors e) → None_below (n + 1) ⊎ ((e : CodeError) × FirstError errors e)
  then_here n (inl none) = here_or_not n (errors n) refl none
  then_here n (inr first) = inr first

  below : (n : ℕ) → None_below n ⊎ ((e : CodeError) × FirstError errors e)
  below zero = inl (λ p lt. absurd (omega (arith, lt)))
  below (suc n) = rw (← add-one) (then_here n (below n))

  none_or_first : (n : ℕ) → ((p : ℕ) → n ≤ p → errors p ≡ None) → None_below n ⊎ ((e : CodeError) × FirstError errors e) → NoError errors ⊎ ((e : CodeError) × FirstError errors e)
  none_or_first n past (inr first) = inr first
  none_or_first n past (inl none) = inl (λ p. elim (cases_lt p n) [ inl lt ↦ none p lt | inr ge ↦ past p ge ])

  pub first_or_none : (n : ℕ) → ((p : ℕ) → n ≤ p → errors p ≡ None) → NoError errors ⊎ ((e : CodeError) × FirstError errors e)
  first_or_none n past = none_or_first n past (below n)

empty_past : (m : ModuleId) (p : ℕ) → 1 ≤ p → empty_error m [] p ≡ None
empty_past m zero past = absurd (omega (arith, past))
empty_past m (suc p) past = rw (eqb-suc-zero p) refl

error_past : (h : Heads) (m : ModuleId) (signature : Signature) (lines : List Line) (p : ℕ) → length lines + 1 ≤ p → error_in h m signature lines p None ≡ None
error_past h m signature [] p past = empty_past m p (omega (arith, past))
error_past h m signature (l ∷ ls) p past = refl

-- how many operations are asked at most
abbrev asked_in : Option (List Line) → ℕ
asked_in None = 0
asked_in (Some lines) = length lines + 1

module_past : (h : Heads) (m : ModuleId) (signature : Option Signature) (lines : Option (List Line)) (p : ℕ) → asked_in lines ≤ p → module_error h m signature lines p ≡ None
module_past h m None lines p past = refl
module_past h m (Some signature) None p past = refl
module_past h m (Some signature) (Some lines) p past =
    ap (error_in h m signature lines p) (slice_get_past lines p (omega (arith, past))) ∙ error_past h m signature lines p past

-- ---- all modules

module _ (c : Automata) where
  module_answered : (m : ModuleId) → NoError (error_at c m) ⊎ ((e : CodeError) × FirstError (error_at c m) e)
  module_answered m =
      first_or_none (error_at c m) (asked_in (slice_get c.modules m.0)) (λ p past. module_past c.heads m (slice_get c.heads.modules m.0) (slice_get c.modules m.0) p past)

  abbrev Modules_below : ℕ → Type 0
  Modules_below n = (k : ℕ) → k < n → NoError (error_at c (record { 0 = k }))

  module_then : (n : ℕ) → NoError (error_at c (record { 0 = n })) ⊎ ((e : CodeError) × FirstError (error_at c (record { 0 = n })) e)
      → Modules_below n ⊎ ((e : CodeError) × CodeFault c e) → Modules_below (n + 1) ⊎ ((e : CodeError) × CodeFault c e)
  module_then n here (inr fault) = inr fault
  module_then n (inl none) (inl before) = inl (below_more (λ k. NoError (error_at c (record { 0 = k }))) n before none)
  module_then n (inr first) (inl before) =
      inr (first.0, record { «module» = record { 0 = n }; fault = first.1; before = λ m lt. before m.0 lt })

  modules_below : (n : ℕ) → Modules_below n ⊎ ((e : CodeError) × CodeFault c e)
  modules_below zero = inl (λ k lt. absurd (omega (arith, lt)))
  modules_below (suc n) = rw (← add-one) (module_then n (module_answered (record { 0 = n })) (modules_below n))

  pub valid_or_fault : Valid c ⊎ ((e : CodeError) × CodeFault c e)
  valid_or_fault = elim (modules_below (length c.modules)) [
    | inl none ↦ inl (all_modules c (length c.modules) (omega arith) none)
    | inr fault ↦ inr fault
  ]

-- ---- one answer

some_is_not_none : (o : Option CodeError) (e : CodeError) → o ≡ None → o ≡ Some e → ⊥
some_is_not_none o e none some = absurd cc

pub valid_excludes : (c : Automata) (e : CodeError) → Valid c → CodeFault c e → ⊥
valid_excludes c e valid fault = some_is_not_none _ e (valid fault.module fault.fault.op) fault.fault.here

-- two first errors of a module are one
one_first : (errors : ℕ → Option CodeError) (d e : CodeError) → FirstError errors d → FirstError errors e → d ≡ e
one_first errors d e one other = elim (cases_lt one.op other.op) [
  | inl lt ↦ absurd (some_is_not_none _ d (other.before one.op lt) one.here)
  | inr ge ↦ elim (cases_lt other.op one.op) [
    | inl lt ↦ absurd (some_is_not_none _ e (one.before other.op lt) other.here)
    | inr also ↦
        let same : one.op ≡ other.op = omega (arith, ge, also) in
        let both : Some d ≡ Some e = sym one.here ∙ ap errors same ∙ other.here in
        cc
  ]
]

same_module : (c : Automata) (d e : CodeError) (m n : ModuleId) → m.0 ≡ n.0 → FirstError (error_at c m) d → FirstError (error_at c n) e → d ≡ e
same_module c d e m n is one other =
    one_first (error_at c m) d e one (subst (λ (k : ℕ). FirstError (error_at c (record { 0 = k })) e) (sym is) other)

pub one_code_fault : (c : Automata) (d e : CodeError) → CodeFault c d → CodeFault c e → d ≡ e
one_code_fault c d e one other = elim (cases_lt one.module.0 other.module.0) [
  | inl lt ↦ absurd (some_is_not_none _ d (other.before one.module lt one.fault.op) one.fault.here)
  | inr ge ↦ elim (cases_lt other.module.0 one.module.0) [
    | inl lt ↦ absurd (some_is_not_none _ e (one.before other.module lt other.fault.op) other.fault.here)
    | inr also ↦ same_module c d e one.module other.module (omega (arith, ge, also)) one.fault other.fault
  ]
]
