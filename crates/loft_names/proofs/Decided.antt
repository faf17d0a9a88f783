-- A program's names and kinds are correct, or they have one first fault.
use Rattle.std.proofs.Common.{◌≡◌, ◌⊎◌, inl, inr, true, false, List, [], ◌∷◌, Some, None, refl, sym, ◌∙◌, arith}
use Rattle.std.specs.List.{Contains}
use Rattle.loft_tree.specs.Source.{Source}
use Rattle.loft_scopes.specs.declared.error.NameError.{NameError}
use Rattle.loft_scopes.specs.declared.error.NameError.TheVariants.{NoScheduler}
use Rattle.loft_scopes.specs.Faults.{faults, has_scheduler, NameFault, NamesFit}
use Rattle.loft_scopes.specs.FirstFault.{least_of}
use Rattle.loft_names.proofs.FirstOf.{least_is_first, least_is_none, neither_precedes}

without_or_with : (p : Source) → has_scheduler p ≡ false → has_scheduler p ≡ true → ⊥
without_or_with p without with = let no : false ≡ true = sym without ∙ with in cc

pub one_fault : (p : Source) (d e : NameError) → NameFault p d → NameFault p e → d ≡ e
one_fault p d e (inl one) (inl other) = one.1 ∙ sym other.1
one_fault p d e (inl one) (inr other) = absurd (without_or_with p one.0 other.0)
one_fault p d e (inr one) (inl other) = absurd (without_or_with p other.0 one.0)
one_fault p d e (inr one) (inr other) = neither_precedes d e (other.1.first d one.1.there) (one.1.first e other.1.there)

none_there : (e : NameError) (es : List NameError) → es ≡ [] → Contains es e → ⊥
none_there e [] none (k, within, is) = omega arith
none_there e (d ∷ ds) none there = cc

pub never_both : (p : Source) (e : NameError) → NamesFit p → NameFault p e → ⊥
never_both p e fit (inl without) = without_or_with p without.0 fit.scheduler
never_both p e fit (inr first) = none_there e _ fit.faultless first.1.there

pub some_answer : (p : Source) → NamesFit p ⊎ ((e : NameError) × NameFault p e)
some_answer p = elim (has_scheduler p) as (λ b. has_scheduler p ≡ b → NamesFit p ⊎ ((e : NameError) × NameFault p e)) [
  | false ↦ λ without. inr (NoScheduler, inl (without, refl))
  | true ↦ λ with. elim (least_of None (faults p)) as (λ o. least_of None (faults p) ≡ o → NamesFit p ⊎ ((e : NameError) × NameFault p e)) [
    | None ↦ λ none. inl (record { scheduler = with; faultless = least_is_none (faults p) none })
    | Some e ↦ λ least. inr (e, inr (with, least_is_first (faults p) e least))
  ] refl
] refl
