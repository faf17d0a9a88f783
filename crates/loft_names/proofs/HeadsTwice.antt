-- Declarations of a program without faults that can be seen together have names of their own.
use Rattle.std.proofs.Common.{◌≡◌, ℕ, zero, suc, true, ◌&&◌, List, [], ◌∷◌, ◌++◌, Some, None, refl, sym, ap, subst, ◌∙◌}
use Rattle.std.specs.Prelude.{slice_get}
use Rattle.std.specs.Str.{bytes_eq}
use Rattle.std.proofs.lemmas.Bool.{and_from, both_ways, eq-eqb, eqb-true}
use Rattle.loft_tree.specs.Fits.{Each}
use Rattle.loft_scopes.specs.declared.scope.Scope.{Scope}
use Rattle.loft_scopes.specs.declared.scope.Scope.TheVariants.{Everywhere, Within}
use Rattle.loft_scopes.specs.Scopes.{Declared, seen_together, same_name, earlier}
use Rattle.loft_scopes.specs.Faults.{again, twice_from}
use Rattle.loft_names.proofs.HeadsLists.{each_left, each_right, each_get, each_map, none_found}
use Rattle.loft_names.proofs.HeadsMeaning.{none_left, none_right}

-- two declarations have one name, and can be seen together
pub record Clashes (d e : Declared) : Type 0 where
  pub named : d.name.text ≡ e.name.text
  pub together : seen_together d.scope e.scope ≡ true

bytes_same : (xs : List ℕ) → bytes_eq xs xs ≡ true
bytes_same [] = refl
bytes_same (x ∷ xs) = and_from _ _ (eq-eqb x x refl) (bytes_same xs)

pub together-sym : (s t : Scope) → seen_together s t ≡ true → seen_together t s ≡ true
together-sym Everywhere Everywhere is = refl
together-sym Everywhere (Within n) is = refl
together-sym (Within m) Everywhere is = refl
together-sym (Within m) (Within n) is = eq-eqb n m (sym (eqb-true m n is))

clashes-sym : (d e : Declared) → Clashes d e → Clashes e d
clashes-sym d e c = record { named = sym c.named; together = together-sym d.scope e.scope c.together }

-- a declaration that none before it clashes with
none_earlier : (before : List Declared) (d : Declared) → again d (earlier before d) ≡ [] → Each (λ x. Clashes x d → ⊥) before
none_earlier before d none =
    each_map _ _ before
    (λ x fails c. both_ways (same_name d.name x && seen_together d.scope x.scope) fails
    (and_from (same_name d.name x) (seen_together d.scope x.scope) (ap (λ t. bytes_eq t d.name.text) c.named ∙ bytes_same d.name.text) (together-sym x.scope d.scope c.together)))
    (none_found (λ x. same_name d.name x && seen_together d.scope x.scope) before (elim (earlier before d) as (λ o. again d o ≡ [] → o ≡ None) [ None ↦ λ e. refl | Some first ↦ λ e. absurd cc ] none))

none_before : (before ds : List Declared) → twice_from before ds ≡ [] → Each (λ e. Each (λ x. Clashes x e → ⊥) before) ds
none_before before [] none = tt
none_before before (d ∷ ds) none =
    let rest = none_before (before ++ d ∷ []) ds (none_right (again d (earlier before d)) _ none) in
    (none_earlier before d (none_left _ _ none), each_map _ _ ds (λ e all. each_left (λ x. Clashes x e → ⊥) before (d ∷ []) all) rest)

pub at_one_index : (before ds : List Declared) → twice_from before ds ≡ [] → (i j : ℕ) (d e : Declared) → slice_get ds i ≡ Some d → slice_get ds j ≡ Some e → Clashes d e → i ≡ j
at_one_index before [] none i j d e is also c = absurd cc
at_one_index before (x ∷ ds) none zero zero d e is also c = refl
at_one_index before (x ∷ ds) none (suc i) (suc j) d e is also c =
    ap suc (at_one_index (before ++ x ∷ []) ds (none_right (again x (earlier before x)) _ none) i j d e is also c)
at_one_index before (x ∷ ds) none zero (suc j) d e is also c =
    let all = each_get (λ y. Each (λ x. Clashes x y → ⊥) (before ++ x ∷ [])) ds j e (none_before (before ++ x ∷ []) ds (none_right (again x (earlier before x)) _ none)) also in
    let same : d ≡ x = cc in
    absurd ((each_right (λ z. Clashes z e → ⊥) before (x ∷ []) all).0 (subst (λ (z : Declared). Clashes z e) same c))
at_one_index before (x ∷ ds) none (suc i) zero d e is also c =
    let all = each_get (λ y. Each (λ x. Clashes x y → ⊥) (before ++ x ∷ [])) ds i d (none_before (before ++ x ∷ []) ds (none_right (again x (earlier before x)) _ none)) is in
    let same : e ≡ x = cc in
    absurd ((each_right (λ z. Clashes z d → ⊥) before (x ∷ []) all).0 (subst (λ (z : Declared). Clashes z d) same (clashes-sym d e c)))
