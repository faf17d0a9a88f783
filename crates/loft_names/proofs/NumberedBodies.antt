-- The modules of a program without a fault have bodies that hold with numbers.
use Rattle.std.proofs.Common.{◌≡◌, ℕ, ◌+◌, ◌≤◌, List, [], ◌∷◌, ◌++◌, length, Some, refl, sym, subst, ◌∙◌, append_assoc, length-append, arith}
use Rattle.std.specs.Prelude.{slice_get}
use Rattle.loft_tree.specs.declared.heads.Signature.{Signature}
use Rattle.loft_tree.specs.declared.heads.Heads.{Heads}
use Rattle.loft_tree.specs.declared.limits.TheConstants.{MAX_STATEMENTS}
use Rattle.loft_tree.specs.Source.{Named, ModuleHead, Statements, Scheduler, Event, Shared, Module, Start, Outside, Source}
use Rattle.loft_tree.specs.Fits.{DeclarationFits, Each, ModuleFits, SourceFits}
use Rattle.loft_tree.specs.NamedFits.{BodyHolds, BodiesHold}
use Rattle.loft_scopes.specs.declared.scope.Scope.TheVariants.{Within}
use Rattle.loft_scopes.specs.Scopes.{Declared, declared}
use Rattle.loft_scopes.specs.Faults.{NamesFit, body_faults, declaration_uses, end_faults, module_uses, place_faults, twice_from, uses_from}
use Rattle.loft_numbers.specs.Numbers.{body_of, heads_of, modules_in, signature_of, signatures_in}
use Rattle.loft_names.specs.HeadOf.{HasHead}
use Rattle.loft_names.proofs.HeadsNumbers.{each_declared_has}
use Rattle.loft_names.proofs.NumberedValues.{none_of_both}
use Rattle.loft_names.proofs.NumberedStatements.{statements_hold}
use Rattle.loft_numbers.proofs.Sizes.{are_numbered, size_kept}

-- what comes after so many
slice_get-after : {A : Type 0} (before : List A) (x : A) (rest : List A) → slice_get (before ++ x ∷ rest) (length before) ≡ Some x
slice_get-after [] x rest = refl
slice_get-after (y ∷ ys) x rest = slice_get-after ys x rest

-- the modules after so many, one after the other
module _ (h : Heads) (ds : List Declared) (each : Each (HasHead h) ds) where
  body_holds : (m : ℕ) (head : ModuleHead) (locals : List Named) (body : Statements) → slice_get h.modules m ≡ Some (signature_of ds m head locals) → ModuleFits head locals body
      → module_uses ds m head body ≡ [] → BodyHolds h (signature_of ds m head locals) (body_of ds (Within m) body 0)
  body_holds m head locals body there fits none =
      let one = none_of_both (place_faults ds (Within m) head.begin) (end_faults ds (Within m) head.end ++ body_faults ds (Within m) body) none in
      let two = none_of_both (end_faults ds (Within m) head.end) (body_faults ds (Within m) body) one.1 in
      record {
        statements = statements_hold h ds each m (signature_of ds m head locals) there body 32 0 fits.statements two.1;
        few_statements = subst (λ (n : ℕ). n ≤ MAX_STATEMENTS) (sym (size_kept ds (Within m) body 0)) fits.few_statements;
        stops = are_numbered ds (Within m) body 0;
      }

  bodies_from : (m : ℕ) (p : Source) (before : List Signature) → length before ≡ m → before ++ signatures_in ds m p ≡ h.modules → Each DeclarationFits p → uses_from ds m p ≡ []
      → BodiesHold h (signatures_in ds m p) (modules_in ds m p)
  bodies_from m [] before many all fits none = tt
  bodies_from m (Scheduler name ∷ rest) before many all fits none = bodies_from m rest before many all fits.1 none
  bodies_from m (Event name scheduler ∷ rest) before many all fits none =
      bodies_from m rest before many all fits.1 (none_of_both (declaration_uses ds m (Event name scheduler)) (uses_from ds m rest) none).1
  bodies_from m (Shared name scheduler value ∷ rest) before many all fits none =
      bodies_from m rest before many all fits.1 (none_of_both (declaration_uses ds m (Shared name scheduler value)) (uses_from ds m rest) none).1
  bodies_from m (Module head locals body ∷ rest) before many all fits none =
      let sig : Signature = signature_of ds m head locals in
      let parts = none_of_both (module_uses ds m head body) (uses_from ds (m + 1) rest) none in
      let there : slice_get h.modules m ≡ Some sig =
      (λ i. slice_get (sym all i) (sym many i)) ∙ slice_get-after before sig (signatures_in ds (m + 1) rest) in (
        body_holds m head locals body there fits.0 parts.0,
        bodies_from (m + 1) rest (before ++ sig ∷ []) (length-append before (sig ∷ []) ∙ omega arith) (append_assoc before (sig ∷ []) (signatures_in ds (m + 1) rest) ∙ all) fits.1 parts.1,
      )
  bodies_from m (Start scheduler called arguments name ∷ rest) before many all fits none =
      bodies_from m rest before many all fits.1 (none_of_both (declaration_uses ds m (Start scheduler called arguments name)) (uses_from ds m rest) none).1
  bodies_from m (Outside name orders ∷ rest) before many all fits none =
      bodies_from m rest before many all fits.1 (none_of_both (declaration_uses ds m (Outside name orders)) (uses_from ds m rest) none).1

-- the bodies of a program whose names fit
pub bodies_hold : (p : Source) → SourceFits p → NamesFit p
    → BodiesHold (heads_of (declared p) p) (signatures_in (declared p) 0 p) (modules_in (declared p) 0 p)
bodies_hold p fits names =
    bodies_from (heads_of (declared p) p) (declared p) (each_declared_has p) 0 p [] refl refl fits.each (none_of_both (twice_from [] (declared p)) (uses_from (declared p) 0 p) names.faultless).1
