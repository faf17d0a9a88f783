-- Placed programs are whole.
use Rattle.std.proofs.Common.{◌≡◌, ℕ, zero, suc, ◌≤◌, List, [], ◌∷◌, length, map, Option, Some, None, slice_get, refl, sym, ap, subst, arith, unwrap_or}
use Rattle.std.proofs.lemmas.Option.{slice_get_within}
use Rattle.loft_base.specs.declared.ids.ModuleId.{ModuleId}
use Rattle.loft_tree.specs.declared.kinds.Kind.{Kind}
use Rattle.loft_tree.specs.declared.heads.Place.{Place}
use Rattle.loft_tree.specs.declared.heads.Signature.{Signature}
use Rattle.loft_tree.specs.declared.heads.Heads.{Heads}
use Rattle.loft_tree.specs.NamedTree.{NamedModule, NamedProgram}
use Rattle.loft_tree.specs.NamedFits.{BodiesHold, NamedFits, slots_of}
use Rattle.loft_tree.specs.Resolved.{Step, Do, Hold, Call, Choose, Loop, Times, Body, Empty, Then, body_of, resolved_of}
use Rattle.loft_place.specs.Links.{IsPlaced}
use Rattle.loft_sense.specs.Tree.{body_at}
use Rattle.loft_sense.specs.Stands.{begin_or_unlinked, begin_of, leads_step}
use Rattle.loft_soundness.specs.WorkFits.{StepFits, BodyFits}
use Rattle.loft_soundness.proofs.FitLemmas.{module_fits}
use Rattle.loft_translation.specs.Compiled.{compiled}
use Rattle.loft_translation.specs.Implements.{Implements}
use Rattle.loft_translation.specs.Whole.{StepIsWhole, BodyIsWhole, IsWhole}
use Rattle.loft_translation.proofs.ImplementsLaw.{implements}

-- ---- bodies that fit

-- n: how many modules there are, as many as are declared or more
module _ (h : Heads) (slots : List Kind) (n : ℕ) (enough : length h.modules ≤ n) where
  mutual
    step_whole : (s : Step) (p : Place) → StepFits h slots s p → StepIsWhole h n s p
    step_whole (Do action) p fits = tt
    step_whole (Hold k pause) p fits = tt
    step_whole (Call k m arguments) p fits = omega (arith, enough, slice_get_within h.modules m.0 fits.1.0 fits.1.1)
    step_whole (Choose test x y) p fits = (body_whole x p fits.1, body_whole y p fits.2, fits.3)
    step_whole (Loop test x) p fits = body_whole x p fits.1
    step_whole (Times count x) p fits = body_whole x p fits.1

    body_whole : (b : Body) (p : Place) → BodyFits h slots b p → BodyIsWhole h n b p
    body_whole Empty p fits = tt
    body_whole (Then s rest) p fits = (step_whole s p fits.0, body_whole rest (leads_step h s p) fits.1)

-- ---- modules

as_many : (h : Heads) (ms : List Signature) (xs : List NamedModule) → BodiesHold h ms xs → length ms ≤ length (map (λ m. body_of m.body) xs)
as_many h [] xs hold = omega arith
as_many h (m ∷ ms) [] hold = absurd hold
as_many h (m ∷ ms) (x ∷ xs) hold = omega (arith, as_many h ms xs hold.1)

-- a module that isn't declared has no body
no_body : (h : Heads) (ms : List Signature) (xs : List NamedModule) (k : ℕ) → BodiesHold h ms xs → slice_get ms k ≡ None → unwrap_or (slice_get (map (λ m. body_of m.body) xs) k) Empty ≡ Empty
no_body h [] [] k hold none = refl
no_body h [] (x ∷ xs) k hold none = absurd hold
no_body h (m ∷ ms) [] k hold none = refl
no_body h (m ∷ ms) (x ∷ xs) zero hold none = absurd cc
no_body h (m ∷ ms) (x ∷ xs) (suc k) hold none = no_body h ms xs k hold.1 none

module _ (n : NamedProgram) (fits : NamedFits n) (placed : IsPlaced n) where
  abbrev many : ℕ
  many = length (resolved_of n).bodies

  enough : length n.heads.modules ≤ many
  enough = as_many n.heads n.heads.modules n.modules fits.bodies

  declared_whole : (m : ModuleId) (head : Signature) → slice_get n.heads.modules m.0 ≡ Some head → BodyIsWhole n.heads many (body_at (resolved_of n) m) (begin_of n.heads m)
  declared_whole m head at =
      let b = body_at (resolved_of n) m in
      let whole = body_whole n.heads (slots_of head) many enough b head.begin (module_fits n fits placed m head at).fits in
      subst (λ here. BodyIsWhole n.heads many b here) (sym (ap begin_or_unlinked at)) whole

  each : (m : ModuleId) → BodyIsWhole n.heads many (body_at (resolved_of n) m) (begin_of n.heads m)
  each m = by (slice_get n.heads.modules m.0) refl
    where
      by : (o : Option Signature) → slice_get n.heads.modules m.0 ≡ o → BodyIsWhole n.heads many (body_at (resolved_of n) m) (begin_of n.heads m)
      by None e = subst (λ b. BodyIsWhole n.heads many b (begin_of n.heads m)) (sym (no_body n.heads n.heads.modules n.modules m.0 fits.bodies e)) tt
      by (Some head) e = declared_whole m head e

  placed_whole : IsWhole (resolved_of n)
  placed_whole = record { bodies = enough; each = each }

  pub placed_implements : Implements (compiled (resolved_of n)) (resolved_of n)
  placed_implements = implements (resolved_of n) placed_whole
