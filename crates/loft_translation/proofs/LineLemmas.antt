-- Each line of the compiler's code passes the tests that look at it alone.
use Rattle.std.proofs.Common.{◌≡◌, ℕ, ◌+◌, ◌≤◌, ◌==◌, Bool, true, false, List, [], ◌∷◌, ◌++◌, length, refl, ap, ◌∙◌, arith}
use Rattle.std.specs.Prelude.{not, ◌&&◌, nat_lt}
use Rattle.std.proofs.lemmas.Bool.{and_from, not_from_true, le-ltb, ne_eqb, and_left}
use Rattle.loft_tree.specs.declared.heads.Place.{Place}
use Rattle.loft_tree.specs.declared.heads.Signature.{Signature}
use Rattle.loft_tree.specs.declared.heads.Heads.{Heads}
use Rattle.loft_tree.specs.Fits.{Each}
use Rattle.loft_tree.specs.NamedFits.{slots_of}
use Rattle.loft_tree.specs.Resolved.{Exp, Step, Do, Hold, Call, Choose, Loop, Times, Body, Empty, Then}
use Rattle.loft_code.specs.declared.limits.TheConstants.{MAX_DEPTH}
use Rattle.loft_code.specs.Operations.{Operation, Line, is_turn, is_end}
use Rattle.loft_code.specs.Operations as op
use Rattle.loft_code.specs.Fits.{LineFits}
use Rattle.loft_code.specs.Names.{has_place, has_bad_name}
use Rattle.loft_code.specs.Places.{is_allowed}
use Rattle.loft_code.specs.Kinds.{has_bad_kind}
use Rattle.loft_code.specs.Leads.{EndsWell}
use Rattle.loft_sense.specs.Stands.{leads_step, leads}
use Rattle.loft_translation.specs.Compiled.{line, step_lines, body_lines}
use Rattle.loft_soundness.specs.Numbered.{stops_in as step_stops, body_stops}
use Rattle.loft_translation.proofs.OperationLemmas.{OperationPasses, allowed_anywhere}
use Rattle.loft_translation.proofs.StepLemmas.{StepPasses, BodyPasses}

pub each_append : {A : Type 0} (P : A → Type 0) (xs ys : List A) → Each P xs → Each P ys → Each P (xs ++ ys)
each_append P [] ys all others = others
each_append P (x ∷ xs) ys all others = (all.0, each_append P xs ys all.1 others)

module _ (h : Heads) (signature : Signature) where
  -- the tests that look at one line alone
  pub record LinePasses (l : Line) : Type 0 where
    pub name : has_bad_name h (slots_of signature) l ≡ false
    pub kind : has_bad_kind h (slots_of signature) l ≡ false
    pub allowed : not (is_allowed h l.place l.operation) ≡ false
    pub few : nat_lt MAX_DEPTH l.depth ≡ false
    pub turns : (is_turn l.operation && (l.depth == 0)) ≡ false
    pub ends : is_end l.operation ≡ true → EndsWell signature l
    pub fits : LineFits l

  abbrev Passes : Place → Operation → Type 0
  Passes p o = OperationPasses h (slots_of signature) p o

  end_passes_if : (p : Place) (d : ℕ) (o : Operation) → Passes p o → has_place h p ≡ true → d ≤ MAX_DEPTH → (is_turn o && (d == 0)) ≡ false
      → (is_end o ≡ true → EndsWell signature (line p d o)) → LinePasses (line p d o)
  end_passes_if p d o passes declared few turns ends = record {
    name = not_from_true _ (and_from _ _ declared passes.has);
    kind = not_from_true _ passes.agrees;
    allowed = not_from_true _ passes.allowed;
    few = le-ltb MAX_DEPTH d few;
    turns = turns;
    ends = ends;
    fits = passes.fits;
  }

  -- an operation that is neither `turn` nor `end`
  line_passes : (p : Place) (d : ℕ) (o : Operation) → is_turn o ≡ false → is_end o ≡ false → Passes p o → has_place h p ≡ true → d ≤ MAX_DEPTH → LinePasses (line p d o)
  line_passes p d o no_turn no_end passes declared few = end_passes_if p d o passes declared few (and_left (is_turn o) (d == 0) no_turn) (λ e. absurd (false_true (is_end o) no_end e))
    where
      false_true : (b : Bool) → b ≡ false → b ≡ true → ⊥
      false_true true is also = absurd cc
      false_true false is also = absurd cc

  jump_passes : (p : Place) (d t : ℕ) → has_place h p ≡ true → d ≤ MAX_DEPTH → LinePasses (line p d (op.Jump t))
  jump_passes p d t declared few =
      line_passes p d (op.Jump t) refl refl (record { has = refl; allowed = allowed_anywhere h (slots_of signature) p (op.Jump t) refl refl; agrees = refl; fits = tt }) declared few

  enter_passes : (p : Place) (d : ℕ) → has_place h p ≡ true → d ≤ MAX_DEPTH → LinePasses (line p d op.Enter)
  enter_passes p d declared few =
      line_passes p d op.Enter refl refl (record { has = refl; allowed = allowed_anywhere h (slots_of signature) p op.Enter refl refl; agrees = refl; fits = tt }) declared few

  turn_passes : (p : Place) (d t : ℕ) → has_place h p ≡ true → d + 1 ≤ MAX_DEPTH → LinePasses (line p (d + 1) (op.Turn t))
  turn_passes p d t declared few =
      end_passes_if p (d + 1) (op.Turn t) (record { has = refl; allowed = allowed_anywhere h (slots_of signature) p (op.Turn t) refl refl; agrees = refl; fits = tt }) declared few
      (ne_eqb (d + 1) 0 (λ e. omega (arith, e))) (λ e. absurd cc)

  pub end_passes : (p : Place) → has_place h p ≡ true → p ≡ signature.end → LinePasses (line p 0 op.End)
  end_passes p declared is =
      end_passes_if p 0 op.End (record { has = refl; allowed = allowed_anywhere h (slots_of signature) p op.End refl refl; agrees = refl; fits = tt }) declared (omega arith)
      refl (λ e. record { place = is; depth = refl })

  -- the target of a `branch` is free
  branch_passes : (p : Place) (d t : ℕ) (test : Exp) → Passes p (op.Branch 0 test) → has_place h p ≡ true → d ≤ MAX_DEPTH → LinePasses (line p d (op.Branch t test))
  branch_passes p d t test passes declared few =
      line_passes p d (op.Branch t test) refl refl (record { has = passes.has; allowed = passes.allowed; agrees = passes.agrees; fits = passes.fits }) declared few

  abbrev AllPass : List Line → Type 0
  AllPass lines = Each LinePasses lines

  mutual
    step_lines_pass : (s : Step) (at d k : ℕ) (p : Place) → d ≤ MAX_DEPTH → has_place h p ≡ true → StepPasses h (slots_of signature) s d k p → AllPass (step_lines h s at d p)
    step_lines_pass (Do action) at d k p few declared passes = (line_passes p d (op.Do action) refl refl passes declared few, tt)
    step_lines_pass (Hold j pause) at d k p few declared passes = (line_passes p d (op.Hold j pause) refl refl passes.0 declared few, tt)
    step_lines_pass (Call j m arguments) at d k p few declared passes = (line_passes p d (op.Call j m arguments) refl refl passes.0 declared few, tt)
    step_lines_pass (Choose test first Empty) at d k p few declared passes =
        let x = body_lines h first (at + 1) d p in
        (branch_passes p d (at + 1 + length x) test passes.0 declared few, body_lines_pass first (at + 1) d k p few declared passes.1)
    step_lines_pass (Choose test first (Then s rest)) at d k p few declared passes =
        let x = body_lines h first (at + 1) d p in
        let y = body_lines h (Then s rest) (at + 1 + length x + 1) d p in
        let past = at + 1 + length x + 1 + length y in
        let jump = jump_passes (leads h first p) d past passes.4 few in (
          branch_passes p d (at + 1 + length x + 1) test passes.0 declared few,
          each_append LinePasses x (line (leads h first p) d (op.Jump past) ∷ y) (body_lines_pass first (at + 1) d k p few declared passes.1)
              (jump, body_lines_pass (Then s rest) (at + 1 + length x + 1) d (k + body_stops first) p few declared passes.2),
        )
    step_lines_pass (Loop test body) at d k p few declared passes =
        let x = body_lines h body (at + 1 + 1) d p in
        let there = leads h body p in
        let jump = jump_passes there d (at + 1) (ap (has_place h) passes.2 ∙ declared) few in (
          enter_passes p d declared few,
          (
            branch_passes p d (at + 1 + 1 + length x + 1) test passes.0 declared few,
            each_append LinePasses x (line there d (op.Jump (at + 1)) ∷ []) (body_lines_pass body (at + 1 + 1) d k p few declared passes.1) (jump, tt),
          ),
        )
    step_lines_pass (Times count body) at d k p few declared passes =
        let x = body_lines h body (at + 1 + 1) (d + 1) p in
        let there = leads h body p in
        let jump = jump_passes there (d + 1) (at + 1) (ap (has_place h) passes.2 ∙ declared) passes.3 in (
          line_passes p d (op.Count count) refl refl passes.0 declared few,
          (
            turn_passes p d (at + 1 + 1 + length x + 1) declared passes.3,
            each_append LinePasses x (line there (d + 1) (op.Jump (at + 1)) ∷ []) (body_lines_pass body (at + 1 + 1) (d + 1) k p passes.3 declared passes.1) (jump, tt),
          ),
        )

    pub body_lines_pass : (b : Body) (at d k : ℕ) (p : Place) → d ≤ MAX_DEPTH → has_place h p ≡ true → BodyPasses h (slots_of signature) b d k p → AllPass (body_lines h b at d p)
    body_lines_pass Empty at d k p few declared passes = tt
    body_lines_pass (Then s rest) at d k p few declared passes =
        let x = step_lines h s at d p in
        each_append LinePasses x (body_lines h rest (at + length x) d (leads_step h s p)) (step_lines_pass s at d k p few declared passes.0)
        (body_lines_pass rest (at + length x) d (k + step_stops s) (leads_step h s p) few passes.2 passes.1)
