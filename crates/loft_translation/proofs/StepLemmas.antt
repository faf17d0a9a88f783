-- The statements of a placed program whose names are correct pass the tests that look at one operation alone; their stops
-- are numbered in order, their branches end in one place, and their loops end where they begin.
use Rattle.std.proofs.Common.{◌≡◌, ℕ, zero, suc, ◌+◌, ◌≤◌, true, List, [], ◌∷◌, length, Option, Some, None, slice_get, refl, sym, ap, ◌∙◌, subst, arith}
use Rattle.std.proofs.lemmas.Bool.{lt-ltb}
use Rattle.loft_base.specs.declared.ids.ModuleId.{ModuleId}
use Rattle.loft_tree.specs.declared.limits.TheConstants.{MAX_NESTING}
use Rattle.loft_tree.specs.declared.kinds.Kind.{Kind}
use Rattle.loft_tree.specs.declared.kinds.Kind.TheVariants.{Int}
use Rattle.loft_tree.specs.declared.heads.Place.{Place}
use Rattle.loft_tree.specs.declared.heads.Place.TheVariants.{Sched, Unlinked}
use Rattle.loft_tree.specs.declared.heads.Signature.{Signature}
use Rattle.loft_tree.specs.declared.heads.Heads.{Heads}
use Rattle.loft_tree.specs.Fits.{Each}
use Rattle.loft_tree.specs.NamedTree as tree
use Rattle.loft_tree.specs.NamedTree.{NamedPause, NamedStatement, NamedStatements}
use Rattle.loft_tree.specs.NamedFits.{IsPlace, SignatureHolds, PauseHolds, StatementHolds, StatementsHold}
use Rattle.loft_tree.specs.Stops as stops
use Rattle.loft_tree.specs.Stops.{IsNumbered, AreNumbered}
use Rattle.loft_tree.specs.Resolved.{Step, Do, Hold, Call, Choose, Loop, Times, Body, Empty, Then, exp_of, exps_of, pause_of, step_of, body_of}
use Rattle.loft_place.specs.Links as links
use Rattle.loft_place.specs.Links.{left_by_pause, GoesThrough, Goes}
use Rattle.loft_code.specs.declared.limits.TheConstants.{MAX_DEPTH}
use Rattle.loft_code.specs.Operations as op
use Rattle.loft_code.specs.Names.{has_place}
use Rattle.loft_sense.specs.Stands.{end_or_unlinked, place_after, leads_step, leads}
use Rattle.loft_soundness.specs.Numbered.{stops_in as step_stops, body_stops}
use Rattle.loft_translation.proofs.OperandLemmas.{operand_passes, call_passes, begins_there}
use Rattle.loft_translation.proofs.OperationLemmas.{OperationPasses, action_passes, pause_passes, run_passes, branch_passes, count_passes}

-- ---- stops

both : {a b c d : ℕ} → a ≡ b → c ≡ d → a + c ≡ b + d
both e f = omega (arith, e, f)

mutual
  pub stops_same : (s : NamedStatement) → step_stops (step_of s) ≡ stops.stops_in s
  stops_same (tree.Do at action) = refl
  stops_same (tree.Hold at stop pause) = refl
  stops_same (tree.Run at stop called m arguments) = refl
  stops_same (tree.If at test first second) = both (body_stops_same first) (body_stops_same second)
  stops_same (tree.While at test body) = body_stops_same body
  stops_same (tree.Repeat at count body) = body_stops_same body

  pub body_stops_same : (b : NamedStatements) → body_stops (body_of b) ≡ stops.body_stops b
  body_stops_same tree.Done = refl
  body_stops_same (tree.Then first rest) = both (stops_same first) (body_stops_same rest)

-- ---- places

pub place_declared : (h : Heads) (p : Place) → IsPlace h p → has_place h p ≡ true
place_declared h (Sched s) declared = lt-ltb s.0 (length h.schedulers) declared
place_declared h Unlinked declared = refl

end_same : (o : Option Signature) → links.end_of o ≡ end_or_unlinked o
end_same None = refl
end_same (Some m) = refl

pub each_at : {A : Type 0} (P : A → Type 0) (xs : List A) (k : ℕ) (x : A) → Each P xs → slice_get xs k ≡ Some x → P x
each_at P [] k x all at = absurd cc
each_at P (y ∷ ys) zero x all at = let same : y ≡ x = cc in subst P same all.0
each_at P (y ∷ ys) (suc k) x all at = each_at P ys k x all.1 at

end_by : (h : Heads) (k : ℕ) (o : Option Signature) → Each (SignatureHolds h) h.modules → slice_get h.modules k ≡ o → has_place h (links.end_of o) ≡ true
end_by h k None signatures at = refl
end_by h k (Some m) signatures at =
    let holds : SignatureHolds h m = each_at (SignatureHolds h) h.modules k m signatures at in
    place_declared h m.end holds.end

end_declared : (h : Heads) (m : ModuleId) → Each (SignatureHolds h) h.modules → has_place h (links.end_of (slice_get h.modules m.0)) ≡ true
end_declared h m signatures = end_by h m.0 (slice_get h.modules m.0) signatures refl

-- what a program declares, and the kinds of the slots of a module
module _ (h : Heads) (slots : List Kind) where
  -- ---- statements that pass, where a thread is linked at p before them, inside so many `repeat`s, after so many stops

  abbrev mutual
    pub StepPasses : Step → (depth before : ℕ) → Place → Type 0
    StepPasses (Do action) d k p = OperationPasses h slots p (op.Do action)
    StepPasses (Hold j pause) d k p = OperationPasses h slots p (op.Hold j pause) × (j ≡ k + 1)
    StepPasses (Call j m arguments) d k p = OperationPasses h slots p (op.Call j m arguments) × (j ≡ k + 1)
    StepPasses (Choose test first second) d k p =
        OperationPasses h slots p (op.Branch 0 test) × BodyPasses first d k p × BodyPasses second d (k + body_stops first) p
        × (leads h first p ≡ leads h second p) × (has_place h (leads h first p) ≡ true)
    StepPasses (Loop test body) d k p = OperationPasses h slots p (op.Branch 0 test) × BodyPasses body d k p × (leads h body p ≡ p)
    StepPasses (Times count body) d k p =
        OperationPasses h slots p (op.Count count) × BodyPasses body (d + 1) k p × (leads h body p ≡ p) × (d + 1 ≤ MAX_DEPTH)

    pub BodyPasses : Body → (depth before : ℕ) → Place → Type 0
    BodyPasses Empty d k p = Unit {0}
    BodyPasses (Then s rest) d k p = StepPasses s d k p × BodyPasses rest d (k + step_stops s) (leads_step h s p) × (has_place h (leads_step h s p) ≡ true)

  -- ---- the statements of a placed program

  -- it passes, and leads to q, which is declared
  abbrev pub Leads : Step → ℕ → ℕ → Place → Place → Type 0
  Leads s d k p q = StepPasses s d k p × (leads_step h s p ≡ q) × (has_place h q ≡ true)

  abbrev pub BodyLeads : Body → ℕ → ℕ → Place → Place → Type 0
  BodyLeads b d k p q = BodyPasses b d k p × (leads h b p ≡ q) × (has_place h q ≡ true)

  -- where a statement leaves the thread where it was
  stays : (p q : Place) → q ≡ p → has_place h p ≡ true → (p ≡ q) × (has_place h q ≡ true)
  stays p q e declared = (sym e, ap (has_place h) e ∙ declared)

  -- a pause leads to a place that is declared
  pause_leads : (w : NamedPause) (n : ℕ) (p q : Place) → PauseHolds h slots w n → q ≡ left_by_pause p w → has_place h p ≡ true → (place_after (pause_of w) p ≡ q) × (has_place h q ≡ true)
  pause_leads (tree.Cooperate e) n p q holds goes declared = stays p q goes declared
  pause_leads (tree.Await events e) n p q holds goes declared = stays p q goes declared
  pause_leads (tree.Get event index t) n p q holds goes declared = stays p q goes declared
  pause_leads (tree.Join thread e) n p q holds goes declared = stays p q goes declared
  pause_leads (tree.Link s) n p q holds goes declared = stays (Sched s) q goes (lt-ltb s.0 (length h.schedulers) holds)
  pause_leads tree.Unlink n p q holds goes declared = stays Unlinked q goes refl
  pause_leads tree.Halt n p q holds goes declared = stays p q goes declared

  module _ (signatures : Each (SignatureHolds h) h.modules) where
    mutual
      step_passes : (s : NamedStatement) (n d k : ℕ) (p q : Place) → d + n ≤ MAX_NESTING → StatementHolds h slots s n → GoesThrough h p s q → IsNumbered s k → has_place h p ≡ true
          → Leads (step_of s) d k p q
      step_passes (tree.Do at a) n d k p q few holds goes numbered declared =
          let there = stays p q goes.1 declared in
          (action_passes h slots p a at n (omega (arith, few)) holds goes.0, there.0, there.1)
      step_passes (tree.Hold at stop w) n d k p q few holds goes numbered declared =
          let there = pause_leads w n p q holds goes.1 declared in
          ((pause_passes h slots p w at stop n (omega (arith, few)) holds goes.0, numbered), there.0, there.1)
      step_passes (tree.Run at stop called m arguments) n d k p q few holds goes numbered declared =
          let call = call_passes h slots p n m arguments (omega (arith, few)) holds goes.0.met.1 in (
            (run_passes h slots p stop m (exps_of arguments) (begins_there h slots p n m p arguments holds goes.0.met.0) call, numbered),
            sym (end_same (slice_get h.modules m.0)) ∙ sym goes.1,
            ap (has_place h) goes.1 ∙ end_declared h m signatures,
          )
      step_passes (tree.If at test x y) n d k p q few holds goes numbered declared =
          let one : n ≡ holds.0 + 1 = holds.1 in
          let value = operand_passes h slots p holds.0 Int test (omega (arith, few, one)) holds.2 goes.0.met in
          let first = body_passes x holds.0 d k p q (omega (arith, few, one)) holds.3 goes.1 numbered.0 declared in
          let second = body_passes y holds.0 d (k + stops.body_stops x) p q (omega (arith, few, one)) holds.4 goes.2 numbered.1 declared in (
            (
              branch_passes h slots p 0 (exp_of test) value,
              first.0,
              subst (λ j. BodyPasses (body_of y) d (k + j) p) (sym (body_stops_same x)) second.0,
              first.1 ∙ sym second.1,
              ap (has_place h) first.1 ∙ first.2,
            ),
            first.1,
            first.2,
          )
      step_passes (tree.While at test x) n d k p q few holds goes numbered declared =
          let one : n ≡ holds.0 + 1 = holds.1 in
          let value = operand_passes h slots p holds.0 Int test (omega (arith, few, one)) holds.2 goes.0.met in
          let body = body_passes x holds.0 d k p p (omega (arith, few, one)) holds.3 goes.1 numbered declared in
          let there = stays p q goes.2 declared in
          ((branch_passes h slots p 0 (exp_of test) value, body.0, body.1), there.0, there.1)
      step_passes (tree.Repeat at count x) n d k p q few holds goes numbered declared =
          let one : n ≡ holds.0 + 1 = holds.1 in
          let value = operand_passes h slots p holds.0 Int count (omega (arith, few, one)) holds.2 goes.0.met in
          let body = body_passes x holds.0 (d + 1) k p p (omega (arith, few, one)) holds.3 goes.1 numbered declared in
          let there = stays p q goes.2 declared in
          ((count_passes h slots p (exp_of count) value, body.0, body.1, omega (arith, few, one)), there.0, there.1)

      pub body_passes : (b : NamedStatements) (n d k : ℕ) (p q : Place) → d + n ≤ MAX_NESTING → StatementsHold h slots b n → Goes h p b q → AreNumbered b k → has_place h p ≡ true
          → BodyLeads (body_of b) d k p q
      body_passes tree.Done n d k p q few holds goes numbered declared = (tt, sym goes, ap (has_place h) goes ∙ declared)
      body_passes (tree.Then s rest) n d k p q few holds goes numbered declared =
          let first = step_passes s n d k p goes.0 few holds.0 goes.1 numbered.0 declared in
          let others = body_passes rest n d (k + stops.stops_in s) goes.0 q few holds.1 goes.2 numbered.1 first.2 in
          let counted = subst (λ j. BodyPasses (body_of rest) d (k + j) goes.0) (sym (stops_same s)) others.0 in (
            (first.0, subst (λ r. BodyPasses (body_of rest) d (k + step_stops (step_of s)) r) (sym first.1) counted, ap (has_place h) first.1 ∙ first.2),
            ap (λ r. leads h (body_of rest) r) first.1 ∙ others.1,
            others.2,
          )
