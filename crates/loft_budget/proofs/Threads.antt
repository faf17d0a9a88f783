-- What threads keep in each run: as many steps as their bound takes, and so none ends with Over.
use Rattle.std.proofs.Common.{◌≡◌, ◌⊎◌, inl, inr, ℕ, ◌≤◌, true, Option, Some, sym, ◌∙◌, subst}
use Rattle.std.specs.Prelude.{pos}
use Rattle.loft_base.specs.declared.ids.ModuleId.{ModuleId}
use Rattle.loft_base.specs.declared.ids.ThreadId.{ThreadId}
use Rattle.loft_tree.specs.Fits.{Each}
use Rattle.loft_tree.specs.Resolved.{Resolved}
use Rattle.loft_base.specs.declared.options.Limits.{Limits}
use Rattle.loft_orders.specs.declared.note.Act.{Act}
use Rattle.loft_orders.specs.declared.note.Act.TheVariants as act
use Rattle.loft_orders.specs.declared.note.Standing.{Standing}
use Rattle.loft_orders.specs.declared.order.End.{End}
use Rattle.loft_orders.specs.declared.order.End.TheVariants as end
use Rattle.loft_orders.specs.declared.order.Order.{Order}
use Rattle.loft_orders.specs.declared.order.Order.TheVariants as order
use Rattle.loft_orders.specs.declared.order.Sent.{Sent}
use Rattle.loft_orders.specs.declared.thread.Thread.{Thread}
use Rattle.loft_orders.specs.declared.thread.Wait.{Wait}
use Rattle.loft_orders.specs.declared.thread.Wait.TheVariants as wait
use Rattle.loft_sense.specs.Machine.{Tree, Mach}
use Rattle.loft_sense.specs.Around.{Around}
use Rattle.loft_sense.specs.CanGo.{count_of, is_over}
use Rattle.loft_sense.specs.Run.{Outcome, Held, Left, Ended}
use Rattle.loft_sense.specs.Passes.{run_of}
use Rattle.loft_soundness.specs.Numbered.{IsNumbered}
use Rattle.loft_budget.specs.declared.steps.Steps.{Steps}
use Rattle.loft_budget.specs.Bounds.{bound_of, steps_within, outermost, IsBounded, HasNoBound}
use Rattle.loft_budget.proofs.Runs.{Rests, HasSteps, HeldWell, GoesWell, run_goes_well}
use Rattle.loft_budget.proofs.Table.{is_table}
use Rattle.loft_budget.proofs.Modules.{KeepsOutermost, run_keeps_outermost}
use Rattle.loft_budget.proofs.EffectEnds.{IsNoOver}

module _ (p : Resolved) (limits : Limits) where
  -- where the thread's outermost module has a bound that the budgets allow, this holds of it
  abbrev pub If : Thread → (ℕ → ℕ → Type 0) → Type 0
  If t P =
      (k : ℕ) (m : ModuleId) (v : Steps) → outermost t.frames ≡ Some m → steps_within p k m ≡ Some v → bound_of v ≤ limits.budget → bound_of v ≤ limits.block
      → P k (bound_of v)

  -- going on in an instant of its own, it has steps enough
  abbrev pub Goes : Thread → Type 0
  Goes t = If t (λ k n. Rests p (steps_within p k) n t)

  -- or it never goes on
  abbrev pub Safe : Thread → Type 0
  Safe t = If t (λ k n. (t.wait ≡ wait.Halt) ⊎ Rests p (steps_within p k) n t)

  -- within an instant
  abbrev pub Holds : Thread → ℕ → Type 0
  Holds t left = If t (λ k n. HeldWell p (steps_within p k) n t left)

  -- ---- one run

  abbrev pub OutcomeIs : Thread → Outcome → Type 0
  OutcomeIs r (Held t around left) = Holds t left
  OutcomeIs r (Left t to around left) = Goes t
  OutcomeIs r (Ended end around left) = If r (λ k n. IsNoOver end)

  pub outcome_is : (r : Thread) (o : Outcome) → KeepsOutermost (outermost r.frames) o → If r (λ k n. GoesWell p (steps_within p k) n o) → OutcomeIs r o
  outcome_is r (Held t around left) same h = λ k m v e f g b. h k m v (sym same ∙ e) f g b
  outcome_is r (Left t to around left) same h = λ k m v e f g b. h k m v (sym same ∙ e) f g b
  outcome_is r (Ended end around left) same h = h

  never : (w : Wait) (around : Around) → w ≡ wait.Halt → is_over w (count_of around.board) around.known ≡ true → ⊥
  never w around e f = let same : is_over wait.Halt (count_of around.board) around.known ≡ true = subst (λ (u : Wait). is_over u (count_of around.board) around.known ≡ true) e f in cc

  not_now : (w : Wait) (around : Around) → w ≡ wait.Coop (pos 1) → is_over w (count_of around.board) around.known ≡ true → ⊥
  not_now w around e f = let same : is_over (wait.Coop (pos 1)) (count_of around.board) around.known ≡ true = subst (λ (u : Wait). is_over u (count_of around.board) around.known ≡ true) e f in cc

  module _ (numbered : IsNumbered p) where
    held_goes : (k n : ℕ) (t : Thread) (around : Around) (left : ℕ) → is_over t.wait (count_of around.board) around.known ≡ true → HeldWell p (steps_within p k) n t left
        → GoesWell p (steps_within p k) n (run_of (Tree p) t around left)
    held_goes k n t around left over (inl e) = absurd (never t.wait around e over)
    held_goes k n t around left over (inr h) = by h.0 h.1
      where
        by : Rests p (steps_within p k) n t → (t.wait ≡ wait.Coop (pos 1)) ⊎ HasSteps p (steps_within p k) n left t → GoesWell p (steps_within p k) n (run_of (Tree p) t around left)
        by rests (inl e) = absurd (not_now t.wait around e over)
        by rests (inr steps) = run_goes_well p (steps_within p k) n (is_table p numbered k) numbered t around left rests steps

    pub run_is : (t : Thread) (around : Around) (left : ℕ) → is_over t.wait (count_of around.board) around.known ≡ true → Holds t left → OutcomeIs t (run_of (Tree p) t around left)
    run_is t around left over h =
        outcome_is t (run_of (Tree p) t around left) (run_keeps_outermost (Tree p) t around left) (λ k m v e f g b. held_goes k (bound_of v) t around left over (h k m v e f g b))

    pub no_bound : (t : Thread) (m : ModuleId) → outermost t.frames ≡ Some m
        → ((k : ℕ) (v : Steps) → outermost t.frames ≡ Some m → steps_within p k m ≡ Some v → bound_of v ≤ limits.budget → bound_of v ≤ limits.block → ⊥) → IsBounded p limits m → ⊥
    no_bound t m e h bound =
        let has = bound.1 in
        h has.0 has.1 e has.2 (subst (λ (i : ℕ). i ≤ limits.budget) (sym has.3) bound.2) (subst (λ (i : ℕ). i ≤ limits.block) (sym has.3) bound.3)

-- ---- what is claimed

-- E: what is known of a thread by its id and its outermost module, as it is made
module _ (p : Resolved) (limits : Limits) (E : ThreadId → Option ModuleId → Type 0) where
  abbrev pub Known : Thread → Type 0
  Known t = E t.id (outermost t.frames)

  abbrev pub Linked : Standing → Type 0
  Linked s = Safe p limits s.thread × Known s.thread

  -- a thread that has ended with Over was one of no such bound
  abbrev pub EndIs : ThreadId → End → Type 0
  EndIs t (end.Over at) = (o : Option ModuleId) × E t o × HasNoBound p limits o
  EndIs t end = Unit {0}

  -- what an order carries, and tells of
  abbrev pub CarryIs : Order → Type 0
  CarryIs (order.Arrive t) = Goes p limits t × Known t
  CarryIs (order.Ended t end) = EndIs t end
  CarryIs o = Unit {0}

  -- what it makes
  abbrev pub MakeIs : Order → Type 0
  MakeIs (order.Create t m args) = E t (Some m)
  MakeIs o = Unit {0}

  abbrev pub OrderIs : Order → Type 0
  OrderIs order = CarryIs order × MakeIs order

  abbrev pub SentIs : Sent → Type 0
  SentIs sent = CarryIs sent.order

  abbrev pub ActEndIs : Act → Type 0
  ActEndIs (act.End t end) = EndIs t end
  ActEndIs one = Unit {0}

  abbrev pub MachIs : Mach → Type 0
  MachIs m = Each Linked m.linked
