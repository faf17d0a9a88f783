-- A thread whose work has few enough steps never takes one too many.
use Rattle.std.proofs.Common.{◌≡◌, ◌⊎◌, inl, inr, ℕ, zero, suc, ◌<◌, Bool, true, false, List, [], ◌∷◌, map, length, reverse, Option, Some, None, refl, sym, ap, ◌∙◌, subst, arith}
use Rattle.std.specs.Prelude.{ℤ, pos, negsuc, nat_lt, if◌then◌else◌}
use Rattle.std.proofs.lemmas.List.{reverse-reverse}
use Rattle.loft_base.specs.declared.ids.ModuleId.{ModuleId}
use Rattle.loft_base.specs.declared.ids.Value.{Value}
use Rattle.loft_tree.specs.Fits.{Each}
use Rattle.loft_tree.specs.Resolved.{Exp, Number, Slot, Shared, Special, Unary, Binary, Pause, Cooperate, Await, Get, Join, Link, Unlink, Halt, Step, Do, Hold, Call, Choose, Loop, Times, Resolved}
use Rattle.loft_orders.specs.declared.thread.Thread.{Thread}
use Rattle.loft_orders.specs.declared.thread.Wait.{Wait}
use Rattle.loft_orders.specs.declared.thread.Wait.TheVariants as wait
use Rattle.loft_orders.specs.declared.order.End.TheVariants as end
use Rattle.loft_sense.specs.declared.limits.TheConstants.{MAX_FRAMES}
use Rattle.loft_sense.specs.Around.{Around, Beside}
use Rattle.loft_sense.specs.Eval.{eval, eval_all, number_of, is_true}
use Rattle.loft_sense.specs.Statements.{Effect, GoesOn, Waits, Leaves, Dies, begun, answered}
use Rattle.loft_sense.specs.Run.{Next, Finish, Stuck, Acts, Advances, Tests, Counts, Holds, Runs, Active, Outcome, Held, Left, Ended, ends, if_finish, live, frame_of, thread_of, effect_on, test_on, count_on, run_on, begun_frame, stopped, step, step_on, no_step, going, point_of, active_of, actives_of, go_on, go, here, beside}
use Rattle.loft_sense.specs.Tree.{Work, Begin, Again, Turns, body_then, next_begin, next_work, counts_in, body_at, after, tree}
use Rattle.loft_soundness.specs.Numbered.{IsNumbered}
use Rattle.loft_soundness.specs.Left.{LeadsTo, IsLeft, begins, goes_on as leads_on, LeavesAfter}
use Rattle.loft_soundness.proofs.LeftLemmas.{leaves_after}
use Rattle.loft_budget.specs.declared.steps.Steps.{Steps}
use Rattle.loft_budget.specs.Steps.{only_through, surely, followed, one_more, pause_steps, body_steps}
use Rattle.loft_budget.proofs.Order.{Less, less_refl, less_trans, followed_less, one_more_less, followed_twice, nothing_first, nothing_last, two_first, push, Within, within_less, within_step, one_more_above, after_sure, HasWay, way_followed, way_one_more, no_step_left}
use Rattle.loft_budget.proofs.WorkSteps.{IsCount, work_steps, BodyFine, WorkFine, before_steps, before_fine, NextLess, NextFine, next_less, next_fine, way_work}
use Rattle.loft_budget.proofs.EffectEnds.{IsNoOver, DoesWell, EndsWell, does_well, ends_well, counted}

-- work that is left comes next
not_finished : {B : Type 0} (one : Work) (w : List Work) (x y : B) → if_finish (next_work (one ∷ w)) x y ≡ y
not_finished (Begin s) w x y = begin s
  where
    begin : (s : Step) → if_finish (next_begin s w) x y ≡ y
    begin (Do action) = refl
    begin (Hold k pause) = refl
    begin (Call k m arguments) = refl
    begin (Choose test u v) = refl
    begin (Loop test u) = refl
    begin (Times count u) = refl
not_finished (Again test u) w x y = refl
not_finished (Turns (pos zero) u) w x y = refl
not_finished (Turns (pos (suc n)) u) w x y = refl
not_finished (Turns (negsuc n) u) w x y = refl

module _ (p : Resolved) (of : ModuleId → Option Steps) where
  abbrev pub FrameOf : Type 0
  FrameOf = Active (List Work)

  -- what the bounds of modules have to be
  pub record IsTable : Type 0 where
    pub way : (m : ModuleId) (v : Steps) → of m ≡ Some v → HasWay v
    pub steps : (m : ModuleId) (v : Steps) → of m ≡ Some v → body_steps of (body_at p m) ≡ v
    pub fine : (m : ModuleId) (v : Steps) → of m ≡ Some v → BodyFine of (body_at p m)

  -- the steps of all that is left of a thread
  abbrev pub stack_steps : List FrameOf → Steps
  stack_steps [] = only_through 0
  stack_steps (r ∷ rs) = followed (work_steps of r.at) (stack_steps rs)

  -- a frame whose work is that of its module
  abbrev pub FrameFine : FrameOf → Type 0
  FrameFine r = WorkFine of r.at × IsLeft p r.module r.at

  -- one that goes on there where it was, after it was kept
  abbrev pub FrameKept : FrameOf → Type 0
  FrameKept r = WorkFine of r.at × IsLeft p r.module r.at × (point_of (tree p) (frame_of (tree p) r) r.stop ≡ r.at)

  abbrev pub FramesFine : List FrameOf → Type 0
  FramesFine [] = Unit {0}
  FramesFine (r ∷ rs) = FrameFine r × Each FrameKept rs

  kept_fine : (rs : List FrameOf) → Each FrameKept rs → FramesFine rs
  kept_fine [] f = tt
  kept_fine (r ∷ rs) f = ((f.0.0, f.0.1), f.1)

  one_kept : (r : FrameOf) → FrameKept r → active_of (tree p) (frame_of (tree p) r) ≡ r
  one_kept r f = ap (λ (at : List Work). record r { at = at }) f.2

  all_kept : (rs : List FrameOf) → Each FrameKept rs → map (active_of (tree p)) (map (frame_of (tree p)) rs) ≡ rs
  all_kept [] f = refl
  all_kept (r ∷ rs) f = ap (λ (q : FrameOf). q ∷ map (active_of (tree p)) (map (frame_of (tree p)) rs)) (one_kept r f.0) ∙ ap (λ (qs : List FrameOf). r ∷ qs) (all_kept rs f.1)

  -- a thread that is kept goes on with the frames that it had
  pub actives_kept : (w : Wait) (rs : List FrameOf) (b : Beside) → Each FrameKept rs → actives_of (tree p) (thread_of (tree p) w rs b) ≡ rs
  actives_kept w rs b f = ap (map (active_of (tree p))) (reverse-reverse (map (frame_of (tree p)) rs)) ∙ all_kept rs f

  -- ---- live frames

  data Lives (rs : List FrameOf) : Type 0 where
    ended : live (tree p) rs ≡ [] → Lives rs
    goes : (r : FrameOf) (qs : List FrameOf) (one : Work) (w : List Work) → live (tree p) rs ≡ r ∷ qs → r.at ≡ one ∷ w → FramesFine (r ∷ qs) → Less (stack_steps (r ∷ qs)) (stack_steps rs) → Lives rs

  lives_on : (r : FrameOf) (rs : List FrameOf) (w : List Work) → r.at ≡ w → FramesFine (r ∷ rs) → Lives rs → Lives (r ∷ rs)
  lives_on r rs [] e f (ended none) = ended (ap (λ (w : List Work). if_finish (next_work w) (live (tree p) rs) (r ∷ rs)) e ∙ none)
  lives_on r rs [] e f (goes q qs one v is at fine less) =
      let here : Less (stack_steps rs) (stack_steps (r ∷ rs)) = subst (λ (w : List Work). Less (stack_steps rs) (followed (work_steps of w) (stack_steps rs))) (sym e) (nothing_first (stack_steps rs)) in
      goes q qs one v (ap (λ (w : List Work). if_finish (next_work w) (live (tree p) rs) (r ∷ rs)) e ∙ is) at fine (less_trans _ _ _ less here)
  lives_on r rs (one ∷ w) e f l =
      goes r rs one w (ap (λ (v : List Work). if_finish (next_work v) (live (tree p) rs) (r ∷ rs)) e ∙ not_finished one w _ _) e f (less_refl _)

  lives : (rs : List FrameOf) → FramesFine rs → Lives rs
  lives [] f = ended refl
  lives (r ∷ rs) f = lives_on r rs r.at refl f (lives rs (kept_fine rs f.1))

  -- ---- how a run leaves a thread

  module _ (n : ℕ) where
    -- going on with these frames in an instant of its own, n steps are enough
    abbrev pub RestsOn : List FrameOf → Type 0
    RestsOn rs = Within n n (one_more (stack_steps rs)) × Each FrameKept rs

    abbrev pub Rests : Thread → Type 0
    Rests t = RestsOn (actives_of (tree p) t)

    -- it can go on in this instant with so many steps left
    abbrev pub HasSteps : ℕ → Thread → Type 0
    HasSteps left t = Within left n (one_more (stack_steps (actives_of (tree p) t)))

    -- It never goes on, or it doesn't in this instant, or it has enough steps for that.
    abbrev pub HeldWell : Thread → ℕ → Type 0
    HeldWell t left = (t.wait ≡ wait.Halt) ⊎ (Rests t × ((t.wait ≡ wait.Coop (pos 1)) ⊎ HasSteps left t))

    abbrev pub GoesWell : Outcome → Type 0
    GoesWell (Held t around left) = HeldWell t left
    GoesWell (Left t to around left) = Rests t
    GoesWell (Ended end around left) = IsNoOver end

    rests_there : (w : Wait) (rs : List FrameOf) (b : Beside) → RestsOn rs → Rests (thread_of (tree p) w rs b)
    rests_there w rs b f = subst RestsOn (sym (actives_kept w rs b f.1)) f

    steps_there : (left : ℕ) (w : Wait) (rs : List FrameOf) (b : Beside) → Each FrameKept rs → Within left n (one_more (stack_steps rs)) → HasSteps left (thread_of (tree p) w rs b)
    steps_there left w rs b f g = subst (λ (qs : List FrameOf). Within left n (one_more (stack_steps qs))) (sym (actives_kept w rs b f)) g

    -- a point of a run with so many steps left
    pub record PointWell (left : ℕ) (rs : List FrameOf) : Type 0 where
      pub frames : FramesFine rs
      pub now : Within left n (stack_steps rs)
      pub later : Within n n (one_more (stack_steps rs))

    abbrev Ons : ℕ → (Beside → List FrameOf → Outcome) → Type 0
    Ons left on = (b : Beside) (rs : List FrameOf) → PointWell left rs → GoesWell (on b rs)

    -- a step is made
    stepped : (left : ℕ) (rs qs : List FrameOf) → Less (one_more (stack_steps qs)) (stack_steps rs) → FramesFine qs → PointWell (suc left) rs → PointWell left qs
    stepped left rs qs less fine f = record {
      frames = fine;
      now = within_step left n (stack_steps qs) (within_less (suc left) n _ _ less f.now);
      later = within_less n n _ _ (less_trans _ _ _ less (one_more_above (stack_steps rs))) f.later;
    }

    module _ (table : IsTable) (numbered : IsNumbered p) where
      -- the innermost frame goes on at w
      moved : (left : ℕ) (r : FrameOf) (rs : List FrameOf) (values : List Value) (w : List Work) → Less (one_more (work_steps of w)) (work_steps of r.at) → WorkFine of w → IsLeft p r.module w
          → PointWell (suc left) (r ∷ rs) → PointWell left (record r { values = values; at = w } ∷ rs)
      moved left r rs values w less fine is f = stepped left (r ∷ rs) _ (push (work_steps of w) (work_steps of r.at) (stack_steps rs) less) ((fine, is), f.frames.1) f

      point_at : (m : ModuleId) (k : ℕ) (values : List Value) (w : List Work) → 0 < k → after p m k (reverse (counts_in w)) ≡ w
          → point_of (tree p) (record { «module» = m; stop = k; counts = reverse (counts_in w); values = values }) k ≡ w
      point_at m zero values w some e = absurd (omega (arith, some))
      point_at m (suc k) values w some e = e

      -- the innermost frame stands at a stop
      stands : (r : FrameOf) (k : ℕ) (w : List Work) → 0 < k → WorkFine of w → IsLeft p r.module w → after p r.module k (reverse (counts_in w)) ≡ w → FrameKept (stopped r k w)
      stands r k w some fine is e = (fine, is, point_at r.module k r.values w some e)

      -- ---- one step

      acts_well : (left : ℕ) (on : Beside → List FrameOf → Outcome) → Ons left on → (effect : Effect) (w : List Work) (r : FrameOf) (rs : List FrameOf) (b : Beside)
          → DoesWell effect → Less (one_more (work_steps of w)) (work_steps of r.at) → WorkFine of w → IsLeft p r.module w → PointWell (suc left) (r ∷ rs)
          → GoesWell (effect_on (tree p) left on effect w r rs b)
      acts_well left on h (GoesOn now) w r rs b does less fine is f = h now.beside _ (moved left r rs now.values w less fine is f)
      acts_well left on h (Waits wait) w r rs b does less fine is f = absurd does
      acts_well left on h (Leaves to) w r rs b does less fine is f = absurd does
      acts_well left on h (Dies end) w r rs b does less fine is f = does

      test_well : (left : ℕ) (on : Beside → List FrameOf → Outcome) → Ons left on → (v : Option Value) (x y : List Work) (r : FrameOf) (rs : List FrameOf) (b : Beside)
          → ((w : List Work) → (w ≡ x) ⊎ (w ≡ y) → PointWell left (record r { at = w } ∷ rs)) → GoesWell (test_on left on v x y r rs b)
      test_well left on h None x y r rs b f = tt
      test_well left on h (Some v) x y r rs b f = by (is_true (number_of v))
        where
          by : (yes : Bool) → GoesWell (on b (record r { at = if yes then x else y } ∷ rs))
          by true = h b _ (f x (inl refl))
          by false = h b _ (f y (inr refl))

      count_well : (left : ℕ) (on : Beside → List FrameOf → Outcome) → Ons left on → (v : Option Value) (g : ℤ → List Work) (r : FrameOf) (rs : List FrameOf) (b : Beside)
          → ((u : Value) → v ≡ Some u → PointWell left (record r { at = g (number_of u) } ∷ rs)) → GoesWell (count_on left on v g r rs b)
      count_well left on h None g r rs b f = tt
      count_well left on h (Some v) g r rs b f = h b _ (f v refl)

      run_well : (left : ℕ) (on : Beside → List FrameOf → Outcome) → Ons left on → (arguments : Option (List Value)) (m : ModuleId) (r : FrameOf) (rs : List FrameOf) (b : Beside)
          → ((args : List Value) → PointWell left (begun_frame (tree p) m args b ∷ r ∷ rs)) → GoesWell (run_on (tree p) left on arguments m r rs b)
      run_well left on h None m r rs b f = tt
      run_well left on h (Some args) m r rs b f = by (nat_lt (length (r ∷ rs)) MAX_FRAMES)
        where
          by : (room : Bool) → GoesWell (if room then on b (begun_frame (tree p) m args b ∷ r ∷ rs) else ends (end.Deep (here r)) b left)
          by true = h b _ (f args)
          by false = tt

      -- a stop that isn't sure: two steps are counted for it
      plain_well : (left : ℕ) (on : Beside → List FrameOf → Outcome) → Ons left on → (effect : Effect) (w : List Work) (r : FrameOf) (rs : List FrameOf) (b : Beside)
          → EndsWell effect → FrameKept (record r { at = w }) → Each FrameKept rs
          → Within left n (one_more (stack_steps (record r { at = w } ∷ rs))) → Within n n (one_more (stack_steps (record r { at = w } ∷ rs)))
          → GoesWell (effect_on (tree p) left on effect w r rs b)
      plain_well left on h (GoesOn now) w r rs b does kept outer steps later =
          h now.beside (record r { values = now.values; at = w } ∷ rs) (record { frames = ((kept.0, kept.1), outer); now = within_less left n _ _ (one_more_above (stack_steps (record r { at = w } ∷ rs))) steps; later = later })
      plain_well left on h (Waits wait) w r rs b does kept outer steps later = inr (rests_there wait (record r { at = w } ∷ rs) b (later, (kept, outer)), inr (steps_there left wait (record r { at = w } ∷ rs) b (kept, outer) steps))
      plain_well left on h (Leaves to) w r rs b does kept outer steps later = rests_there wait.New (record r { at = w } ∷ rs) b (later, (kept, outer))
      plain_well left on h (Dies end) w r rs b does kept outer steps later = does

      -- what a stop leaves
      paused : (pause : Pause) (w : List Work) (rs : List FrameOf) (all : Steps) → Less (followed (pause_steps pause) (work_steps of w)) all
          → Less (followed (pause_steps pause) (followed (work_steps of w) (stack_steps rs))) (followed all (stack_steps rs))
      paused pause w rs all less = less_trans _ _ _ (followed_twice (pause_steps pause) (work_steps of w) (stack_steps rs)) (followed_less _ _ _ _ less (less_refl (stack_steps rs)))

      two_well : (left : ℕ) (on : Beside → List FrameOf → Outcome) → Ons left on → (effect : Effect) (k : ℕ) (w : List Work) (r : FrameOf) (rs : List FrameOf) (b : Beside)
          → EndsWell effect → FrameKept (stopped r k w) → Each FrameKept rs
          → Less (followed (only_through 2) (stack_steps (stopped r k w ∷ rs))) (stack_steps (r ∷ rs)) → PointWell (suc left) (r ∷ rs)
          → GoesWell (effect_on (tree p) left on effect w (stopped r k w) rs b)
      two_well left on h effect k w r rs b does kept outer less f =
          let x = stack_steps (stopped r k w ∷ rs) in
          let two : Less (one_more (one_more x)) (stack_steps (r ∷ rs)) = less_trans _ _ _ (two_first x) less in
          plain_well left on h effect w (stopped r k w) rs b does kept outer
          (within_step left n (one_more x) (within_less (suc left) n _ _ two f.now))
          (within_less n n _ _ (less_trans _ _ _ (one_more_above (one_more x)) (less_trans _ _ _ two (one_more_above (stack_steps (r ∷ rs))))) f.later)

      sure_rests : (left k : ℕ) (w : List Work) (r : FrameOf) (rs : List FrameOf) → FrameKept (stopped r k w) → Each FrameKept rs
          → Less (followed surely (stack_steps (stopped r k w ∷ rs))) (stack_steps (r ∷ rs)) → PointWell (suc left) (r ∷ rs) → RestsOn (stopped r k w ∷ rs)
      sure_rests left k w r rs kept outer less f = (after_sure (suc left) n (stack_steps (stopped r k w ∷ rs)) (within_less (suc left) n _ _ less f.now), (kept, outer))

      stop_well : (left : ℕ) (on : Beside → List FrameOf → Outcome) → Ons left on → (pause : Pause) (k : ℕ) (w : List Work) (r : FrameOf) (rs : List FrameOf) (b : Beside)
          → FrameKept (stopped r k w) → Each FrameKept rs
          → Less (followed (pause_steps pause) (stack_steps (stopped r k w ∷ rs))) (stack_steps (r ∷ rs)) → PointWell (suc left) (r ∷ rs)
          → GoesWell (effect_on (tree p) left on (begun p.heads pause (here (stopped r k w)) r.values b) w (stopped r k w) rs b)
      stop_well left on h (Cooperate None) k w r rs b kept outer less f = inr (rests_there (wait.Coop (pos 1)) (stopped r k w ∷ rs) b (sure_rests left k w r rs kept outer less f), inl refl)
      stop_well left on h (Cooperate (Some e)) k w r rs b kept outer less f = two_well left on h _ k w r rs b (ends_well p.heads (Cooperate (Some e)) _ r.values b) kept outer less f
      stop_well left on h (Await events limit) k w r rs b kept outer less f = two_well left on h _ k w r rs b (ends_well p.heads (Await events limit) _ r.values b) kept outer less f
      stop_well left on h (Get event index target) k w r rs b kept outer less f = two_well left on h _ k w r rs b (ends_well p.heads (Get event index target) _ r.values b) kept outer less f
      stop_well left on h (Join thread limit) k w r rs b kept outer less f = two_well left on h _ k w r rs b (ends_well p.heads (Join thread limit) _ r.values b) kept outer less f
      stop_well left on h (Link s) k w r rs b kept outer less f = rests_there wait.New (stopped r k w ∷ rs) b (sure_rests left k w r rs kept outer less f)
      stop_well left on h Unlink k w r rs b kept outer less f = rests_there wait.New (stopped r k w ∷ rs) b (sure_rests left k w r rs kept outer less f)
      stop_well left on h Halt k w r rs b kept outer less f = inl refl

      -- the frame of a module that begins, over the one that runs it
      called : (left k : ℕ) (m : ModuleId) (args : List Value) (v : Steps) (w : List Work) (r : FrameOf) (rs : List FrameOf) (b : Beside) → of m ≡ Some v
          → Less (one_more (followed v (work_steps of w))) (work_steps of r.at) → FrameKept (stopped r k w) → PointWell (suc left) (r ∷ rs)
          → PointWell left (begun_frame (tree p) m args b ∷ stopped r k w ∷ rs)
      called left k m args v w r rs b is less kept f =
          let rest = followed (work_steps of w) (stack_steps rs) in
          let body : Less (work_steps of (body_then (body_at p m) [])) v =
          subst (λ (x : Steps). Less (work_steps of (body_then (body_at p m) [])) x) (table.steps m v is) (less_trans _ _ _ (before_steps of (body_at p m) []) (nothing_last (body_steps of (body_at p m)))) in
          let all : Less (followed (work_steps of (body_then (body_at p m) [])) rest) (followed (followed v (work_steps of w)) (stack_steps rs)) =
          less_trans _ _ _ (followed_less _ _ _ _ body (less_refl rest)) (followed_twice v (work_steps of w) (stack_steps rs)) in
          stepped left (r ∷ rs) (begun_frame (tree p) m args b ∷ stopped r k w ∷ rs)
          (less_trans _ _ _ (one_more_less _ _ all) (push (followed v (work_steps of w)) (work_steps of r.at) (stack_steps rs) less))
          ((before_fine of (body_at p m) [] (table.fine m v is) tt, begins), (kept, f.frames.1)) f

      step_well : (left : ℕ) (on : Beside → List FrameOf → Outcome) → Ons left on → (x : Next (List Work)) (r : FrameOf) (rs : List FrameOf) (b : Beside)
          → NextLess of x (work_steps of r.at) → NextFine of x → ((w : List Work) → LeadsTo x w → IsLeft p r.module w) → LeavesAfter p r.module x → PointWell (suc left) (r ∷ rs)
          → GoesWell (step (tree p) left on x r rs b)
      step_well left on h Finish r rs b less fine leads leaves f = absurd less
      step_well left on h Stuck r rs b less fine leads leaves f = absurd less
      step_well left on h (Acts action w) r rs b less fine leads leaves f = acts_well left on h _ w r rs b (does_well p.heads action (here r) r.values b) less fine (leads w refl) f
      step_well left on h (Advances w) r rs b less fine leads leaves f = h b _ (moved left r rs r.values w less fine (leads w refl) f)
      step_well left on h (Tests test v u) r rs b less fine leads leaves f = test_well left on h (eval p.heads r.values b test) v u r rs b by
        where
          by : (w : List Work) → (w ≡ v) ⊎ (w ≡ u) → PointWell left (record r { at = w } ∷ rs)
          by w (inl e) = subst (λ (x : List Work). PointWell left (record r { at = x } ∷ rs)) (sym e) (moved left r rs r.values v less.0 fine.0 (leads v (inl refl)) f)
          by w (inr e) = subst (λ (x : List Work). PointWell left (record r { at = x } ∷ rs)) (sym e) (moved left r rs r.values u less.1 fine.1 (leads u (inr refl)) f)
      step_well left on h (Counts count g) r rs b less fine leads leaves f =
          count_well left on h (eval p.heads r.values b count) g r rs b
          (λ v e. moved left r rs r.values (g (number_of v)) (less (number_of v) (counted p.heads r.values b count v e)) (fine (number_of v)) (leads (g (number_of v)) (number_of v, refl)) f)
      step_well left on h (Holds k pause w) r rs b less fine leads leaves f =
          stop_well left on h pause k w r rs b (stands r k w fine.0 fine.1 (leads w refl) leaves) f.frames.1 (paused pause w rs (work_steps of r.at) less) f
      step_well left on h (Runs k m arguments w) r rs b less fine leads leaves f =
          run_well left on h (eval_all p.heads r.values b arguments) m (stopped r k w) rs b
          (λ args. called left k m args less.0 w r rs b less.1 less.2 (stands r k w fine.0 fine.1 (leads w refl) leaves) f)

      -- ---- a whole run

      way_stack : (rs : List FrameOf) → HasWay (stack_steps rs)
      way_stack [] = inl tt
      way_stack (r ∷ rs) = way_followed (work_steps of r.at) (stack_steps rs) (way_work of table.way r.at) (way_stack rs)

      -- what comes next at work that is left
      next_at : (left : ℕ) (on : Beside → List FrameOf → Outcome) → Ons left on → (r : FrameOf) (rs : List FrameOf) (b : Beside) (one : Work) (w : List Work) → r.at ≡ one ∷ w → PointWell (suc left) (r ∷ rs)
          → GoesWell (step (tree p) left on (next_work r.at) r rs b)
      next_at left on h r rs b one w e f =
          step_well left on h (next_work r.at) r rs b
          (subst (λ (v : List Work). NextLess of (next_work v) (work_steps of v)) (sym e) (next_less of one w (subst (WorkFine of) e f.frames.0.0)))
          (next_fine of r.at f.frames.0.0) (λ v l. leads_on f.frames.0.1 l) (leaves_after p numbered r.module r.at f.frames.0.1) f

      -- no work is done without a step
      pause_takes : (pause : Pause) (x : Steps) → HasWay x → Within 0 n (followed (pause_steps pause) x) → ⊥
      pause_takes (Cooperate None) x way f = let e = f.head in omega (arith, e)
      pause_takes (Cooperate (Some e)) x way f = no_step_left n (one_more x) (way_one_more x way) (within_less 0 n _ _ (two_first x) f)
      pause_takes (Await events limit) x way f = no_step_left n (one_more x) (way_one_more x way) (within_less 0 n _ _ (two_first x) f)
      pause_takes (Get event index target) x way f = no_step_left n (one_more x) (way_one_more x way) (within_less 0 n _ _ (two_first x) f)
      pause_takes (Join thread limit) x way f = no_step_left n (one_more x) (way_one_more x way) (within_less 0 n _ _ (two_first x) f)
      pause_takes (Link s) x way f = let e = f.head in omega (arith, e)
      pause_takes Unlink x way f = let e = f.head in omega (arith, e)
      pause_takes Halt x way f = let e = f.head in omega (arith, e)

      -- a step that leaves x, and then what is done after it
      takes : (x y z : Steps) → HasWay x → HasWay z → Less (one_more x) y → Within 0 n (followed y z) → ⊥
      takes x y z way last less f = no_step_left n (followed x z) (way_followed x z way last) (within_less 0 n _ _ (push x y z less) f)

      next_takes : (x : Next (List Work)) (s z : Steps) → HasWay z → NextLess of x s → Within 0 n (followed s z) → ⊥
      next_takes Finish s z way less f = less
      next_takes Stuck s z way less f = less
      next_takes (Acts action w) s z way less f = takes (work_steps of w) s z (way_work of table.way w) way less f
      next_takes (Advances w) s z way less f = takes (work_steps of w) s z (way_work of table.way w) way less f
      next_takes (Tests test v u) s z way less f = takes (work_steps of v) s z (way_work of table.way v) way less.0 f
      next_takes (Counts count g) s z way less f = by count less
        where
          by : (count : Exp) → ((m : ℤ) → IsCount count m → Less (one_more (work_steps of (g m))) s) → ⊥
          by (Number value) h = takes (work_steps of (g value)) s z (way_work of table.way (g value)) way (h value refl) f
          by (Slot slot) h = takes (work_steps of (g (pos 0))) s z (way_work of table.way (g (pos 0))) way (h (pos 0) tt) f
          by (Shared shared) h = takes (work_steps of (g (pos 0))) s z (way_work of table.way (g (pos 0))) way (h (pos 0) tt) f
          by (Special builtin) h = takes (work_steps of (g (pos 0))) s z (way_work of table.way (g (pos 0))) way (h (pos 0) tt) f
          by (Unary operator operand) h = takes (work_steps of (g (pos 0))) s z (way_work of table.way (g (pos 0))) way (h (pos 0) tt) f
          by (Binary operator left right) h = takes (work_steps of (g (pos 0))) s z (way_work of table.way (g (pos 0))) way (h (pos 0) tt) f
      next_takes (Holds k pause w) s z way less f =
          pause_takes pause (followed (work_steps of w) z) (way_followed (work_steps of w) z (way_work of table.way w) way)
          (within_less 0 n _ _ (less_trans _ _ _ (followed_twice (pause_steps pause) (work_steps of w) z) (followed_less _ _ _ _ less (less_refl z))) f)
      next_takes (Runs k m arguments w) s z way less f =
          takes (followed less.0 (work_steps of w)) s z (way_followed less.0 (work_steps of w) (table.way m less.0 less.1) (way_work of table.way w)) way less.2 f

      step_left : (r : FrameOf) (rs : List FrameOf) (one : Work) (w : List Work) → r.at ≡ one ∷ w → PointWell zero (r ∷ rs) → ⊥
      step_left r rs one w e f =
          next_takes (next_work (one ∷ w)) (work_steps of (one ∷ w)) (stack_steps rs) (way_stack rs) (next_less of one w (subst (WorkFine of) e f.frames.0.0))
          (subst (λ (v : List Work). Within 0 n (followed (work_steps of v) (stack_steps rs))) e f.now)

      point_less : (left : ℕ) (rs qs : List FrameOf) → Less (stack_steps qs) (stack_steps rs) → FramesFine qs → PointWell left rs → PointWell left qs
      point_less left rs qs less fine f = record { frames = fine; now = within_less left n _ _ less f.now; later = within_less n n _ _ (one_more_less _ _ less) f.later }

      pub going_well : (left : ℕ) (b : Beside) (rs : List FrameOf) → PointWell left rs → GoesWell (going (tree p) left b rs)
      going_well zero b rs f = by (lives rs f.frames)
        where
          by : Lives rs → GoesWell (no_step b (live (tree p) rs))
          by (ended e) = subst (λ (qs : List FrameOf). GoesWell (no_step b qs)) (sym e) tt
          by (goes r qs one w e at fine less) = absurd (step_left r qs one w at (point_less zero rs (r ∷ qs) less fine f))
      going_well (suc left) b rs f = by (lives rs f.frames) (going_well left)
        where
          by : Lives rs → Ons left (going (tree p) left) → GoesWell (step_on (tree p) left (going (tree p) left) b (live (tree p) rs))
          by (ended e) h = subst (λ (qs : List FrameOf). GoesWell (step_on (tree p) left (going (tree p) left) b qs)) (sym e) tt
          by (goes r qs one w e at fine less) h =
              subst (λ (ps : List FrameOf). GoesWell (step_on (tree p) left (going (tree p) left) b ps)) (sym e)
              (next_at left (going (tree p) left) h r qs b one w at (point_less (suc left) rs (r ∷ qs) less fine f))

      go_on_well : (left : ℕ) (w : Wait) (b : Beside) (rs : List FrameOf) → RestsOn rs → Within left n (one_more (stack_steps rs)) → GoesWell (go_on (tree p) left w b rs)
      go_on_well zero w b rs f steps = absurd (no_step_left n (stack_steps rs) (way_stack rs) steps)
      go_on_well (suc left) w b [] f steps = going_well left b [] (record { frames = tt; now = within_step left n (stack_steps []) steps; later = f.0 })
      go_on_well (suc left) w b (r ∷ rs) f steps =
          let now = answered p.heads ((tree p).pause r.module r.stop) w r.values b in
          going_well left now.beside (record r { values = now.values } ∷ rs)
          (record { frames = ((f.1.0.0, f.1.0.1), f.1.1); now = within_step left n (stack_steps (r ∷ rs)) steps; later = f.0 })

      -- a thread that goes on with steps enough
      pub run_goes_well : (t : Thread) (around : Around) (left : ℕ) → Rests t → HasSteps left t → GoesWell (go (tree p) t around left)
      unfolding go
      run_goes_well t around left f steps = go_on_well left t.wait (beside t around) (actives_of (tree p) t) f steps
