-- A run of a thread takes a step of those that are left, or ends the thread.
use Rattle.std.proofs.Common.{ℕ, zero, suc, ◌<◌, ◌≤◌, Bool, true, false, List, [], ◌∷◌, Option, Some, None, length, arith}
use Rattle.std.specs.Prelude.{ℤ, if◌then◌else◌, nat_lt}
use Rattle.loft_base.specs.declared.ids.ModuleId.{ModuleId}
use Rattle.loft_base.specs.declared.ids.Value.{Value}
use Rattle.loft_sense.specs.declared.limits.TheConstants.{MAX_FRAMES}
use Rattle.loft_orders.specs.declared.thread.Thread.{Thread}
use Rattle.loft_orders.specs.declared.thread.Wait.{Wait}
use Rattle.loft_sense.specs.Machine.{Prog, Tree, Code}
use Rattle.loft_sense.specs.Around.{Around, Beside}
use Rattle.loft_sense.specs.Eval.{eval, eval_all, number_of}
use Rattle.loft_sense.specs.Statements.{Effect, GoesOn, Waits, Leaves, Dies, did, begun, answered}
use Rattle.loft_sense.specs.Run.{Next, Finish, Stuck, Acts, Advances, Tests, Counts, Holds, Runs, Control, Active, Outcome, Held, Left, Ended, live, effect_on, test_on, count_on, run_on, begun_frame, stopped, step, step_on, no_step, going, go_on, go, here, beside, actives_of}
use Rattle.loft_sense.specs.Tree.{tree}
use Rattle.loft_sense.specs.Code.{code}
use Rattle.loft_sense.specs.Passes.{run_of}

-- fewer steps are left than n where the thread still stands, and no more where it has ended
abbrev pub IsBelow : Outcome → ℕ → Type 0
IsBelow (Held t around left) n = left < n
IsBelow (Left t to around left) n = left < n
IsBelow (Ended end around left) n = left ≤ n

pub IsBelow-more : (o : Outcome) (n : ℕ) → IsBelow o n → IsBelow o (suc n)
IsBelow-more (Held t around left) n h = omega arith
IsBelow-more (Left t to around left) n h = omega arith
IsBelow-more (Ended end around left) n h = omega arith

-- each way to go on from a step with so many left
abbrev GoesBelow : {A : Type 0} → (Beside → List (Active A) → Outcome) → ℕ → Type 0
GoesBelow on n = (b : Beside) (rs : List (Active _)) → IsBelow (on b rs) n

below_none : {A : Type 0} (b : Beside) (rs : List (Active A)) (n : ℕ) → IsBelow (no_step b rs) n
below_none b [] n = omega arith
below_none b (r ∷ rs) n = omega arith

below_effect : {A : Type 0} (c : Control A) (left : ℕ) (on : Beside → List (Active A) → Outcome) → GoesBelow on left → (effect : Effect) (p : A) (r : Active A) (rs : List (Active A)) (b : Beside) → IsBelow (effect_on c left on effect p r rs b) (suc left)
below_effect c left on h (GoesOn now) p r rs b = IsBelow-more (on now.beside (record r { values = now.values; at = p } ∷ rs)) left (h _ _)
below_effect c left on h (Waits wait) p r rs b = omega arith
below_effect c left on h (Leaves to) p r rs b = omega arith
below_effect c left on h (Dies end) p r rs b = omega arith

below_test : {A : Type 0} (left : ℕ) (on : Beside → List (Active A) → Outcome) → GoesBelow on left → (v : Option Value) (p q : A) (r : Active A) (rs : List (Active A)) (b : Beside) → IsBelow (test_on left on v p q r rs b) (suc left)
below_test left on h None p q r rs b = omega arith
below_test left on h (Some v) p q r rs b = IsBelow-more _ left (h b _)

below_count : {A : Type 0} (left : ℕ) (on : Beside → List (Active A) → Outcome) → GoesBelow on left → (v : Option Value) (f : ℤ → A) (r : Active A) (rs : List (Active A)) (b : Beside) → IsBelow (count_on left on v f r rs b) (suc left)
below_count left on h None f r rs b = omega arith
below_count left on h (Some v) f r rs b = IsBelow-more _ left (h b (record r { at = f (number_of v) } ∷ rs))

below_chosen : (room : Bool) (v w : Outcome) (n : ℕ) → IsBelow v n → IsBelow w n → IsBelow (if room then v else w) n
below_chosen true v w n p q = p
below_chosen false v w n p q = q

below_run : {A : Type 0} (c : Control A) (left : ℕ) (on : Beside → List (Active A) → Outcome) → GoesBelow on left → (arguments : Option (List Value)) (m : ModuleId) (r : Active A) (rs : List (Active A)) (b : Beside) → IsBelow (run_on c left on arguments m r rs b) (suc left)
below_run c left on h None m r rs b = omega arith
below_run c left on h (Some arguments) m r rs b =
    below_chosen (nat_lt (length (r ∷ rs)) MAX_FRAMES) (on b (begun_frame c m arguments b ∷ r ∷ rs)) _ (suc left) (IsBelow-more _ left (h b (begun_frame c m arguments b ∷ r ∷ rs))) (omega arith)

below_step : {A : Type 0} (c : Control A) (left : ℕ) (on : Beside → List (Active A) → Outcome) → GoesBelow on left → (next : Next A) (r : Active A) (rs : List (Active A)) (b : Beside) → IsBelow (step c left on next r rs b) (suc left)
below_step c left on h Finish r rs b = IsBelow-more _ left (h b rs)
below_step c left on h Stuck r rs b = IsBelow-more _ left (h b rs)
below_step c left on h (Acts action p) r rs b = below_effect c left on h (did c.heads action (here r) r.values b) p r rs b
below_step c left on h (Advances p) r rs b = IsBelow-more _ left (h b (record r { at = p } ∷ rs))
below_step c left on h (Tests test p q) r rs b = below_test left on h (eval c.heads r.values b test) p q r rs b
below_step c left on h (Counts count f) r rs b = below_count left on h (eval c.heads r.values b count) f r rs b
below_step c left on h (Holds k pause p) r rs b = below_effect c left on h (begun c.heads pause (here (stopped r k p)) r.values b) p (stopped r k p) rs b
below_step c left on h (Runs k m arguments p) r rs b = below_run c left on h (eval_all c.heads r.values b arguments) m (stopped r k p) rs b

below_on : {A : Type 0} (c : Control A) (left : ℕ) (on : Beside → List (Active A) → Outcome) → GoesBelow on left → (b : Beside) (rs : List (Active A)) → IsBelow (step_on c left on b rs) (suc left)
below_on c left on h b [] = omega arith
below_on c left on h b (r ∷ rs) = below_step c left on h (c.next r.module r.at) r rs b

below_going : {A : Type 0} (c : Control A) (n : ℕ) (b : Beside) (rs : List (Active A)) → IsBelow (going c n b rs) n
below_going c zero b rs = below_none b (live c rs) zero
below_going c (suc left) b rs = below_on c left (going c left) (below_going c left) b (live c rs)

below_go_on : {A : Type 0} (c : Control A) (n : ℕ) (wait : Wait) (b : Beside) (rs : List (Active A)) → IsBelow (go_on c n wait b rs) n
below_go_on c zero wait b rs = below_none b rs zero
below_go_on c (suc left) wait b [] = IsBelow-more _ left (below_going c left b [])
below_go_on c (suc left) wait b (r ∷ rs) =
    let now = answered c.heads (c.pause r.module r.stop) wait r.values b in
    IsBelow-more _ left (below_going c left now.beside (record r { values = now.values } ∷ rs))

-- a run takes a step, or ends the thread
pub run_takes_step : (x : Prog) (t : Thread) (around : Around) (n : ℕ) → IsBelow (run_of x t around n) n
unfolding go
run_takes_step (Tree p) t around n = below_go_on (tree p) n t.wait (beside t around) (actives_of (tree p) t)
run_takes_step (Code c) t around n = below_go_on (code c) n t.wait (beside t around) (actives_of (code c) t)
