-- The code that a thread has after a run: where it comes from.
use Rattle.std.proofs.Common.{◌≡◌, inl, inr, ℕ, zero, suc, Bool, true, false, List, [], ◌∷◌, Option, Some, None, refl, sym, ◌∙◌, ap, subst, length}
use Rattle.std.specs.Prelude.{ℤ, if◌then◌else◌, nat_lt}
use Rattle.loft_base.specs.declared.ids.ModuleId.{ModuleId}
use Rattle.loft_base.specs.declared.ids.Value.{Value}
use Rattle.loft_tree.specs.declared.heads.Heads.{Heads}
use Rattle.loft_tree.specs.Resolved.{Exp, Action, Pause}
use Rattle.loft_sense.specs.declared.limits.TheConstants.{MAX_FRAMES}
use Rattle.loft_orders.specs.declared.thread.Thread.{Thread}
use Rattle.loft_orders.specs.declared.thread.Wait.{Wait}
use Rattle.loft_orders.specs.declared.order.End.TheVariants.{Deep}
use Rattle.loft_orders.specs.declared.order.To.{To}
use Rattle.loft_sense.specs.Machine.{Prog, Tree, Code}
use Rattle.loft_sense.specs.Around.{Around, Beside}
use Rattle.loft_sense.specs.Eval.{eval, eval_all, number_of}
use Rattle.loft_sense.specs.Statements.{Effect, GoesOn, Waits, Leaves, Dies, code_ok, code_timeout, did, begun, answered}
use Rattle.loft_sense.specs.Run.{Next, Finish, Stuck, Acts, Advances, Tests, Counts, Holds, Runs, Control, Active, Outcome, Held, Left, Ended, ends, live, effect_on, test_on, count_on, run_on, begun_frame, stopped, step, step_on, no_step, going, go_on, go, here, beside, actives_of}
use Rattle.loft_sense.specs.Tree.{tree}
use Rattle.loft_sense.specs.Code.{code}
use Rattle.loft_sense.specs.Passes.{run_of}
use Rattle.loft_sense.specs.WaitCodes.{stop_sets_code, limit_number, wait_sets_code}
use Rattle.loft_sense.specs.CodeOrigins.{Reaches, at_once, further, BeginsLate, LeadsLate, WakesLate, CodeComesFrom, kept, there, ran_out, late, marked}
use Rattle.loft_sense.proofs.CodeLemmas.{IsCode, IsAnswer, begun_code, begun_same_code, did_same_code, answered_code, answered_same_code}

-- K holds of the code of the thread that a run leaves
abbrev pub CodeIs : (ℤ → Type 0) → Outcome → Type 0
CodeIs K (Held t around left) = K t.code
CodeIs K (Left t to around left) = K t.code
CodeIs K (Ended end around left) = Unit {0}

no_step_code : {A : Type 0} (K : ℤ → Type 0) (d : Beside) (rs : List (Active A)) → CodeIs K (no_step d rs)
no_step_code K d [] = tt
no_step_code K d (r ∷ rs) = tt

-- From these frames on: K holds of OK, and of TIMEOUT where steps lead to a stop whose limit is at most 0.
module _ {A : Type 0} (c : Control A) (b : Beside) (rs : List (Active A)) (K : ℤ → Type 0) (k_ok : K code_ok) (k_late : LeadsLate c b rs → K code_timeout) where
  -- what a run leaves that goes on there
  abbrev GoesSo : (Beside → List (Active A) → Outcome) → Type 0
  GoesSo on = (e : Beside) (ps : List (Active A)) → Reaches c b rs e ps → K e.code → CodeIs K (on e ps)

  -- a step of the innermost frame q over qs, where these are all that are live
  module _ (d : Beside) (all : List (Active A)) (q : Active A) (qs : List (Active A)) (is : live c all ≡ q ∷ qs) (reached : Reaches c b rs d all) (k : K d.code) (left : ℕ) (on : Beside → List (Active A) → Outcome) (goes : GoesSo on) where
    goes_to : (v : Next A) → c.next q.module q.at ≡ v → (e : Beside) (ps : List (Active A)) → ((left : ℕ) (on : Beside → List (Active A) → Outcome) → step c left on v q qs d ≡ on e ps) → K e.code → CodeIs K (on e ps)
    goes_to v what e ps steps k_e =
        goes e ps (further d all e ps reached (λ left on. ap (step_on c left on d) is ∙ (ap (λ (v : Next A). step c left on v q qs d) what ∙ steps left on))) k_e

    acts_code : (action : Action) (p : A) → c.next q.module q.at ≡ Acts action p → (effect : Effect) → did c.heads action (here q) q.values d ≡ effect → CodeIs K (effect_on c left on effect p q qs d)
    acts_code action p what (GoesOn now) e =
        goes_to (Acts action p) what now.beside (record q { values = now.values; at = p } ∷ qs)
        (λ left on. ap (λ (effect : Effect). effect_on c left on effect p q qs d) e) (subst K (sym (did_same_code c.heads action (here q) q.values d now e)) k)
    acts_code action p what (Waits w) e = k
    acts_code action p what (Leaves to) e = k
    acts_code action p what (Dies end) e = tt

    test_code : (test : Exp) (p r : A) → c.next q.module q.at ≡ Tests test p r → (v : Option Value) → eval c.heads q.values d test ≡ v → CodeIs K (test_on left on v p r q qs d)
    test_code test p r what None e = tt
    test_code test p r what (Some v) e =
        goes_to (Tests test p r) what d _ (λ left on. ap (λ (v : Option Value). test_on left on v p r q qs d) e) k

    count_code : (count : Exp) (f : ℤ → A) → c.next q.module q.at ≡ Counts count f → (v : Option Value) → eval c.heads q.values d count ≡ v → CodeIs K (count_on left on v f q qs d)
    count_code count f what None e = tt
    count_code count f what (Some v) e =
        goes_to (Counts count f) what d (record q { at = f (number_of v) } ∷ qs) (λ left on. ap (λ (v : Option Value). count_on left on v f q qs d) e) k

    room_code : (stop : ℕ) (m : ModuleId) (arguments : List Exp) (p : A) → c.next q.module q.at ≡ Runs stop m arguments p → (vs : List Value) → eval_all c.heads q.values d arguments ≡ Some vs
        → (room : Bool) → nat_lt (length (stopped q stop p ∷ qs)) MAX_FRAMES ≡ room
        → (last : Outcome) → CodeIs K last → CodeIs K (if room then on d (begun_frame c m vs d ∷ stopped q stop p ∷ qs) else last)
    room_code stop m arguments p what vs e true room last f =
        goes_to (Runs stop m arguments p) what d (begun_frame c m vs d ∷ stopped q stop p ∷ qs)
        (λ left on.
        ap (λ (v : Option (List Value)). run_on c left on v m (stopped q stop p) qs d) e
        ∙ ap (λ (room : Bool). if room then on d (begun_frame c m vs d ∷ stopped q stop p ∷ qs) else ends (Deep (here (stopped q stop p))) d left) room) k
    room_code stop m arguments p what vs e false room last f = f

    run_code : (stop : ℕ) (m : ModuleId) (arguments : List Exp) (p : A) → c.next q.module q.at ≡ Runs stop m arguments p → (vs : Option (List Value)) → eval_all c.heads q.values d arguments ≡ vs
        → CodeIs K (run_on c left on vs m (stopped q stop p) qs d)
    run_code stop m arguments p what None e = tt
    run_code stop m arguments p what (Some vs) e = room_code stop m arguments p what vs e (nat_lt (length (stopped q stop p ∷ qs)) MAX_FRAMES) refl _ tt

    -- the code of a stop that goes on
    begun_is : (stop : ℕ) (pause : Pause) (p : A) → c.next q.module q.at ≡ Holds stop pause p → (code : ℤ) → IsCode (limit_number c.heads pause q.values d) code → K code
    begun_is stop pause p what code (inl e) = subst K (sym e) k_ok
    begun_is stop pause p what code (inr f) =
        subst K (sym f.0) (k_late (d, all, reached, subst (BeginsLate c d) (sym is) (stop, pause, p, f.1.0, what, f.1.1.0, f.1.1.1)))

    holds_code : (stop : ℕ) (pause : Pause) (p : A) → c.next q.module q.at ≡ Holds stop pause p → (effect : Effect) → begun c.heads pause (here (stopped q stop p)) q.values d ≡ effect
        → (sets : Bool) → stop_sets_code pause ≡ sets → CodeIs K (effect_on c left on effect p (stopped q stop p) qs d)
    holds_code stop pause p what (GoesOn now) e true sets =
        goes_to (Holds stop pause p) what now.beside (record (stopped q stop p) { values = now.values; at = p } ∷ qs)
        (λ left on. ap (λ (effect : Effect). effect_on c left on effect p (stopped q stop p) qs d) e)
        (begun_is stop pause p what now.beside.code (begun_code c.heads pause (here (stopped q stop p)) q.values d now e sets))
    holds_code stop pause p what (GoesOn now) e false sets =
        goes_to (Holds stop pause p) what now.beside (record (stopped q stop p) { values = now.values; at = p } ∷ qs)
        (λ left on. ap (λ (effect : Effect). effect_on c left on effect p (stopped q stop p) qs d) e)
        (subst K (sym (begun_same_code c.heads pause (here (stopped q stop p)) q.values d now e sets)) k)
    holds_code stop pause p what (Waits w) e b sets = k
    holds_code stop pause p what (Leaves to) e b sets = k
    holds_code stop pause p what (Dies end) e b sets = tt

    step_code : (v : Next A) → c.next q.module q.at ≡ v → CodeIs K (step c left on v q qs d)
    step_code Finish what = goes_to Finish what d qs (λ left on. refl) k
    step_code Stuck what = goes_to Stuck what d qs (λ left on. refl) k
    step_code (Acts action p) what = acts_code action p what (did c.heads action (here q) q.values d) refl
    step_code (Advances p) what = goes_to (Advances p) what d (record q { at = p } ∷ qs) (λ left on. refl) k
    step_code (Tests test p r) what = test_code test p r what (eval c.heads q.values d test) refl
    step_code (Counts count f) what = count_code count f what (eval c.heads q.values d count) refl
    step_code (Holds stop pause p) what = holds_code stop pause p what (begun c.heads pause (here (stopped q stop p)) q.values d) refl (stop_sets_code pause) refl
    step_code (Runs stop m arguments p) what = run_code stop m arguments p what (eval_all c.heads q.values d arguments) refl

  on_code : (d : Beside) (all : List (Active A)) (reached : Reaches c b rs d all) → K d.code → (left : ℕ) (on : Beside → List (Active A) → Outcome) → GoesSo on
      → (ls : List (Active A)) → live c all ≡ ls → CodeIs K (step_on c left on d ls)
  on_code d all reached k left on goes [] is = tt
  on_code d all reached k left on goes (q ∷ qs) is = step_code d all q qs is reached k left on goes (c.next q.module q.at) refl

  going_code : (n : ℕ) → GoesSo (going c n)
  going_code zero d all reached k = no_step_code K d (live c all)
  going_code (suc left) d all reached k = on_code d all reached k left (going c left) (going_code left) (live c all) refl

-- ---- as a thread goes on

wakes_code : {A : Type 0} (c : Control A) (K : ℤ → Type 0) (n : ℕ) (w : Wait) (b : Beside) (rs : List (Active A)) → K code_ok → (WakesLate c w b rs → K code_timeout)
    → ((pause : Option Pause) (values : List Value) → K (answered c.heads pause w values b).beside.code) → CodeIs K (go_on c n w b rs)
wakes_code c K zero w b rs k_ok k_late woken = no_step_code K b rs
wakes_code c K (suc left) w b [] k_ok k_late woken = nobody left
  where
    nobody : (n : ℕ) → CodeIs K (going c n b [])
    nobody zero = tt
    nobody (suc n) = tt
wakes_code c K (suc left) w b (r ∷ rs) k_ok k_late woken =
    let now = answered c.heads (c.pause r.module r.stop) w r.values b in
    going_code c now.beside (record r { values = now.values } ∷ rs) K k_ok k_late left now.beside (record r { values = now.values } ∷ rs) at_once (woken (c.pause r.module r.stop) r.values)

module _ (x : Prog) (t : Thread) (around : Around) where
  abbrev From : ℤ → Type 0
  From now = CodeComesFrom x t around now

  answer_from : (now : ℤ) → IsAnswer t.wait now → From now
  answer_from now (inl e) = there e
  answer_from now (inr (inl e)) = ran_out e.0 e.1
  answer_from now (inr (inr e)) = marked e.0 e.1

  -- as its wait ends
  woken_from : (h : Heads) (pause : Option Pause) (values : List Value) (sets : Bool) → wait_sets_code t.wait ≡ sets → From (answered h pause t.wait values (beside t around)).beside.code
  woken_from h pause values true sets = answer_from _ (answered_code h pause t.wait values (beside t around) sets)
  woken_from h pause values false sets = kept (answered_same_code h pause t.wait values (beside t around) sets)

run_code_from : (x : Prog) (t : Thread) (around : Around) (n : ℕ) → CodeIs (CodeComesFrom x t around) (run_of x t around n)
unfolding go
run_code_from (Tree p) t around n =
    wakes_code (tree p) (CodeComesFrom (Tree p) t around) n t.wait (beside t around) (actives_of (tree p) t) (there refl) (λ l. late refl l)
    (λ pause values. woken_from (Tree p) t around (tree p).heads pause values (wait_sets_code t.wait) refl)
run_code_from (Code c) t around n =
    wakes_code (code c) (CodeComesFrom (Code c) t around) n t.wait (beside t around) (actives_of (code c) t) (there refl) (λ l. late refl l)
    (λ pause values. woken_from (Code c) t around (code c).heads pause values (wait_sets_code t.wait) refl)

pub held_from : (x : Prog) (t : Thread) (around : Around) (n : ℕ) (u : Thread) (after : Around) (left : ℕ) → run_of x t around n ≡ Held u after left → CodeComesFrom x t around u.code
held_from x t around n u after left e = subst (CodeIs (CodeComesFrom x t around)) e (run_code_from x t around n)

pub left_from : (x : Prog) (t : Thread) (around : Around) (n : ℕ) (u : Thread) (to : To) (after : Around) (left : ℕ) → run_of x t around n ≡ Left u to after left → CodeComesFrom x t around u.code
left_from x t around n u to after left e = subst (CodeIs (CodeComesFrom x t around)) e (run_code_from x t around n)
