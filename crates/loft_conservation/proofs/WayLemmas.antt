-- Where a thread that leaves goes, and that an unlinked thread makes nobody.
use Rattle.std.proofs.Common.{◌≡◌, ◌==◌, ℕ, zero, suc, Bool, true, false, List, [], ◌∷◌, length, Option, Some, None, refl, sym, ap, ◌∙◌}
use Rattle.std.specs.Prelude.{ℤ, pos, ◌≢◌, ◌&&◌, if◌then◌else◌, nat_lt}
use Rattle.std.proofs.lemmas.Bool.{and_parts, eqb-true, eq-eqb, lt-ltb, ltb-true}
use Rattle.loft_base.specs.declared.ids.EventId.{EventId}
use Rattle.loft_base.specs.declared.ids.ModuleId.{ModuleId}
use Rattle.loft_base.specs.declared.ids.Value.{Value}
use Rattle.loft_board.specs.Board.{values as event_values}
use Rattle.loft_tree.specs.declared.kinds.Kind.{Kind}
use Rattle.loft_tree.specs.declared.heads.Heads.{Heads}
use Rattle.loft_tree.specs.declared.heads.Place.{Place}
use Rattle.loft_tree.specs.declared.heads.Place.TheVariants.{Sched, Unlinked}
use Rattle.loft_tree.specs.NamedFits.{slots_of}
use Rattle.loft_tree.specs.Resolved.{Target, ToSlot, ToShared, Action, Assign, Make, PrintText, PrintValue, Generate, ControlThread, Broadcast, Pause, Cooperate, Await, Get, Join, Link, Unlink, Halt}
use Rattle.loft_orders.specs.declared.order.At.{At}
use Rattle.loft_orders.specs.declared.order.End.{End}
use Rattle.loft_orders.specs.declared.order.End.TheVariants.{Done, Div, Deep, Over, Flood}
use Rattle.loft_orders.specs.declared.order.To.{To}
use Rattle.loft_orders.specs.declared.order.To.TheVariants as to
use Rattle.loft_sense.specs.declared.limits.TheConstants.{MAX_FRAMES}
use Rattle.loft_orders.specs.declared.thread.Thread.{Thread}
use Rattle.loft_orders.specs.declared.thread.Wait.{Wait}
use Rattle.loft_orders.specs.declared.thread.Wait.TheVariants as wait
use Rattle.loft_sense.specs.Machine.{Prog, Tree, Code, heads}
use Rattle.loft_sense.specs.Around.{Around, Beside}
use Rattle.loft_sense.specs.CanGo.{has_any, is_index, is_known}
use Rattle.loft_sense.specs.Eval.{eval, eval_all, eval_if, number_of, number_if, thread_or}
use Rattle.loft_sense.specs.Statements.{Effect, GoesOn, Waits, Leaves, Dies, Now, if_value, goes_on, most_entries, is_up, hold, set_if, with_code, target_of, did, begun, answered}
use Rattle.loft_sense.specs.Run.{Next, Finish, Stuck, Acts, Advances, Tests, Counts, Holds, Runs, Control, Active, Outcome, Held, Left, Ended, ends, live, thread_of, effect_on, test_on, count_on, run_on, begun_frame, stopped, step, step_on, no_step, going, go_on, go, here, beside, actives_of}
use Rattle.loft_sense.specs.Tree.{tree}
use Rattle.loft_sense.specs.Code.{code}
use Rattle.loft_sense.specs.Passes.{run_of, around_after}
use Rattle.loft_sense.specs.Stands.{Stands}
use Rattle.loft_sense.specs.Fits.{ThreadNames}
use Rattle.loft_soundness.specs.WellFormed.{IsWellFormed, PointOf, control}
use Rattle.loft_soundness.specs.WorkFits.{ActionFits, PauseFits, NextFits}
use Rattle.loft_soundness.specs.Points.{AroundFits, PointFits, FrontFits}
use Rattle.loft_soundness.proofs.StandLemmas.{run_begins, run_goes_on, next_fits_there}
use Rattle.loft_conservation.specs.Adds.{IsWay, LeavesBy, MakesAt}

-- ---- tests of outcomes

-- a thread that is linked here may go there
abbrev goes_to : Heads → Place → To → Bool
goes_to h place (to.Sched s) = nat_lt s.0 (length h.schedulers)
goes_to h place (to.Others s) = false
goes_to h place to.All = false
goes_to h (Sched s) to.Workers = true
goes_to h Unlinked to.Workers = false

abbrev leaves_by : Heads → Place → Outcome → Bool
leaves_by h place (Held t around left) = true
leaves_by h place (Left t there around left) = goes_to h place there
leaves_by h place (Ended end around left) = true

-- an unlinked thread has made nobody
abbrev makes_at : Place → ℕ → ℕ → Bool
makes_at (Sched s) a b = true
makes_at Unlinked a b = b == a

abbrev goes_well : Heads → Place → Beside → Outcome → Bool
goes_well h place b o = leaves_by h place o && makes_at place b.around.made (around_after o).made

both_true : (a b : Bool) → a ≡ true → b ≡ true → (a && b) ≡ true
both_true true true p q = refl
both_true true false p q = q
both_true false b p q = p

same_made : (place : Place) (a b : ℕ) → b ≡ a → MakesAt place a b
same_made (Sched s) a b e = tt
same_made Unlinked a b e = e

made_true : (place : Place) (a b : ℕ) → MakesAt place a b → makes_at place a b ≡ true
made_true (Sched s) a b f = refl
made_true Unlinked a b f = eq-eqb b a f

made_is : (place : Place) (a b : ℕ) → makes_at place a b ≡ true → MakesAt place a b
made_is (Sched s) a b e = tt
made_is Unlinked a b e = eqb-true b a e

made_joins : (place : Place) (a b c : ℕ) → MakesAt place a b → MakesAt place b c → MakesAt place a c
made_joins (Sched s) a b c p q = tt
made_joins Unlinked a b c p q = q ∙ p

module _ (h : Heads) (place : Place) where
  -- nothing is made, and it doesn't leave
  stays_well : (b : Beside) (o : Outcome) → leaves_by h place o ≡ true → (around_after o).made ≡ b.around.made → goes_well h place b o ≡ true
  stays_well b o e same = both_true (leaves_by h place o) (makes_at place b.around.made (around_after o).made) e (made_true place b.around.made (around_after o).made (same_made place b.around.made (around_after o).made same))

  ends_well : (end : End) (b : Beside) (left : ℕ) → goes_well h place b (ends end b left) ≡ true
  ends_well end b left = stays_well b (ends end b left) refl refl

  -- the same from what stood beside before
  from_before : (a b : Beside) (o : Outcome) → MakesAt place a.around.made b.around.made → goes_well h place b o ≡ true → goes_well h place a o ≡ true
  from_before a b o made e =
      let parts = and_parts (leaves_by h place o) (makes_at place b.around.made (around_after o).made) e in
      both_true (leaves_by h place o) (makes_at place a.around.made (around_after o).made) parts.0
      (made_true place a.around.made (around_after o).made
      (made_joins place a.around.made b.around.made (around_after o).made made (made_is place b.around.made (around_after o).made parts.1)))

  -- ---- statements

  abbrev EffectWell : Beside → Effect → Type 0
  EffectWell b (GoesOn now) = MakesAt place b.around.made now.beside.around.made
  EffectWell b (Waits w) = Unit {0}
  EffectWell b (Leaves there) = goes_to h place there ≡ true
  EffectWell b (Dies end) = Unit {0}

  by_value : {A : Type 0} (b : Beside) (v : Option A) (at : At) (act_on : A → Effect) → ((w : A) → EffectWell b (act_on w)) → EffectWell b (if_value v at act_on)
  by_value b None at act_on f = tt
  by_value b (Some v) at act_on f = f v

  by_room : (b : Beside) (room : Bool) (effect : Effect) (at : At) → EffectWell b effect → EffectWell b (if room then effect else Dies (Flood at))
  by_room b true effect at f = f
  by_room b false effect at f = tt

  by_hold : (b : Beside) (is_there up : Bool) (there late waits : Effect) → EffectWell b there → EffectWell b late → EffectWell b waits → EffectWell b (hold is_there up there late waits)
  by_hold b true up there late waits p q r = p
  by_hold b false true there late waits p q r = q
  by_hold b false false there late waits p q r = r

  set_made : (hs : Heads) (target : Option Target) (v : Value) (values : List Value) (b : Beside) → (set_if hs target v values b).beside.around.made ≡ b.around.made
  set_made hs None v values b = refl
  set_made hs (Some (ToSlot k)) v values b = refl
  set_made hs (Some (ToShared y)) v values b = refl

  linked_makes : (p : Place) (a b : ℕ) → p ≢ Unlinked → MakesAt p a b
  linked_makes (Sched s) a b linked = tt
  linked_makes Unlinked a b linked = absurd (linked refl)

  did_well : (hs : Heads) (slots : List Kind) (action : Action) → ActionFits h slots place action → (at : At) (values : List Value) (b : Beside) → EffectWell b (did hs action at values b)
  did_well hs slots (Assign target e) f at values b = by_value b (eval hs values b e) at _ (λ v. same_made place b.around.made _ (set_made hs (Some target) v values b))
  did_well hs slots (Make target s m arguments) f at values b =
      by_value b (eval_all hs values b arguments) at _ (λ args.
      by_room b (nat_lt b.around.entries (most_entries b.around.place)) _ at (linked_makes place b.around.made _ f.0))
  did_well hs slots (PrintText line e) f at values b =
      by_value b (eval_if hs values b e) at _ (λ v. by_room b (nat_lt b.around.entries (most_entries b.around.place)) _ at (same_made place b.around.made _ refl))
  did_well hs slots (PrintValue e) f at values b =
      by_value b (eval hs values b e) at _ (λ v. by_room b (nat_lt b.around.entries (most_entries b.around.place)) _ at (same_made place b.around.made _ refl))
  did_well hs slots (Generate event e) f at values b =
      by_value b (eval_if hs values b e) at _ (λ v. by_room b (nat_lt b.around.entries (most_entries b.around.place)) _ at (same_made place b.around.made _ refl))
  did_well hs slots (ControlThread control e s) f at values b =
      by_value b (eval hs values b e) at _ (λ v. by_room b (nat_lt b.around.entries (most_entries b.around.place)) _ at (same_made place b.around.made _ refl))
  did_well hs slots (Broadcast event e) f at values b =
      by_value b (eval_if hs values b e) at _ (λ v. by_room b (nat_lt b.around.entries (most_entries b.around.place)) _ at (same_made place b.around.made _ refl))

  begun_up : (values : List Value) (b : Beside) (n : ℤ) (up : Bool) → EffectWell b (if up then goes_on values b else Waits (wait.Coop n))
  begun_up values b n true = same_made place b.around.made _ refl
  begun_up values b n false = tt

  begun_get : (b : Beside) (is_there : Bool) (now : Now) (event : EventId) (i : ℤ) → MakesAt place b.around.made now.beside.around.made → EffectWell b (if is_there then GoesOn now else Waits (wait.Index event i))
  begun_get b true now event i p = p
  begun_get b false now event i p = tt

  workers_well : (p : Place) → p ≢ Unlinked → goes_to h p to.Workers ≡ true
  workers_well (Sched s) linked = refl
  workers_well Unlinked linked = absurd (linked refl)

  begun_well : (hs : Heads) (slots : List Kind) (pause : Pause) → PauseFits h slots place pause → (at : At) (values : List Value) (b : Beside) → EffectWell b (begun hs pause at values b)
  begun_well hs slots (Cooperate None) f at values b = tt
  begun_well hs slots (Cooperate (Some e)) f at values b = by_value b (eval hs values b e) at _ (λ v. begun_up values b (number_of v) _)
  begun_well hs slots (Await events limit) f at values b =
      by_value b (eval_if hs values b limit) at _ (λ v.
      by_hold b (has_any events b.around.board) (is_up (number_if v)) _ _ _ (same_made place b.around.made _ refl) (same_made place b.around.made _ refl) tt)
  begun_well hs slots (Get event index target) f at values b =
      by_value b (eval hs values b index) at _ (λ i.
      begun_get b (is_index (number_of i) (length (event_values event b.around.board))) _ event (number_of i) (same_made place b.around.made _ (set_made hs (Some target) _ values (with_code (pos 0) b))))
  begun_well hs slots (Join thread limit) f at values b =
      by_value b (eval hs values b thread) at _ (λ t.
      by_value b (eval_if hs values b limit) at _ (λ v.
      by_hold b (is_known (thread_or b.id t) b.around.known) (is_up (number_if v)) _ _ _ (same_made place b.around.made _ refl) (same_made place b.around.made _ refl) tt))
  begun_well hs slots (Link s) f at values b = lt-ltb s.0 (length h.schedulers) f
  begun_well hs slots Unlink f at values b = workers_well place f
  begun_well hs slots Halt f at values b = tt

  -- ---- one step

  -- each way to go on
  abbrev GoesSo : {A : Type 0} → (Beside → List (Active A) → Outcome) → Type 0
  GoesSo on = (b : Beside) (rs : List (Active _)) → goes_well h place b (on b rs) ≡ true

  effect_so : {A : Type 0} (c : Control A) (left : ℕ) (on : Beside → List (Active A) → Outcome) → GoesSo on → (effect : Effect) (p : A) (r : Active A) (rs : List (Active A)) (b : Beside) → EffectWell b effect → goes_well h place b (effect_on c left on effect p r rs b) ≡ true
  effect_so c left on f (GoesOn now) p r rs b e = from_before b now.beside (on now.beside (record r { values = now.values; at = p } ∷ rs)) e (f _ _)
  effect_so c left on f (Waits w) p r rs b e = stays_well b (Held (thread_of c w (record r { at = p } ∷ rs) b) b.around left) refl refl
  effect_so c left on f (Leaves there) p r rs b e = stays_well b (Left (thread_of c wait.New (record r { at = p } ∷ rs) b) there b.around left) e refl
  effect_so c left on f (Dies end) p r rs b e = ends_well end b left

  test_so : {A : Type 0} (left : ℕ) (on : Beside → List (Active A) → Outcome) → GoesSo on → (v : Option Value) (p q : A) (r : Active A) (rs : List (Active A)) (b : Beside) → goes_well h place b (test_on left on v p q r rs b) ≡ true
  test_so left on f None p q r rs b = ends_well (Div (here r)) b left
  test_so left on f (Some v) p q r rs b = f b _

  count_so : {A : Type 0} (left : ℕ) (on : Beside → List (Active A) → Outcome) → GoesSo on → (v : Option Value) (g : ℤ → A) (r : Active A) (rs : List (Active A)) (b : Beside) → goes_well h place b (count_on left on v g r rs b) ≡ true
  count_so left on f None g r rs b = ends_well (Div (here r)) b left
  count_so left on f (Some v) g r rs b = f b (record r { at = g (number_of v) } ∷ rs)

  run_chosen : (b : Beside) (room : Bool) (v w : Outcome) → goes_well h place b v ≡ true → goes_well h place b w ≡ true → goes_well h place b (if room then v else w) ≡ true
  run_chosen b true v w p q = p
  run_chosen b false v w p q = q

  run_so : {A : Type 0} (c : Control A) (left : ℕ) (on : Beside → List (Active A) → Outcome) → GoesSo on → (arguments : Option (List Value)) (m : ModuleId) (r : Active A) (rs : List (Active A)) (b : Beside) → goes_well h place b (run_on c left on arguments m r rs b) ≡ true
  run_so c left on f None m r rs b = ends_well (Div (here r)) b left
  run_so c left on f (Some arguments) m r rs b =
      run_chosen b (nat_lt (length (r ∷ rs)) MAX_FRAMES) (on b (begun_frame c m arguments b ∷ r ∷ rs)) _ (f b (begun_frame c m arguments b ∷ r ∷ rs)) (ends_well (Deep (here r)) b left)

  step_so : {A : Type 0} (c : Control A) (slots : List Kind) (left : ℕ) (on : Beside → List (Active A) → Outcome) → GoesSo on → (next : Next A) → NextFits h slots place next → (r : Active A) (rs : List (Active A)) (b : Beside) → goes_well h place b (step c left on next r rs b) ≡ true
  step_so c slots left on f Finish e r rs b = f b rs
  step_so c slots left on f Stuck e r rs b = absurd e
  step_so c slots left on f (Acts action p) e r rs b = effect_so c left on f (did c.heads action (here r) r.values b) p r rs b (did_well c.heads slots action e (here r) r.values b)
  step_so c slots left on f (Advances p) e r rs b = f b (record r { at = p } ∷ rs)
  step_so c slots left on f (Tests test p q) e r rs b = test_so left on f (eval c.heads r.values b test) p q r rs b
  step_so c slots left on f (Counts count g) e r rs b = count_so left on f (eval c.heads r.values b count) g r rs b
  step_so c slots left on f (Holds k pause p) e r rs b = effect_so c left on f (begun c.heads pause (here (stopped r k p)) r.values b) p (stopped r k p) rs b (begun_well c.heads slots pause e (here (stopped r k p)) r.values b)
  step_so c slots left on f (Runs k m arguments p) e r rs b = run_so c left on f (eval_all c.heads r.values b arguments) m (stopped r k p) rs b

  idle_well : {A : Type 0} (b : Beside) (rs : List (Active A)) → goes_well h place b (no_step b rs) ≡ true
  idle_well b [] = ends_well Done b 0
  idle_well b (r ∷ rs) = ends_well (Over (here r)) b 0

-- ---- runs

module _ (x : Prog) (well : IsWellFormed x) (place : Place) where
  abbrev On : Type 0
  On = Beside → List (Active (PointOf x)) → Outcome

  front_so : (left : ℕ) (on : On) → GoesSo (heads x) place on → (b : Beside) (rs : List (Active (PointOf x))) → FrontFits x place rs → goes_well (heads x) place b (step_on (control x) left on b rs) ≡ true
  front_so left on f b [] e = ends_well (heads x) place Done b (suc left)
  front_so left on f b (r ∷ rs) e = step_so (heads x) place (control x) (slots_of e.0) left on f ((control x).next r.module r.at) e.3 r rs b

  -- the outcome where it goes well, else another that does
  abbrev or_ends : Bool → Outcome → Beside → ℕ → Outcome
  or_ends good o b left = if good then o else ends Done b left

  or_ends_well : (good : Bool) (o : Outcome) (b : Beside) (left : ℕ) → goes_well (heads x) place b o ≡ good → goes_well (heads x) place b (or_ends good o b left) ≡ true
  or_ends_well true o b left e = e
  or_ends_well false o b left e = ends_well (heads x) place Done b left

  going_so : (left count : ℕ) (b : Beside) (rs : List (Active (PointOf x))) → PointFits x place count b rs → goes_well (heads x) place b (going (control x) left b rs) ≡ true
  going_so zero count b rs f = idle_well (heads x) place b (live (control x) rs)
  going_so (suc left) count b rs f =
      let on : On = going (control x) left in
      let other : On = λ d qs. or_ends (goes_well (heads x) place d (on d qs)) (on d qs) d left in
      let same : step_on (control x) left on b (live (control x) rs) ≡ step_on (control x) left other b (live (control x) rs) =
      run_goes_on x well place count b rs f left on other (λ d qs g. sym (ap (λ (good : Bool). or_ends good (on d qs) d left) (going_so left count d qs g))) in
      ap (λ (o : Outcome). goes_well (heads x) place b o) same
      ∙ front_so left other (λ d qs. or_ends_well (goes_well (heads x) place d (on d qs)) (on d qs) d left refl) b (live (control x) rs) (next_fits_there x well place count b rs f)

idle_made : {A : Type 0} (b : Beside) (rs : List (Active A)) → (around_after (no_step b rs)).made ≡ b.around.made
idle_made b [] = refl
idle_made b (r ∷ rs) = refl

answered_made : (h : Heads) (pause : Option Pause) (w : Wait) (values : List Value) (b : Beside) → (answered h pause w values b).beside.around.made ≡ b.around.made
answered_made h pause wait.New values b = refl
answered_made h pause (wait.Coop left) values b = refl
answered_made h pause (wait.Events events left) values b = refl
answered_made h pause (wait.Index event i) values b = set_made h Unlinked h (target_of pause) _ values (with_code (pos 0) b)
answered_made h pause wait.Next values b = refl
answered_made h pause (wait.Join thread left) values b = refl
answered_made h pause wait.Halt values b = refl

-- to go on makes nobody
first_made : {A : Type 0} (c : Control A) (w : Wait) (b : Beside) (rs : List (Active A)) → (around_after (go_on c 1 w b rs)).made ≡ b.around.made
first_made c w b [] = refl
first_made c w b (r ∷ rs) =
    let now = answered c.heads (c.pause r.module r.stop) w r.values b in
    idle_made now.beside (live c (record r { values = now.values } ∷ rs)) ∙ answered_made c.heads (c.pause r.module r.stop) w r.values b

one_made : (x : Prog) (t : Thread) (around : Around) → (around_after (run_of x t around 1)).made ≡ around.made
unfolding go
one_made (Tree p) t around = first_made (tree p) t.wait (beside t around) (actives_of (tree p) t)
one_made (Code c) t around = first_made (code c) t.wait (beside t around) (actives_of (code c) t)

none_well : (x : Prog) (h : Heads) (place : Place) (t : Thread) (around : Around) → goes_well h place (beside t around) (run_of x t around 0) ≡ true
unfolding go
none_well (Tree p) h place t around = idle_well h place (beside t around) (actives_of (tree p) t)
none_well (Code c) h place t around = idle_well h place (beside t around) (actives_of (code c) t)

run_well : (x : Prog) → IsWellFormed x → (t : Thread) (place : Place) (around : Around) (n : ℕ) → Stands x t place → ThreadNames (heads x) t → AroundFits (heads x) place around
    → goes_well (heads x) place (beside t around) (run_of x t around n) ≡ true
run_well x well t place around zero stands names fits = none_well x (heads x) place t around
run_well x well t place around (suc left) stands names fits =
    let first = run_begins x well t place around stands names fits in
    let same : first.0.around.made ≡ around.made =
    sym (idle_made first.0 (live (control x) first.1)) ∙ sym (ap (λ (o : Outcome). (around_after o).made) (first.3 0)) ∙ one_made x t around in
    ap (λ (o : Outcome). goes_well (heads x) place (beside t around) o) (first.3 left)
    ∙ from_before (heads x) place (beside t around) first.0 (going (control x) left first.0 first.1) (same_made place around.made first.0.around.made same) (going_so x well place left (length around.shared) first.0 first.1 first.2)

-- ---- as laws say it

way_is : (h : Heads) (place : Place) (there : To) → goes_to h place there ≡ true → IsWay h place there
way_is h place (to.Sched s) e = ltb-true s.0 (length h.schedulers) e
way_is h place (to.Others s) e = absurd cc
way_is h place to.All e = absurd cc
way_is h (Sched s) to.Workers e = λ same. absurd cc
way_is h Unlinked to.Workers e = absurd cc

leaves_is : (h : Heads) (place : Place) (o : Outcome) → leaves_by h place o ≡ true → LeavesBy h place o
leaves_is h place (Held t around left) e = tt
leaves_is h place (Left t there around left) e = way_is h place there e
leaves_is h place (Ended end around left) e = tt

pub run_leaves_by : (x : Prog) → IsWellFormed x → (t : Thread) (place : Place) (around : Around) (n : ℕ) → Stands x t place → ThreadNames (heads x) t → AroundFits (heads x) place around
    → LeavesBy (heads x) place (run_of x t around n)
run_leaves_by x well t place around n stands names fits =
    let o = run_of x t around n in
    leaves_is (heads x) place o (and_parts (leaves_by (heads x) place o) (makes_at place around.made (around_after o).made) (run_well x well t place around n stands names fits)).0

pub run_makes_at : (x : Prog) → IsWellFormed x → (t : Thread) (place : Place) (around : Around) (n : ℕ) → Stands x t place → ThreadNames (heads x) t → AroundFits (heads x) place around
    → MakesAt place around.made (around_after (run_of x t around n)).made
run_makes_at x well t place around n stands names fits =
    let o = run_of x t around n in
    made_is place around.made (around_after o).made (and_parts (leaves_by (heads x) place o) (makes_at place around.made (around_after o).made) (run_well x well t place around n stands names fits)).1
