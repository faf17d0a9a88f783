-- One step of a thread whose frames are in memory.
use Rattle.std.proofs.Common.{◌≡◌, ◌≢◌, ℕ, ℤ, zero, suc, ◌-◌, ◌<◌, List, [], ◌∷◌, ◌++◌, refl, sym, ap, ◌∙◌, Option, Some, None, length, take, get_or, arith}
use Rattle.std.proofs.Math.ListN.{set, length-set}
use Rattle.std.proofs.lemmas.Bool.{lt-ltb}
use Rattle.std.proofs.lemmas.List.{length-map, length-reverse}
use Rattle.std.specs.Prelude.{reverse, map, nat_lt}
use Rattle.loft_base.specs.declared.ids.ModuleId.{ModuleId}
use Rattle.loft_base.specs.declared.ids.Value.{Value}
use Rattle.loft_tree.specs.declared.heads.Heads.{Heads}
use Rattle.std.specs.Option.{option_map}
use Rattle.loft_tree.specs.declared.named.Target.{Target as TargetInMemory}
use Rattle.loft_tree.specs.Resolved.{Pause, Body, Resolved, target_of as target_from}
use Rattle.loft_sense.specs.declared.limits.TheConstants.{MAX_FRAMES}
use Rattle.loft_orders.specs.declared.order.End.{End}
use Rattle.loft_orders.specs.declared.order.End.TheVariants.{Done}
use Rattle.loft_orders.specs.declared.order.To.{To}
use Rattle.loft_orders.specs.declared.thread.Frame.{Frame}
use Rattle.loft_orders.specs.declared.thread.Thread.{Thread}
use Rattle.loft_orders.specs.declared.thread.Wait.{Wait}
use Rattle.loft_orders.specs.declared.thread.Wait.TheVariants.{New}
use Rattle.loft_orders.specs.declared.order.At.{At}
use Rattle.loft_sense.specs.Statements.{Now, now, target_of, answered}
use Rattle.loft_sense.specs.Around.{Around, Beside}
use Rattle.loft_sense.specs.Run.{Active, Control, Outcome, Held, Left, thread_of, begun_frame, live, ends, step_on, no_step, going, go_on, go, active_of}
use Rattle.loft_sense.specs.Tree.{Work, tree, next_work, pause_at}
use Rattle.loft_walk.specs.declared.running.Running.{Running}
use Rattle.loft_effect.specs.declared.scope.Scope.{Scope}
use Rattle.loft_effect.specs.declared.scope.Beside.{Beside as BesideInMemory}
use Rattle.loft_walk.specs.declared.step.Move.{Move}
use Rattle.loft_walk.specs.declared.step.Move.TheVariants as move
use Rattle.loft_walk.specs.declared.stopping.Stopped.{Stopped}
use Rattle.loft_walk.specs.declared.stopping.Stopped.TheVariants as stopped
use Rattle.loft_walk.specs.declared.work.Task.{Task}
use Rattle.loft_effect.specs.View.{around_of, beside_of}
use Rattle.loft_walk.specs.Pieces.{work_of, work_of_task}
use Rattle.loft_walk.specs.Frames.{active, actives, live_of, advance, goes_or_stops, program_with, Steps, top_target, Answers}
use Rattle.loft_effect.proofs.Runs.{run_enters}
use Rattle.loft_walk.proofs.Lasts.{last_is, last_set}
use Rattle.loft_walk.proofs.Frames.{actives-push, actives_woken}

length_actives : (rs : List Running) → length (actives rs) ≡ length rs
length_actives rs = grind (arith, length-map, length-reverse)

module _ (h : Heads) (bodies : List Body) where
  abbrev code : Control (List Work)
  code = tree (program_with h bodies)

  -- a task changes no frame's place
  over_same : (t : Task) (b : Beside) (rs : List (Active (List Work))) → no_step b (live_of (Some t) rs) ≡ no_step b rs
  over_same t b [] = refl
  over_same t b (r ∷ rs) = refl

  -- no step is left
  pub no_left : (running after : List Running) (task : Task) (o : Option Task) (end : End) (left : ℕ) (b : BesideInMemory) → left ≡ 0 → o ≡ Some task → live code (actives running) ≡ live_of o (actives after)
      → ((x : Beside) → ends end x 0 ≡ no_step x (actives after)) → ends end (beside_of b) left ≡ going code left (beside_of b) (actives running)
  no_left running after task o end zero b none some l over =
      over (beside_of b)
      ∙ sym (ap (no_step (beside_of b)) (l ∙ ap (λ (x : Option Task). live_of x (actives after)) some) ∙ over_same task (beside_of b) (actives after))
  no_left running after task o end (suc n) b none some l over = absurd cc

  -- no frame has anything to do
  pub nothing_left : (running after : List Running) (o : Option Task) (left : ℕ) (b : BesideInMemory) → o ≡ None → live code (actives running) ≡ live_of o (actives after)
      → ends Done (beside_of b) left ≡ going code left (beside_of b) (actives running)
  nothing_left running after o zero b none l = sym (ap (no_step (beside_of b)) (l ∙ ap (λ (x : Option Task). live_of x (actives after)) none))
  nothing_left running after o (suc n) b none l = sym (ap (step_on code n (going code n) (beside_of b)) (l ∙ ap (λ (x : Option Task). live_of x (actives after)) none))

  -- the innermost of the old frames makes a step, after which the new ones go on, or the thread stops
  abbrev pub MakesStep : Task → List Running → BesideInMemory → Option Stopped → List Running → BesideInMemory → Type 0
  MakesStep task old b stopped new b' = (n : ℕ) → goes_or_stops stopped code n (beside_of b') (actives new) ≡ step_on code n (going code n) (beside_of b) (live_of (Some task) (actives old))

  -- a step is left, and is made
  pub step_made : (running old new : List Running) (task : Task) (o : Option Task) (s t : Option Stopped) (left : ℕ) (b b' : BesideInMemory) → left ≢ 0 → o ≡ Some task → live code (actives running) ≡ live_of o (actives old)
      → MakesStep task old b s new b' → s ≡ t → goes_or_stops t code (left - 1) (beside_of b') (actives new) ≡ going code left (beside_of b) (actives running)
  step_made running old new task o s t zero b b' some is_some l makes e = absurd (some refl)
  step_made running old new task o s t (suc n) b b' some is_some l makes e =
      let same : suc n - 1 ≡ n = omega arith in
      ap (λ (k : ℕ). goes_or_stops t code k (beside_of b') (actives new)) same
      ∙ (ap (λ (x : Option Stopped). goes_or_stops x code n (beside_of b') (actives new)) (sym e)
      ∙ (makes n
      ∙ sym (ap (step_on code n (going code n) (beside_of b)) (l ∙ ap (λ (x : Option Task). live_of x (actives old)) is_some))))

  -- the last of the old frames becomes `new`
  module _ (old : List Running) (n : ℕ) (counted : n ≡ length old) (some : 0 < n) (top new : Running) (is_top : top ≡ get_or old (n - 1) top) (task : Task) (m : Move) (b b' : BesideInMemory)
      (steps : Steps h (next_work (work_of_task task ∷ work_of top.work.items)) top b m new b') where
    abbrev rest : List Running
    rest = take (n - 1) old

    abbrev changed : List Running
    changed = set old (n - 1) new

    steps_as : (left : ℕ) (v : Move) → m ≡ v → step_on code left (going code left) (beside_of b) (live_of (Some task) (actives old)) ≡ advance v code left (going code left) (active new) (actives rest) (beside_of b')
    steps_as left v e =
        ap (λ (l : List (Active (List Work))). step_on code left (going code left) (beside_of b) (live_of (Some task) l)) (ap actives (last_is old n counted some top is_top) ∙ actives-push rest top)
        ∙ (steps bodies left (going code left) (work_of_task task ∷ work_of top.work.items) (actives rest)
        ∙ ap (λ (u : Move). advance u code left (going code left) (active new) (actives rest) (beside_of b')) e)

    all_frames : active new ∷ actives rest ≡ actives changed
    all_frames = sym (ap actives (last_set old n counted some new) ∙ actives-push rest new)

    how_many : length (active new ∷ actives rest) ≡ n
    how_many = ap length all_frames ∙ (length_actives changed ∙ (length-set old (n - 1) new ∙ sym counted))

    pub step_goes : m ≡ move.GoOn → MakesStep task old b None changed b'
    step_goes e left = sym (steps_as left move.GoOn e ∙ ap (going code left (beside_of b')) all_frames)

    pub step_enters : (called : ModuleId) (arguments : List Value) (r : Running) (entered : List Running) → m ≡ move.Enter called arguments → n < MAX_FRAMES → active r ≡ begun_frame code called arguments (beside_of b') → entered ≡ changed ++ r ∷ []
        → MakesStep task old b None entered b'
    step_enters called arguments r entered e few begins is_entered left =
        sym (steps_as left (move.Enter called arguments) e
        ∙ (run_enters code left (going code left) arguments called (active new) (actives rest) (beside_of b') (ap (λ (k : ℕ). nat_lt k MAX_FRAMES) how_many ∙ lt-ltb _ _ few)
        ∙ (ap (λ (l : List (Active (List Work))). going code left (beside_of b') (begun_frame code called arguments (beside_of b') ∷ l)) all_frames
        ∙ (ap (λ (a : Active (List Work)). going code left (beside_of b') (a ∷ actives changed)) (sym begins)
        ∙ ap (going code left (beside_of b')) (sym (ap actives is_entered ∙ actives-push changed r))))))

    pub step_holds : (wait : Wait) → m ≡ move.Hold wait → MakesStep task old b (Some (stopped.Waits wait)) changed b'
    step_holds wait e left = sym (steps_as left (move.Hold wait) e ∙ ap (λ (l : List (Active (List Work))). Held (thread_of code wait l (beside_of b')) (around_of b'.around) left) all_frames)

    pub step_leaves : (to : To) → m ≡ move.Leave to → MakesStep task old b (Some (stopped.Leaves to)) changed b'
    step_leaves to e left = sym (steps_as left (move.Leave to) e ∙ ap (λ (l : List (Active (List Work))). Left (thread_of code New l (beside_of b')) to (around_of b'.around) left) all_frames)

-- the values of the innermost frame are answered
pub answers : (h : Heads) (wait : Wait) (target : Option TargetInMemory) (old rest new : List Running) (top : Running) (scope : Scope) (b b' : BesideInMemory)
    → old ≡ rest ++ top ∷ [] → new ≡ rest ++ record top { scope = scope } ∷ []
    → ((pause : Option Pause) → target_of pause ≡ option_map target_from target → now scope.values (beside_of b') ≡ answered h pause wait top.scope.values (beside_of b))
    → scope.at ≡ top.scope.at → Answers h wait target old b new b'
answers h wait target old rest new top scope b b' is_old is_new answer same_at bodies left aims =
    let p = program_with h bodies in
    let before : actives old ≡ active top ∷ actives rest = ap actives is_old ∙ actives-push rest top in
    let after : actives new ≡ active (record top { scope = scope }) ∷ actives rest = ap actives is_new ∙ actives-push rest (record top { scope = scope }) in
    let pause = pause_at p top.scope.at.module top.scope.at.stop in
    let now_is = answer pause (sym (aims ∙ ap (top_target p) before)) in
    ap (going (tree p) left (beside_of b')) after
    ∙ (ap (λ (a : At). going (tree p) left (beside_of b') (record (active top) { «module» = a.module; stop = a.stop; values = scope.values } ∷ actives rest)) same_at
    ∙ (ap (λ (n : Now). going (tree p) left n.beside (record (active top) { values = n.values } ∷ actives rest)) now_is
    ∙ sym (ap (go_on (tree p) (suc left) wait (beside_of b)) before)))

-- no frame is there
pub answers_none : (h : Heads) (wait : Wait) (target : Option TargetInMemory) (old new : List Running) (b : BesideInMemory) → old ≡ [] → new ≡ [] → Answers h wait target old b new b
answers_none h wait target old new b is_old is_new bodies left aims =
    ap (λ (l : List Running). going (tree (program_with h bodies)) left (beside_of b) (actives l)) is_new
    ∙ sym (ap (λ (l : List Running). go_on (tree (program_with h bodies)) (suc left) wait (beside_of b) (actives l)) is_old)

-- frames that go on from where they stood
module _ (h : Heads) (bodies : List Body) (fs : List Frame) (wait : Wait) (b : Beside) (left : ℕ) (rs : List Running) (woken : map active rs ≡ map (active_of (tree (program_with h bodies))) fs) where
  abbrev on : ℕ → List (Active (List Work)) → Outcome
  on n l = go_on (tree (program_with h bodies)) n wait b l

  same_frames : on left (actives rs) ≡ on left (map (active_of (tree (program_with h bodies))) (reverse fs))
  same_frames = ap (on left) (actives_woken (active_of (tree (program_with h bodies))) fs rs woken)

  -- where no step is left
  pub starts_over : left ≡ 0 → no_step b (actives rs) ≡ on left (map (active_of (tree (program_with h bodies))) (reverse fs))
  starts_over none = sym (ap (λ (n : ℕ). on n (actives rs)) none) ∙ same_frames

  -- where one is
  pub starts_on : left ≢ 0 → on (suc (left - 1)) (actives rs) ≡ on left (map (active_of (tree (program_with h bodies))) (reverse fs))
  starts_on some = let same : suc (left - 1) ≡ left = more left some in ap (λ (n : ℕ). on n (actives rs)) same ∙ same_frames
    where
      more : (n : ℕ) → n ≢ 0 → suc (n - 1) ≡ n
      more zero some = absurd (some refl)
      more (suc n) some = omega arith

-- a thread that goes on, with what stands beside its frames
pub goes : (p : Resolved) (t : Thread) (around : Around) (left : ℕ) (c m : ℤ) (fs : List Frame) → c ≡ t.code → m ≡ t.mask → fs ≡ t.frames
    → go_on (tree p) left t.wait (record { id = t.id; code = c; mask = m; around = around }) (map (active_of (tree p)) (reverse fs)) ≡ go (tree p) t around left
unfolding go
goes p t around left c m fs same_code same_mask same_frames =
    ap (λ (n : ℤ). go_on (tree p) left t.wait (record { id = t.id; code = n; mask = m; around = around }) (map (active_of (tree p)) (reverse fs))) same_code
    ∙ (ap (λ (n : ℤ). go_on (tree p) left t.wait (record { id = t.id; code = t.code; mask = n; around = around }) (map (active_of (tree p)) (reverse fs))) same_mask
    ∙ ap (λ (l : List Frame). go_on (tree p) left t.wait (record { id = t.id; code = t.code; mask = t.mask; around = around }) (map (active_of (tree p)) (reverse l))) same_frames)
