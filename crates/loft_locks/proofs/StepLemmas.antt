-- Each step of a run keeps what a lock promises.
use Rattle.std.proofs.Common.{◌≡◌, ℕ, zero, suc, ◌+◌, inl, Bool, true, false, List, [], ◌∷◌, map, length, Option, Some, None, slice_get, refl, sym, ap, ◌∙◌, subst, arith}
use Rattle.std.specs.Prelude.{◌||◌, not, ℤ, pos, unwrap_or, slice_set, if◌then◌else◌, nat_lt}
use Rattle.std.proofs.lemmas.List.{reverse-reverse}
use Rattle.loft_base.specs.declared.ids.ModuleId.{ModuleId}
use Rattle.loft_base.specs.declared.ids.Value.{Value}
use Rattle.loft_tree.specs.declared.heads.Place.{Place}
use Rattle.loft_tree.specs.declared.heads.Place.TheVariants.{Sched}
use Rattle.loft_tree.specs.declared.heads.Signature.{Signature}
use Rattle.loft_tree.specs.NamedFits.{slots_of}
use Rattle.loft_tree.specs.Resolved.{Pause, Resolved}
use Rattle.loft_orders.specs.declared.thread.Wait.{Wait}
use Rattle.loft_orders.specs.declared.thread.Wait.TheVariants as wait
use Rattle.loft_orders.specs.declared.order.End.{End}
use Rattle.loft_orders.specs.declared.order.End.TheVariants.{Done, Div, Deep, Over, Flood}
use Rattle.loft_orders.specs.declared.order.To.{To}
use Rattle.loft_orders.specs.declared.note.Act.TheVariants as act
use Rattle.loft_board.specs.Board.{generate}
use Rattle.loft_soundness.proofs.ListLemmas.{each_append}
use Rattle.loft_sense.specs.declared.limits.TheConstants.{MAX_FRAMES}
use Rattle.loft_sense.specs.Heads.{rank}
use Rattle.loft_sense.specs.Around.{Around, Beside}
use Rattle.loft_sense.specs.CanGo.{has_any}
use Rattle.loft_sense.specs.Eval.{eval, eval_all, number_of, is_true}
use Rattle.loft_sense.specs.Statements.{Effect, GoesOn, Waits, Leaves, Dies, goes_on, code_ok, code_timeout, events_end, enter, with_shared, did, begun, hold, most_entries}
use Rattle.loft_sense.specs.Run.{Next, Finish, Stuck, Acts, Advances, Tests, Counts, Holds, Runs, Active, Outcome, Held, Left, here, ends, if_finish, live, frame_of, thread_of, effect_on, test_on, count_on, begun_frame, run_on, stopped, step, step_on, no_step, going}
use Rattle.loft_sense.specs.Tree.{Work, body_then, next_work, body_at, tree}
use Rattle.loft_sense.specs.Machine.{Tree}
use Rattle.loft_sense.specs.Stands.{begin_of, end_of, place_after}
use Rattle.loft_soundness.specs.WellFormed.{IsPlacedTree}
use Rattle.loft_soundness.specs.WorkFits.{NextFits}
use Rattle.loft_soundness.proofs.LeadsToPoints.{LeadsAt, LeadsToPoints}
use Rattle.loft_soundness.proofs.ProgramLemmas.{leads_to_points}
use Rattle.loft_locks.specs.Locks.{Lock, LockCall, Takes, Gives, Other, call_of, after_call, at_call, inside_body, or_false, inside_at, IsAway, CallStays, IsExpanded}
use Rattle.loft_locks.specs.LocksHold.{one}
use Rattle.loft_locks.proofs.ShareLemmas.{set_here}
use Rattle.loft_locks.proofs.PairLemmas.{after_same, pause_stays, PauseRuns, ModuleRuns, WorkRuns, runs_before, NextRuns, next_runs, module_runs, CallRuns}
use Rattle.loft_locks.proofs.KeepLemmas.{depth, IsBegun, ThreadBegun, ActRuns, held_at, EffectKeeps, did_keeps, begun_keeps}
use Rattle.loft_locks.proofs.PointLemmas.{IsLevel, depth_reverse, set_work, loop_work, again_work, ask_work, await_work, coop_work, IsWaiting, loops, tests, awaits, asks, cooperates, tell_work, give_work, takes_body, gives_body, takes_begin, takes_end, gives_begin, gives_end, PlainAt, Inner, plain, waits, free, taken, gives, tells, given, bound_of, frames_in, OuterRuns, none_bound, depth_frames, AroundRuns, fewer, kept, at_home, PointRuns, RunsTo, others_only, ends_runs}
use Rattle.loft_locks.proofs.EndLemmas.{numbered, end_is, own_at_end, after_less, is_false, not_gives, no_gives}

module _ (p : Resolved) (l : Lock) (is : IsExpanded p l) (well : IsPlacedTree p) (L : Option ℤ → ℕ → Type 0) (level : IsLevel L) (place : Place) (others : ℕ) where
  abbrev Points : Beside → List (Active (List Work)) → Type 0
  Points b rs = PointRuns p l L level place others b rs

  abbrev To_ : Outcome → Type 0
  To_ o = RunsTo p l L level place others o

  abbrev Room : Around → ℕ → Type 0
  Room around n = AroundRuns p l L level place around n

  leads : LeadsToPoints (Tree p)
  leads = leads_to_points (Tree p) well

  -- ---- the module of the innermost frame has ended

  popped : (own : Bool) (m : ModuleId) (b : Beside) (rs : List (Active (List Work))) → OuterRuns p l m rs → Room b.around (one own + frames_in p l rs + others) → end_of p.heads m ≡ place → own ≡ own_at_end (call_of l m) → Points b rs
  popped own m b [] outer room there e = fewer p l L level place b.around others (one own + 0 + others) (omega arith) room
  popped own m b (q ∷ qs) outer room there e =
      let i = inside_at p l q.module q.stop in
      let now = after_call (call_of l m) i in
      let less = after_less (call_of l m) own i e in (
        now,
        plain outer.0 (subst (λ r. PlainAt p l r q.module q.at) there outer.1) outer.2,
        outer.3,
        fewer p l L level place b.around (one now + frames_in p l qs + others) (one own + (one i + frames_in p l qs) + others) (omega (arith, less)) room,
      )

  -- what is so where a module ends
  abbrev EndsRight : Bool → ModuleId → Next (List Work) → Type 0
  EndsRight own m Finish = (end_of p.heads m ≡ place) × (own ≡ own_at_end (call_of l m))
  EndsRight own m Stuck = Unit {0}
  EndsRight own m (Acts action w) = Unit {0}
  EndsRight own m (Advances w) = Unit {0}
  EndsRight own m (Tests test v w) = Unit {0}
  EndsRight own m (Counts count f) = Unit {0}
  EndsRight own m (Holds k pause w) = Unit {0}
  EndsRight own m (Runs k c arguments w) = Unit {0}

  plain_ends : (own : Bool) (m : ModuleId) (head : Signature) (bound : Bool) (next : Next (List Work)) → call_of l m ≡ Other → slice_get p.heads.modules m.0 ≡ Some head → NextRuns p l m bound own next → LeadsAt (Tree p) m head place next → EndsRight own m next
  plain_ends own m head bound Finish other declared f g = (end_is p.heads m head declared ∙ sym g, f ∙ sym (ap own_at_end other))
  plain_ends own m head bound Stuck other declared f g = tt
  plain_ends own m head bound (Acts action w) other declared f g = tt
  plain_ends own m head bound (Advances w) other declared f g = tt
  plain_ends own m head bound (Tests test v w) other declared f g = tt
  plain_ends own m head bound (Counts count h) other declared f g = tt
  plain_ends own m head bound (Holds k pause w) other declared f g = tt
  plain_ends own m head bound (Runs k c arguments w) other declared f g = tt

  waiting_ends : (own : Bool) (m : ModuleId) (w : List Work) → IsWaiting l w → EndsRight own m (next_work w)
  waiting_ends own m w (loops e) = subst (λ v. EndsRight own m (next_work v)) (sym e) tt
  waiting_ends own m w (tests e) = subst (λ v. EndsRight own m (next_work v)) (sym e) tt
  waiting_ends own m w (awaits e) = subst (λ v. EndsRight own m (next_work v)) (sym e) tt
  waiting_ends own m w (asks e) = subst (λ v. EndsRight own m (next_work v)) (sym e) tt
  waiting_ends own m w (cooperates e) = subst (λ v. EndsRight own m (next_work v)) (sym e) tt

  inner_ends : (bound own : Bool) (held : Option ℤ) (m : ModuleId) (w : List Work) → Inner p l place bound own held m w → EndsRight own m (next_work w)
  inner_ends bound own held m w (plain other at f) =
      plain_ends own m at.head bound (next_work w) other at.declared (next_runs p l m bound w own f) (leads.next m at.head w place at.declared at.at).1
  inner_ends bound own held m w (waits call there e f) = waiting_ends own m w f
  inner_ends bound own held m w (free call there e f g) = subst (λ v. EndsRight own m (next_work v)) (sym g) tt
  inner_ends bound own held m w (taken call there e g) = subst (λ v. EndsRight own m (next_work v)) (sym g) (takes_end p l is m call ∙ sym there, e ∙ sym (ap own_at_end call))
  inner_ends bound own held m w (gives call there e g) = subst (λ v. EndsRight own m (next_work v)) (sym g) tt
  inner_ends bound own held m w (tells call there e g) = subst (λ v. EndsRight own m (next_work v)) (sym g) tt
  inner_ends bound own held m w (given call there e g) = subst (λ v. EndsRight own m (next_work v)) (sym g) (gives_end p l is m call ∙ sym there, e ∙ sym (ap own_at_end call))

  live_one : (own : Bool) (m : ModuleId) (b : Beside) (next : Next (List Work)) (ls rs : List (Active (List Work))) → EndsRight own m next
      → (end_of p.heads m ≡ place → own ≡ own_at_end (call_of l m) → Points b ls) → Points b rs → Points b (if_finish next ls rs)
  live_one own m b Finish ls rs e f g = f e.0 e.1
  live_one own m b Stuck ls rs e f g = g
  live_one own m b (Acts action w) ls rs e f g = g
  live_one own m b (Advances w) ls rs e f g = g
  live_one own m b (Tests test v w) ls rs e f g = g
  live_one own m b (Counts count h) ls rs e f g = g
  live_one own m b (Holds k pause w) ls rs e f g = g
  live_one own m b (Runs k c arguments w) ls rs e f g = g

  live_runs : (b : Beside) (rs : List (Active (List Work))) → Points b rs → Points b (live (tree p) rs)
  live_runs b [] f = f
  live_runs b (r ∷ rs) f =
      live_one f.0 r.module b (next_work r.at) (live (tree p) rs) (r ∷ rs) (inner_ends (bound_of p l rs) f.0 (held_at p l b.around) r.module r.at f.1)
      (λ there e. live_runs b rs (popped f.0 r.module b rs f.2 f.3 there e)) f

  -- ---- a thread that stops

  -- the thread as it is kept, with its innermost frame s at a stop
  stops_begun : (w : Wait) (s : Active (List Work)) (rs : List (Active (List Work))) (b : Beside) → (call_of l s.module ≡ Gives → ⊥) → OuterRuns p l s.module rs → ThreadBegun l (thread_of (tree p) w (s ∷ rs) b)
  stops_begun w s rs b not outer = subst (IsBegun l) (sym (reverse-reverse (map (frame_of (tree p)) (s ∷ rs)))) (by rs outer)
    where
      by : (qs : List (Active (List Work))) → OuterRuns p l s.module qs → IsBegun l (map (frame_of (tree p)) (s ∷ qs))
      by [] outer = outer
      by (q ∷ qs) outer = not

  stops_depth : (w : Wait) (s : Active (List Work)) (rs : List (Active (List Work))) (b : Beside) → depth p l (thread_of (tree p) w (s ∷ rs) b).frames ≡ one (inside_at p l s.module s.stop) + frames_in p l rs
  stops_depth w s rs b = depth_reverse p l (map (frame_of (tree p)) (s ∷ rs)) ∙ depth_frames p l (s ∷ rs)

  held_runs : (w : Wait) (own : Bool) (s : Active (List Work)) (rs : List (Active (List Work))) (b : Beside) (left : ℕ) → (call_of l s.module ≡ Gives → ⊥) → OuterRuns p l s.module rs → inside_at p l s.module s.stop ≡ own
      → Room b.around (one own + frames_in p l rs + others) → To_ (Held (thread_of (tree p) w (s ∷ rs) b) b.around left)
  held_runs w own s rs b left not outer at room =
      let n = stops_depth w s rs b in
      let i : one (inside_at p l s.module s.stop) ≡ one own = ap one at in
      (stops_begun w s rs b not outer, fewer p l L level place b.around (depth p l (thread_of (tree p) w (s ∷ rs) b).frames + others) (one own + frames_in p l rs + others) (omega (arith, n, i)) room)

  left_runs : (w : Wait) (s : Active (List Work)) (rs : List (Active (List Work))) (to : To) (b : Beside) (left : ℕ) → (call_of l s.module ≡ Gives → ⊥) → OuterRuns p l s.module rs → inside_at p l s.module s.stop ≡ false
      → bound_of p l rs ≡ false → Room b.around others → To_ (Left (thread_of (tree p) w (s ∷ rs) b) to b.around left)
  left_runs w s rs to b left not outer at out room =
      let n = stops_depth w s rs b in
      let i : one (inside_at p l s.module s.stop) ≡ 0 = ap one at in
      let none = none_bound p l rs out in
      (stops_begun w s rs b not outer, omega (arith, n, i, none), room)

  or_left : (a b : Bool) → (a || b) ≡ false → a ≡ false
  or_left true b e = e
  or_left false b e = refl

  or_right : (a b : Bool) → (a || b) ≡ false → b ≡ false
  or_right true b e = absurd cc
  or_right false b e = e

  -- ---- steps

  module _ (left : ℕ) (on : Beside → List (Active (List Work)) → Outcome) (goes : (d : Beside) (qs : List (Active (List Work))) → Points d qs → To_ (on d qs))
      (r : Active (List Work)) (rs : List (Active (List Work))) (b : Beside) (own : Bool) (outer : OuterRuns p l r.module rs) (room : Room b.around (one own + frames_in p l rs + others)) where
    dies : (end : End) → To_ (ends end b left)
    dies end = ends_runs p l L level place others end b left (fewer p l L level place b.around others (one own + frames_in p l rs + others) (omega arith) room)

    -- it goes on at this work, with as many frames inside as before
    goes_at : (k : ℕ) (vs : List Value) (w : List Work) (d : Beside) (now : Bool) → Inner p l place (bound_of p l rs) now (held_at p l d.around) r.module w → Room d.around (one now + frames_in p l rs + others)
        → To_ (on d (record { «module» = r.module; stop = k; values = vs; at = w } ∷ rs))
    goes_at k vs w d now inner more = goes d (record { «module» = r.module; stop = k; values = vs; at = w } ∷ rs) (now, inner, outer, more)

    -- ---- of a module that isn't the lock's

    module _ (other : call_of l r.module ≡ Other) (head : Signature) (declared : slice_get p.heads.modules r.module.0 ≡ Some head) where
      plain_at : (w : List Work) (d : Beside) → WorkRuns p l r.module (bound_of p l rs) own w → LeadsAt (Tree p) r.module head place (Advances w) → Inner p l place (bound_of p l rs) own (held_at p l d.around) r.module w
      plain_at w d f at = plain other (record { head = head; declared = declared; at = at }) f

      act_runs : (w : List Work) (effect : Effect) → EffectKeeps p l place place ⊥ ⊥ b effect → WorkRuns p l r.module (bound_of p l rs) own w → LeadsAt (Tree p) r.module head place (Advances w)
          → To_ (effect_on (tree p) left on effect w r rs b)
      act_runs w (GoesOn now) e f at = goes_at r.stop now.values w now.beside own (plain_at w now.beside f at) (kept p l L level place b now.beside (one own + frames_in p l rs + others) e.0 room)
      act_runs w (Waits wt) e f at = absurd e
      act_runs w (Leaves t) e f at = absurd e
      act_runs w (Dies end) e f at = dies end

      test_runs : (o : Option Value) (v w : List Work) → WorkRuns p l r.module (bound_of p l rs) own v → WorkRuns p l r.module (bound_of p l rs) own w → LeadsAt (Tree p) r.module head place (Advances v) → LeadsAt (Tree p) r.module head place (Advances w)
          → To_ (test_on left on o v w r rs b)
      test_runs None v w f g at bt = dies (Div (here r))
      test_runs (Some a) v w f g at bt = by (is_true (number_of a))
        where
          by : (c : Bool) → To_ (on b (record r { at = if c then v else w } ∷ rs))
          by true = goes_at r.stop r.values v b own (plain_at v b f at) room
          by false = goes_at r.stop r.values w b own (plain_at w b g bt) room

      count_runs : (o : Option Value) (g : ℤ → List Work) → ((n : ℤ) → WorkRuns p l r.module (bound_of p l rs) own (g n)) → ((n : ℤ) → LeadsAt (Tree p) r.module head place (Advances (g n))) → To_ (count_on left on o g r rs b)
      count_runs None g f at = dies (Div (here r))
      count_runs (Some a) g f at = goes_at r.stop r.values (g (number_of a)) b own (plain_at (g (number_of a)) b (f (number_of a)) (at (number_of a))) room

      hold_runs : (k : ℕ) (pause : Pause) (w : List Work) (effect : Effect) → EffectKeeps p l place (place_after pause place) (Unit {0}) (IsAway pause) b effect → PauseRuns p l r.module (bound_of p l rs) own k pause
          → WorkRuns p l r.module (bound_of p l rs) own w → LeadsAt (Tree p) r.module head place (Holds k pause w) → To_ (effect_on (tree p) left on effect w (stopped r k w) rs b)
      hold_runs k pause w (GoesOn now) e s f at =
          goes_at k now.values w now.beside own (plain_at w now.beside f (subst (λ q. LeadsAt (Tree p) r.module head q (Advances w)) e.1 at.1)) (kept p l L level place b now.beside (one own + frames_in p l rs + others) e.0 room)
      hold_runs k pause w (Waits wt) e s f at = held_runs wt own (stopped r k w) rs b left (not_gives (call_of l r.module) other) outer s.2 room
      hold_runs k pause w (Leaves t) e s f at =
          let free = pause_stays (bound_of p l rs || own) pause s.1 e in
          left_runs wait.New (stopped r k w) rs t b left (not_gives (call_of l r.module) other) outer (s.2 ∙ or_right (bound_of p l rs) own free) (or_left (bound_of p l rs) own free)
          (fewer p l L level place b.around others (one own + frames_in p l rs + others) (omega arith) room)
      hold_runs k pause w (Dies end) e s f at = dies end

      -- the first frame of module c, which is run inside or not
      inner_begins : (c : ModuleId) (call : LockCall) (bound : Bool) (callee : Signature) → call_of l c ≡ call → slice_get p.heads.modules c.0 ≡ Some callee → begin_of p.heads c ≡ place → CallRuns own call → CallStays p bound c
          → (now : Bool) × Inner p l place bound now (held_at p l b.around) c (body_then (body_at p c) []) × (one now + one (at_call call own) ≡ one own)
      inner_begins c Takes bound callee e at begins f s =
          let there : place ≡ Sched l.at = sym begins ∙ takes_begin p l is c e in
          let first : body_then (body_at p c) [] ≡ loop_work l = ap (λ x. body_then x []) (takes_body p l is c e) in
          let count : 0 ≡ one own = sym (ap one f) in
          (false, waits e there refl (loops first), omega (arith, count))
      inner_begins c Gives bound callee e at begins f s =
          let there : place ≡ Sched l.at = sym begins ∙ gives_begin p l is c e in
          let first : body_then (body_at p c) [] ≡ give_work l = ap (λ x. body_then x []) (gives_body p l is c e) in
          let count : 1 ≡ one own = sym (ap one f) in
          (true, gives e there refl first, omega (arith, count))
      inner_begins c Other bound callee e at begins f s =
          let starts = subst (λ q. LeadsAt (Tree p) c callee q (Advances (body_then (body_at p c) []))) begins (leads.starts c callee at).there in
          let body = module_runs p l c bound s (numbered p well c) (is.others c e) in
          (false, plain e (record { head = callee; declared = at; at = starts }) (runs_before p l c bound (body_at p c) [] false false body refl), omega arith)

      called_runs : (k : ℕ) (c : ModuleId) (w : List Work) (callee : Signature) (vs : List Value) → slice_get p.heads.modules c.0 ≡ Some callee → begin_of p.heads c ≡ place
          → ModuleRuns p l r.module (bound_of p l rs) own k c → WorkRuns p l r.module (bound_of p l rs) (after_call (call_of l c) own) w → LeadsAt (Tree p) r.module head place (Runs k c [] w)
          → To_ (on b (begun_frame (tree p) c vs b ∷ stopped r k w ∷ rs))
      called_runs k c w callee vs at begins s f to =
          let i = inside_at p l r.module k in
          let stays : CallStays p (bound_of p l rs || i) c = subst (λ j. CallStays p (bound_of p l rs || j) c) (sym s.2) s.1 in
          let first = inner_begins c (call_of l c) (bound_of p l rs || i) callee refl at begins s.0 stays in
          let same : after_call (call_of l c) i ≡ after_call (call_of l c) own = ap (after_call (call_of l c)) s.2 ∙ after_same (call_of l c) own in
          let after : WorkRuns p l r.module (bound_of p l rs) (after_call (call_of l c) i) w = subst (λ j. WorkRuns p l r.module (bound_of p l rs) j w) (sym same) f in
          let there : PlainAt p l (end_of p.heads c) r.module w = record { head = head; declared = declared; at = to.1 } in
          let is : one i ≡ one (at_call (call_of l c) own) = ap one s.2 in
          let count = first.2 in
          let n : one own + frames_in p l rs + others ≡ one first.0 + (one i + frames_in p l rs) + others = omega (arith, count, is) in
          goes b (begun_frame (tree p) c vs b ∷ stopped r k w ∷ rs) (first.0, first.1, (other, there, after, outer), subst (λ m. Room b.around m) n room)

      run_runs : (k : ℕ) (c : ModuleId) (w : List Work) (callee : Signature) (o : Option (List Value)) → slice_get p.heads.modules c.0 ≡ Some callee → begin_of p.heads c ≡ place
          → ModuleRuns p l r.module (bound_of p l rs) own k c → WorkRuns p l r.module (bound_of p l rs) (after_call (call_of l c) own) w → LeadsAt (Tree p) r.module head place (Runs k c [] w)
          → To_ (run_on (tree p) left on o c (stopped r k w) rs b)
      run_runs k c w callee None at begins s f to = dies (Div (here (stopped r k w)))
      run_runs k c w callee (Some vs) at begins s f to = by (nat_lt (length (r ∷ rs)) MAX_FRAMES) (called_runs k c w callee vs at begins s f to)
        where
          by : (free : Bool) → To_ (on b (begun_frame (tree p) c vs b ∷ stopped r k w ∷ rs)) → To_ (if free then on b (begun_frame (tree p) c vs b ∷ stopped r k w ∷ rs) else ends (Deep (here (stopped r k w))) b left)
          by true f = f
          by false f = dies (Deep (here (stopped r k w)))

      plain_runs : (next : Next (List Work)) → NextFits p.heads (slots_of head) place next → NextRuns p l r.module (bound_of p l rs) own next → LeadsAt (Tree p) r.module head place next → To_ (step (tree p) left on next r rs b)
      plain_runs Finish e f at = goes b rs (popped own r.module b rs outer room (end_is p.heads r.module head declared ∙ sym at) (f ∙ sym (ap own_at_end other)))
      plain_runs Stuck e f at = absurd f
      plain_runs (Acts action w) e f at =
          act_runs w (did p.heads action (here r) r.values b) (did_keeps p l is (slots_of head) place (here r) r.values b action f.0 e) f.1 at
      plain_runs (Advances w) e f at = goes_at r.stop r.values w b own (plain_at w b f at) room
      plain_runs (Tests test v w) e f at = test_runs (eval p.heads r.values b test) v w f.0 f.1 at.0 at.1
      plain_runs (Counts count g) e f at = count_runs (eval p.heads r.values b count) g f at
      plain_runs (Holds k pause w) e f at =
          hold_runs k pause w (begun p.heads pause (here (stopped r k w)) r.values b) (begun_keeps p l is (slots_of head) place (here (stopped r k w)) r.values b pause f.0.0 e) f.0 f.1 at
      plain_runs (Runs k c arguments w) e f at = run_runs k c w e.1.0 (eval_all p.heads r.values b arguments) e.1.1 e.0 f.0 f.1 at

    -- ---- of the module that takes the lock

    module _ (call : call_of l r.module ≡ Takes) (there : place ≡ Sched l.at) (out : own ≡ false) where
      waits_at : (k : ℕ) (vs : List Value) (w : List Work) (d : Beside) → IsWaiting l w → d.around ≡ b.around → To_ (on d (record { «module» = r.module; stop = k; values = vs; at = w } ∷ rs))
      waits_at k vs w d f e = goes_at k vs w d own (waits call there out f) (subst (λ a. Room a (one own + frames_in p l rs + others)) (sym e) room)

      -- the value that the loop sees
      seen : ℤ
      seen = unwrap_or (held_at p l b.around) (pos 0)

      free_is : is_true seen ≡ false → held_at p l b.around ≡ Some (pos 0)
      unfolding seen
      free_is e =
          let v = level.there (held_at p l b.around) (one own + frames_in p l rs + others) (at_home p l L level place (held_at p l b.around) (one own + frames_in p l rs + others) there room.allows) in
          let zero_is : unwrap_or (held_at p l b.around) (pos 0) ≡ pos 0 = is_false (unwrap_or (held_at p l b.around) (pos 0)) e in
          let same : unwrap_or (held_at p l b.around) (pos 0) ≡ v.0 = ap (λ o. unwrap_or o (pos 0)) v.1 in
          v.1 ∙ ap (λ n. Some n) (sym same ∙ zero_is)

      asks_held : (v w : List Work) → IsWaiting l v → (held_at p l b.around ≡ Some (pos 0) → Inner p l place (bound_of p l rs) own (held_at p l b.around) r.module w)
          → To_ (on b (record r { at = if is_true seen then v else w } ∷ rs))
      asks_held v w f g = by (is_true seen) refl
        where
          by : (c : Bool) → is_true seen ≡ c → To_ (on b (record r { at = if c then v else w } ∷ rs))
          by true e = waits_at r.stop r.values v b f refl
          by false e = goes_at r.stop r.values w b own (g (free_is e)) room

      hold_either : (c : Bool) (x y z : Effect) (w : List Work) (s : Active (List Work)) → To_ (effect_on (tree p) left on x w s rs b) → To_ (effect_on (tree p) left on z w s rs b) → To_ (effect_on (tree p) left on (hold c false x y z) w s rs b)
      hold_either true x y z w s f g = f
      hold_either false x y z w s f g = g

      at_first : inside_at p l r.module 1 ≡ own
      at_first = ap (λ x. or_false (inside_body l false x 1)) (takes_body p l is r.module call) ∙ sym out

      at_second : inside_at p l r.module 2 ≡ own
      at_second = ap (λ x. or_false (inside_body l false x 2)) (takes_body p l is r.module call) ∙ sym out

      waiting_runs : (w : List Work) → IsWaiting l w → To_ (step (tree p) left on (next_work w) r rs b)
      unfolding seen
      waiting_runs w (loops e) = subst (λ v. To_ (step (tree p) left on (next_work v) r rs b)) (sym e) (waits_at r.stop r.values (again_work l) b (tests refl) refl)
      waiting_runs w (tests e) =
          subst (λ v. To_ (step (tree p) left on (next_work v) r rs b)) (sym e)
          (asks_held (await_work l) (set_work l) (awaits refl) (λ free_. free call there out free_ refl))
      waiting_runs w (awaits e) =
          subst (λ v. To_ (step (tree p) left on (next_work v) r rs b)) (sym e)
          (hold_either (has_any (l.free ∷ []) b.around.board) (goes_on r.values (events_end (l.free ∷ []) code_ok b)) (goes_on r.values (events_end (l.free ∷ []) code_timeout b)) (Waits (wait.Events (l.free ∷ []) None)) (ask_work l) (stopped r 1 (ask_work l))
          (waits_at 1 r.values (ask_work l) (events_end (l.free ∷ []) code_ok b) (asks refl) refl)
          (held_runs (wait.Events (l.free ∷ []) None) own (stopped r 1 (ask_work l)) rs b left (no_gives (call_of l r.module) call) outer at_first room))
      waiting_runs w (asks e) =
          subst (λ v. To_ (step (tree p) left on (next_work v) r rs b)) (sym e)
          (asks_held (coop_work l) (again_work l) (cooperates refl) (λ free_. waits call there out (tests refl)))
      waiting_runs w (cooperates e) =
          subst (λ v. To_ (step (tree p) left on (next_work v) r rs b)) (sym e)
          (held_runs (wait.Coop (pos 1)) own (stopped r 2 (again_work l)) rs b left (no_gives (call_of l r.module) call) outer at_second room)

      free_runs : held_at p l b.around ≡ Some (pos 0) → To_ (step (tree p) left on (next_work (set_work l)) r rs b)
      free_runs zero_is =
          let d = with_shared (slice_set b.around.shared (rank p.heads l.held) (pos 1)) b in
          let n = frames_in p l rs + others in
          let own_is : one own ≡ 0 = ap one out in
          let before_ : L (held_at p l b.around) (one own + frames_in p l rs + others) = at_home p l L level place (held_at p l b.around) (one own + frames_in p l rs + others) there room.allows in
          let count : one own + frames_in p l rs + others ≡ n = omega (arith, own_is) in
          let now : L (Some (pos 1)) (suc n) = level.takes n (subst (λ o. L o n) zero_is (subst (λ m. L (held_at p l b.around) m) count before_)) in
          let set_ : held_at p l d.around ≡ Some (pos 1) = set_here b.around.shared (rank p.heads l.held) (pos 0) (pos 1) zero_is in
          let more : suc n ≡ 1 + frames_in p l rs + others = omega arith in
          let after : L (held_at p l d.around) (1 + frames_in p l rs + others) = subst (λ m. L (held_at p l d.around) m) more (subst (λ o. L o (suc n)) (sym set_) now) in
          goes_at r.stop r.values [] d true (taken call there refl refl) (record { allows = inl (there, after); acts = room.acts })

    -- ---- of the module that gives it back

    module _ (call : call_of l r.module ≡ Gives) (there : place ≡ Sched l.at) where
      gives_runs : own ≡ true → To_ (step (tree p) left on (next_work (give_work l)) r rs b)
      gives_runs has =
          let d = with_shared (slice_set b.around.shared (rank p.heads l.held) (pos 0)) b in
          let n = frames_in p l rs + others in
          let own_is : one own ≡ 1 = ap one has in
          let before_ : L (held_at p l b.around) (one own + frames_in p l rs + others) = at_home p l L level place (held_at p l b.around) (one own + frames_in p l rs + others) there room.allows in
          let count : one own + frames_in p l rs + others ≡ suc n = omega (arith, own_is) in
          let was = level.there (held_at p l b.around) (one own + frames_in p l rs + others) before_ in
          let now : L (Some (pos 0)) n = level.gives (held_at p l b.around) n (subst (λ m. L (held_at p l b.around) m) count before_) in
          let set_ : held_at p l d.around ≡ Some (pos 0) = set_here b.around.shared (rank p.heads l.held) was.0 (pos 0) was.1 in
          let same_ : n ≡ 0 + frames_in p l rs + others = omega arith in
          let after : L (held_at p l d.around) (0 + frames_in p l rs + others) = subst (λ m. L (held_at p l d.around) m) same_ (subst (λ o. L o n) (sym set_) now) in
          goes_at r.stop r.values (tell_work l) d false (tells call there refl refl) (record { allows = inl (there, after); acts = room.acts })

      tells_runs : own ≡ false → To_ (step (tree p) left on (next_work (tell_work l)) r rs b)
      tells_runs out = by (nat_lt b.around.entries (most_entries b.around.place))
        where
          by : (free : Bool) → To_ (effect_on (tree p) left on (if free then goes_on r.values (enter (act.Gen b.id l.free None) (record b { around = record b.around { board = generate l.free None b.around.board } })) else Dies (Flood (here r))) [] r rs b)
          by true =
              goes_at r.stop r.values [] _ own (given call there out refl)
              (record { allows = room.allows; acts = each_append (ActRuns p l) b.around.acts (act.Gen b.id l.free None ∷ []) room.acts (tt, tt) })
          by false = dies (Flood (here r))

    -- ---- one step

    inner_runs : Inner p l place (bound_of p l rs) own (held_at p l b.around) r.module r.at → To_ (step (tree p) left on (next_work r.at) r rs b)
    inner_runs (plain other at f) =
        let next = leads.next r.module at.head r.at place at.declared at.at in
        plain_runs other at.head at.declared (next_work r.at) next.0 (next_runs p l r.module (bound_of p l rs) r.at own f) next.1
    inner_runs (waits call there out f) = waiting_runs call there out r.at f
    inner_runs (free call there out zero_is e) = subst (λ v. To_ (step (tree p) left on (next_work v) r rs b)) (sym e) (free_runs call there out zero_is)
    inner_runs (taken call there has e) =
        subst (λ v. To_ (step (tree p) left on (next_work v) r rs b)) (sym e) (goes b rs (popped own r.module b rs outer room (takes_end p l is r.module call ∙ sym there) (has ∙ sym (ap own_at_end call))))
    inner_runs (gives call there has e) = subst (λ v. To_ (step (tree p) left on (next_work v) r rs b)) (sym e) (gives_runs call there has)
    inner_runs (tells call there out e) = subst (λ v. To_ (step (tree p) left on (next_work v) r rs b)) (sym e) (tells_runs call there out)
    inner_runs (given call there out e) =
        subst (λ v. To_ (step (tree p) left on (next_work v) r rs b)) (sym e) (goes b rs (popped own r.module b rs outer room (gives_end p l is r.module call ∙ sym there) (out ∙ sym (ap own_at_end call))))

  step_runs_on : (left : ℕ) (on : Beside → List (Active (List Work)) → Outcome) → ((d : Beside) (qs : List (Active (List Work))) → Points d qs → To_ (on d qs)) → (b : Beside) (rs : List (Active (List Work))) → Points b rs
      → To_ (step_on (tree p) left on b rs)
  step_runs_on left on goes b [] f = ends_runs p l L level place others Done b (suc left) f
  step_runs_on left on goes b (r ∷ rs) f = inner_runs left on goes r rs b f.0 f.2 f.3 f.1

  -- ---- runs

  pub no_step_runs : (b : Beside) (rs : List (Active (List Work))) → Room b.around others → To_ (no_step b rs)
  no_step_runs b [] f = ends_runs p l L level place others Done b 0 f
  no_step_runs b (r ∷ rs) f = ends_runs p l L level place others (Over (here r)) b 0 f

  pub going_runs : (left : ℕ) (b : Beside) (rs : List (Active (List Work))) → Points b rs → To_ (going (tree p) left b rs)
  going_runs zero b rs f = no_step_runs b (live (tree p) rs) (others_only p l L level place others b rs f)
  going_runs (suc left) b rs f = step_runs_on left (going (tree p) left) (λ d qs g. going_runs left d qs g) b (live (tree p) rs) (live_runs b rs f)
