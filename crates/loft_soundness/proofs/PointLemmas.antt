-- A run goes on only at points that fit, and leaves a thread that stands.
use Rattle.std.proofs.Common.{◌≡◌, ℕ, zero, suc, ◌≤◌, Bool, true, false, List, [], ◌∷◌, ◌++◌, map, length, Option, Some, None, slice_get, refl, sym, ap, ◌∙◌, subst, arith}
use Rattle.std.specs.Prelude.{ℤ, if◌then◌else◌, nat_lt}
use Rattle.std.proofs.lemmas.List.{reverse-reverse, length-reverse, length-map}
use Rattle.std.proofs.lemmas.Bool.{ltb-true}
use Rattle.std.proofs.lemmas.Option.{slice_get_within}
use Rattle.loft_base.specs.declared.ids.ModuleId.{ModuleId}
use Rattle.loft_base.specs.declared.ids.Value.{Value}
use Rattle.loft_tree.specs.declared.heads.Place.{Place}
use Rattle.loft_tree.specs.declared.heads.Signature.{Signature}
use Rattle.loft_tree.specs.declared.heads.Heads.{Heads}
use Rattle.loft_tree.specs.Fits.{Each, IfThere}
use Rattle.loft_tree.specs.HeadsFit.{kinds_of}
use Rattle.loft_tree.specs.NamedFits.{slots_of}
use Rattle.loft_tree.specs.Resolved.{Pause}
use Rattle.loft_orders.specs.declared.thread.Thread.{Thread as ThreadAt}
use Rattle.loft_orders.specs.declared.thread.Wait.{Wait}
use Rattle.loft_orders.specs.declared.thread.Wait.TheVariants.{New}
use Rattle.loft_orders.specs.declared.order.End.{End}
use Rattle.loft_orders.specs.declared.order.End.TheVariants.{Done, Div, Deep, Over}
use Rattle.loft_orders.specs.declared.note.Act.TheVariants as act
use Rattle.loft_orders.specs.declared.order.To.{To}
use Rattle.loft_orders.specs.declared.order.To.TheVariants as to
use Rattle.loft_sense.specs.declared.limits.TheConstants.{MAX_FRAMES}
use Rattle.loft_sense.specs.Around.{Beside}
use Rattle.loft_sense.specs.Eval.{eval, eval_all, number_of, is_true}
use Rattle.loft_sense.specs.Statements.{Effect, GoesOn, Waits, Leaves, Dies, did, begun}
use Rattle.loft_sense.specs.Machine.{Prog, heads}
use Rattle.loft_sense.specs.Run.{Next, Finish, Stuck, Acts, Advances, Tests, Counts, Holds, Runs, Control, Active, Outcome, Held, Left, here, ends, if_finish, live, frame_of, thread_of, effect_on, test_on, count_on, begun_frame, run_on, stopped, step, step_on, no_step, going}
use Rattle.loft_sense.specs.Stands.{StopKind, Pauses, Calls, StopAt, begin_of, end_of, end_or_unlinked, place_after, program_stop, WaitAgrees, ValuesAgree, FrameStands, OuterStand, FramesStand, Stands}
use Rattle.loft_sense.specs.Fits.{IsThread, IsValue, WaitNames, FrameNames, ThreadNames, IsPoint, EndNames}
use Rattle.loft_soundness.specs.WellFormed.{PointOf, control}
use Rattle.loft_soundness.specs.WorkFits.{NextFits}
use Rattle.loft_soundness.specs.Points.{ActFits, ValuesFit, AroundFits, BesideFits, PointIsAt, FrameFits, OuterFit, FramesFit, PointFits, FrontFits, GoesOnlyTo, StandsThere, LeavesStanding}
use Rattle.loft_soundness.proofs.ListLemmas.{each_append, each_reverse}
use Rattle.loft_soundness.proofs.ValueLemmas.{values_agree, values_name, first_values_fit, eval_all_fits}
use Rattle.loft_soundness.proofs.EffectLemmas.{EffectFits, did_fits, LeadsTo, IsWaitOf, IsLeaveOf, begun_fits}
use Rattle.loft_soundness.proofs.LeadsToPoints.{the_stop, StopsAt, LeadsAt, LeadsToPoints}

-- the control of a program, with the declarations that are the program's
abbrev pub control_of : (x : Prog) → Control (PointOf x)
control_of x = record (control x) { heads = heads x }

end_is : (h : Heads) (m : ModuleId) (head : Signature) → slice_get h.modules m.0 ≡ Some head → end_of h m ≡ head.end
end_is h m head at = ap end_or_unlinked at

module _ (x : Prog) where
  -- ---- frames that stand

  outer_run : (m : ModuleId) (rs : List (Active (PointOf x))) → OuterFit x m rs → FramesFit x (end_of (heads x) m) rs
  outer_run m [] f = tt
  outer_run m (r ∷ rs) f = (f.1, f.2)

  outer_stand : (m : ModuleId) (rs : List (Active (PointOf x))) → OuterFit x m rs → OuterStand x m (map (frame_of (control_of x)) rs)
  outer_stand m [] f = tt
  outer_stand m (r ∷ rs) f = (f.0, outer_stand r.module rs f.2)

  outer_names : (m : ModuleId) (rs : List (Active (PointOf x))) → OuterFit x m rs → Each (FrameNames (heads x)) (map (frame_of (control_of x)) rs)
  outer_names m [] f = tt
  outer_names m (r ∷ rs) f = (values_name (heads x) (slots_of f.1.head) r.values f.1.values, outer_names r.module rs f.2)

  is_point : (place : Place) (r : Active (PointOf x)) → FrameFits x place r → IsPoint (heads x) (here r)
  is_point place r f = slice_get_within (heads x).modules r.module.0 f.head f.declared

  -- a stop inside as many `repeat`s as the point has counts
  abbrev stop_at : StopKind → PointOf x → Place → StopAt
  stop_at kind p q = the_stop kind (length ((control x).counts p)) q

  -- a frame that fits and comes to a stop
  frame_stands : (place q : Place) (r : Active (PointOf x)) (k : ℕ) (kind : StopKind) (p : PointOf x) → FrameFits x place r → program_stop x r.module k ≡ Some (stop_at kind p q)
      → FrameStands x (frame_of (control_of x) (stopped r k p)) (stop_at kind p q)
  frame_stands place q r k kind p f s = record {
    stop = s;
    counts = refl;
    values = subst (λ o. ValuesAgree o r.values) (sym f.declared) (values_agree (heads x) (slots_of f.head) r.values f.values);
  }

  -- the thread that stands with these frames
  thread_stands : (wt : Wait) (at : StopAt) (r : Active (PointOf x)) (rs : List (Active (PointOf x))) (b : Beside)
      → FrameStands x (frame_of (control_of x) r) at → WaitAgrees at.kind wt → OuterFit x r.module rs → length (r ∷ rs) ≤ MAX_FRAMES
      → Stands x (thread_of (control_of x) wt (r ∷ rs) b) at.after
  thread_stands wt at r rs b stands agrees outer few =
      let fs = map (frame_of (control_of x)) (r ∷ rs) in
      let m : length fs ≡ length (r ∷ rs) = length-map (r ∷ rs) (frame_of (control_of x)) in
      record {
        few = omega (arith, few, m, length-reverse fs);
        frames = subst (FramesStand x wt at.after) (sym (reverse-reverse fs)) ((at, stands, agrees, refl), outer_stand r.module rs outer);
      }

  thread_names : (wt : Wait) (place : Place) (r s : Active (PointOf x)) (rs : List (Active (PointOf x))) (b : Beside) → FrameFits x place r → s.values ≡ r.values → OuterFit x r.module rs
      → IsThread (heads x) b.id → WaitNames (heads x) wt → ThreadNames (heads x) (thread_of (control_of x) wt (s ∷ rs) b)
  thread_names wt place r s rs b f same outer id names =
      let own : FrameNames (heads x) (frame_of (control_of x) s) = subst (Each (IsValue (heads x))) (sym same) (values_name (heads x) (slots_of f.head) r.values f.values) in
      record { id = id; wait = names; values = each_reverse (FrameNames (heads x)) (map (frame_of (control_of x)) (s ∷ rs)) (own, outer_names r.module rs outer) }

  -- the module of the innermost frame has ended
  ended : (place : Place) (count : ℕ) (b : Beside) (r : Active (PointOf x)) (rs : List (Active (PointOf x))) → BesideFits (heads x) place count b → (f : FrameFits x place r) → OuterFit x r.module rs
      → length (r ∷ rs) ≤ MAX_FRAMES → place ≡ f.head.end → PointFits x place count b rs
  ended place count b r rs beside f outer few e =
      let at_end : end_of (heads x) r.module ≡ place = end_is (heads x) r.module f.head f.declared ∙ sym e in
      record { beside = beside; frames = subst (λ p. FramesFit x p rs) at_end (outer_run r.module rs outer); few = omega (arith, few) }

  -- ---- steps

  module _ (leads : LeadsToPoints x) (place : Place) (count : ℕ) where
    -- it goes on by on or other at a point that fits, or it has left the thread
    data Lands (on other : Beside → List (Active (PointOf x)) → Outcome) : Outcome → Outcome → Type 0 where
      goes : (d : Beside) (qs : List (Active (PointOf x))) → PointFits x place count d qs → Lands on other (on d qs) (other d qs)
      leaves : (o : Outcome) → LeavesStanding x place o → Lands on other o o

    ends_leave : (end : End) (b : Beside) (left : ℕ) → EndNames (heads x) end → BesideFits (heads x) place count b → LeavesStanding x place (ends end b left)
    ends_leave end b left names beside =
        let acts : Each (ActFits (heads x)) (b.around.acts ++ act.End b.id end ∷ []) = each_append (ActFits (heads x)) b.around.acts (act.End b.id end ∷ []) beside.around.acts ((beside.id, names), tt) in
        let around : AroundFits (heads x) place _ = record { acts = acts; declared = beside.around.declared; there = beside.around.there; board = beside.around.board } in
        (names, around)

    module _ (left : ℕ) (on other : Beside → List (Active (PointOf x)) → Outcome) where
      dies : (end : End) (b : Beside) → EndNames (heads x) end → BesideFits (heads x) place count b → Lands on other (ends end b left) (ends end b left)
      dies end b names beside = leaves (ends end b left) (ends_leave end b left names beside)

      -- the innermost frame, and the frames below it
      module _ (r : Active (PointOf x)) (rs : List (Active (PointOf x))) (b : Beside) (f : FrameFits x place r) (outer : OuterFit x r.module rs) (few : length (r ∷ rs) ≤ MAX_FRAMES)
          (beside : BesideFits (heads x) place count b) where
        -- a point of its module
        abbrev IsAt : PointOf x → Place → Type 0
        IsAt p q = PointIsAt x r.module f.head p q

        abbrev frame_at : ℕ → List Value → PointOf x → Active (PointOf x)
        frame_at k vs p = record r { stop = k; values = vs; at = p }

        -- it goes on with these values at this point
        goes_at : (k : ℕ) (vs : List Value) (p : PointOf x) (d : Beside) → ValuesFit (heads x) (slots_of f.head) vs → IsAt p place → BesideFits (heads x) place count d
            → Lands on other (on d (frame_at k vs p ∷ rs)) (other d (frame_at k vs p ∷ rs))
        goes_at k vs p d vals at bs =
            let frame : FrameFits x place (frame_at k vs p) = record { head = f.head; declared = f.declared; values = vals; at = at } in
            goes d (frame_at k vs p ∷ rs) (record { beside = bs; frames = (frame, outer); few = few })

        test_lands : (o : Option Value) (p q : PointOf x) → IsAt p place → IsAt q place → Lands on other (test_on left on o p q r rs b) (test_on left other o p q r rs b)
        test_lands None p q fp fq = dies (Div (here r)) b (is_point place r f) beside
        test_lands (Some a) p q fp fq = by (is_true (number_of a))
          where
            by : (c : Bool) → Lands on other (on b (record r { at = if c then p else q } ∷ rs)) (other b (record r { at = if c then p else q } ∷ rs))
            by true = goes_at r.stop r.values p b f.values fp beside
            by false = goes_at r.stop r.values q b f.values fq beside

        count_lands : (o : Option Value) (g : ℤ → PointOf x) → ((i : ℤ) → IsAt (g i) place) → Lands on other (count_on left on o g r rs b) (count_on left other o g r rs b)
        count_lands None g fg = dies (Div (here r)) b (is_point place r f) beside
        count_lands (Some a) g fg = goes_at r.stop r.values (g (number_of a)) b f.values (fg (number_of a)) beside

        act_lands : (p : PointOf x) (effect : Effect) → EffectFits (heads x) (slots_of f.head) place count place (λ wt. ⊥) (λ t. ⊥) effect → IsAt p place
            → Lands on other (effect_on (control_of x) left on effect p r rs b) (effect_on (control_of x) left other effect p r rs b)
        act_lands p (GoesOn now) e fp = goes_at r.stop now.values p now.beside e.0 fp e.1
        act_lands p (Waits wt) e fp = absurd e.0
        act_lands p (Leaves t) e fp = absurd e
        act_lands p (Dies end) e fp = dies end b e beside

        there_stands : (t : To) (q : Place) (a : ThreadAt) → LeadsTo t q → Stands x a q → StandsThere x a t
        there_stands (to.Sched s) q a e stands = subst (Stands x a) e stands
        there_stands (to.Others s) q a e stands = absurd e
        there_stands to.All q a e stands = absurd e
        there_stands to.Workers q a e stands = subst (Stands x a) e stands

        -- the thread at a stop that is reached, with a wait that the stop gives
        abbrev thread_at : Wait → ℕ → PointOf x → ThreadAt
        thread_at wt k p = thread_of (control_of x) wt (stopped r k p ∷ rs) b

        stop_stands : (k : ℕ) (pause : Pause) (p : PointOf x) (wt : Wait) → IsWaitOf pause wt → StopsAt x r.module f.head k (Pauses pause) p (place_after pause place)
            → Stands x (thread_at wt k p) (place_after pause place)
        stop_stands k pause p wt agrees s =
            thread_stands wt (stop_at (Pauses pause) p (place_after pause place)) (stopped r k p) rs b (frame_stands place (place_after pause place) r k (Pauses pause) p f s.0) agrees outer few

        stop_names : (k : ℕ) (p : PointOf x) (wt : Wait) → WaitNames (heads x) wt → ThreadNames (heads x) (thread_at wt k p)
        stop_names k p wt names = thread_names wt place r (stopped r k p) rs b f refl outer beside.id names

        hold_lands : (k : ℕ) (pause : Pause) (p : PointOf x) (effect : Effect) → EffectFits (heads x) (slots_of f.head) place count (place_after pause place) (IsWaitOf pause) (IsLeaveOf pause place) effect
            → StopsAt x r.module f.head k (Pauses pause) p (place_after pause place)
            → Lands on other (effect_on (control_of x) left on effect p (stopped r k p) rs b) (effect_on (control_of x) left other effect p (stopped r k p) rs b)
        hold_lands k pause p (GoesOn now) e s = goes_at k now.values p now.beside e.0 (subst (IsAt p) e.2 s.1) e.1
        hold_lands k pause p (Waits wt) e s =
            leaves (Held (thread_at wt k p) b.around left) (subst (Stands x (thread_at wt k p)) e.2 (stop_stands k pause p wt e.0 s), stop_names k p wt e.1, beside.around)
        hold_lands k pause p (Leaves t) e s =
            leaves (Left (thread_at New k p) t b.around left)
            (refl, there_stands t (place_after pause place) (thread_at New k p) e.0 (stop_stands k pause p New e.1 s), stop_names k p New tt, beside.around)
        hold_lands k pause p (Dies end) e s = dies end b e beside

        -- a `run` of module m, whose frame stands at stop k by now
        run_lands : (k : ℕ) (m : ModuleId) (p : PointOf x) (head : Signature) (o : Option (List Value)) → slice_get (heads x).modules m.0 ≡ Some head → begin_of (heads x) m ≡ place
            → ((vs : List Value) → o ≡ Some vs → ValuesFit (heads x) (kinds_of head.parameters) vs) → StopsAt x r.module f.head k (Calls m) p (end_of (heads x) m)
            → Lands on other (run_on (control_of x) left on o m (stopped r k p) rs b) (run_on (control_of x) left other o m (stopped r k p) rs b)
        run_lands k m p head None at begins all s = dies (Div (here (stopped r k p))) b (is_point place r f) beside
        run_lands k m p head (Some vs) at begins all s = by (nat_lt (length (r ∷ rs)) MAX_FRAMES) refl
          where
            by : (room : Bool) → nat_lt (length (r ∷ rs)) MAX_FRAMES ≡ room
                → Lands on other (if room then on b (begun_frame (control_of x) m vs b ∷ stopped r k p ∷ rs) else ends (Deep (here (stopped r k p))) b left)
                (if room then other b (begun_frame (control_of x) m vs b ∷ stopped r k p ∷ rs) else ends (Deep (here (stopped r k p))) b left)
            by true e =
                let frame : FrameFits x place (begun_frame (control_of x) m vs b) = record {
                  head = head;
                  declared = at;
                  values = first_values_fit (heads x) b.id m head vs beside.id at (all vs refl);
                  at = subst (PointIsAt x m head ((control x).start m)) begins (leads.starts m head at).there;
                } in
                let caller : FrameFits x (end_of (heads x) m) (stopped r k p) = record { head = f.head; declared = f.declared; values = f.values; at = s.1 } in
                goes b (begun_frame (control_of x) m vs b ∷ stopped r k p ∷ rs) (record {
                  beside = beside;
                  frames = (
                    frame,
                    ((stop_at (Calls m) p (end_of (heads x) m), frame_stands place (end_of (heads x) m) r k (Calls m) p f s.0, refl), caller, outer),
                  );
                  few = omega (arith, ltb-true (length (r ∷ rs)) MAX_FRAMES e);
                })
            by false e = dies (Deep (here (stopped r k p))) b (is_point place r f) beside

        next_lands : (next : Next (PointOf x)) → NextFits (heads x) (slots_of f.head) place next → LeadsAt x r.module f.head place next
            → Lands on other (step (control_of x) left on next r rs b) (step (control_of x) left other next r rs b)
        next_lands Finish e s = goes b rs (ended place count b r rs beside f outer few s)
        next_lands Stuck e s = absurd e
        next_lands (Acts action p) e s =
            act_lands p (did (heads x) action (here r) r.values b) (did_fits (heads x) (slots_of f.head) place count (here r) r.values b (is_point place r f) f.values beside action e) s
        next_lands (Advances p) e s = goes_at r.stop r.values p b f.values s beside
        next_lands (Tests test p q) e s = test_lands (eval (heads x) r.values b test) p q s.0 s.1
        next_lands (Counts count g) e s = count_lands (eval (heads x) r.values b count) g s
        next_lands (Holds k pause p) e s =
            hold_lands k pause p (begun (heads x) pause (here (stopped r k p)) r.values b)
            (begun_fits (heads x) (slots_of f.head) place count (here (stopped r k p)) r.values b (is_point place r f) f.values beside pause e) s
        next_lands (Runs k m arguments p) e s =
            run_lands k m p e.1.0 (eval_all (heads x) r.values b arguments) e.1.1 e.0
            (all_of (eval_all (heads x) r.values b arguments) (eval_all_fits (heads x) (slots_of f.head) place r.values b f.values beside.id (kinds_of e.1.0.parameters) arguments e.1.2)) s
          where
            all_of : (o : Option (List Value)) → IfThere (ValuesFit (heads x) (kinds_of e.1.0.parameters)) o → (vs : List Value) → o ≡ Some vs → ValuesFit (heads x) (kinds_of e.1.0.parameters) vs
            all_of o is vs same = subst (IfThere (ValuesFit (heads x) (kinds_of e.1.0.parameters))) same is

    -- a step from a point that fits
    step_lands : (left : ℕ) (on other : Beside → List (Active (PointOf x)) → Outcome) (b : Beside) (rs : List (Active (PointOf x))) → PointFits x place count b rs
        → Lands on other (step_on (control_of x) left on b rs) (step_on (control_of x) left other b rs)
    step_lands left on other b [] f = dies (suc left) on other Done b tt f.beside
    step_lands left on other b (r ∷ rs) f =
        let frame = f.frames.0 in
        let next = leads.next r.module frame.head r.at place frame.declared frame.at in
        next_lands left on other r rs b frame f.frames.1 f.few f.beside ((control x).next r.module r.at) next.0 next.1

    land_same : (on other : Beside → List (Active (PointOf x)) → Outcome) (o u : Outcome) → ((d : Beside) (qs : List (Active (PointOf x))) → PointFits x place count d qs → on d qs ≡ other d qs)
        → Lands on other o u → o ≡ u
    land_same on other o u same (goes d qs f) = same d qs f
    land_same on other o u same (leaves v f) = refl

    land_leaves : (on other : Beside → List (Active (PointOf x)) → Outcome) (o u : Outcome) → ((d : Beside) (qs : List (Active (PointOf x))) → PointFits x place count d qs → LeavesStanding x place (on d qs))
        → Lands on other o u → LeavesStanding x place o
    land_leaves on other o u leave (goes d qs f) = leave d qs f
    land_leaves on other o u leave (leaves v f) = f

    -- ---- frames that have not ended

    live_one : (b : Beside) (m : ModuleId) (head : Signature) (next : Next (PointOf x)) (ls rs : List (Active (PointOf x))) → LeadsAt x m head place next
        → (place ≡ head.end → PointFits x place count b ls) → PointFits x place count b rs → PointFits x place count b (if_finish next ls rs)
    live_one b m head Finish ls rs e f g = f e
    live_one b m head Stuck ls rs e f g = g
    live_one b m head (Acts action p) ls rs e f g = g
    live_one b m head (Advances p) ls rs e f g = g
    live_one b m head (Tests test p q) ls rs e f g = g
    live_one b m head (Counts count c) ls rs e f g = g
    live_one b m head (Holds k pause p) ls rs e f g = g
    live_one b m head (Runs k called arguments p) ls rs e f g = g

    pub live_point : (b : Beside) (rs : List (Active (PointOf x))) → PointFits x place count b rs → PointFits x place count b (live (control_of x) rs)
    live_point b [] f = f
    live_point b (r ∷ rs) f =
        let frame = f.frames.0 in
        live_one b r.module frame.head ((control x).next r.module r.at) (live (control_of x) rs) (r ∷ rs) (leads.next r.module frame.head r.at place frame.declared frame.at).1
        (λ e. live_point b rs (ended place count b r rs f.beside frame f.frames.1 f.few e)) f

    -- ---- runs

    front_fits : (b : Beside) (rs : List (Active (PointOf x))) → PointFits x place count b rs → FrontFits x place rs
    front_fits b [] f = tt
    front_fits b (r ∷ rs) f =
        let frame = f.frames.0 in
        (frame.head, frame.declared, frame.values, (leads.next r.module frame.head r.at place frame.declared frame.at).0)

    -- what comes next at a point that fits
    pub next_there : (b : Beside) (rs : List (Active (PointOf x))) → PointFits x place count b rs → FrontFits x place (live (control_of x) rs)
    next_there b rs f = front_fits b (live (control_of x) rs) (live_point b rs f)

    -- a step from a point that fits goes on only at points that fit
    pub goes_only : (b : Beside) (rs : List (Active (PointOf x))) → PointFits x place count b rs → GoesOnlyTo (control_of x) (PointFits x place count) b rs
    goes_only b rs f left on other same =
        land_same on other (step_on (control_of x) left on b (live (control_of x) rs)) (step_on (control_of x) left other b (live (control_of x) rs)) same
        (step_lands left on other b (live (control_of x) rs) (live_point b rs f))

    pub no_step_leaves : (b : Beside) (rs : List (Active (PointOf x))) → PointFits x place count b rs → LeavesStanding x place (no_step b rs)
    no_step_leaves b [] f = ends_leave Done b 0 tt f.beside
    no_step_leaves b (r ∷ rs) f = ends_leave (Over (here r)) b 0 (is_point place r f.frames.0) f.beside

    pub going_leaves : (left : ℕ) (b : Beside) (rs : List (Active (PointOf x))) → PointFits x place count b rs → LeavesStanding x place (going (control_of x) left b rs)
    going_leaves zero b rs f = no_step_leaves b (live (control_of x) rs) (live_point b rs f)
    going_leaves (suc left) b rs f =
        let on = going (control_of x) left in
        let next = step_on (control_of x) left on b (live (control_of x) rs) in
        land_leaves on on next next (λ d qs g. going_leaves left d qs g) (step_lands left on on b (live (control_of x) rs) (live_point b rs f))
