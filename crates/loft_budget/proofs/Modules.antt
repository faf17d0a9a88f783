-- A run keeps the outermost module of its thread.
use Rattle.std.proofs.Common.{◌≡◌, ℕ, zero, suc, Bool, true, false, List, [], ◌∷◌, ◌++◌, map, length, reverse, Option, Some, None, refl, sym, ap, ◌∙◌, subst}
use Rattle.std.specs.Prelude.{ℤ, if◌then◌else◌, nat_lt}
use Rattle.std.proofs.lemmas.List.{reverse-append, reverse-reverse}
use Rattle.loft_base.specs.declared.ids.ModuleId.{ModuleId}
use Rattle.loft_base.specs.declared.ids.Value.{Value}
use Rattle.loft_sense.specs.declared.limits.TheConstants.{MAX_FRAMES}
use Rattle.loft_orders.specs.declared.thread.Frame.{Frame}
use Rattle.loft_orders.specs.declared.thread.Thread.{Thread}
use Rattle.loft_orders.specs.declared.thread.Wait.{Wait}
use Rattle.loft_orders.specs.declared.thread.Wait.TheVariants.{New}
use Rattle.loft_sense.specs.Machine.{Prog, Tree, Code}
use Rattle.loft_sense.specs.Around.{Around, Beside}
use Rattle.loft_sense.specs.Eval.{eval, eval_all, number_of, is_true}
use Rattle.loft_sense.specs.Statements.{Effect, GoesOn, Waits, Leaves, Dies, did, begun, answered}
use Rattle.loft_sense.specs.Run.{Next, Finish, Stuck, Acts, Advances, Tests, Counts, Holds, Runs, Control, Active, Outcome, Held, Left, Ended, if_finish, live, frame_of, thread_of, effect_on, test_on, count_on, run_on, begun_frame, stopped, step, step_on, no_step, going, go_on, go, here, beside, active_of, actives_of}
use Rattle.loft_sense.specs.Tree.{tree}
use Rattle.loft_sense.specs.Code.{code}
use Rattle.loft_sense.specs.Passes.{run_of}
use Rattle.loft_budget.specs.Bounds.{outermost}

-- the module of the first frame, or of the last of these that run, or else this one
abbrev first_or : ModuleId → List Frame → ModuleId
first_or d [] = d
first_or d (f ∷ fs) = f.module

abbrev bottom : {A : Type 0} → ModuleId → List (Active A) → ModuleId
bottom d [] = d
bottom d (r ∷ rs) = bottom r.module rs

first_after : (d : ModuleId) (fs : List Frame) (f : Frame) → first_or d (fs ++ f ∷ []) ≡ first_or f.module fs
first_after d [] f = refl
first_after d (g ∷ fs) f = refl

-- outermost of frames that are kept innermost first
first_reversed : {A : Type 0} (c : Control A) (d : ModuleId) (rs : List (Active A)) → first_or d (reverse (map (frame_of c) rs)) ≡ bottom d rs
first_reversed c d [] = refl
first_reversed c d (r ∷ rs) =
    ap (first_or d) (reverse-append (frame_of c r ∷ []) (map (frame_of c) rs)) ∙ first_after d (reverse (map (frame_of c) rs)) (frame_of c r) ∙ first_reversed c r.module rs

first_back : {A : Type 0} (c : Control A) (d : ModuleId) (fs : List Frame) → bottom d (map (active_of c) fs) ≡ first_or d (reverse fs)
first_back c d [] = refl
first_back c d (f ∷ fs) = first_back c f.module fs ∙ sym (ap (first_or d) (reverse-append (f ∷ []) fs) ∙ first_after d (reverse fs) f)

outermost_is : (d : ModuleId) (f : Frame) (fs all : List Frame) (m : ModuleId) → all ≡ f ∷ fs → first_or d all ≡ m → outermost all ≡ Some m
outermost_is d f fs all m e g = subst (λ (gs : List Frame). first_or d gs ≡ m → outermost gs ≡ Some m) (sym e) (λ h. ap Some h) g

-- some frames are kept, and then the last of them
split_last : (f : Frame) (fs : List Frame) → (g : Frame) × (gs : List Frame) × (fs ++ f ∷ [] ≡ g ∷ gs)
split_last f [] = (f, [], refl)
split_last f (g ∷ fs) = (g, fs ++ f ∷ [], refl)

kept_outermost : {A : Type 0} (c : Control A) (w : Wait) (r : Active A) (rs : List (Active A)) (b : Beside) → outermost (thread_of c w (r ∷ rs) b).frames ≡ Some (bottom r.module rs)
kept_outermost c w r rs b =
    let s = split_last (frame_of c r) (reverse (map (frame_of c) rs)) in
    outermost_is r.module s.0 s.1 (reverse (map (frame_of c) (r ∷ rs))) (bottom r.module rs) (reverse-append (frame_of c r ∷ []) (map (frame_of c) rs) ∙ s.2) (first_reversed c r.module (r ∷ rs))

module _ (m : ModuleId) where
  -- the last of the frames is of this module, where there is one
  abbrev IsOver : {A : Type 0} → List (Active A) → Type 0
  IsOver [] = Unit {0}
  IsOver (r ∷ rs) = bottom r.module rs ≡ m

  abbrev pub KeepsModule : Outcome → Type 0
  KeepsModule (Held t around left) = outermost t.frames ≡ Some m
  KeepsModule (Left t to around left) = outermost t.frames ≡ Some m
  KeepsModule (Ended end around left) = Unit {0}

  module _ {A : Type 0} (c : Control A) where
    abbrev On : (Beside → List (Active A) → Outcome) → Type 0
    On on = (b : Beside) (rs : List (Active A)) → IsOver rs → KeepsModule (on b rs)

    outer : (r : Active A) (rs : List (Active A)) → IsOver (r ∷ rs) → IsOver rs
    outer r [] e = tt
    outer r (q ∷ rs) e = e

    live_is : (rs : List (Active A)) → IsOver rs → IsOver (live c rs)
    live_is [] e = tt
    live_is (r ∷ rs) e = by (c.next r.module r.at) (live_is rs (outer r rs e))
      where
        by : (x : Next A) → IsOver (live c rs) → IsOver (if_finish x (live c rs) (r ∷ rs))
        by Finish h = h
        by Stuck h = e
        by (Acts action p) h = e
        by (Advances p) h = e
        by (Tests test p q) h = e
        by (Counts count f) h = e
        by (Holds k pause p) h = e
        by (Runs k n arguments p) h = e

    none_is : (b : Beside) (rs : List (Active A)) → KeepsModule (no_step b rs)
    none_is b [] = tt
    none_is b (r ∷ rs) = tt

    effect_is : (left : ℕ) (on : Beside → List (Active A) → Outcome) → On on → (effect : Effect) (p : A) (r : Active A) (rs : List (Active A)) (b : Beside) → IsOver (r ∷ rs) → KeepsModule (effect_on c left on effect p r rs b)
    effect_is left on h (GoesOn now) p r rs b e = h now.beside (record r { values = now.values; at = p } ∷ rs) e
    effect_is left on h (Waits wait) p r rs b e = kept_outermost c wait (record r { at = p }) rs b ∙ ap Some e
    effect_is left on h (Leaves to) p r rs b e = kept_outermost c New (record r { at = p }) rs b ∙ ap Some e
    effect_is left on h (Dies end) p r rs b e = tt

    test_is : (left : ℕ) (on : Beside → List (Active A) → Outcome) → On on → (v : Option Value) (p q : A) (r : Active A) (rs : List (Active A)) (b : Beside) → IsOver (r ∷ rs) → KeepsModule (test_on left on v p q r rs b)
    test_is left on h None p q r rs b e = tt
    test_is left on h (Some v) p q r rs b e = h b (record r { at = if is_true (number_of v) then p else q } ∷ rs) e

    count_is : (left : ℕ) (on : Beside → List (Active A) → Outcome) → On on → (v : Option Value) (f : ℤ → A) (r : Active A) (rs : List (Active A)) (b : Beside) → IsOver (r ∷ rs) → KeepsModule (count_on left on v f r rs b)
    count_is left on h None f r rs b e = tt
    count_is left on h (Some v) f r rs b e = h b (record r { at = f (number_of v) } ∷ rs) e

    chosen : (room : Bool) (v w : Outcome) → KeepsModule v → KeepsModule w → KeepsModule (if room then v else w)
    chosen true v w f g = f
    chosen false v w f g = g

    run_is : (left : ℕ) (on : Beside → List (Active A) → Outcome) → On on → (arguments : Option (List Value)) (n : ModuleId) (r : Active A) (rs : List (Active A)) (b : Beside) → IsOver (r ∷ rs) → KeepsModule (run_on c left on arguments n r rs b)
    run_is left on h None n r rs b e = tt
    run_is left on h (Some arguments) n r rs b e = chosen (nat_lt (length (r ∷ rs)) MAX_FRAMES) (on b (begun_frame c n arguments b ∷ r ∷ rs)) _ (h b (begun_frame c n arguments b ∷ r ∷ rs) e) tt

    step_is : (left : ℕ) (on : Beside → List (Active A) → Outcome) → On on → (x : Next A) (r : Active A) (rs : List (Active A)) (b : Beside) → IsOver (r ∷ rs) → KeepsModule (step c left on x r rs b)
    step_is left on h Finish r rs b e = h b rs (outer r rs e)
    step_is left on h Stuck r rs b e = h b rs (outer r rs e)
    step_is left on h (Acts action p) r rs b e = effect_is left on h (did c.heads action (here r) r.values b) p r rs b e
    step_is left on h (Advances p) r rs b e = h b (record r { at = p } ∷ rs) e
    step_is left on h (Tests test p q) r rs b e = test_is left on h (eval c.heads r.values b test) p q r rs b e
    step_is left on h (Counts count f) r rs b e = count_is left on h (eval c.heads r.values b count) f r rs b e
    step_is left on h (Holds k pause p) r rs b e = effect_is left on h (begun c.heads pause (here (stopped r k p)) r.values b) p (stopped r k p) rs b e
    step_is left on h (Runs k n arguments p) r rs b e = run_is left on h (eval_all c.heads r.values b arguments) n (stopped r k p) rs b e

    on_is : (left : ℕ) (on : Beside → List (Active A) → Outcome) → On on → On (step_on c left on)
    on_is left on h b [] e = tt
    on_is left on h b (r ∷ rs) e = step_is left on h (c.next r.module r.at) r rs b e

    going_is : (n : ℕ) → On (going c n)
    going_is zero b rs e = none_is b (live c rs)
    going_is (suc left) b rs e = on_is left (going c left) (going_is left) b (live c rs) (live_is rs e)

    go_on_is : (n : ℕ) (w : Wait) → On (go_on c n w)
    go_on_is zero w b rs e = none_is b rs
    go_on_is (suc left) w b [] e = going_is left b [] tt
    go_on_is (suc left) w b (r ∷ rs) e =
        let now = answered c.heads (c.pause r.module r.stop) w r.values b in
        going_is left now.beside (record r { values = now.values } ∷ rs) e

    bottom_is : (fs : List Frame) → outermost (reverse fs) ≡ Some m → IsOver (map (active_of c) fs)
    bottom_is [] e = tt
    bottom_is (f ∷ fs) e = first_back c f.module fs ∙ by (reverse fs) (sym (ap outermost (reverse-append (f ∷ []) fs)) ∙ e)
      where
        by : (gs : List Frame) → outermost (gs ++ f ∷ []) ≡ Some m → first_or f.module gs ≡ m
        by [] g = cc
        by (h ∷ gs) g = cc

    actives_are : (t : Thread) → outermost t.frames ≡ Some m → IsOver (actives_of c t)
    actives_are t e = bottom_is (reverse t.frames) (ap outermost (reverse-reverse t.frames) ∙ e)

  -- the outermost module of a thread is that with which it began
  run_keeps_module : (x : Prog) (t : Thread) (around : Around) (left : ℕ) → outermost t.frames ≡ Some m → KeepsModule (run_of x t around left)
  unfolding go
  run_keeps_module (Tree p) t around left e = go_on_is (tree p) left t.wait (beside t around) (actives_of (tree p) t) (actives_are (tree p) t e)
  run_keeps_module (Code c) t around left e = go_on_is (code c) left t.wait (beside t around) (actives_of (code c) t) (actives_are (code c) t e)

-- ---- in words of the thread alone

abbrev pub KeepsOutermost : Option ModuleId → Outcome → Type 0
KeepsOutermost o (Held t around left) = outermost t.frames ≡ o
KeepsOutermost o (Left t to around left) = outermost t.frames ≡ o
KeepsOutermost o (Ended end around left) = Unit {0}

as_option : (m : ModuleId) (o : Outcome) → KeepsModule m o → KeepsOutermost (Some m) o
as_option m (Held t around left) h = h
as_option m (Left t to around left) h = h
as_option m (Ended end around left) h = tt

-- a thread without frames ends
no_frames : {A : Type 0} (c : Control A) (n : ℕ) (w : Wait) (b : Beside) → KeepsOutermost None (go_on c n w b [])
no_frames c zero w b = tt
no_frames c (suc zero) w b = tt
no_frames c (suc (suc n)) w b = tt

none_to_go : {A : Type 0} (c : Control A) (t : Thread) → t.frames ≡ [] → actives_of c t ≡ []
none_to_go c t e = ap (λ (fs : List Frame). map (active_of c) (reverse fs)) e

without : (x : Prog) (t : Thread) (around : Around) (left : ℕ) → t.frames ≡ [] → KeepsOutermost None (run_of x t around left)
unfolding go
without (Tree p) t around left e =
    subst (λ (rs : List (Active _)). KeepsOutermost None (go_on (tree p) left t.wait (beside t around) rs)) (sym (none_to_go (tree p) t e)) (no_frames (tree p) left t.wait (beside t around))
without (Code c) t around left e =
    subst (λ (rs : List (Active _)). KeepsOutermost None (go_on (code c) left t.wait (beside t around) rs)) (sym (none_to_go (code c) t e)) (no_frames (code c) left t.wait (beside t around))

pub run_keeps_outermost : (x : Prog) (t : Thread) (around : Around) (left : ℕ) → KeepsOutermost (outermost t.frames) (run_of x t around left)
run_keeps_outermost x t around left = by t.frames refl
  where
    by : (fs : List Frame) → t.frames ≡ fs → KeepsOutermost (outermost fs) (run_of x t around left)
    by [] e = without x t around left e
    by (f ∷ fs) e = as_option f.module (run_of x t around left) (run_keeps_module f.module x t around left (ap outermost e))
