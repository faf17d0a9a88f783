-- The code of a program does what the program does.
use Rattle.std.proofs.Common.{◌≡◌, ℕ, zero, suc, ◌+◌, ◌<◌, ◌⊎◌, inl, inr, List, [], ◌∷◌, ◌++◌, length, map, reverse, Some, None, slice_get, refl, sym, ap, ◌∙◌, subst, unwrap_or}
use Rattle.std.proofs.lemmas.Option.{slice_get_within}
use Rattle.loft_base.specs.declared.ids.ModuleId.{ModuleId}
use Rattle.loft_tree.specs.declared.heads.Place.{Place}
use Rattle.loft_tree.specs.declared.heads.Heads.{Heads}
use Rattle.loft_tree.specs.Fits.{Each}
use Rattle.loft_tree.specs.Resolved.{Step, Do, Hold, Call, Choose, Loop, Times, Body, Empty, Then, Resolved}
use Rattle.loft_code.specs.Operations.{Line}
use Rattle.loft_orders.specs.declared.thread.Frame.{Frame}
use Rattle.loft_orders.specs.declared.thread.Thread.{Thread}
use Rattle.loft_orders.specs.declared.thread.Wait.{Wait}
use Rattle.loft_sense.specs.Around.{Around}
use Rattle.loft_sense.specs.Machine.{Tree}
use Rattle.loft_sense.specs.Run.{point_of, active_of, go}
use Rattle.loft_sense.specs.Tree.{Work, body_then, next_work, body_at, stop_at, pause_of_step, after_body, after, tree}
use Rattle.loft_sense.specs.Code.{Point, point, next_point, lines_at, stop_from, after_or_past, pause_in, code}
use Rattle.loft_sense.specs.Stands.{StopAt, begin_of, leads_step, stop_in, program_stop, FrameStands, OuterStand, FramesStand, Stands}
use Rattle.loft_translation.specs.Compiled.{step_lines, body_lines, compiled}
use Rattle.loft_translation.specs.Implements.{Implements}
use Rattle.loft_translation.specs.Whole.{StepIsWhole, BodyIsWhole, IsWhole}
use Rattle.loft_translation.proofs.Same.{NextAgrees, next_map, FramesAgree, no_frame, one_more, ControlsAgree, same_go}
use Rattle.loft_translation.proofs.Simulation.{RunsOnly, StandsFor, next_same}
use Rattle.loft_translation.proofs.Modules.{within_some, code_of, module_start, module_pause, module_goes, lines_are, no_lines, body_is, body_or_not}
use Rattle.loft_translation.proofs.StandLemmas.{same_stops, whole_body, has_body, same_stands}

-- ---- which modules code runs

each_append : {A : Type 0} (P : A → Type 0) (xs ys : List A) → Each P xs → Each P ys → Each P (xs ++ ys)
each_append P [] ys f g = g
each_append P (x ∷ xs) ys f g = (f.0, each_append P xs ys f.1 g)

each_at : {A : Type 0} (P : A → Type 0) (xs : List A) (k : ℕ) (x : A) → Each P xs → slice_get xs k ≡ Some x → P x
each_at P [] k x all at = absurd cc
each_at P (y ∷ ys) zero x all at = let same : y ≡ x = cc in subst P same all.0
each_at P (y ∷ ys) (suc k) x all at = each_at P ys k x all.1 at

-- h: what the program declares; n: how many modules there are
module _ (h : Heads) (n : ℕ) where
  -- one of the modules
  abbrev IsOne : ModuleId → Type 0
  IsOne m = m.0 < n

  abbrev RunsThem : Line → Type 0
  RunsThem l = RunsOnly IsOne l.operation

  mutual
    step_runs : (s : Step) (p d : ℕ) (here : Place) → StepIsWhole h n s here → Each RunsThem (step_lines h s p d here)
    step_runs (Do action) p d here whole = (tt, tt)
    step_runs (Hold k pause) p d here whole = (tt, tt)
    step_runs (Call k m arguments) p d here whole = (whole, tt)
    step_runs (Choose test x Empty) p d here whole = (tt, body_runs x (p + 1) d here whole.0)
    step_runs (Choose test x (Then s y)) p d here whole =
        let xs = body_lines h x (p + 1) d here in
        (tt, each_append RunsThem xs _ (body_runs x (p + 1) d here whole.0) (tt, body_runs (Then s y) (p + 1 + length xs + 1) d here whole.1))
    step_runs (Loop test x) p d here whole =
        (tt, (tt, each_append RunsThem (body_lines h x (p + 1 + 1) d here) _ (body_runs x (p + 1 + 1) d here whole) (tt, tt)))
    step_runs (Times count x) p d here whole =
        (tt, (tt, each_append RunsThem (body_lines h x (p + 1 + 1) (d + 1) here) _ (body_runs x (p + 1 + 1) (d + 1) here whole) (tt, tt)))

    body_runs : (b : Body) (p d : ℕ) (here : Place) → BodyIsWhole h n b here → Each RunsThem (body_lines h b p d here)
    body_runs Empty p d here whole = tt
    body_runs (Then s b) p d here whole =
        let first = step_lines h s p d here in
        each_append RunsThem first _ (step_runs s p d here whole.0) (body_runs b (p + length first) d (leads_step h s here) whole.1)

  code_runs : (b : Body) (here : Place) → BodyIsWhole h n b here → (q : ℕ) (l : Line) → slice_get (code_of h b here) q ≡ Some l → RunsThem l
  code_runs b here whole q l e = each_at RunsThem (code_of h b here) q l (each_append RunsThem (body_lines h b 0 0 here) _ (body_runs b 0 0 here whole) (tt, tt)) e

-- ---- the controls agree

module _ (p : Resolved) (whole : IsWhole p) where
  -- in module m, which has a body, the point stands for the work that is left
  abbrev IsIn : ModuleId → List Work → Point → Type 0
  IsIn m w q = (b : Body) × (slice_get p.bodies m.0 ≡ Some b) × StandsFor (code_of p.heads b (begin_of p.heads m)) p.heads w q

  start_in : (m : ModuleId) → IsOne p.heads (length p.bodies) m → IsIn m (body_then (body_at p m) []) (point 0 [])
  start_in m is =
      let body = within_some p.bodies m.0 is in
      let here = begin_of p.heads m in
      (body.0, body.1, subst (λ b. StandsFor (code_of p.heads body.0 here) p.heads (body_then b []) (point 0 [])) (sym (body_is p m body.0 body.1)) (module_start p.heads body.0 here))

  pause_same : (m : ModuleId) (k : ℕ) → (tree p).pause m k ≡ (code (compiled p)).pause m k
  pause_same m zero = refl
  pause_same m (suc k) = by (body_or_not p m)
    where
      by : ((b : Body) × (slice_get p.bodies m.0 ≡ Some b)) ⊎ (slice_get p.bodies m.0 ≡ None) → pause_of_step (stop_at (body_at p m) (suc k)) ≡ pause_in (lines_at (compiled p) m) (suc k)
      by (inl (b, e)) =
          ap (λ x. pause_of_step (stop_at x (suc k))) (body_is p m b e)
          ∙ sym (module_pause p.heads b (begin_of p.heads m) (length p.bodies) (whole_body p whole m b e) (suc k) [])
          ∙ ap (λ ls. pause_in ls (suc k)) (sym (lines_are p m b e))
      by (inr e) = ap (λ o. pause_of_step (stop_at (unwrap_or o Empty) (suc k))) e ∙ ap (λ ls. pause_in ls (suc k)) (sym (no_lines p m e))

  next_in : (m : ModuleId) (w : List Work) (q : Point) → IsIn m w q → NextAgrees (IsOne p.heads (length p.bodies)) (IsIn m) (next_work w) (next_point (lines_at (compiled p) m) q)
  next_in m w q is =
      let here = begin_of p.heads m in
      let ls = code_of p.heads is.0 here in
      let runs = code_runs p.heads (length p.bodies) is.0 here (whole_body p whole m is.0 is.1) in
      subst (λ ks. NextAgrees (IsOne p.heads (length p.bodies)) (IsIn m) (next_work w) (next_point ks q)) (sym (lines_are p m is.0 is.1))
      (next_map (λ v r stands. (is.0, is.1, stands)) (next_same ls p.heads (IsOne p.heads (length p.bodies)) runs w q is.2))

  agree : ControlsAgree (tree p) (code (compiled p)) (IsOne p.heads (length p.bodies)) IsIn
  agree = record {
    heads = refl;
    start = start_in;
    pause = pause_same;
    counts = λ m w q is. ap reverse (sym is.2.counts);
    next = next_in;
  }

  -- ---- a thread that stands goes on at related points

  resume_in : (f : Frame) (k : ℕ) (at : StopAt) (b : Body) → slice_get p.bodies f.module.0 ≡ Some b → program_stop (Tree p) f.module k ≡ Some at → length f.counts ≡ at.depth
      → IsIn f.module (point_of (tree p) f k) (point_of (code (compiled p)) f k)
  resume_in f zero at b e stop same = start_in f.module (slice_get_within p.bodies f.module.0 b e)
  resume_in f (suc k) at b e stop same =
      let m = f.module in
      let here = begin_of p.heads m in
      let ls = code_of p.heads b here in
      let there = ap (λ x. stop_in p.heads x (suc k) 0 here) (sym (body_is p m b e)) ∙ stop in
      let goes = module_goes p.heads b here (length p.bodies) (whole_body p whole m b e) (suc k) f.counts at there same in
      let by_body = subst (λ x. StandsFor ls p.heads (unwrap_or (after_body x (suc k) f.counts []) []) (point (after_or_past (stop_from 0 ls (suc k)) ls) (reverse f.counts))) (sym (body_is p m b e)) goes in
      (b, e, subst (λ ks. StandsFor ls p.heads (after p m (suc k) f.counts) (point (after_or_past (stop_from 0 ks (suc k)) ks) (reverse f.counts))) (sym (lines_are p m b e)) by_body)

  frame_in : (f : Frame) (at : StopAt) → FrameStands (Tree p) f at → IsIn f.module (point_of (tree p) f f.stop) (point_of (code (compiled p)) f f.stop)
  frame_in f at stands =
      let body = has_body p whole f.module f.values stands.values in
      resume_in f f.stop at body.0 body.1 stands.stop stands.counts

  outer_in : (m : ModuleId) (fs : List Frame) → OuterStand (Tree p) m fs → FramesAgree IsIn (map (active_of (tree p)) fs) (map (active_of (code (compiled p))) fs)
  outer_in m [] stands = no_frame
  outer_in m (f ∷ fs) stands = one_more (frame_in f stands.0.0 stands.0.1) (outer_in f.module fs stands.1)

  frames_in : (w : Wait) (place : Place) (fs : List Frame) → FramesStand (Tree p) w place fs → FramesAgree IsIn (map (active_of (tree p)) fs) (map (active_of (code (compiled p))) fs)
  frames_in w place [] stands = absurd stands
  frames_in w place (f ∷ fs) stands = one_more (frame_in f stands.0.0 stands.0.1) (outer_in f.module fs stands.1)

  same_goes : (t : Thread) (place : Place) → Stands (Tree p) t place → (around : Around) (left : ℕ) → go (code (compiled p)) t around left ≡ go (tree p) t around left
  same_goes t place stands around left =
      sym (same_go (tree p) (code (compiled p)) (IsOne p.heads (length p.bodies)) IsIn agree t around left (frames_in t.wait place (reverse t.frames) stands.frames))

pub implements : (p : Resolved) → IsWhole p → Implements (compiled p) p
implements p whole = record { heads = refl; stops = same_stops p; stands = same_stands p whole; goes = same_goes p whole }
