-- The same threads stand in a program and in its code: they have as many stops, and each is the same in both.
use Rattle.std.proofs.Common.{◌≡◌, ℕ, zero, suc, ◌+◌, inl, inr, false, List, [], ◌∷◌, ◌++◌, length, reverse, Option, Some, None, slice_get, refl, sym, ap, ◌∙◌, subst, arith, count_by, cond, add-zero, ◌⊎◌, unwrap_or}
use Rattle.std.proofs.lemmas.List.Sums.{sum_by-append}
use Rattle.std.proofs.lemmas.Option.{slice_get_within}
use Rattle.loft_base.specs.declared.ids.ModuleId.{ModuleId}
use Rattle.loft_base.specs.declared.ids.Value.{Value}
use Rattle.loft_tree.specs.declared.heads.Place.{Place}
use Rattle.loft_tree.specs.declared.heads.Signature.{Signature}
use Rattle.loft_tree.specs.declared.heads.Heads.{Heads}
use Rattle.loft_tree.specs.Resolved.{Step, Do, Hold, Call, Choose, Loop, Times, Body, Empty, Then, Resolved}
use Rattle.loft_code.specs.Operations.{Line}
use Rattle.loft_code.specs.Operations as op
use Rattle.loft_code.specs.Valid.{is_stop}
use Rattle.loft_orders.specs.declared.thread.Frame.{Frame}
use Rattle.loft_orders.specs.declared.thread.Thread.{Thread}
use Rattle.loft_orders.specs.declared.thread.Wait.{Wait}
use Rattle.loft_sense.specs.Machine.{Prog, Tree, Code}
use Rattle.loft_sense.specs.Tree.{body_at}
use Rattle.loft_sense.specs.Code.{lines_at}
use Rattle.loft_sense.specs.Stands.{StopAt, begin_of, leads_step, leads, stop_in, line_stop, program_stop, ValuesAgree, FrameStands, OuterStand, FramesStand, Stands}
use Rattle.loft_soundness.specs.Numbered.{stops_in, body_stops}
use Rattle.loft_translation.specs.Compiled.{line, again_lines, turn_lines, step_lines, body_lines, compiled}
use Rattle.loft_translation.specs.Implements.{IsSame}
use Rattle.loft_translation.specs.Whole.{BodyIsWhole, IsWhole}
use Rattle.loft_translation.proofs.Modules.{within_some, code_of, module_begin, module_stop, lines_are, no_lines, body_is, body_or_not}

-- ---- how many stops there are

sum_same : {a b c d : ℕ} → a ≡ b → c ≡ d → a + c ≡ b + d
sum_same e f = omega (arith, e, f)

abbrev stops : List Line → ℕ
stops ls = count_by is_stop ls

stops_parts : (a b : List Line) → stops (a ++ b) ≡ stops a + stops b
stops_parts a b = sum_by-append (λ l. cond (is_stop l) 1 0) a b

stops_after : (l : Line) (ls : List Line) → is_stop l ≡ false → stops (l ∷ ls) ≡ stops ls
stops_after l ls e =
    let alone : stops (l ∷ []) ≡ 0 = ap (λ b. 0 + cond b 1 0) e in
    omega (arith, stops_parts (l ∷ []) ls, alone)

-- past an operation that is no stop, of two bodies with one between them
stops_between : (first between : Line) (a b : List Line) → is_stop first ≡ false → is_stop between ≡ false → stops (first ∷ (a ++ between ∷ b)) ≡ stops a + stops b
stops_between first between a b e f =
    omega (arith, stops_after first (a ++ between ∷ b) e, stops_parts a (between ∷ b), stops_after between b f)

module _ (h : Heads) where
  mutual
    step_counted : (s : Step) (p d : ℕ) (here : Place) → stops (step_lines h s p d here) ≡ stops_in s
    step_counted (Do action) p d here = refl
    step_counted (Hold k pause) p d here = refl
    step_counted (Call k m arguments) p d here = refl
    step_counted (Choose test x Empty) p d here =
        let xs = body_lines h x (p + 1) d here in
        stops_after (line here d (op.Branch (p + 1 + length xs) test)) xs refl ∙ body_counted x (p + 1) d here ∙ sym (add-zero (body_stops x))
    step_counted (Choose test x (Then s y)) p d here =
        let xs = body_lines h x (p + 1) d here in
        let t = p + 1 + length xs + 1 in
        let ys = body_lines h (Then s y) t d here in
        stops_between (line here d (op.Branch t test)) (line (leads h x here) d (op.Jump (t + length ys))) xs ys refl refl
        ∙ sum_same (body_counted x (p + 1) d here) (body_counted (Then s y) t d here)
    step_counted (Loop test x) p d here =
        let q = p + 1 in
        let xs = body_lines h x (q + 1) d here in
        stops_after (line here d op.Enter) (again_lines q d here (leads h x here) test xs) refl
        ∙ stops_between (line here d (op.Branch (q + 1 + length xs + 1) test)) (line (leads h x here) d (op.Jump q)) xs [] refl refl
        ∙ sum_same (body_counted x (q + 1) d here) refl ∙ add-zero (body_stops x)
    step_counted (Times count x) p d here =
        let q = p + 1 in
        let xs = body_lines h x (q + 1) (d + 1) here in
        stops_after (line here d (op.Count count)) (turn_lines q (d + 1) here (leads h x here) xs) refl
        ∙ stops_between (line here (d + 1) (op.Turn (q + 1 + length xs + 1))) (line (leads h x here) (d + 1) (op.Jump q)) xs [] refl refl
        ∙ sum_same (body_counted x (q + 1) (d + 1) here) refl ∙ add-zero (body_stops x)

    body_counted : (b : Body) (p d : ℕ) (here : Place) → stops (body_lines h b p d here) ≡ body_stops b
    body_counted Empty p d here = refl
    body_counted (Then s b) p d here =
        let first = step_lines h s p d here in
        let others = body_lines h b (p + length first) d (leads_step h s here) in
        stops_parts first others ∙ sum_same (step_counted s p d here) (body_counted b (p + length first) d (leads_step h s here))

-- ---- stops

module _ (p : Resolved) where
  pub same_stops : (m : ModuleId) → stops (lines_at (compiled p) m) ≡ body_stops (body_at p m)
  same_stops m = by (body_or_not p m)
    where
      code_counted : (b : Body) → stops (code_of p.heads b (begin_of p.heads m)) ≡ body_stops b
      code_counted b =
          let here = begin_of p.heads m in
          stops_parts (body_lines p.heads b 0 0 here) (line (leads p.heads b here) 0 op.End ∷ [])
          ∙ sum_same (body_counted p.heads b 0 0 here) refl ∙ add-zero (body_stops b)

      by : ((b : Body) × (slice_get p.bodies m.0 ≡ Some b)) ⊎ (slice_get p.bodies m.0 ≡ None) → stops (lines_at (compiled p) m) ≡ body_stops (body_at p m)
      by (inl (b, e)) = ap stops (lines_are p m b e) ∙ code_counted b ∙ ap body_stops (sym (body_is p m b e))
      by (inr e) = ap stops (no_lines p m e) ∙ ap (λ o. body_stops (unwrap_or o Empty)) (sym e)

  module _ (whole : IsWhole p) (m : ModuleId) (b : Body) (is : slice_get p.bodies m.0 ≡ Some b) where
    -- its body, where it begins
    pub whole_body : BodyIsWhole p.heads (length p.bodies) b (begin_of p.heads m)
    whole_body = subst (λ x. BodyIsWhole p.heads (length p.bodies) x (begin_of p.heads m)) (body_is p m b is) (whole.each m)

    pub same_stop : (k : ℕ) → program_stop (Tree p) m k ≡ program_stop (Code (compiled p)) m k
    same_stop zero = sym (module_begin p.heads b (begin_of p.heads m)) ∙ ap (λ ls. line_stop ls 0) (sym (lines_are p m b is))
    same_stop (suc k) =
        ap (λ x. stop_in p.heads x (suc k) 0 (begin_of p.heads m)) (body_is p m b is)
        ∙ sym (module_stop p.heads b (begin_of p.heads m) (length p.bodies) whole_body (suc k) [])
        ∙ ap (λ ls. line_stop ls (suc k)) (sym (lines_are p m b is))

-- ---- threads

-- a module that has values is declared
declared : (o : Option Signature) (values : List Value) → ValuesAgree o values → (head : Signature) × (o ≡ Some head)
declared None values agrees = absurd agrees
declared (Some head) values agrees = (head, refl)

-- a module whose frames have values has a body
pub has_body : (p : Resolved) → IsWhole p → (m : ModuleId) (values : List Value) → ValuesAgree (slice_get p.heads.modules m.0) values → (b : Body) × (slice_get p.bodies m.0 ≡ Some b)
has_body p whole m values agrees =
    let head = declared (slice_get p.heads.modules m.0) values agrees in
    within_some p.bodies m.0 (omega (arith, whole.bodies, slice_get_within p.heads.modules m.0 head.0 head.1))

-- where frames of x stand in y, so do threads
module _ (x y : Prog) (frame : (f : Frame) (at : StopAt) → FrameStands x f at → FrameStands y f at) where
  outer : (m : ModuleId) (fs : List Frame) → OuterStand x m fs → OuterStand y m fs
  outer m [] stands = tt
  outer m (f ∷ fs) stands = ((stands.0.0, frame f stands.0.0 stands.0.1, stands.0.2), outer f.module fs stands.1)

  frames : (w : Wait) (place : Place) (fs : List Frame) → FramesStand x w place fs → FramesStand y w place fs
  frames w place [] stands = absurd stands
  frames w place (f ∷ fs) stands = ((stands.0.0, frame f stands.0.0 stands.0.1, stands.0.2, stands.0.3), outer f.module fs stands.1)

  threads : (t : Thread) (place : Place) → Stands x t place → Stands y t place
  threads t place stands = record { few = stands.few; frames = frames t.wait place (reverse t.frames) stands.frames }

module _ (p : Resolved) (whole : IsWhole p) where
  in_code : (f : Frame) (at : StopAt) → FrameStands (Tree p) f at → FrameStands (Code (compiled p)) f at
  in_code f at stands =
      let body = has_body p whole f.module f.values stands.values in
      record { stop = sym (same_stop p whole f.module body.0 body.1 f.stop) ∙ stands.stop; counts = stands.counts; values = stands.values }

  in_tree : (f : Frame) (at : StopAt) → FrameStands (Code (compiled p)) f at → FrameStands (Tree p) f at
  in_tree f at stands =
      let body = has_body p whole f.module f.values stands.values in
      record { stop = same_stop p whole f.module body.0 body.1 f.stop ∙ stands.stop; counts = stands.counts; values = stands.values }

  pub same_stands : (t : Thread) (place : Place) → IsSame (Stands (Tree p) t place) (Stands (Code (compiled p)) t place)
  same_stands t place = record {
    there = threads (Tree p) (Code (compiled p)) in_code t place;
    back = threads (Code (compiled p)) (Tree p) in_tree t place;
  }
