-- The stops of a numbered body are those of its module, and each waits for what its statement says.
use Rattle.std.proofs.Common.{◌≡◌, ℕ, zero, suc, ◌+◌, ◌==◌, ◌⊎◌, inl, inr, Bool, true, false, List, Option, Some, None, refl, sym, subst, arith}
use Rattle.std.specs.Prelude.{if◌then◌else◌}
use Rattle.loft_tree.specs.declared.heads.Place.{Place}
use Rattle.loft_tree.specs.declared.heads.Heads.{Heads}
use Rattle.loft_base.specs.declared.ids.ModuleId.{ModuleId}
use Rattle.loft_tree.specs.Resolved.{Exp, Pause, Step, Resolved, Do, Hold, Call, Choose, Loop, Times, Body, Empty, Then}
use Rattle.loft_sense.specs.Tree.{pause_at, body_at, first_some, at_stop, stop_at_step, stop_at, pause_of_step}
use Rattle.loft_sense.specs.Stands.{begin_of, tree_stop, StopKind, Begins, Pauses, Calls, StopAt, leads_step, stop_in_step, stop_in}
use Rattle.loft_soundness.specs.Numbered.{stops_in, body_stops, StepNumbered, BodyNumbered}
use Rattle.loft_soundness.proofs.NumberLemmas.{elsewhere, found_here, neither, in_first, in_second, none_some, IsOutside, outside_left, outside_right, outside_one, apart}
use Rattle.loft_soundness.specs.WorkAgrees.{StepAgrees, BodyAgrees}
use Rattle.loft_soundness.proofs.LeadsToPoints.{IsPauseOf}

-- ---- numbered bodies know their stops

module _ (h : Heads) where
  mutual
    outside_step : (s : Step) (n k d : ℕ) (p : Place) → StepNumbered s n → IsOutside k n (stops_in s) → stop_in_step h s k d p ≡ None
    outside_step (Do action) n k d p e o = refl
    outside_step (Hold here pause) n k d p e o = elsewhere here k _ (outside_one here k n e o)
    outside_step (Call here m arguments) n k d p e o = elsewhere here k _ (outside_one here k n e o)
    outside_step (Choose test x y) n k d p e o =
        neither (stop_in h x k d p) (stop_in h y k d p)
        (outside_body x n k d p e.0 (outside_left k n (body_stops x) (body_stops y) o)) (outside_body y (n + body_stops x) k d p e.1 (outside_right k n (body_stops x) (body_stops y) o))
    outside_step (Loop test x) n k d p e o = outside_body x n k d p e o
    outside_step (Times count x) n k d p e o = outside_body x n k (d + 1) p e o

    pub outside_body : (b : Body) (n k d : ℕ) (p : Place) → BodyNumbered b n → IsOutside k n (body_stops b) → stop_in h b k d p ≡ None
    outside_body Empty n k d p e o = refl
    outside_body (Then s b) n k d p e o =
        neither (stop_in_step h s k d p) (stop_in h b k d (leads_step h s p))
        (outside_step s n k d p e.0 (outside_left k n (stops_in s) (body_stops b) o)) (outside_body b (n + stops_in s) k d (leads_step h s p) e.1 (outside_right k n (stops_in s) (body_stops b) o))

  not_in_step : (s : Step) (b : Body) (n k d : ℕ) (p r : Place) (at : StopAt) → StepNumbered s n → BodyNumbered b (n + stops_in s) → stop_in h b k d r ≡ Some at → stop_in_step h s k d p ≡ None
  not_in_step s b n k d p r at hs hb e = by (apart k n (stops_in s) (body_stops b))
    where
      by : IsOutside k n (stops_in s) ⊎ IsOutside k (n + stops_in s) (body_stops b) → stop_in_step h s k d p ≡ None
      by (inl o) = outside_step s n k d p hs o
      by (inr o) = absurd (none_some (stop_in h b k d r) at (outside_body b (n + stops_in s) k d r hb o) e)

  not_in_body : (a b : Body) (n k d : ℕ) (p r : Place) (at : StopAt) → BodyNumbered a n → BodyNumbered b (n + body_stops a) → stop_in h b k d r ≡ Some at → stop_in h a k d p ≡ None
  not_in_body a b n k d p r at ha hb e = by (apart k n (body_stops a) (body_stops b))
    where
      by : IsOutside k n (body_stops a) ⊎ IsOutside k (n + body_stops a) (body_stops b) → stop_in h a k d p ≡ None
      by (inl o) = outside_body a n k d p ha o
      by (inr o) = absurd (none_some (stop_in h b k d r) at (outside_body b (n + body_stops a) k d r hb o) e)

  module _ (stops : ℕ → Option StopAt) where
    -- each of these stops is one of the module
    abbrev pub IsPartOf : (ℕ → Option StopAt) → Type 0
    IsPartOf f = (k : ℕ) (at : StopAt) → f k ≡ Some at → stops k ≡ Some at

    mutual
      step_agrees : (s : Step) (n d : ℕ) (p : Place) → StepNumbered s n → IsPartOf (λ k. stop_in_step h s k d p) → StepAgrees h stops s d p
      step_agrees (Do action) n d p e a = tt
      step_agrees (Hold k pause) n d p e a = a k _ (found_here k _)
      step_agrees (Call k m arguments) n d p e a = a k _ (found_here k _)
      step_agrees (Choose test x y) n d p e a = (
        body_agrees x n d p e.0 (λ k at f. a k at (in_first (stop_in h x k d p) (stop_in h y k d p) at f)),
        body_agrees y (n + body_stops x) d p e.1 (λ k at f. a k at (in_second (stop_in h x k d p) (stop_in h y k d p) at (not_in_body x y n k d p p at e.0 e.1 f) f)),
      )
      step_agrees (Loop test x) n d p e a = body_agrees x n d p e a
      step_agrees (Times count x) n d p e a =
          let one_more : d + 1 ≡ suc d = omega arith in
          subst (λ c. BodyAgrees h stops x c p) one_more (body_agrees x n (d + 1) p e a)

      pub body_agrees : (b : Body) (n d : ℕ) (p : Place) → BodyNumbered b n → IsPartOf (λ k. stop_in h b k d p) → BodyAgrees h stops b d p
      body_agrees Empty n d p e a = tt
      body_agrees (Then s b) n d p e a = (
        step_agrees s n d p e.0 (λ k at f. a k at (in_first (stop_in_step h s k d p) (stop_in h b k d (leads_step h s p)) at f)),
        body_agrees b (n + stops_in s) d (leads_step h s p) e.1
            (λ k at f. a k at (in_second (stop_in_step h s k d p) (stop_in h b k d (leads_step h s p)) at (not_in_step s b n k d p (leads_step h s p) at e.0 e.1 f) f)),
      )

  -- ---- what a stop waits for

  -- the statement that is the stop
  abbrev pub PauseIs : Option StopAt → Option Step → Type 0
  PauseIs None None = Unit {0}
  PauseIs None (Some s) = ⊥
  PauseIs (Some at) o = IsPauseOf at.kind (pause_of_step o)

  kind_first : (kind : StopKind) (c d : Option Step) → IsPauseOf kind (pause_of_step c) → IsPauseOf kind (pause_of_step (first_some c d))
  kind_first Begins c d f = tt
  kind_first (Pauses pause) None d f = absurd cc
  kind_first (Pauses pause) (Some s) d f = f
  kind_first (Calls m) c d f = tt

  pause_first : (a b : Option StopAt) (c d : Option Step) → PauseIs a c → PauseIs b d → PauseIs (first_some a b) (first_some c d)
  pause_first None b None d f g = g
  pause_first None b (Some s) d f g = absurd f
  pause_first (Some at) b c d f g = kind_first at.kind c d f

  hold_at : (here k : ℕ) (at : StopAt) (pause : Pause) → at.kind ≡ Pauses pause → PauseIs (at_stop here k at) (at_stop here k (Hold here pause))
  hold_at here k at pause e = by (here == k)
    where
      by : (b : Bool) → PauseIs (if b then Some at else None) (if b then Some (Hold here pause) else None)
      by true = subst (λ kind. IsPauseOf kind (Some pause)) (sym e) refl
      by false = tt

  call_at : (here k : ℕ) (at : StopAt) (m : ModuleId) (arguments : List Exp) → at.kind ≡ Calls m → PauseIs (at_stop here k at) (at_stop here k (Call here m arguments))
  call_at here k at m arguments e = by (here == k)
    where
      by : (b : Bool) → PauseIs (if b then Some at else None) (if b then Some (Call here m arguments) else None)
      by true = subst (λ kind. IsPauseOf kind None) (sym e) tt
      by false = tt

  mutual
    pause_is_step : (s : Step) (k d : ℕ) (p : Place) → PauseIs (stop_in_step h s k d p) (stop_at_step s k)
    pause_is_step (Do action) k d p = tt
    pause_is_step (Hold here pause) k d p = hold_at here k _ pause refl
    pause_is_step (Call here m arguments) k d p = call_at here k _ m arguments refl
    pause_is_step (Choose test x y) k d p = pause_first (stop_in h x k d p) (stop_in h y k d p) (stop_at x k) (stop_at y k) (pause_is x k d p) (pause_is y k d p)
    pause_is_step (Loop test x) k d p = pause_is x k d p
    pause_is_step (Times count x) k d p = pause_is x k (d + 1) p

    pub pause_is : (b : Body) (k d : ℕ) (p : Place) → PauseIs (stop_in h b k d p) (stop_at b k)
    pause_is Empty k d p = tt
    pause_is (Then s b) k d p =
        pause_first (stop_in_step h s k d p) (stop_in h b k d (leads_step h s p)) (stop_at_step s k) (stop_at b k)
        (pause_is_step s k d p) (pause_is b k d (leads_step h s p))

-- what a stop of a tree waits for is found under its number
pub tree_pauses : (p : Resolved) (m : ModuleId) (k : ℕ) (at : StopAt) → tree_stop p m k ≡ Some at → IsPauseOf at.kind (pause_at p m k)
tree_pauses p m zero at e =
    let same : record { kind = Begins; depth = 0; after = begin_of p.heads m } ≡ at = cc in
    subst (λ (a : StopAt). IsPauseOf a.kind (pause_at p m zero)) same tt
tree_pauses p m (suc k) at e =
    subst (λ s. PauseIs p.heads s (stop_at (body_at p m) (suc k))) e (pause_is p.heads (body_at p m) (suc k) 0 (begin_of p.heads m))
