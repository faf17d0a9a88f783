-- The work that is left goes on fitting, its stops go on being those of the module, and so it is with what is left after a stop.
use Rattle.std.proofs.Common.{◌≡◌, ℕ, zero, suc, ◌+◌, ◌==◌, Bool, true, false, List, [], ◌∷◌, length, Option, Some, None, refl, sym, ap, ◌∙◌, subst, arith}
use Rattle.std.specs.Prelude.{ℤ, pos, negsuc, if◌then◌else◌, drop}
use Rattle.loft_tree.specs.declared.kinds.Kind.{Kind}
use Rattle.loft_tree.specs.declared.heads.Place.{Place}
use Rattle.loft_tree.specs.declared.heads.Heads.{Heads}
use Rattle.loft_tree.specs.Resolved.{Step, Do, Hold, Call, Choose, Loop, Times, Body, Empty, Then}
use Rattle.loft_sense.specs.Run.{Next, Finish, Stuck, Acts, Advances, Tests, Counts, Holds, Runs}
use Rattle.loft_sense.specs.Tree.{Work, Begin, Again, Turns, body_then, next_begin, next_turn, next_work, counts_in, first_some, at_stop, first_count, after_step, after_body}
use Rattle.loft_sense.specs.Stands.{Pauses, Calls, StopAt, place_after, end_of, leads_step, leads, stop_in_step, stop_in}
use Rattle.loft_soundness.specs.WorkFits.{NextFits, StepFits, BodyFits, WorkFits}
use Rattle.loft_soundness.proofs.LeftLemmas.{counts_before}
use Rattle.loft_soundness.specs.WorkAgrees.{IsStop, StepAgrees, BodyAgrees, WorkAgrees}
use Rattle.loft_soundness.proofs.LeadsToPoints.{KindFits, target_fits}

-- ---- work that fits

module _ (h : Heads) (slots : List Kind) where
  pub fits_before : (b : Body) (w : List Work) (p q : Place) → BodyFits h slots b p → WorkFits h slots w (leads h b p) q → WorkFits h slots (body_then b w) p q
  fits_before Empty w p q f g = g
  fits_before (Then s b) w p q f g = (f.0, fits_before b w (leads_step h s p) q f.1 g)

  -- after a body that ends where it begins
  fits_around : (b : Body) (w : List Work) (p q : Place) → BodyFits h slots b p → leads h b p ≡ p → WorkFits h slots w p q → WorkFits h slots (body_then b w) p q
  fits_around b w p q f e g = fits_before b w p q f (subst (λ r. WorkFits h slots w r q) (sym e) g)

  -- where the thread is after what comes next
  abbrev pub LeftFits : Next (List Work) → Place → Place → Type 0
  LeftFits Finish p q = p ≡ q
  LeftFits Stuck p q = ⊥
  LeftFits (Acts action w) p q = WorkFits h slots w p q
  LeftFits (Advances w) p q = WorkFits h slots w p q
  LeftFits (Tests test v w) p q = WorkFits h slots v p q × WorkFits h slots w p q
  LeftFits (Counts count f) p q = (n : ℤ) → WorkFits h slots (f n) p q
  LeftFits (Holds k pause w) p q = WorkFits h slots w (place_after pause p) q
  LeftFits (Runs k m arguments w) p q = WorkFits h slots w (end_of h m) q

  begin_fits : (s : Step) (w : List Work) (p q : Place) → StepFits h slots s p → WorkFits h slots w (leads_step h s p) q
      → NextFits h slots p (next_begin s w) × LeftFits (next_begin s w) p q
  begin_fits (Do action) w p q f g = (f, g)
  begin_fits (Hold k pause) w p q f g = (f, g)
  begin_fits (Call k m arguments) w p q f g = (f, g)
  begin_fits (Choose test x y) w p q f g =
      (f.0, (fits_before x w p q f.1 g, fits_before y w p q f.2 (subst (λ r. WorkFits h slots w r q) f.3 g)))
  begin_fits (Loop test x) w p q f g = (tt, (f.0, f.1, f.2, g))
  begin_fits (Times count x) w p q f g = (f.0, λ n. (f.1, f.2, g))

  turn_fits : (n : ℤ) (x : Body) (w : List Work) (p q : Place) → WorkFits h slots (Turns n x ∷ w) p q → NextFits h slots p (next_turn n x w) × LeftFits (next_turn n x w) p q
  turn_fits (pos zero) x w p q f = (tt, f.2)
  turn_fits (pos (suc n)) x w p q f = (tt, fits_around x (Turns (pos n) x ∷ w) p q f.0 f.1 (f.0, f.1, f.2))
  turn_fits (negsuc n) x w p q f = (tt, f.2)

  pub next_fits : (w : List Work) (p q : Place) → WorkFits h slots w p q → NextFits h slots p (next_work w) × LeftFits (next_work w) p q
  next_fits [] p q f = (tt, f)
  next_fits (Begin s ∷ w) p q f = begin_fits s w p q f.0 f.1
  next_fits (Again test x ∷ w) p q f = (f.0, (fits_around x (Again test x ∷ w) p q f.1 f.2 f, f.3))
  next_fits (Turns n x ∷ w) p q f = turn_fits n x w p q f

-- ---- work whose stops are those of the module

module _ (h : Heads) (stops : ℕ → Option StopAt) where
  length_before : (b : Body) (w : List Work) → length (counts_in (body_then b w)) ≡ length (counts_in w)
  length_before b w = ap (λ (l : List ℤ). length l) (counts_before b w)

  pub agrees_before : (b : Body) (w : List Work) (p : Place) → BodyAgrees h stops b (length (counts_in w)) p → WorkAgrees h stops w (leads h b p) → WorkAgrees h stops (body_then b w) p
  agrees_before Empty w p f g = g
  agrees_before (Then s b) w p f g = (subst (λ d. StepAgrees h stops s d p) (sym (length_before b w)) f.0, agrees_before b w (leads_step h s p) f.1 g)

  agrees_around : (b : Body) (w : List Work) (p : Place) → BodyAgrees h stops b (length (counts_in w)) p → leads h b p ≡ p → WorkAgrees h stops w p → WorkAgrees h stops (body_then b w) p
  agrees_around b w p f e g = agrees_before b w p f (subst (λ r. WorkAgrees h stops w r) (sym e) g)

  abbrev pub NextAgrees : Next (List Work) → Place → Type 0
  NextAgrees Finish p = Unit {0}
  NextAgrees Stuck p = Unit {0}
  NextAgrees (Acts action w) p = WorkAgrees h stops w p
  NextAgrees (Advances w) p = WorkAgrees h stops w p
  NextAgrees (Tests test v w) p = WorkAgrees h stops v p × WorkAgrees h stops w p
  NextAgrees (Counts count f) p = (n : ℤ) → WorkAgrees h stops (f n) p
  NextAgrees (Holds k pause w) p = IsStop h stops k (Pauses pause) (length (counts_in w)) (place_after pause p) × WorkAgrees h stops w (place_after pause p)
  NextAgrees (Runs k m arguments w) p = IsStop h stops k (Calls m) (length (counts_in w)) (end_of h m) × WorkAgrees h stops w (end_of h m)

  module _ (slots : List Kind) where
    begin_agrees : (s : Step) (w : List Work) (p : Place) → StepFits h slots s p → StepAgrees h stops s (length (counts_in w)) p → WorkAgrees h stops w (leads_step h s p) → NextAgrees (next_begin s w) p
    begin_agrees (Do action) w p e f g = g
    begin_agrees (Hold k pause) w p e f g = (f, g)
    begin_agrees (Call k m arguments) w p e f g = (f, g)
    begin_agrees (Choose test x y) w p e f g = (agrees_before x w p f.0 g, agrees_before y w p f.1 (subst (λ r. WorkAgrees h stops w r) e.3 g))
    begin_agrees (Loop test x) w p e f g = (f, g)
    begin_agrees (Times count x) w p e f g = λ n. (f, g)

    turn_agrees : (n : ℤ) (x : Body) (w : List Work) (p : Place) → leads h x p ≡ p → WorkAgrees h stops (Turns n x ∷ w) p → NextAgrees (next_turn n x w) p
    turn_agrees (pos zero) x w p e f = f.1
    turn_agrees (pos (suc n)) x w p e f = agrees_around x (Turns (pos n) x ∷ w) p f.0 e (f.0, f.1)
    turn_agrees (negsuc n) x w p e f = f.1

    pub next_agrees : (w : List Work) (p q : Place) → WorkFits h slots w p q → WorkAgrees h stops w p → NextAgrees (next_work w) p
    next_agrees [] p q e f = tt
    next_agrees (Begin s ∷ w) p q e f = begin_agrees s w p e.0 f.0 f.1
    next_agrees (Again test x ∷ w) p q e f = (agrees_around x (Again test x ∷ w) p f.0 e.2 f, f.1)
    next_agrees (Turns n x ∷ w) p q e f = turn_agrees n x w p e.1 f

    -- ---- after a stop

    -- what is left after a stop, up to a module's end at q
    pub record LeftAfter (at : StopAt) (q : Place) (w : List Work) : Type 0 where
      pub fits : WorkFits h slots w at.after q
      pub agrees : WorkAgrees h stops w at.after
      pub counts : length (counts_in w) ≡ at.depth
      pub kind : KindFits h slots at.kind at.after

    abbrev pub AfterFits : Place → Option (List Work) → Option StopAt → Type 0
    AfterFits q None None = Unit {0}
    AfterFits q (Some w) (Some at) = LeftAfter at q w
    AfterFits q None (Some at) = ⊥
    AfterFits q (Some w) None = ⊥

    after_first : (q : Place) (a b : Option (List Work)) (c d : Option StopAt) → AfterFits q a c → AfterFits q b d → AfterFits q (first_some a b) (first_some c d)
    after_first q None b None d f g = g
    after_first q (Some v) b (Some o) d f g = f
    after_first q None b (Some o) d f g = absurd f
    after_first q (Some v) b None d f g = absurd f

    after_at : (here k : ℕ) (w : List Work) (at : StopAt) (q : Place) → LeftAfter at q w → AfterFits q (at_stop here k w) (at_stop here k at)
    after_at here k w at q f = by (here == k)
      where
        by : (b : Bool) → AfterFits q (if b then Some w else None) (if b then Some at else None)
        by true = f
        by false = tt

    mutual
      after_step_fits : (s : Step) (k d : ℕ) (cs : List ℤ) (w : List Work) (p q : Place) → length (counts_in w) ≡ d → StepFits h slots s p → StepAgrees h stops s d p
          → WorkFits h slots w (leads_step h s p) q → WorkAgrees h stops w (leads_step h s p) → AfterFits q (after_step s k cs w) (stop_in_step h s k d p)
      after_step_fits (Do action) k d cs w p q n e f g i = tt
      after_step_fits (Hold here pause) k d cs w p q n e f g i = after_at here k w _ q (record { fits = g; agrees = i; counts = n; kind = target_fits h slots pause p e })
      after_step_fits (Call here m arguments) k d cs w p q n e f g i = after_at here k w _ q (record { fits = g; agrees = i; counts = n; kind = refl })
      after_step_fits (Choose test x y) k d cs w p q n e f g i =
          after_first q (after_body x k cs w) (after_body y k cs w) (stop_in h x k d p) (stop_in h y k d p)
          (after_body_fits x k d cs w p q n e.1 f.0 g i)
          (after_body_fits y k d cs w p q n e.2 f.1 (subst (λ r. WorkFits h slots w r q) e.3 g) (subst (λ r. WorkAgrees h stops w r) e.3 i))
      after_step_fits (Loop test x) k d cs w p q n e f g i =
          let fits : WorkFits h slots (Again test x ∷ w) p q = (e.0, e.1, e.2, g) in
          let agrees : WorkAgrees h stops (Again test x ∷ w) p = (subst (λ c. BodyAgrees h stops x c p) (sym n) f, i) in
          after_body_fits x k d cs (Again test x ∷ w) p q n e.1 f
          (subst (λ r. WorkFits h slots (Again test x ∷ w) r q) (sym e.2) fits) (subst (λ r. WorkAgrees h stops (Again test x ∷ w) r) (sym e.2) agrees)
      after_step_fits (Times count x) k d cs w p q n e f g i =
          let t = Turns (first_count cs) x ∷ w in
          let one_more : suc d ≡ d + 1 = omega arith in
          let m : length (counts_in t) ≡ d + 1 = omega (arith, n) in
          let fits : WorkFits h slots t p q = (e.1, e.2, g) in
          let agrees : WorkAgrees h stops t p = (subst (λ c. BodyAgrees h stops x (suc c) p) (sym n) f, i) in
          after_body_fits x k (d + 1) (drop 1 cs) t p q m e.1 (subst (λ c. BodyAgrees h stops x c p) one_more f)
          (subst (λ r. WorkFits h slots t r q) (sym e.2) fits) (subst (λ r. WorkAgrees h stops t r) (sym e.2) agrees)

      pub after_body_fits : (b : Body) (k d : ℕ) (cs : List ℤ) (w : List Work) (p q : Place) → length (counts_in w) ≡ d → BodyFits h slots b p → BodyAgrees h stops b d p
          → WorkFits h slots w (leads h b p) q → WorkAgrees h stops w (leads h b p) → AfterFits q (after_body b k cs w) (stop_in h b k d p)
      after_body_fits Empty k d cs w p q n e f g i = tt
      after_body_fits (Then s b) k d cs w p q n e f g i =
          after_first q (after_step s k cs (body_then b w)) (after_body b k cs w) (stop_in_step h s k d p) (stop_in h b k d (leads_step h s p))
          (after_step_fits s k d cs (body_then b w) p q (length_before b w ∙ n) e.0 f.0 (fits_before h slots b w (leads_step h s p) q e.1 g)
          (agrees_before b w (leads_step h s p) (subst (λ c. BodyAgrees h stops b c (leads_step h s p)) (sym n) f.1) i))
          (after_body_fits b k d cs w (leads_step h s p) q n e.1 f.1 g i)
