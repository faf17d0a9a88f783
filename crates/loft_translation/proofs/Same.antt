-- Two controls that agree wherever they go on run their threads alike.
use Rattle.std.proofs.Common.{◌≡◌, ℕ, zero, suc, Bool, true, false, List, [], ◌∷◌, length, map, reverse, Option, Some, None, refl, ap, ◌∙◌}
use Rattle.std.specs.Prelude.{ℤ, nat_lt, if◌then◌else◌}
use Rattle.loft_base.specs.declared.ids.ModuleId.{ModuleId}
use Rattle.loft_base.specs.declared.ids.Value.{Value}
use Rattle.loft_tree.specs.declared.heads.Heads.{Heads}
use Rattle.loft_tree.specs.Resolved.{Exp, Action, Pause}
use Rattle.loft_orders.specs.declared.thread.Frame.{Frame}
use Rattle.loft_orders.specs.declared.thread.Thread.{Thread}
use Rattle.loft_orders.specs.declared.thread.Wait.{Wait}
use Rattle.loft_orders.specs.declared.thread.Wait.TheVariants.{New}
use Rattle.loft_orders.specs.declared.order.End.TheVariants.{Deep}
use Rattle.loft_sense.specs.declared.limits.TheConstants.{MAX_FRAMES}
use Rattle.loft_sense.specs.Around.{Around, Beside}
use Rattle.loft_sense.specs.Eval.{eval, eval_all, number_of, is_true}
use Rattle.loft_sense.specs.Statements.{Now, Effect, GoesOn, Waits, Leaves, Dies, did, begun, answered}
use Rattle.loft_sense.specs.Run.{Next, Finish, Acts, Advances, Tests, Counts, Holds, Runs, Control, Active, Outcome, Held, Left, here, ends, if_finish, live, frame_of, thread_of, effect_on, test_on, count_on, begun_frame, run_on, step, step_on, no_step, going, actives_of, go_on, beside, go}

-- a frame at a point
abbrev pub frame : {A : Type 0} → ModuleId → ℕ → List Value → A → Active A
frame m k values p = record { «module» = m; stop = k; values = values; at = p }

-- The same comes next, and it goes on at related points; a module that is run is one of those called.
pub data NextAgrees {A B : Type 0} (Called : ModuleId → Type 0) (R : A → B → Type 0) : Next A → Next B → Type 0 where
  both_finish : NextAgrees Called R Finish Finish
  both_act : {action : Action} {p : A} {q : B} → R p q → NextAgrees Called R (Acts action p) (Acts action q)
  both_pass : {p : A} {q : B} → R p q → NextAgrees Called R (Advances p) (Advances q)
  both_test : {test : Exp} {p p' : A} {q q' : B} → R p q → R p' q' → NextAgrees Called R (Tests test p p') (Tests test q q')
  both_count : {count : Exp} {f : ℤ → A} {g : ℤ → B} → ((n : ℤ) → R (f n) (g n)) → NextAgrees Called R (Counts count f) (Counts count g)
  both_hold : {k : ℕ} {pause : Pause} {p : A} {q : B} → R p q → NextAgrees Called R (Holds k pause p) (Holds k pause q)
  both_run : {k : ℕ} {m : ModuleId} {arguments : List Exp} {p : A} {q : B} → Called m → R p q → NextAgrees Called R (Runs k m arguments p) (Runs k m arguments q)

pub next_map : {A B : Type 0} {Called : ModuleId → Type 0} {R S : A → B → Type 0} {x : Next A} {y : Next B} → ((p : A) (q : B) → R p q → S p q) → NextAgrees Called R x y → NextAgrees Called S x y
next_map f both_finish = both_finish
next_map f (both_act h) = both_act (f _ _ h)
next_map f (both_pass h) = both_pass (f _ _ h)
next_map f (both_test h i) = both_test (f _ _ h) (f _ _ i)
next_map f (both_count h) = both_count (λ n. f _ _ (h n))
next_map f (both_hold h) = both_hold (f _ _ h)
next_map f (both_run called h) = both_run called (f _ _ h)

-- the same frames, at related points of their modules
pub data FramesAgree {A B : Type 0} (R : ModuleId → A → B → Type 0) : List (Active A) → List (Active B) → Type 0 where
  no_frame : FramesAgree R [] []
  one_more : {m : ModuleId} {k : ℕ} {values : List Value} {p : A} {q : B} {rs : List (Active A)} {ss : List (Active B)}
      → R m p q → FramesAgree R rs ss → FramesAgree R (frame m k values p ∷ rs) (frame m k values q ∷ ss)

-- the two controls agree at related points, and related is where called modules begin
pub record ControlsAgree {A B : Type 0} (c : Control A) (d : Control B) (Called : ModuleId → Type 0) (R : ModuleId → A → B → Type 0) : Type 0 where
  pub heads : c.heads ≡ d.heads
  pub start : (m : ModuleId) → Called m → R m (c.start m) (d.start m)
  pub pause : (m : ModuleId) (k : ℕ) → c.pause m k ≡ d.pause m k
  pub counts : (m : ModuleId) (p : A) (q : B) → R m p q → c.counts p ≡ d.counts q
  pub next : (m : ModuleId) (p : A) (q : B) → R m p q → NextAgrees Called (R m) (c.next m p) (d.next m q)

if_finish_same : {A B : Type 0} {Called : ModuleId → Type 0} {Q : A → B → Type 0} {R : ModuleId → A → B → Type 0} {x : Next A} {y : Next B} {rs rs' : List (Active A)} {ss ss' : List (Active B)}
    → NextAgrees Called Q x y → FramesAgree R rs ss → FramesAgree R rs' ss' → FramesAgree R (if_finish x rs rs') (if_finish y ss ss')
if_finish_same both_finish f g = f
if_finish_same (both_act h) f g = g
if_finish_same (both_pass h) f g = g
if_finish_same (both_test h i) f g = g
if_finish_same (both_count h) f g = g
if_finish_same (both_hold h) f g = g
if_finish_same (both_run h i) f g = g

length_same : {A B : Type 0} {R : ModuleId → A → B → Type 0} {rs : List (Active A)} {ss : List (Active B)} → FramesAgree R rs ss → length rs ≡ length ss
length_same no_frame = refl
length_same (one_more h t) = ap suc (length_same t)

no_step_same : {A B : Type 0} {R : ModuleId → A → B → Type 0} (b : Beside) {rs : List (Active A)} {ss : List (Active B)} → FramesAgree R rs ss → no_step b rs ≡ no_step b ss
no_step_same b no_frame = refl
no_step_same b (one_more h t) = refl

if_same : {A B : Type 0} (R : A → B → Type 0) (yes : Bool) {p p' : A} {q q' : B} → R p q → R p' q' → R (if yes then p else p') (if yes then q else q')
if_same R true h i = h
if_same R false h i = i

module _ {A B : Type 0} (c : Control A) (d : Control B) (Called : ModuleId → Type 0) (R : ModuleId → A → B → Type 0) (agree : ControlsAgree c d Called R) where
  live_same : {rs : List (Active A)} {ss : List (Active B)} → FramesAgree R rs ss → FramesAgree R (live c rs) (live d ss)
  live_same no_frame = no_frame
  live_same (one_more {m} {k} {values} {p} {q} h t) = if_finish_same (agree.next m p q h) (live_same t) (one_more h t)

  frames_same : {rs : List (Active A)} {ss : List (Active B)} → FramesAgree R rs ss → map (frame_of c) rs ≡ map (frame_of d) ss
  frames_same no_frame = refl
  frames_same (one_more {m} {k} {values} {p} {q} {rs} {ss} h t) =
      ap (λ (ns : List ℤ). record { «module» = m; stop = k; counts = ns; values = values } ∷ map (frame_of c) rs) (agree.counts m p q h)
      ∙ ap (λ (fs : List Frame). record { «module» = m; stop = k; counts = d.counts q; values = values } ∷ fs) (frames_same t)

  thread_same : (wait : Wait) (b : Beside) {rs : List (Active A)} {ss : List (Active B)} → FramesAgree R rs ss → thread_of c wait rs b ≡ thread_of d wait ss b
  thread_same wait b t =
      ap (λ (fs : List Frame). record { id = b.id; code = b.code; mask = b.mask; wait = wait; frames = reverse fs }) (frames_same t)

  begun_same : (m : ModuleId) (arguments : List Value) (b : Beside) {rs : List (Active A)} {ss : List (Active B)} → Called m → FramesAgree R rs ss
      → FramesAgree R (begun_frame c m arguments b ∷ rs) (begun_frame d m arguments b ∷ ss)
  begun_same m arguments b {rs} {ss} called t = rw agree.heads (one_more (agree.start m called) t)

  module _ (left : ℕ) (on : Beside → List (Active A) → Outcome) (on' : Beside → List (Active B) → Outcome) (same : (b : Beside) (rs : List (Active A)) (ss : List (Active B)) → FramesAgree R rs ss → on b rs ≡ on' b ss) where
    effect_same : (e : Effect) (m : ModuleId) (k : ℕ) (values : List Value) (p₀ p : A) (q₀ q : B) (rs : List (Active A)) (ss : List (Active B)) (b : Beside) → R m p q → FramesAgree R rs ss
        → effect_on c left on e p (frame m k values p₀) rs b ≡ effect_on d left on' e q (frame m k values q₀) ss b
    effect_same (GoesOn now) m k values p₀ p q₀ q rs ss b h t = same now.beside _ _ (one_more h t)
    effect_same (Waits wait) m k values p₀ p q₀ q rs ss b h t = ap (λ (x : Thread). Held x b.around left) (thread_same wait b (one_more h t))
    effect_same (Leaves to) m k values p₀ p q₀ q rs ss b h t = ap (λ (x : Thread). Left x to b.around left) (thread_same New b (one_more h t))
    effect_same (Dies end) m k values p₀ p q₀ q rs ss b h t = refl

    test_same : (o : Option Value) (m : ModuleId) (k : ℕ) (values : List Value) (p₀ p p' : A) (q₀ q q' : B) (rs : List (Active A)) (ss : List (Active B)) (b : Beside) → R m p q → R m p' q' → FramesAgree R rs ss
        → test_on left on o p p' (frame m k values p₀) rs b ≡ test_on left on' o q q' (frame m k values q₀) ss b
    test_same None m k values p₀ p p' q₀ q q' rs ss b h i t = refl
    test_same (Some v) m k values p₀ p p' q₀ q q' rs ss b h i t = same b _ _ (one_more (if_same (R m) (is_true (number_of v)) h i) t)

    count_same : (o : Option Value) (m : ModuleId) (k : ℕ) (values : List Value) (p₀ : A) (f : ℤ → A) (q₀ : B) (g : ℤ → B) (rs : List (Active A)) (ss : List (Active B)) (b : Beside) → ((n : ℤ) → R m (f n) (g n)) → FramesAgree R rs ss
        → count_on left on o f (frame m k values p₀) rs b ≡ count_on left on' o g (frame m k values q₀) ss b
    count_same None m k values p₀ f q₀ g rs ss b h t = refl
    count_same (Some v) m k values p₀ f q₀ g rs ss b h t = same b _ _ (one_more (h (number_of v)) t)

    run_same : (o : Option (List Value)) (i m : ModuleId) (k : ℕ) (values : List Value) (p : A) (q : B) (rs : List (Active A)) (ss : List (Active B)) (b : Beside) → Called i → R m p q → FramesAgree R rs ss
        → run_on c left on o i (frame m k values p) rs b ≡ run_on d left on' o i (frame m k values q) ss b
    run_same None i m k values p q rs ss b called h t = refl
    run_same (Some arguments) i m k values p q rs ss b called h t =
        by (nat_lt (length (frame m k values p ∷ rs)) MAX_FRAMES) ∙ ap (λ n. run (nat_lt n MAX_FRAMES)) (length_same {R = R} {rs = frame m k values p ∷ rs} {ss = frame m k values q ∷ ss} (one_more h t))
      where
        run : Bool → Outcome
        run few = if few then on' b (begun_frame d i arguments b ∷ frame m k values q ∷ ss) else ends (Deep (here (frame m k values q))) b left

        by : (few : Bool) → (if few then on b (begun_frame c i arguments b ∷ frame m k values p ∷ rs) else ends (Deep (here (frame m k values p))) b left) ≡ run few
        by true = same b _ _ (begun_same i arguments b called (one_more h t))
        by false = refl

    step_same : (m : ModuleId) (k : ℕ) (values : List Value) (p : A) (q : B) (rs : List (Active A)) (ss : List (Active B)) (x : Next A) (y : Next B) (b : Beside) → FramesAgree R rs ss → NextAgrees Called (R m) x y
        → step c left on x (frame m k values p) rs b ≡ step d left on' y (frame m k values q) ss b
    step_same m k values p q rs ss x y b t both_finish = same b rs ss t
    step_same m k values p q rs ss x y b t (both_act {action} {p = p'} {q = q'} h) =
        effect_same (did c.heads action (here (frame m k values p)) values b) m k values p p' q q' rs ss b h t
        ∙ ap (λ (heads : Heads). effect_on d left on' (did heads action (here (frame m k values q)) values b) q' (frame m k values q) ss b) agree.heads
    step_same m k values p q rs ss x y b t (both_pass h) = same b _ _ (one_more h t)
    step_same m k values p q rs ss x y b t (both_test {test} {p = u} {p' = u'} {q = v} {q' = v'} h i) =
        test_same (eval c.heads values b test) m k values p u u' q v v' rs ss b h i t
        ∙ ap (λ (heads : Heads). test_on left on' (eval heads values b test) v v' (frame m k values q) ss b) agree.heads
    step_same m k values p q rs ss x y b t (both_count {count} {f} {g} h) =
        count_same (eval c.heads values b count) m k values p f q g rs ss b h t
        ∙ ap (λ (heads : Heads). count_on left on' (eval heads values b count) g (frame m k values q) ss b) agree.heads
    step_same m k values p q rs ss x y b t (both_hold {k = j} {pause} {p = p'} {q = q'} h) =
        effect_same (begun c.heads pause (here (frame m j values p')) values b) m j values p' p' q' q' rs ss b h t
        ∙ ap (λ (heads : Heads). effect_on d left on' (begun heads pause (here (frame m j values q')) values b) q' (frame m j values q') ss b) agree.heads
    step_same m k values p q rs ss x y b t (both_run {k = j} {m = i} {arguments} {p = p'} {q = q'} called h) =
        run_same (eval_all c.heads values b arguments) i m j values p' q' rs ss b called h t
        ∙ ap (λ (heads : Heads). run_on d left on' (eval_all heads values b arguments) i (frame m j values q') ss b) agree.heads

    step_on_same : (b : Beside) {rs : List (Active A)} {ss : List (Active B)} → FramesAgree R rs ss → step_on c left on b rs ≡ step_on d left on' b ss
    step_on_same b no_frame = refl
    step_on_same b (one_more {m} {k} {values} {p} {q} {rs} {ss} h t) = step_same m k values p q rs ss (c.next m p) (d.next m q) b t (agree.next m p q h)

  going_same : (left : ℕ) (b : Beside) (rs : List (Active A)) (ss : List (Active B)) → FramesAgree R rs ss → going c left b rs ≡ going d left b ss
  going_same zero b rs ss t = no_step_same b (live_same t)
  going_same (suc left) b rs ss t = step_on_same left (going c left) (going d left) (going_same left) b (live_same t)

  go_on_same : (left : ℕ) (wait : Wait) (b : Beside) {rs : List (Active A)} {ss : List (Active B)} → FramesAgree R rs ss → go_on c left wait b rs ≡ go_on d left wait b ss
  go_on_same zero wait b t = no_step_same b t
  go_on_same (suc left) wait b no_frame = going_same left b [] [] no_frame
  go_on_same (suc left) wait b (one_more {m} {k} {values} {p} {q} {rs} {ss} h t) =
      resumed (answered c.heads (c.pause m k) wait values b)
      ∙ ap (λ (heads : Heads). after (answered heads (c.pause m k) wait values b)) agree.heads
      ∙ ap (λ (pause : Option Pause). after (answered d.heads pause wait values b)) (agree.pause m k)
    where
      after : Now → Outcome
      after now = going d left now.beside (frame m k now.values q ∷ ss)

      resumed : (now : Now) → going c left now.beside (frame m k now.values p ∷ rs) ≡ after now
      resumed now = going_same left now.beside _ _ (one_more h t)

  -- from related points both go alike
  pub same_go : (t : Thread) (around : Around) (left : ℕ) → FramesAgree R (actives_of c t) (actives_of d t) → go c t around left ≡ go d t around left
  unfolding go
  same_go t around left frames = go_on_same left t.wait (beside t around) frames
