-- The work that is left at a stop is what comes after it.
use Rattle.std.proofs.Common.{◌≡◌, ℕ, zero, suc, ◌+◌, ⊎_elim, inl, inr, List, [], ◌∷◌, ◌++◌, Option, Some, None, refl, sym, ap, ◌∙◌, subst, append-nil, append_assoc, ◌==◌, Bool, true, false}
use Rattle.std.specs.Prelude.{◌⊎◌, ℤ, pos, negsuc, reverse, if◌then◌else◌, unwrap_or, drop}
use Rattle.std.proofs.lemmas.List.{reverse-append}
use Rattle.loft_base.specs.declared.ids.ModuleId.{ModuleId}
use Rattle.loft_tree.specs.Resolved.{Exp, Step, Do, Hold, Call, Choose, Loop, Times, Body, Empty, Then, Resolved}
use Rattle.loft_sense.specs.Run.{Next, Finish, Stuck, Acts, Advances, Tests, Counts, Holds, Runs}
use Rattle.loft_sense.specs.Tree.{Work, Begin, Again, Turns, body_then, next_begin, next_turn, next_work, counts_in, first_some, at_stop, first_count, after_step, after_body, body_at}
use Rattle.loft_soundness.specs.Numbered.{stops_in, body_stops, StepNumbered, BodyNumbered, IsNumbered}
use Rattle.loft_soundness.specs.Left.{LeadsTo, IsLeft, begins, resumes, goes_on, LeavesAfter}
use Rattle.loft_soundness.proofs.NumberLemmas.{elsewhere, found_here, neither, in_first, in_second, none_some, IsOutside, outside_left, outside_right, outside_one, apart}

-- a stop outside the numbers of a statement or a body isn't in it
mutual
  outside_step : (s : Step) (n k : ℕ) (cs : List ℤ) (w : List Work) → StepNumbered s n → IsOutside k n (stops_in s) → after_step s k cs w ≡ None
  outside_step (Do action) n k cs w h o = refl
  outside_step (Hold here pause) n k cs w h o = elsewhere here k w (outside_one here k n h o)
  outside_step (Call here m arguments) n k cs w h o = elsewhere here k w (outside_one here k n h o)
  outside_step (Choose test x y) n k cs w h o =
      neither (after_body x k cs w) (after_body y k cs w)
      (outside_body x n k cs w h.0 (outside_left k n (body_stops x) (body_stops y) o)) (outside_body y (n + body_stops x) k cs w h.1 (outside_right k n (body_stops x) (body_stops y) o))
  outside_step (Loop test x) n k cs w h o = outside_body x n k cs (Again test x ∷ w) h o
  outside_step (Times count x) n k cs w h o = outside_body x n k (drop 1 cs) (Turns (first_count cs) x ∷ w) h o

  outside_body : (b : Body) (n k : ℕ) (cs : List ℤ) (w : List Work) → BodyNumbered b n → IsOutside k n (body_stops b) → after_body b k cs w ≡ None
  outside_body Empty n k cs w h o = refl
  outside_body (Then s b) n k cs w h o =
      neither (after_step s k cs (body_then b w)) (after_body b k cs w)
      (outside_step s n k cs (body_then b w) h.0 (outside_left k n (stops_in s) (body_stops b) o)) (outside_body b (n + stops_in s) k cs w h.1 (outside_right k n (stops_in s) (body_stops b) o))

-- where a stop is found in what comes after, it isn't in what comes before
not_in_step : (s : Step) (b : Body) (n k : ℕ) (cs ds : List ℤ) (u v w : List Work) → StepNumbered s n → BodyNumbered b (n + stops_in s) → after_body b k cs w ≡ Some v → after_step s k ds u ≡ None
not_in_step s b n k cs ds u v w hs hb e = by (apart k n (stops_in s) (body_stops b))
  where
    by : IsOutside k n (stops_in s) ⊎ IsOutside k (n + stops_in s) (body_stops b) → after_step s k ds u ≡ None
    by (inl o) = outside_step s n k ds u hs o
    by (inr o) = absurd (none_some (after_body b k cs w) v (outside_body b (n + stops_in s) k cs w hb o) e)

not_in_body : (a b : Body) (n k : ℕ) (cs ds : List ℤ) (u v w : List Work) → BodyNumbered a n → BodyNumbered b (n + body_stops a) → after_body b k cs w ≡ Some v → after_body a k ds u ≡ None
not_in_body a b n k cs ds u v w ha hb e = by (apart k n (body_stops a) (body_stops b))
  where
    by : IsOutside k n (body_stops a) ⊎ IsOutside k (n + body_stops a) (body_stops b) → after_body a k ds u ≡ None
    by (inl o) = outside_body a n k ds u ha o
    by (inr o) = absurd (none_some (after_body b k cs w) v (outside_body b (n + body_stops a) k cs w hb o) e)

-- a body in front has no counts of its own
pub counts_before : (b : Body) (w : List Work) → counts_in (body_then b w) ≡ counts_in w
counts_before Empty w = refl
counts_before (Then s b) w = counts_before b w

pub reverse_one : (n : ℤ) (ns cs : List ℤ) → reverse (n ∷ ns) ++ cs ≡ reverse ns ++ (n ∷ cs)
reverse_one n ns cs = ap (λ (l : List ℤ). l ++ cs) (reverse-append (n ∷ []) ns) ∙ append_assoc (reverse ns) (n ∷ []) cs

-- whole: the body of the module
module _ (whole : Body) where
  -- what is found in it before w is what is found in the module, with the counts of w in front
  record InStep (s : Step) (w : List Work) : Type 0 where
    from : ℕ
    numbered : StepNumbered s from
    same : (k : ℕ) (cs : List ℤ) (v : List Work) → after_step s k cs w ≡ Some v → after_body whole k (reverse (counts_in w) ++ cs) [] ≡ Some v

  record InBody (b : Body) (w : List Work) : Type 0 where
    from : ℕ
    numbered : BodyNumbered b from
    same : (k : ℕ) (cs : List ℤ) (v : List Work) → after_body b k cs w ≡ Some v → after_body whole k (reverse (counts_in w) ++ cs) [] ≡ Some v

  abbrev In : List Work → Type 0
  In [] = Unit {0}
  In (Begin s ∷ w) = InStep s w × In w
  In (Again test x ∷ w) = InBody x (Again test x ∷ w) × In w
  In (Turns n x ∷ w) = ((m : ℤ) → InBody x (Turns m x ∷ w)) × In w

  -- the first statement of a body, and the rest of it
  head_in : (s : Step) (b : Body) (w : List Work) → InBody (Then s b) w → InStep s (body_then b w)
  head_in s b w h = record {
    from = h.from;
    numbered = h.numbered.0;
    same = λ k cs v e.
        subst (λ (ns : List ℤ). after_body whole k (reverse ns ++ cs) [] ≡ Some v) (sym (counts_before b w))
        (h.same k cs v (in_first (after_step s k cs (body_then b w)) (after_body b k cs w) v e));
  }

  rest_in : (s : Step) (b : Body) (w : List Work) → InBody (Then s b) w → InBody b w
  rest_in s b w h = record {
    from = h.from + stops_in s;
    numbered = h.numbered.1;
    same = λ k cs v e.
        h.same k cs v (in_second (after_step s k cs (body_then b w)) (after_body b k cs w) v (not_in_step s b h.from k cs cs (body_then b w) v w h.numbered.0 h.numbered.1 e) e);
  }

  first_in : (test : Exp) (x y : Body) (w : List Work) → InStep (Choose test x y) w → InBody x w
  first_in test x y w h = record {
    from = h.from;
    numbered = h.numbered.0;
    same = λ k cs v e. h.same k cs v (in_first (after_body x k cs w) (after_body y k cs w) v e);
  }

  second_in : (test : Exp) (x y : Body) (w : List Work) → InStep (Choose test x y) w → InBody y w
  second_in test x y w h = record {
    from = h.from + body_stops x;
    numbered = h.numbered.1;
    same = λ k cs v e. h.same k cs v (in_second (after_body x k cs w) (after_body y k cs w) v (not_in_body x y h.from k cs cs w v w h.numbered.0 h.numbered.1 e) e);
  }

  loop_in : (test : Exp) (x : Body) (w : List Work) → InStep (Loop test x) w → InBody x (Again test x ∷ w)
  loop_in test x w h = record { from = h.from; numbered = h.numbered; same = h.same }

  turns_in : (count : Exp) (x : Body) (w : List Work) → InStep (Times count x) w → (m : ℤ) → InBody x (Turns m x ∷ w)
  turns_in count x w h m = record {
    from = h.from;
    numbered = h.numbered;
    same = λ k cs v e. subst (λ (ns : List ℤ). after_body whole k ns [] ≡ Some v) (sym (reverse_one m (counts_in w) cs)) (h.same k (m ∷ cs) v e);
  }

  in_before : (b : Body) (w : List Work) → InBody b w → In w → In (body_then b w)
  in_before Empty w h i = i
  in_before (Then s b) w h i = (head_in s b w h, in_before b w (rest_in s b w h) i)

  -- ---- what comes next

  -- a stop with this left
  abbrev Stops : ℕ → List Work → Type 0
  Stops k w = after_body whole k (reverse (counts_in w)) [] ≡ Some w

  abbrev NextIn : Next (List Work) → Type 0
  NextIn Finish = Unit {0}
  NextIn Stuck = Unit {0}
  NextIn (Acts action w) = In w
  NextIn (Advances w) = In w
  NextIn (Tests test v w) = In v × In w
  NextIn (Counts count f) = (n : ℤ) → In (f n)
  NextIn (Holds k pause w) = In w × Stops k w
  NextIn (Runs k m arguments w) = In w × Stops k w

  stop_in : (s : Step) (k : ℕ) (w : List Work) → after_step s k [] w ≡ Some w → InStep s w → Stops k w
  stop_in s k w e h = subst (λ (cs : List ℤ). after_body whole k cs [] ≡ Some w) (append-nil (reverse (counts_in w))) (h.same k [] w e)

  begin_in : (s : Step) (w : List Work) → InStep s w → In w → NextIn (next_begin s w)
  begin_in (Do action) w h i = i
  begin_in (Hold k pause) w h i = (i, stop_in (Hold k pause) k w (found_here k w) h)
  begin_in (Call k m arguments) w h i = (i, stop_in (Call k m arguments) k w (found_here k w) h)
  begin_in (Choose test x y) w h i = (in_before x w (first_in test x y w h) i, in_before y w (second_in test x y w h) i)
  begin_in (Loop test x) w h i = (loop_in test x w h, i)
  begin_in (Times count x) w h i = λ n. (turns_in count x w h, i)

  turn_in : (n : ℤ) (x : Body) (w : List Work) → ((m : ℤ) → InBody x (Turns m x ∷ w)) → In w → NextIn (next_turn n x w)
  turn_in (pos zero) x w h i = i
  turn_in (pos (suc n)) x w h i = in_before x (Turns (pos n) x ∷ w) (h (pos n)) (h, i)
  turn_in (negsuc n) x w h i = i

  next_in : (w : List Work) → In w → NextIn (next_work w)
  next_in [] h = tt
  next_in (Begin s ∷ w) h = begin_in s w h.0 h.1
  next_in (Again test x ∷ w) h = (in_before x (Again test x ∷ w) h.0 h, h.1)
  next_in (Turns n x ∷ w) h = turn_in n x w h.0 h.1

  leads_in : (x : Next (List Work)) (v : List Work) → NextIn x → LeadsTo x v → In v
  leads_in Finish v h l = absurd l
  leads_in Stuck v h l = absurd l
  leads_in (Acts action w) v h l = subst In (sym l) h
  leads_in (Advances w) v h l = subst In (sym l) h
  leads_in (Tests test p q) v h l = ⊎_elim (λ a. subst In (sym a) h.0) (λ b. subst In (sym b) h.1) l
  leads_in (Counts count f) v h l = subst In (sym l.1) (h l.0)
  leads_in (Holds k pause w) v h l = subst In (sym l) h.0
  leads_in (Runs k m arguments w) v h l = subst In (sym l) h.0

  -- ---- after a stop

  abbrev IfIn : Option (List Work) → Type 0
  IfIn None = Unit {0}
  IfIn (Some w) = In w

  first_of_two : (a b : Option (List Work)) → IfIn a → IfIn b → IfIn (first_some a b)
  first_of_two None b h i = i
  first_of_two (Some w) b h i = h

  at_in : (here k : ℕ) (w : List Work) → In w → IfIn (at_stop here k w)
  at_in here k w i = by (here == k)
    where
      by : (b : Bool) → IfIn (if b then Some w else None)
      by true = i
      by false = tt

  mutual
    after_in_step : (s : Step) (k : ℕ) (cs : List ℤ) (w : List Work) → InStep s w → In w → IfIn (after_step s k cs w)
    after_in_step (Do action) k cs w h i = tt
    after_in_step (Hold here pause) k cs w h i = at_in here k w i
    after_in_step (Call here m arguments) k cs w h i = at_in here k w i
    after_in_step (Choose test x y) k cs w h i =
        first_of_two (after_body x k cs w) (after_body y k cs w) (after_in_body x k cs w (first_in test x y w h) i) (after_in_body y k cs w (second_in test x y w h) i)
    after_in_step (Loop test x) k cs w h i = after_in_body x k cs (Again test x ∷ w) (loop_in test x w h) (loop_in test x w h, i)
    after_in_step (Times count x) k cs w h i =
        after_in_body x k (drop 1 cs) (Turns (first_count cs) x ∷ w) (turns_in count x w h (first_count cs)) (turns_in count x w h, i)

    after_in_body : (b : Body) (k : ℕ) (cs : List ℤ) (w : List Work) → InBody b w → In w → IfIn (after_body b k cs w)
    after_in_body Empty k cs w h i = tt
    after_in_body (Then s b) k cs w h i =
        first_of_two (after_step s k cs (body_then b w)) (after_body b k cs w)
        (after_in_step s k cs (body_then b w) (head_in s b w h) (in_before b w (rest_in s b w h) i)) (after_in_body b k cs w (rest_in s b w h) i)

  none_in : (o : Option (List Work)) → IfIn o → In (unwrap_or o [])
  none_in None h = tt
  none_in (Some w) h = h

-- ---- modules

module _ (p : Resolved) (numbered : IsNumbered p) (m : ModuleId) where
  whole_in : InBody (body_at p m) (body_at p m) []
  whole_in = record { from = 0; numbered = numbered m; same = λ k cs v e. e }

  left_in : {w : List Work} → IsLeft p m w → In (body_at p m) w
  left_in begins = in_before (body_at p m) (body_at p m) [] whole_in tt
  left_in (resumes k counts) = none_in (body_at p m) (after_body (body_at p m) k counts []) (after_in_body (body_at p m) (body_at p m) k counts [] whole_in tt)
  left_in (goes_on {v} {w} l h) = leads_in (body_at p m) (next_work v) w (next_in (body_at p m) v (left_in l)) h

  leaves_by : (x : Next (List Work)) → NextIn (body_at p m) x → LeavesAfter p m x
  leaves_by Finish h = tt
  leaves_by Stuck h = tt
  leaves_by (Acts action w) h = tt
  leaves_by (Advances w) h = tt
  leaves_by (Tests test v w) h = tt
  leaves_by (Counts count f) h = tt
  leaves_by (Holds k pause w) h = ap (λ (o : Option (List Work)). unwrap_or o []) h.1
  leaves_by (Runs k called arguments w) h = ap (λ (o : Option (List Work)). unwrap_or o []) h.1

  pub leaves_after : (w : List Work) → IsLeft p m w → LeavesAfter p m (next_work w)
  leaves_after w l = leaves_by (next_work w) (next_in (body_at p m) w (left_in l))
