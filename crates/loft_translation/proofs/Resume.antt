-- The stops of a body and of its code: each is found in both, is the same in both, and after it the point in the code stands
-- for the work that is left.
use Rattle.std.proofs.Common.{◌≡◌, ℕ, ◌+◌, ◌≤◌, ◌==◌, Bool, true, false, List, [], ◌∷◌, ◌++◌, length, reverse, Option, Some, None, slice_get, refl, sym, ap, ◌∙◌, subst, arith, append_assoc}
use Rattle.std.specs.Prelude.{ℤ, if◌then◌else◌, drop}
use Rattle.std.specs.Option.{option_and_then}
use Rattle.std.proofs.lemmas.List.{reverse-append}
use Rattle.loft_tree.specs.declared.heads.Place.{Place}
use Rattle.loft_tree.specs.declared.heads.Heads.{Heads}
use Rattle.loft_tree.specs.Resolved.{Step, Do, Hold, Call, Choose, Loop, Times, Body, Empty, Then}
use Rattle.loft_code.specs.Operations.{Line, stop_of}
use Rattle.loft_code.specs.Operations as op
use Rattle.loft_sense.specs.Tree.{Work, Again, Turns, body_then, counts_in, first_some, first_count, after_step, after_body, stop_at_step, stop_at, pause_of_step as pause_of_step}
use Rattle.loft_sense.specs.Code.{point, is_number, stop_from, pause_of_operation, pause_at}
use Rattle.loft_sense.specs.Stands.{StopKind, Pauses, Calls, StopAt, end_of, place_after, leads_step, leads, stop_in_step, stop_in, kind_of, stop_before, stop_at_line}
use Rattle.loft_translation.specs.Compiled.{line, step_lines, body_lines}
use Rattle.loft_translation.specs.Whole.{StepIsWhole, BodyIsWhole}
use Rattle.loft_translation.proofs.Simulation.{Between, front_of, back_of, rest_from, past_body, loop_parts, branch_parts, Does, does_same, does_jump, does_back, does_body, StandsFor, counts_before}

first_none : {A : Type 0} (o : Option A) → first_some o None ≡ o
first_none None = refl
first_none (Some x) = refl

-- a stop in two lists of operations, one after the other
stop_first : (here : Bool) (p : ℕ) (a b : Option ℕ) → (if here then Some p else first_some a b) ≡ first_some (if here then Some p else a) b
stop_first true p a b = refl
stop_first false p a b = refl

stop_from_parts : (p : ℕ) (a b : List Line) (k : ℕ) → stop_from p (a ++ b) k ≡ first_some (stop_from p a k) (stop_from (p + length a) b k)
stop_from_parts p [] b k = let e : p ≡ p + 0 = omega arith in ap (λ n. stop_from n b k) e
stop_from_parts p (l ∷ a) b k =
    let here = is_number (stop_of l.operation) k in
    let e : p + 1 + length a ≡ p + length (l ∷ a) = omega arith in
    ap (λ o. if here then Some p else o) (stop_from_parts (p + 1) a b k ∙ ap (λ n. first_some (stop_from (p + 1) a k) (stop_from n b k)) e)
    ∙ stop_first here p (stop_from (p + 1) a k) (stop_from (p + length (l ∷ a)) b k)

-- a last operation that is no stop makes no difference
pub before_last : (p : ℕ) (a : List Line) (l : Line) (k : ℕ) → stop_of l.operation ≡ None → stop_from p a k ≡ stop_from p (a ++ l ∷ []) k
before_last p a l k none =
    let past : stop_from (p + length a) (l ∷ []) k ≡ None = ap (λ o. if is_number o k then Some (p + length a) else None) none in
    sym (first_none (stop_from p a k)) ∙ ap (first_some (stop_from p a k)) (sym past) ∙ sym (stop_from_parts p a (l ∷ []) k)

reverse_one : (n : ℤ) (cs ts : List ℤ) → reverse (n ∷ cs) ++ ts ≡ reverse cs ++ (n ∷ ts)
reverse_one n cs ts = ap (λ (l : List ℤ). l ++ ts) (reverse-append (n ∷ []) cs) ∙ append_assoc (reverse cs) (n ∷ []) ts

no_counts : (d : ℕ) (cs ts : List ℤ) → d + length cs ≡ d → reverse cs ++ ts ≡ ts
no_counts d [] ts e = refl
no_counts d (n ∷ cs) ts e = absurd (omega arith)

-- the lines of the module, and what the program declares
module _ (lines : List Line) (h : Heads) where
  -- operation p begins here, inside d `repeat`s
  pub record LineIs (p d : ℕ) (here : Place) : Type 0 where
    pub is : Line
    pub at : slice_get lines p ≡ Some is
    pub depth : is.depth ≡ d
    pub place : is.place ≡ here

  stop_is : (q d : ℕ) (there : Place) (l : Line) (kind : StopKind) → slice_get lines q ≡ Some l → kind_of l.operation ≡ Some kind → LineIs (q + 1) d there
      → stop_at_line lines (Some q) ≡ Some (record { kind = kind; depth = d; after = there })
  stop_is q d there l kind e is next =
      ap (λ o. stop_before (option_and_then (λ (k : Line). kind_of k.operation) o) (slice_get lines (q + 1))) e
      ∙ ap (λ o. stop_before o (slice_get lines (q + 1))) is
      ∙ ap (stop_before (Some kind)) next.at
      ∙ ap (λ n. Some (record { kind = kind; depth = n; after = next.is.place })) next.depth
      ∙ ap (λ place. Some (record { kind = kind; depth = d; after = place })) next.place

  pause_is : (q : ℕ) (l : Line) → slice_get lines q ≡ Some l → pause_at lines (Some q) ≡ pause_of_operation l.operation
  pause_is q l e = ap (λ o. option_and_then (λ (k : Line). pause_of_operation k.operation) o) e

  -- the operation with which the code of a statement, or of a body and what comes after it, begins
  step_line : (s : Step) (p d past : ℕ) (here : Place) → Between lines p (step_lines h s p d here) past → LineIs p d here
  step_line (Do action) p d past here code = record { is = _; at = code.has.0; depth = refl; place = refl }
  step_line (Hold k pause) p d past here code = record { is = _; at = code.has.0; depth = refl; place = refl }
  step_line (Call k m arguments) p d past here code = record { is = _; at = code.has.0; depth = refl; place = refl }
  step_line (Choose test x Empty) p d past here code = record { is = _; at = code.has.0; depth = refl; place = refl }
  step_line (Choose test x (Then s y)) p d past here code = record { is = _; at = code.has.0; depth = refl; place = refl }
  step_line (Loop test x) p d past here code = record { is = _; at = code.has.0; depth = refl; place = refl }
  step_line (Times count x) p d past here code = record { is = _; at = code.has.0; depth = refl; place = refl }

  pub body_line : (b : Body) (p d past : ℕ) (here : Place) → Between lines p (body_lines h b p d here) past → LineIs past d (leads h b here) → LineIs p d here
  body_line Empty p d past here code next = let e : past ≡ p = omega (arith, code.ends) in subst (λ n. LineIs n d here) e next
  body_line (Then s b) p d past here code next =
      let first = step_lines h s p d here in
      step_line s p d (p + length first) here (front_of lines p past first _ code)

  -- Stop `at`, which is the statement s, is operation q. d: how many `repeat`s are around the body in which it stands; cs: the
  -- counts of those around it in the body, from the outside in; ts: of those around the body, from the inside out.
  pub record IsStop (d : ℕ) (cs ts : List ℤ) (q : ℕ) (w : List Work) (at : StopAt) (s : Step) : Type 0 where
    pub stop : stop_at_line lines (Some q) ≡ Some at
    pub pause : pause_at lines (Some q) ≡ pause_of_step (Some s)
    pub deep : d ≤ at.depth
    pub goes : d + length cs ≡ at.depth → StandsFor lines h w (point (q + 1) (reverse cs ++ ts))

  -- the stop is nowhere, or everywhere
  pub data Found (d : ℕ) (cs ts : List ℤ) : Option ℕ → Option (List Work) → Option StopAt → Option Step → Type 0 where
    nowhere : Found d cs ts None None None None
    found : {q : ℕ} {w : List Work} {at : StopAt} {s : Step} → IsStop d cs ts q w at s → Found d cs ts (Some q) (Some w) (Some at) (Some s)

  pub found_at : (d : ℕ) (cs : List ℤ) {ts ts' : List ℤ} {q q' : Option ℕ} {w : Option (List Work)} {at : Option StopAt} {s : Option Step} → ts ≡ ts' → q ≡ q' → Found d cs ts q w at s → Found d cs ts' q' w at s
  found_at d cs {ts} {ts'} {q} {q'} {w} {at} {s} e f is = subst (λ x. Found d cs ts' x w at s) f (subst (λ x. Found d cs x q w at s) e is)

  found_first : {d : ℕ} {cs ts : List ℤ} {q q' : Option ℕ} {w w' : Option (List Work)} {at at' : Option StopAt} {s s' : Option Step} → Found d cs ts q w at s → Found d cs ts q' w' at' s'
      → Found d cs ts (first_some q q') (first_some w w') (first_some at at') (first_some s s')
  found_first nowhere g = g
  found_first (found is) g = found is

  -- operation p is a stop of this kind
  found_here : (p d : ℕ) (l : Line) (there : Place) (kind : StopKind) (s : Step) (cs : List ℤ) (w : List Work) (yes : Bool) → slice_get lines p ≡ Some l → kind_of l.operation ≡ Some kind → pause_of_operation l.operation ≡ pause_of_step (Some s)
      → LineIs (p + 1) d there → Does lines h (p + 1) w
      → Found d cs (counts_in w) (if yes then Some p else None) (if yes then Some w else None) (if yes then Some (record { kind = kind; depth = d; after = there }) else None) (if yes then Some s else None)
  found_here p d l there kind s cs w true e is waits next rest = found (record {
    stop = stop_is p d there l kind e is next;
    pause = pause_is p l e ∙ waits;
    deep = omega arith;
    goes = λ same. record { at = rest; counts = no_counts d cs (counts_in w) same };
  })
  found_here p d l there kind s cs w false e is waits next rest = nowhere

  -- inside a `repeat` there is one more count
  found_turn : (d : ℕ) (cs ts : List ℤ) {q : Option ℕ} {w : Option (List Work)} {at : Option StopAt} {s : Option Step} → Found (d + 1) (drop 1 cs) (first_count cs ∷ ts) q w at s → Found d cs ts q w at s
  found_turn d cs ts nowhere = nowhere
  found_turn d cs ts (found {q} {w} {at} {s} is) = found (record { stop = is.stop; pause = is.pause; deep = omega (arith, is.deep); goes = goes cs is.deep is.goes })
    where
      goes : (cs : List ℤ) → d + 1 ≤ at.depth → (d + 1 + length (drop 1 cs) ≡ at.depth → StandsFor lines h w (point (q + 1) (reverse (drop 1 cs) ++ (first_count cs ∷ ts))))
          → d + length cs ≡ at.depth → StandsFor lines h w (point (q + 1) (reverse cs ++ ts))
      goes [] deep on same = absurd (omega arith)
      goes (n ∷ cs) deep on same = subst (λ ns. StandsFor lines h w (point (q + 1) ns)) (sym (reverse_one n cs ts)) (on (omega arith))

  -- n: how many modules there are
  module _ (n : ℕ) where
    mutual
      found_step : (s : Step) (k p d past : ℕ) (here : Place) (cs : List ℤ) (w : List Work) → StepIsWhole h n s here → Between lines p (step_lines h s p d here) past → LineIs past d (leads_step h s here) → Does lines h past w
          → Found d cs (counts_in w) (stop_from p (step_lines h s p d here) k) (after_step s k cs w) (stop_in_step h s k d here) (stop_at_step s k)
      found_step (Do action) k p d past here cs w whole code next rest = nowhere
      found_step (Hold j pause) k p d past here cs w whole code next rest =
          let e : past ≡ p + 1 = omega (arith, code.ends) in
          found_here p d _ (place_after pause here) (Pauses pause) (Hold j pause) cs w (j == k) code.has.0 refl refl (subst (λ q. LineIs q d (place_after pause here)) e next) (does_same lines h past (p + 1) w e rest)
      found_step (Call j m arguments) k p d past here cs w whole code next rest =
          let e : past ≡ p + 1 = omega (arith, code.ends) in
          found_here p d _ (end_of h m) (Calls m) (Call j m arguments) cs w (j == k) code.has.0 refl refl (subst (λ q. LineIs q d (end_of h m)) e next) (does_same lines h past (p + 1) w e rest)
      found_step (Choose test x Empty) k p d past here cs w whole code next rest =
          let xs = body_lines h x (p + 1) d here in
          found_at d cs refl (first_none (stop_from (p + 1) xs k)) (found_first (found_body x k (p + 1) d past here cs w whole.0 (rest_from lines p past _ xs code) next rest) nowhere)
      found_step (Choose test x (Then s y)) k p d past here cs w whole code next rest =
          let parts = branch_parts lines h test x (Then s y) p d past here code in
          let xs = body_lines h x (p + 1) d here in
          let j = past_body lines h x (p + 1) d here in
          let ys = body_lines h (Then s y) (j + 1) d here in
          let over = does_jump lines h j past d (leads h x here) w parts.skip parts.over rest in
          let skip : LineIs j d (leads h x here) = record { is = _; at = parts.skip; depth = refl; place = refl } in
          found_at d cs refl (sym (stop_from_parts (p + 1) xs (line (leads h x here) d (op.Jump (j + 1 + length ys)) ∷ ys) k))
          (found_first (found_body x k (p + 1) d j here cs w whole.0 parts.first skip over)
          (found_body (Then s y) k (j + 1) d past here cs w whole.1 parts.second (subst (λ there. LineIs past d there) whole.2 next) rest))
      found_step (Loop test x) k p d past here cs w whole code next rest =
          let q = p + 1 in
          let loop = rest_from lines p past _ _ code in
          let parts = loop_parts lines h _ x q d past here loop in
          let j = past_body lines h x (q + 1) d here in
          let again = does_back lines h j q d past (leads h x here) _ (Again test x) w parts.back loop.has.0 refl (record { depth = d; here = here; code = loop }) rest in
          let back : LineIs j d (leads h x here) = record { is = _; at = parts.back; depth = refl; place = refl } in
          found_at d cs refl (before_last (q + 1) (body_lines h x (q + 1) d here) (line (leads h x here) d (op.Jump q)) k refl) (found_body x k (q + 1) d j here cs (Again test x ∷ w) whole parts.body back again)
      found_step (Times count x) k p d past here cs w whole code next rest =
          let q = p + 1 in
          let loop = rest_from lines p past _ _ code in
          let parts = loop_parts lines h _ x q (d + 1) past here loop in
          let j = past_body lines h x (q + 1) (d + 1) here in
          let again = does_back lines h j q (d + 1) past (leads h x here) _ (Turns (first_count cs) x) w parts.back loop.has.0 refl (record { depth = d + 1; here = here; code = loop }) rest in
          let back : LineIs j (d + 1) (leads h x here) = record { is = _; at = parts.back; depth = refl; place = refl } in
          found_at d cs refl (before_last (q + 1) (body_lines h x (q + 1) (d + 1) here) (line (leads h x here) (d + 1) (op.Jump q)) k refl)
          (found_turn d cs (counts_in w) (found_body x k (q + 1) (d + 1) j here (drop 1 cs) (Turns (first_count cs) x ∷ w) whole parts.body back again))

      pub found_body : (b : Body) (k p d past : ℕ) (here : Place) (cs : List ℤ) (w : List Work) → BodyIsWhole h n b here → Between lines p (body_lines h b p d here) past → LineIs past d (leads h b here) → Does lines h past w
          → Found d cs (counts_in w) (stop_from p (body_lines h b p d here) k) (after_body b k cs w) (stop_in h b k d here) (stop_at b k)
      found_body Empty k p d past here cs w whole code next rest = nowhere
      found_body (Then s b) k p d past here cs w whole code next rest =
          let first = step_lines h s p d here in
          let q = p + length first in
          let there = leads_step h s here in
          let others = body_lines h b q d there in
          let back = back_of lines p past first others code in
          found_at d cs refl (sym (stop_from_parts p first others k))
          (found_first
          (found_at d cs (counts_before b w) refl (found_step s k p d q here cs (body_then b w) whole.0 (front_of lines p past first others code) (body_line b q d past there back next) (does_body lines h b q d past there w back rest)))
          (found_body b k q d past there cs w whole.1 back next rest))
