-- A point in the code of a body stands for the work that is left in the body, and the same comes next at both.
use Rattle.std.proofs.Common.{◌≡◌, ℕ, zero, suc, ◌+◌, ◌<◌, ◌≤◌, List, [], ◌∷◌, ◌++◌, length, Some, None, slice_get, refl, sym, ap, ◌∙◌, subst, arith, length-append}
use Rattle.std.specs.Prelude.{ℤ, pos, negsuc}
use Rattle.std.specs.Option.{option_and_then}
use Rattle.std.proofs.lemmas.Option.{slice_get_within}
use Rattle.loft_base.specs.declared.ids.ModuleId.{ModuleId}
use Rattle.loft_tree.specs.declared.heads.Place.{Place}
use Rattle.loft_tree.specs.declared.heads.Heads.{Heads}
use Rattle.loft_tree.specs.Resolved.{Exp, Step, Do, Hold, Call, Choose, Loop, Times, Body, Empty, Then}
use Rattle.loft_code.specs.Operations.{Operation, Line}
use Rattle.loft_code.specs.Operations as op
use Rattle.loft_sense.specs.Run.{Next, Finish, Advances}
use Rattle.loft_sense.specs.Tree.{Work, Begin, Again, Turns, body_then, next_begin, next_turn, next_work, counts_in}
use Rattle.loft_sense.specs.Code.{Point, point, jump_of, follow, land, landing, turned, next_operation, next_line, next_at, next_point}
use Rattle.loft_sense.specs.Stands.{leads_step, leads}
use Rattle.loft_translation.specs.Compiled.{line, else_lines, again_lines, turn_lines, step_lines, body_lines}
use Rattle.loft_translation.proofs.Same.{NextAgrees, both_finish, both_act, both_pass, both_test, both_count, both_hold, both_run}

-- an operation that is no jump
abbrev pub IsStill : Line → Type 0
IsStill l = jump_of l.operation ≡ None

-- the first of these operations is no jump
abbrev pub BeginsStill : List Line → Type 0
BeginsStill [] = ⊥
BeginsStill (l ∷ ls) = IsStill l

-- the operation may stand in code that runs no modules but these
abbrev pub RunsOnly : (ModuleId → Type 0) → Operation → Type 0
RunsOnly Called (op.Do action) = Unit {0}
RunsOnly Called (op.Hold k pause) = Unit {0}
RunsOnly Called (op.Call k m arguments) = Called m
RunsOnly Called (op.Branch t test) = Unit {0}
RunsOnly Called op.Enter = Unit {0}
RunsOnly Called (op.Count e) = Unit {0}
RunsOnly Called (op.Turn t) = Unit {0}
RunsOnly Called (op.Jump t) = Unit {0}
RunsOnly Called op.End = Unit {0}

pub counts_before : (b : Body) (w : List Work) → counts_in (body_then b w) ≡ counts_in w
counts_before Empty w = refl
counts_before (Then s b) w = counts_before b w

-- the lines of the module
module _ (lines : List Line) where
  -- these operations stand in them from number p on
  abbrev pub HasAt : ℕ → List Line → Type 0
  HasAt p [] = Unit {0}
  HasAt p (l ∷ ls) = (slice_get lines p ≡ Some l) × HasAt (p + 1) ls

  pub has_front : (p : ℕ) (a b : List Line) → HasAt p (a ++ b) → HasAt p a
  has_front p [] b has = tt
  has_front p (l ∷ a) b has = (has.0, has_front (p + 1) a b has.1)

  pub has_back : (p : ℕ) (a b : List Line) → HasAt p (a ++ b) → HasAt (p + length a) b
  has_back p [] b has = let e : p ≡ p + 0 = omega arith in subst (λ n. HasAt n b) e has
  has_back p (l ∷ a) b has =
      let e : p + 1 + length a ≡ p + length (l ∷ a) = omega arith in
      subst (λ n. HasAt n b) e (has_back (p + 1) a b has.1)

  -- jumps lead from p to q, by as many as there are operations from p on
  pub record Reaches (p q : ℕ) : Type 0 where
    pub by : (n : ℕ) → length lines ≤ n + p → land lines n p ≡ q

  still_lands : (p : ℕ) (l : Line) → slice_get lines p ≡ Some l → IsStill l → (n : ℕ) → land lines n p ≡ p
  still_lands p l e still zero = refl
  still_lands p l e still (suc n) =
      ap (λ o. follow (option_and_then (λ k. jump_of k.operation) o) p (land lines n)) e ∙ ap (λ o. follow o p (land lines n)) still

  pub reach_here : (p : ℕ) (l : Line) → slice_get lines p ≡ Some l → IsStill l → Reaches p p
  reach_here p l e still = record { by = λ n many. still_lands p l e still n }

  reach_jump : (p t q d : ℕ) (here : Place) → slice_get lines p ≡ Some (line here d (op.Jump t)) → ((n : ℕ) → length lines ≤ suc n + p → land lines n t ≡ q) → Reaches p q
  reach_jump p t q d here e from = record { by = jumps }
    where
      jumps : (n : ℕ) → length lines ≤ n + p → land lines n p ≡ q
      jumps zero many = absurd (let within : p < length lines = slice_get_within lines p (line here d (op.Jump t)) e in omega arith)
      jumps (suc n) many = ap (λ o. follow (option_and_then (λ k. jump_of k.operation) o) p (land lines n)) e ∙ from n many

  pub begins_here : (p : ℕ) (ls : List Line) → HasAt p ls → BeginsStill ls → Reaches p p
  begins_here p [] has still = absurd still
  begins_here p (l ∷ ls) has still = reach_here p l has.0 still

  -- these operations stand in them from p on, up to past
  pub record Between (p : ℕ) (ls : List Line) (past : ℕ) : Type 0 where
    pub has : HasAt p ls
    pub ends : p + length ls ≡ past

  pub front_of : (p past : ℕ) (a b : List Line) → Between p (a ++ b) past → Between p a (p + length a)
  front_of p past a b code = record { has = has_front p a b code.has; ends = refl }

  pub back_of : (p past : ℕ) (a b : List Line) → Between p (a ++ b) past → Between (p + length a) b past
  back_of p past a b code = record { has = has_back p a b code.has; ends = omega (arith, code.ends, length-append a b) }

  pub rest_from : (p past : ℕ) (l : Line) (ls : List Line) → Between p (l ∷ ls) past → Between (p + 1) ls past
  rest_from p past l ls code = record { has = code.has.1; ends = omega (arith, code.ends) }

  -- h: what the program declares
  module _ (h : Heads) where
    -- the code of one piece of work, from operation p on, inside d `repeat`s, where a thread is linked here before it
    abbrev pub work_lines : Work → (p d : ℕ) → Place → List Line
    work_lines (Begin s) p d here = step_lines h s p d here
    work_lines (Again test body) p d here = again_lines p d here (leads h body here) test (body_lines h body (p + 1) d here)
    work_lines (Turns n body) p d here = turn_lines p d here (leads h body here) (body_lines h body (p + 1) d here)

    -- the code of this piece of work stands from q on, up to past
    pub record WorkAt (i : Work) (q past : ℕ) : Type 0 where
      pub depth : ℕ
      pub here : Place
      pub code : Between q (work_lines i q depth here) past

    -- the operation after the code of a body
    abbrev pub past_body : Body → (p d : ℕ) → Place → ℕ
    past_body b p d here = p + length (body_lines h b p d here)

    -- the parts of a loop whose test is operation q: its body, and the `jump` back
    pub record LoopAt (x : Body) (q d past : ℕ) (here : Place) : Type 0 where
      pub body : Between (q + 1) (body_lines h x (q + 1) d here) (past_body x (q + 1) d here)
      pub back : slice_get lines (past_body x (q + 1) d here) ≡ Some (line (leads h x here) d (op.Jump q))
      pub ends : past ≡ past_body x (q + 1) d here + 1

    pub loop_parts : (test : Line) (x : Body) (q d past : ℕ) (here : Place) → Between q (test ∷ (body_lines h x (q + 1) d here ++ line (leads h x here) d (op.Jump q) ∷ [])) past → LoopAt x q d past here
    loop_parts test x q d past here code =
        let xs = body_lines h x (q + 1) d here in
        let back = line (leads h x here) d (op.Jump q) ∷ [] in
        let bodies = rest_from q past test (xs ++ back) code in
        let last = back_of (q + 1) past xs back bodies in
        record { body = front_of (q + 1) past xs back bodies; back = last.has.0; ends = sym last.ends }

    -- the parts of an `if` whose `branch` is operation q: its two bodies, and the `jump` past the second one
    pub record BranchesAt (x y : Body) (q d past : ℕ) (here : Place) : Type 0 where
      pub first : Between (q + 1) (body_lines h x (q + 1) d here) (past_body x (q + 1) d here)
      pub skip : slice_get lines (past_body x (q + 1) d here) ≡ Some (line (leads h x here) d (op.Jump past))
      pub second : Between (past_body x (q + 1) d here + 1) (body_lines h y (past_body x (q + 1) d here + 1) d here) past
      pub over : past_body x (q + 1) d here < past

    pub branch_parts : (test : Exp) (x y : Body) (q d past : ℕ) (here : Place)
        → Between q (else_lines q d here (leads h x here) test (body_lines h x (q + 1) d here) (body_lines h y (past_body x (q + 1) d here + 1) d here)) past → BranchesAt x y q d past here
    branch_parts test x y q d past here code =
        let xs = body_lines h x (q + 1) d here in
        let j = past_body x (q + 1) d here in
        let ys = body_lines h y (j + 1) d here in
        let skip = line (leads h x here) d (op.Jump (j + 1 + length ys)) in
        let bodies = rest_from q past (line here d (op.Branch (j + 1) test)) (xs ++ skip ∷ ys) code in
        let back = back_of (q + 1) past xs (skip ∷ ys) bodies in
        let second = rest_from j past skip ys back in
        record {
          first = front_of (q + 1) past xs (skip ∷ ys) bodies;
          skip = back.has.0 ∙ ap (λ t. Some (line (leads h x here) d (op.Jump t))) second.ends;
          second = second;
          over = omega (arith, second.ends);
        }

    -- from p on the code does this work, and then ends the module
    abbrev pub Does : ℕ → List Work → Type 0
    Does p [] = (q : ℕ) × Reaches p q × (l : Line) × (slice_get lines q ≡ Some l) × (l.operation ≡ op.End)
    Does p (i ∷ w) = (q : ℕ) × Reaches p q × (past : ℕ) × WorkAt i q past × Does past w

    pub does_same : (p q : ℕ) (w : List Work) → p ≡ q → Does p w → Does q w
    does_same p q w e at = subst (λ n. Does n w) e at

    -- a jump forward
    pub does_jump : (p t d : ℕ) (here : Place) (w : List Work) → slice_get lines p ≡ Some (line here d (op.Jump t)) → p < t → Does t w → Does p w
    does_jump p t d here [] e lt at = (at.0, reach_jump p t at.0 d here e (λ n many. at.1.by n (omega arith)), at.2, at.3, at.4)
    does_jump p t d here (i ∷ w) e lt at = (at.0, reach_jump p t at.0 d here e (λ n many. at.1.by n (omega arith)), at.2, at.3, at.4)

    -- a jump back, to an operation that is no jump
    pub does_back : (p t d past : ℕ) (here : Place) (l : Line) (i : Work) (w : List Work) → slice_get lines p ≡ Some (line here d (op.Jump t)) → slice_get lines t ≡ Some l → IsStill l
        → WorkAt i t past → Does past w → Does p (i ∷ w)
    does_back p t d past here l i w e first still work rest =
        (t, reach_jump p t t d here e (λ n many. still_lands t l first still n), past, work, rest)

    step_begins : (s : Step) (p d : ℕ) (here : Place) → BeginsStill (step_lines h s p d here)
    step_begins (Do action) p d here = refl
    step_begins (Hold k pause) p d here = refl
    step_begins (Call k m arguments) p d here = refl
    step_begins (Choose test x Empty) p d here = refl
    step_begins (Choose test x (Then s y)) p d here = refl
    step_begins (Loop test x) p d here = refl
    step_begins (Times count x) p d here = refl

    -- the code of a body, and then the rest
    pub does_body : (b : Body) (p d past : ℕ) (here : Place) (w : List Work) → Between p (body_lines h b p d here) past → Does past w → Does p (body_then b w)
    does_body Empty p d past here w code rest = let e : past ≡ p = omega (arith, code.ends) in does_same past p w e rest
    does_body (Then s b) p d past here w code rest =
        let first = step_lines h s p d here in
        let q = p + length first in
        let others = body_lines h b q d (leads_step h s here) in
        let front = front_of p past first others code in (
          p,
          begins_here p first front.has (step_begins s p d here),
          q,
          record { depth = d; here = here; code = front },
          does_body b q d past (leads_step h s here) w (back_of p past first others code) rest,
        )

    -- the point stands for the work that is left, and its counts for the turns in it
    pub record StandsFor (w : List Work) (p : Point) : Type 0 where
      pub at : Does p.op w
      pub counts : p.counts ≡ counts_in w

    pub stands_body : (b : Body) (p d past : ℕ) (here : Place) (w : List Work) (cs : List ℤ) → cs ≡ counts_in w → Between p (body_lines h b p d here) past → Does past w → StandsFor (body_then b w) (point p cs)
    stands_body b p d past here w cs same code rest = record { at = does_body b p d past here w code rest; counts = same ∙ sym (counts_before b w) }

    -- ---- what comes next

    module _ (Called : ModuleId → Type 0) (runs : (q : ℕ) (l : Line) → slice_get lines q ≡ Some l → RunsOnly Called l.operation) where
      -- the same comes next as at this point
      abbrev pub NextSame : Next (List Work) → Next Point → Type 0
      NextSame x y = NextAgrees Called StandsFor x y

      -- what comes next is the operation to which the jumps lead
      landed : (x : Next (List Work)) (p q : ℕ) (l : Line) (cs : List ℤ) → Reaches p q → slice_get lines q ≡ Some l → NextSame x (next_operation l.operation q cs) → NextSame x (next_point lines (point p cs))
      landed x p q l cs reach e same =
          let there : landing lines p ≡ q = reach.by (length lines) (omega arith) in
          let is : next_point lines (point p cs) ≡ next_operation l.operation q cs = ap (λ r. next_at lines r cs) there ∙ ap (λ o. next_line o q cs) e in
          subst (NextSame x) (sym is) same

      next_begin_same : (s : Step) (w : List Work) (p q d past : ℕ) (here : Place) (cs : List ℤ) → cs ≡ counts_in w → Between q (step_lines h s q d here) past → Does past w → Reaches p q
          → NextSame (next_begin s w) (next_point lines (point p cs))
      next_begin_same (Do action) w p q d past here cs same code rest reach =
          landed _ p q _ cs reach code.has.0 (both_act (record { at = does_same past (q + 1) w (sym code.ends) rest; counts = same }))
      next_begin_same (Hold k pause) w p q d past here cs same code rest reach =
          landed _ p q _ cs reach code.has.0 (both_hold (record { at = does_same past (q + 1) w (sym code.ends) rest; counts = same }))
      next_begin_same (Call k m arguments) w p q d past here cs same code rest reach =
          landed _ p q _ cs reach code.has.0 (both_run (runs q _ code.has.0) (record { at = does_same past (q + 1) w (sym code.ends) rest; counts = same }))
      next_begin_same (Choose test x Empty) w p q d past here cs same code rest reach =
          let xs = body_lines h x (q + 1) d here in
          let body = rest_from q past _ xs code in
          landed _ p q _ cs reach code.has.0 (both_test (stands_body x (q + 1) d past here w cs same body rest) (record { at = does_same past (q + 1 + length xs) w (sym body.ends) rest; counts = same }))
      next_begin_same (Choose test x (Then s y)) w p q d past here cs same code rest reach =
          let parts = branch_parts test x (Then s y) q d past here code in
          let j = past_body x (q + 1) d here in
          let over = does_jump j past d (leads h x here) w parts.skip parts.over rest in
          landed _ p q _ cs reach code.has.0 (both_test (stands_body x (q + 1) d j here w cs same parts.first over) (stands_body (Then s y) (j + 1) d past here w cs same parts.second rest))
      next_begin_same (Loop test x) w p q d past here cs same code rest reach =
          let loop = rest_from q past _ _ code in
          landed _ p q _ cs reach code.has.0 (both_pass (record { at = (q + 1, reach_here (q + 1) _ loop.has.0 refl, past, record { depth = d; here = here; code = loop }, rest); counts = same }))
      next_begin_same (Times count x) w p q d past here cs same code rest reach =
          let loop = rest_from q past _ _ code in
          landed _ p q _ cs reach code.has.0 (both_count (λ n. record { at = (q + 1, reach_here (q + 1) _ loop.has.0 refl, past, record { depth = d + 1; here = here; code = loop }, rest); counts = ap (λ ns. n ∷ ns) same }))

      -- the next test of a `while` whose `branch` is operation q
      next_again_same : (test : Exp) (x : Body) (w : List Work) (p q past : ℕ) (cs : List ℤ) → cs ≡ counts_in w → WorkAt (Again test x) q past → Does past w → Reaches p q
          → NextSame (next_work (Again test x ∷ w)) (next_point lines (point p cs))
      next_again_same test x w p q past cs same work rest reach =
          let parts = loop_parts _ x q work.depth past work.here work.code in
          let j = past_body x (q + 1) work.depth work.here in
          let again = does_back j q work.depth past (leads h x work.here) _ (Again test x) w parts.back work.code.has.0 refl work rest in
          landed _ p q _ cs reach work.code.has.0 (both_test (stands_body x (q + 1) work.depth j work.here (Again test x ∷ w) cs same parts.body again) (record { at = does_same past (j + 1) w parts.ends rest; counts = same }))

      -- the next turn of a `repeat` whose `turn` is operation q
      next_turn_same : (n : ℤ) (x : Body) (w : List Work) (p q past : ℕ) (cs : List ℤ) → cs ≡ n ∷ counts_in w → WorkAt (Turns n x) q past → Does past w → Reaches p q
          → NextSame (next_turn n x w) (next_point lines (point p cs))
      next_turn_same n x w p q past cs same work rest reach =
          let parts = loop_parts _ x q work.depth past work.here work.code in
          let j = past_body x (q + 1) work.depth work.here in
          let again = λ (m : ℤ). does_back j q work.depth past (leads h x work.here) _ (Turns m x) w parts.back work.code.has.0 refl (record { depth = work.depth; here = work.here; code = work.code }) rest in
          let inside = λ (m : ℤ). stands_body x (q + 1) work.depth j work.here (Turns m x ∷ w) (m ∷ counts_in w) refl parts.body (again m) in
          subst (λ ns. NextSame (next_turn n x w) (next_point lines (point p ns))) (sym same)
          (landed _ p q _ (n ∷ counts_in w) reach work.code.has.0 (turn n inside (record { at = does_same past (j + 1) w parts.ends rest; counts = refl })))
        where
          turn : {t : ℕ} (n : ℤ) → ((m : ℤ) → StandsFor (body_then x (Turns m x ∷ w)) (point (q + 1) (m ∷ counts_in w))) → StandsFor w (point t (counts_in w))
              → NextSame (next_turn n x w) (Advances (turned (q + 1) t (n ∷ counts_in w)))
          turn (pos zero) inside outside = both_pass outside
          turn (pos (suc m)) inside outside = both_pass (inside (pos m))
          turn (negsuc m) inside outside = both_pass outside

      -- the same comes next at a point as with the work that it stands for
      pub next_same : (w : List Work) (p : Point) → StandsFor w p → NextSame (next_work w) (next_point lines p)
      next_same [] p s = landed Finish p.op s.at.0 s.at.2 p.counts s.at.1 s.at.3 (subst (λ (o : Operation). NextSame Finish (next_operation o s.at.0 p.counts)) (sym s.at.4) both_finish)
      next_same (Begin s ∷ w) p stands =
          let work = stands.at.3 in
          next_begin_same s w p.op stands.at.0 work.depth stands.at.2 work.here p.counts stands.counts work.code stands.at.4 stands.at.1
      next_same (Again test x ∷ w) p s = next_again_same test x w p.op s.at.0 s.at.2 p.counts s.counts s.at.3 s.at.4 s.at.1
      next_same (Turns n x ∷ w) p s = next_turn_same n x w p.op s.at.0 s.at.2 p.counts s.counts s.at.3 s.at.4 s.at.1
