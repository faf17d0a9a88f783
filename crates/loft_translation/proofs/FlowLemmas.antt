-- Each line of the compiler's code leads to lines that are there, at the place and the depth that it leaves.
use Rattle.std.proofs.Common.{◌≡◌, ◌⊎◌, inl, inr, ℕ, zero, suc, ◌+◌, ◌-◌, ◌<◌, IsTrue, List, [], ◌∷◌, ◌++◌, length, Option, Some, None, slice_get, refl, sym, ap, ◌∙◌, subst, arith, append_assoc, length-append}
use Rattle.std.proofs.Math.Seq.{get_or-append_seam}
use Rattle.std.proofs.lemmas.Option.{slice_get-get_or}
use Rattle.loft_tree.specs.declared.kinds.Kind.{Kind}
use Rattle.loft_tree.specs.declared.heads.Place.{Place}
use Rattle.loft_tree.specs.declared.heads.Signature.{Signature}
use Rattle.loft_tree.specs.declared.heads.Heads.{Heads}
use Rattle.loft_tree.specs.Resolved.{Pause, Cooperate, Await, Get, Join, Link, Unlink, Halt, Step, Do, Hold, Call, Choose, Loop, Times, Body, Empty, Then}
use Rattle.loft_code.specs.Operations.{Operation, Line, way}
use Rattle.loft_code.specs.Operations as op
use Rattle.loft_code.specs.Places.{left_by_pause}
use Rattle.loft_code.specs.Places as places
use Rattle.loft_code.specs.Valid.{test_in}
use Rattle.loft_code.specs.Leads.{IsReached, LeadsOn}
use Rattle.loft_sense.specs.Stands.{end_or_unlinked, place_after, leads_step, leads}
use Rattle.loft_translation.specs.Compiled.{line, if_lines, else_lines, again_lines, turn_lines, step_lines, body_lines}
use Rattle.loft_soundness.specs.Numbered.{stops_in as step_stops, body_stops}
use Rattle.loft_translation.proofs.StepLemmas.{StepPasses, BodyPasses}

-- ---- lists in lists

-- the list stands in the other from p on
abbrev pub Has : List Line → ℕ → List Line → Type 0
Has lines p [] = Unit {0}
Has lines p (l ∷ ls) = (slice_get lines p ≡ Some l) × Has lines (p + 1) ls

has_front : (lines : List Line) (p : ℕ) (a b : List Line) → Has lines p (a ++ b) → Has lines p a
has_front lines p [] b has = tt
has_front lines p (l ∷ a) b has = (has.0, has_front lines (p + 1) a b has.1)

has_back : (lines : List Line) (p : ℕ) (a b : List Line) → Has lines p (a ++ b) → Has lines (p + length a) b
has_back lines p [] b has = let e : p ≡ p + 0 = omega arith in subst (λ n. Has lines n b) e has
has_back lines p (l ∷ a) b has =
    let e : p + 1 + length a ≡ p + length (l ∷ a) = omega arith in
    subst (λ n. Has lines n b) e (has_back lines (p + 1) a b has.1)

pub has_all : (ls before : List Line) → Has (before ++ ls) (length before) ls
has_all [] before = tt
has_all (l ∷ ls) before =
    let within : length before < length (before ++ l ∷ ls) = omega (arith, length-append before (l ∷ ls)) in
    let here = slice_get-get_or (before ++ l ∷ ls) (length before) l within ∙ ap (λ (x : Line). Some x) (get_or-append_seam before l ls l) in
    let n : length (before ++ l ∷ []) ≡ length before + 1 = omega (arith, length-append before (l ∷ [])) in
    let rest = subst (λ all. Has all (length (before ++ l ∷ [])) ls) (append_assoc before (l ∷ []) ls) (has_all ls (before ++ l ∷ [])) in
    (here, subst (λ m. Has (before ++ l ∷ ls) m ls) n rest)

-- ---- where statements lead

pause_same : (pause : Pause) (p : Place) → place_after pause p ≡ left_by_pause p pause
pause_same (Cooperate instants) p = refl
pause_same (Await events limit) p = refl
pause_same (Get event index target) p = refl
pause_same (Join thread limit) p = refl
pause_same (Link s) p = refl
pause_same Unlink p = refl
pause_same Halt p = refl

end_same : (o : Option Signature) → end_or_unlinked o ≡ places.end_of o
end_same None = refl
end_same (Some m) = refl

module _ (lines : List Line) where
  -- there is a line of this number, place and depth
  abbrev pub Reached : Place → ℕ → ℕ → Type 0
  Reached there p d = IsReached lines there (way p d)

  reached_at : (there : Place) (p q d : ℕ) → p ≡ q → Reached there p d → Reached there q d
  reached_at there p q d e reached = subst (λ n. Reached there n d) e reached

  reached_in : (here there : Place) (p d : ℕ) → here ≡ there → Reached here p d → Reached there p d
  reached_in here there p d e reached = subst (λ q. Reached q p d) e reached

  -- a target is after the operation, or a `branch` or `turn` to which a `jump` goes back
  abbrev pub IsForward : ℕ → Operation → Type 0
  IsForward p (op.Do action) = Unit {0}
  IsForward p (op.Hold k pause) = Unit {0}
  IsForward p (op.Call k m arguments) = Unit {0}
  IsForward p (op.Branch t test) = p < t
  IsForward p op.Enter = Unit {0}
  IsForward p (op.Count count) = Unit {0}
  IsForward p (op.Turn t) = p < t
  IsForward p (op.Jump t) = (p < t) ⊎ IsTrue (test_in (slice_get lines t))
  IsForward p op.End = Unit {0}

  first_reached : (here : Place) (p d : ℕ) (o : Operation) → slice_get lines p ≡ Some (line here d o) → Reached here p d
  first_reached here p d o at = record { next = line here d o; at = at; place = refl; depth = refl }

module _ (h : Heads) (lines : List Line) where
  -- line p leads to lines that are there
  pub record Flows (p : ℕ) (l : Line) : Type 0 where
    pub ways : LeadsOn h lines p l
    pub forward : IsForward lines p l.operation

  -- the lines from p on do
  abbrev pub AllFlow : ℕ → List Line → Type 0
  AllFlow p [] = Unit {0}
  AllFlow p (l ∷ ls) = Flows p l × AllFlow (p + 1) ls

  pub flow-append : (p : ℕ) (xs ys : List Line) → AllFlow p xs → AllFlow (p + length xs) ys → AllFlow p (xs ++ ys)
  flow-append p [] ys all others = let e : p + 0 ≡ p = omega arith in subst (λ n. AllFlow n ys) e others
  flow-append p (x ∷ xs) ys all others =
      let e : p + length (x ∷ xs) ≡ p + 1 + length xs = omega arith in
      (all.0, flow-append (p + 1) xs ys all.1 (subst (λ n. AllFlow n ys) e others))

  -- from all to each
  pub flow_at : (p : ℕ) (ls : List Line) (k : ℕ) (l : Line) → AllFlow p ls → slice_get ls k ≡ Some l → Flows (p + k) l
  flow_at p [] k l all at = absurd cc
  flow_at p (x ∷ xs) zero l all at =
      let same : x ≡ l = cc in
      let e : p ≡ p + 0 = omega arith in
      subst (λ n. Flows n l) e (subst (λ (y : Line). Flows p y) same all.0)
  flow_at p (x ∷ xs) (suc k) l all at =
      let e : p + 1 + k ≡ p + suc k = omega arith in
      subst (λ n. Flows n l) e (flow_at (p + 1) xs k l all.1 at)

  -- ---- where statements and bodies begin

  step_entry : (s : Step) (p d : ℕ) (here : Place) (rest : List Line) → Has lines p (step_lines h s p d here ++ rest) → Reached lines here p d
  step_entry (Do action) p d here rest has = first_reached lines here p d _ has.0
  step_entry (Hold k pause) p d here rest has = first_reached lines here p d _ has.0
  step_entry (Call k m arguments) p d here rest has = first_reached lines here p d _ has.0
  step_entry (Choose test first Empty) p d here rest has = first_reached lines here p d _ has.0
  step_entry (Choose test first (Then s others)) p d here rest has = first_reached lines here p d _ has.0
  step_entry (Loop test body) p d here rest has = first_reached lines here p d _ has.0
  step_entry (Times count body) p d here rest has = first_reached lines here p d _ has.0

  pub body_entry : (b : Body) (p d : ℕ) (here : Place) → Has lines p (body_lines h b p d here) → Reached lines (leads h b here) (p + length (body_lines h b p d here)) d → Reached lines here p d
  body_entry Empty p d here has exit = reached_at lines here (p + 0) p d (omega arith) exit
  body_entry (Then s rest) p d here has exit = step_entry s p d here (body_lines h rest (p + length (step_lines h s p d here)) d (leads_step h s here)) has

module _ (h : Heads) (slots : List Kind) (lines : List Line) where
  -- ---- all lines of statements and bodies, where there is a line after them

  -- a loop's test at q, its body, and the jump back
  loop_flows : (test : Operation) (body : Body) (q d : ℕ) (here : Place) → IsTrue (test_in (Some (line here d test))) → slice_get lines q ≡ Some (line here d test)
      → leads h body here ≡ here → Flows h lines q (line here d test) → AllFlow h lines (q + 1) (body_lines h body (q + 1) d here)
      → AllFlow h lines q (line here d test ∷ (body_lines h body (q + 1) d here ++ line (leads h body here) d (op.Jump q) ∷ []))
  loop_flows test body q d here is_test at back flows inside =
      let x = body_lines h body (q + 1) d here in
      let jump : Flows h lines (q + 1 + length x) (line (leads h body here) d (op.Jump q)) =
      record {
        ways = (reached_in lines here (leads h body here) q d (sym back) (first_reached lines here q d test at), tt);
        forward = inr (subst (λ (o : Option Line). IsTrue (test_in o)) (sym at) is_test);
      } in
      (flows, flow-append h lines (q + 1) x (line (leads h body here) d (op.Jump q) ∷ []) inside (jump, tt))

  mutual
    step_flows : (s : Step) (p d k : ℕ) (here : Place) → StepPasses h slots s d k here → Has lines p (step_lines h s p d here)
        → Reached lines (leads_step h s here) (p + length (step_lines h s p d here)) d → AllFlow h lines p (step_lines h s p d here)
    step_flows (Do action) p d k here passes has exit = (record { ways = (exit, tt); forward = tt }, tt)
    step_flows (Hold j pause) p d k here passes has exit =
        (record { ways = (reached_in lines _ _ (p + 1) d (pause_same pause here) exit, tt); forward = tt }, tt)
    step_flows (Call j m arguments) p d k here passes has exit =
        (record { ways = (reached_in lines _ _ (p + 1) d (end_same (slice_get h.modules m.0)) exit, tt); forward = tt }, tt)
    step_flows (Choose test first Empty) p d k here passes has exit =
        let x = body_lines h first (p + 1) d here in
        let t = p + 1 + length x in
        let there = leads h first here in
        let past : Reached lines there t d = reached_at lines there (p + length (if_lines p d here test x)) t d (omega arith) exit in
        let inside = body_entry h lines first (p + 1) d here has.1 past in (
          record { ways = (inside, (reached_in lines there here t d passes.3 past, tt)); forward = omega arith },
          body_flows first (p + 1) d k here passes.1 has.1 past,
        )
    step_flows (Choose test first (Then s rest)) p d k here passes has exit =
        let x = body_lines h first (p + 1) d here in
        let t = p + 1 + length x + 1 in
        let y = body_lines h (Then s rest) t d here in
        let there = leads h first here in
        let jump = line there d (op.Jump (t + length y)) in
        let long : p + length (else_lines p d here there test x y) ≡ t + length y = omega (arith, length-append x (jump ∷ y)) in
        let past : Reached lines there (t + length y) d = reached_at lines there _ (t + length y) d long exit in
        let past_other : Reached lines (leads h (Then s rest) here) (t + length y) d = reached_in lines there (leads h (Then s rest) here) (t + length y) d passes.3 past in
        let front = has_front lines (p + 1) x (jump ∷ y) has.1 in
        let back = has_back lines (p + 1) x (jump ∷ y) has.1 in
        let mid : Reached lines there (p + 1 + length x) d = first_reached lines there (p + 1 + length x) d (op.Jump (t + length y)) back.0 in
        let flows : Flows h lines (p + 1 + length x) jump = record { ways = (past, tt); forward = inl (omega arith) } in (
          record { ways = (body_entry h lines first (p + 1) d here front mid, (body_entry h lines (Then s rest) t d here back.1 past_other, tt)); forward = omega arith },
          flow-append h lines (p + 1) x (jump ∷ y) (body_flows first (p + 1) d k here passes.1 front mid)
              (flows, body_flows (Then s rest) t d (k + body_stops first) here passes.2 back.1 past_other),
        )
    step_flows (Loop test body) p d k here passes has exit =
        let q = p + 1 in
        let x = body_lines h body (q + 1) d here in
        let t = q + 1 + length x + 1 in
        let there = leads h body here in
        let jump = line there d (op.Jump q) in
        let long : p + length (line here d op.Enter ∷ again_lines q d here there test x) ≡ t = omega (arith, length-append x (jump ∷ [])) in
        let past : Reached lines here t d = reached_at lines here _ t d long exit in
        let front = has_front lines (q + 1) x (jump ∷ []) has.1.1 in
        let back = has_back lines (q + 1) x (jump ∷ []) has.1.1 in
        let mid : Reached lines there (q + 1 + length x) d = first_reached lines there (q + 1 + length x) d (op.Jump q) back.0 in
        let branch : Flows h lines q (line here d (op.Branch t test)) = record { ways = (body_entry h lines body (q + 1) d here front mid, (past, tt)); forward = omega arith } in
        let enter : Flows h lines p (line here d op.Enter) = record { ways = (first_reached lines here q d (op.Branch t test) has.1.0, tt); forward = tt } in
        (enter, loop_flows (op.Branch t test) body q d here refl has.1.0 passes.2 branch (body_flows body (q + 1) d k here passes.1 front mid))
    step_flows (Times count body) p d k here passes has exit =
        let q = p + 1 in
        let x = body_lines h body (q + 1) (d + 1) here in
        let t = q + 1 + length x + 1 in
        let there = leads h body here in
        let jump = line there (d + 1) (op.Jump q) in
        let long : p + length (line here d (op.Count count) ∷ turn_lines q (d + 1) here there x) ≡ t = omega (arith, length-append x (jump ∷ [])) in
        let less : d ≡ d + 1 - 1 = omega arith in
        let past : Reached lines here t (d + 1 - 1) = subst (λ n. Reached lines here t n) less (reached_at lines here _ t d long exit) in
        let front = has_front lines (q + 1) x (jump ∷ []) has.1.1 in
        let back = has_back lines (q + 1) x (jump ∷ []) has.1.1 in
        let mid : Reached lines there (q + 1 + length x) (d + 1) = first_reached lines there (q + 1 + length x) (d + 1) (op.Jump q) back.0 in
        let turn : Flows h lines q (line here (d + 1) (op.Turn t)) = record { ways = (body_entry h lines body (q + 1) (d + 1) here front mid, (past, tt)); forward = omega arith } in
        let enter : Flows h lines p (line here d (op.Count count)) = record { ways = (first_reached lines here q (d + 1) (op.Turn t) has.1.0, tt); forward = tt } in
        (enter, loop_flows (op.Turn t) body q (d + 1) here refl has.1.0 passes.2 turn (body_flows body (q + 1) (d + 1) k here passes.1 front mid))

    pub body_flows : (b : Body) (p d k : ℕ) (here : Place) → BodyPasses h slots b d k here → Has lines p (body_lines h b p d here)
        → Reached lines (leads h b here) (p + length (body_lines h b p d here)) d → AllFlow h lines p (body_lines h b p d here)
    body_flows Empty p d k here passes has exit = tt
    body_flows (Then s rest) p d k here passes has exit =
        let x = step_lines h s p d here in
        let q = p + length x in
        let there = leads_step h s here in
        let y = body_lines h rest q d there in
        let long : p + length (x ++ y) ≡ q + length y = omega (arith, length-append x y) in
        let past : Reached lines (leads h rest there) (q + length y) d = reached_at lines (leads h rest there) _ (q + length y) d long exit in
        let front = has_front lines p x y has in
        let back = has_back lines p x y has in
        let mid : Reached lines there q d = body_entry h lines rest q d there back past in
        flow-append h lines p x y (step_flows s p d k here passes.0 front mid) (body_flows rest q d (k + step_stops s) there passes.1 back past)

-- ---- the lines of a module

module _ (h : Heads) (b : Body) (begin : Place) where
  -- a body at operation 0, and the `end` after it
  abbrev pub body_and_end : List Line
  body_and_end = body_lines h b 0 0 begin ++ line (leads h b begin) 0 op.End ∷ []

  end_reached : Reached body_and_end (leads h b begin) (0 + length (body_lines h b 0 0 begin)) 0
  end_reached =
      let x = body_lines h b 0 0 begin in
      let e = line (leads h b begin) 0 op.End in
      first_reached body_and_end (leads h b begin) (0 + length x) 0 op.End (has_back body_and_end 0 x (e ∷ []) (has_all body_and_end [])).0

  body_has : Has body_and_end 0 (body_lines h b 0 0 begin)
  body_has = has_front body_and_end 0 (body_lines h b 0 0 begin) (line (leads h b begin) 0 op.End ∷ []) (has_all body_and_end [])

  -- operation 0 is where the module begins, at depth 0
  pub module_begins : Reached body_and_end begin 0 0
  module_begins = body_entry h body_and_end b 0 0 begin body_has end_reached

  pub module_flows : (slots : List Kind) → BodyPasses h slots b 0 0 begin → AllFlow h body_and_end 0 body_and_end
  module_flows slots passes =
      let x = body_lines h b 0 0 begin in
      let e = line (leads h b begin) 0 op.End in
      let last : Flows h body_and_end (0 + length x) e = record { ways = tt; forward = tt } in
      flow-append h body_and_end 0 x (e ∷ []) (body_flows h slots body_and_end b 0 0 0 begin passes body_has end_reached) (last, tt)
