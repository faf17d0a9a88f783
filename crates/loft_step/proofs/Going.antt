-- Steps of a thread whose frames are in memory.
use Rattle.std.proofs.Common.{◌≡◌, ◌≢◌, ℕ, ℤ, zero, suc, ◌+◌, ◌-◌, ◌<◌, ◌≤◌, List, [], ◌∷◌, refl, sym, ap, subst, ◌∙◌, Bool, true, false, Option, Some, None, length, arith}
use Rattle.std.proofs.lemmas.Bool.{le-ltb, lt-ltb}
use Rattle.std.proofs.lemmas.List.{length-map, length-reverse}
use Rattle.std.specs.Prelude.{reverse, nat_lt, slice_get}
use Rattle.loft_base.specs.declared.ids.ModuleId.{ModuleId}
use Rattle.loft_base.specs.declared.ids.Value.{Value}
use Rattle.loft_tree.specs.declared.heads.Heads.{Heads}
use Rattle.std.specs.Option.{option_map}
use Rattle.loft_tree.specs.declared.named.Target.{Target as TargetInMemory}
use Rattle.loft_tree.specs.Resolved.{Pause, target_of as target_from}
use Rattle.loft_code.specs.Operations.{Operation, Do, Hold, Call, Branch, Enter, Count, Turn, Jump, End, Line, Automata, is_end}
use Rattle.loft_sense.specs.declared.limits.TheConstants.{MAX_FRAMES}
use Rattle.loft_orders.specs.declared.order.End.{End as EndOfThread}
use Rattle.loft_orders.specs.declared.order.End.TheVariants.{Done, Deep, Over}
use Rattle.loft_orders.specs.declared.order.At.{At}
use Rattle.loft_orders.specs.declared.thread.Frame.{Frame}
use Rattle.loft_orders.specs.declared.thread.Wait.{Wait}
use Rattle.loft_orders.specs.declared.thread.Thread.{Thread}
use Rattle.loft_sense.specs.Around.{Beside}
use Rattle.loft_sense.specs.Statements.{Now, now, target_of, answered}
use Rattle.loft_sense.specs.Run.{Next, Finish, Active, Outcome, here, if_finish, live, begun_frame, ends, step, step_on, no_step, going, go_on, go, active_of}
use Rattle.loft_sense.specs.Code.{Point, point, code, lines_at, landing, next_operation, next_line, next_point, stop_from, after_or_past, pause_in}
use Rattle.loft_effect.specs.declared.around.Around.{Around as AroundInMemory}
use Rattle.loft_effect.specs.declared.scope.Beside.{Beside as BesideInMemory}
use Rattle.loft_effect.specs.declared.scope.Scope.{Scope}
use Rattle.loft_effect.specs.View.{Pace, around_of, beside_of, pace_of, steps_left}
use Rattle.loft_step.specs.declared.running.Running.{Running}
use Rattle.loft_step.specs.declared.step.Move.{Move}
use Rattle.loft_step.specs.declared.step.Move.TheVariants as move
use Rattle.loft_step.specs.Lines.{ends_at, op_after, StopsAreNumbered}
use Rattle.loft_step.specs.Frames.{active, actives, advance_if, advance, Makes, Walks, IfCalls, IfEnters}
use Rattle.loft_effect.proofs.Runs.{run_enters, run_deep}

-- the same beside the frames, but for what stands around the thread
abbrev pub beside_with : BesideInMemory → AroundInMemory → BesideInMemory
beside_with b around = record { id = b.id; code = b.code; mask = b.mask; around = around }

-- ---- what comes next

operation_stays : (o : Operation) (p : ℕ) (counts : List ℤ) (x y : List (Active Point)) → is_end o ≡ false → if_finish (next_operation o p counts) x y ≡ y
operation_stays (Do action) p counts x y e = refl
operation_stays (Hold k pause) p counts x y e = refl
operation_stays (Call k m arguments) p counts x y e = refl
operation_stays (Branch t test) p counts x y e = refl
operation_stays Enter p counts x y e = refl
operation_stays (Count e) p counts x y n = refl
operation_stays (Turn t) p counts x y e = refl
operation_stays (Jump t) p counts x y e = refl
operation_stays End p counts x y e = absurd cc

stays : (o : Option Line) (p : ℕ) (counts : List ℤ) (x y : List (Active Point)) → ends_at o ≡ false → if_finish (next_line o p counts) x y ≡ y
stays None p counts x y e = refl
stays (Some l) p counts x y e = operation_stays l.operation p counts x y e

operation_ends : (o : Operation) (p : ℕ) (counts : List ℤ) → is_end o ≡ true → next_operation o p counts ≡ Finish
operation_ends (Do action) p counts e = absurd cc
operation_ends (Hold k pause) p counts e = absurd cc
operation_ends (Call k m arguments) p counts e = absurd cc
operation_ends (Branch t test) p counts e = absurd cc
operation_ends Enter p counts e = absurd cc
operation_ends (Count e) p counts n = absurd cc
operation_ends (Turn t) p counts e = absurd cc
operation_ends (Jump t) p counts e = absurd cc
operation_ends End p counts e = refl

finishes : (o : Option Line) (p : ℕ) (counts : List ℤ) → ends_at o ≡ true → next_line o p counts ≡ Finish
finishes None p counts e = absurd cc
finishes (Some l) p counts e = operation_ends l.operation p counts e

-- ---- one frame

module _ (c : Automata) where
  abbrev on : ℕ → Beside → List (Active Point) → Outcome
  on n = going (code c) n

  abbrev next : Active Point → Next Point
  next r = (code c).next r.module r.at

  -- a frame whose module has ended is dropped
  drops : (n : ℕ) (b : Beside) (r : Active Point) (rs : List (Active Point)) → next r ≡ Finish → on n b (r ∷ rs) ≡ on n b rs
  drops zero b r rs e = ap (λ (x : Next Point). no_step b (if_finish x (live (code c) rs) (r ∷ rs))) e
  drops (suc n) b r rs e = ap (λ (x : Next Point). step_on (code c) n (on n) b (if_finish x (live (code c) rs) (r ∷ rs))) e

  -- no step is left
  no_left : (n : ℕ) (b : Beside) (r : Active Point) (rs : List (Active Point)) → n ≡ 0 → if_finish (next r) (live (code c) rs) (r ∷ rs) ≡ r ∷ rs → on n b (r ∷ rs) ≡ ends (Over (here r)) b n
  no_left zero b r rs none e = ap (no_step b) e
  no_left (suc n) b r rs none e = absurd (omega (arith, none))

  -- one is
  some_left : (n k : ℕ) (b : Beside) (r : Active Point) (rs : List (Active Point)) → n ≡ suc k → if_finish (next r) (live (code c) rs) (r ∷ rs) ≡ r ∷ rs → on n b (r ∷ rs) ≡ step (code c) k (on k) (next r) r rs b
  some_left n k b r rs some e = ap (λ (j : ℕ). on j b (r ∷ rs)) some ∙ ap (step_on (code c) k (on k) b) e

  -- no frame is left
  pub nothing_left : (n : ℕ) (b : Beside) → on n b [] ≡ ends Done b n
  nothing_left zero b = refl
  nothing_left (suc n) b = refl

  module _ (r : Running) (b : BesideInMemory) (lines : List Line) (q : ℕ) (o : Option Line) (is_lines : lines ≡ lines_at c r.scope.at.module) (is_q : q ≡ landing lines r.op) (is_o : o ≡ slice_get lines q) where
    next_is : next (active r) ≡ next_line o q (reverse r.counts)
    next_is =
        ap (λ (ls : List Line). next_point ls (point r.op (reverse r.counts))) (sym is_lines)
        ∙ (ap (λ (k : ℕ). next_line (slice_get lines k) k (reverse r.counts)) (sym is_q)
        ∙ ap (λ (x : Option Line). next_line x q (reverse r.counts)) (sym is_o))

    -- the frame's module has ended
    pub walk_ends : ends_at o ≡ true → Walks c r b move.Return r b
    walk_ends e rs = drops (steps_left b.around) (beside_of b) (active r) rs (next_is ∙ finishes o q (reverse r.counts) e)

    stays_live : (rs : List (Active Point)) → ends_at o ≡ false → if_finish (next (active r)) (live (code c) rs) (active r ∷ rs) ≡ active r ∷ rs
    stays_live rs e = ap (λ (x : Next Point). if_finish x (live (code c) rs) (active r ∷ rs)) next_is ∙ stays o q (reverse r.counts) (live (code c) rs) (active r ∷ rs) e

    -- no step is left
    pub walk_over : ends_at o ≡ false → b.around.steps ≡ b.around.bound → Walks c r b (move.End (Over r.scope.at)) r b
    walk_over e none rs =
        let nothing : steps_left b.around ≡ 0 = omega (arith, none) in
        no_left (steps_left b.around) (beside_of b) (active r) rs nothing (stays_live rs e)

    -- a step is counted
    module _ (b' : BesideInMemory) (e : ends_at o ≡ false) (one_less : steps_left b.around ≡ suc (steps_left b'.around)) (same : beside_of b' ≡ beside_of b) where
      counted : (rs : List (Active Point)) → on (steps_left b.around) (beside_of b) (active r ∷ rs)
          ≡ step (code c) (steps_left b'.around) (on (steps_left b'.around)) (next_line o q (reverse r.counts)) (active r) rs (beside_of b')
      counted rs =
          some_left (steps_left b.around) (steps_left b'.around) (beside_of b) (active r) rs one_less (stays_live rs e)
          ∙ (ap (λ (x : Next Point). step (code c) (steps_left b'.around) (on (steps_left b'.around)) x (active r) rs (beside_of b)) next_is
          ∙ ap (step (code c) (steps_left b'.around) (on (steps_left b'.around)) (next_line o q (reverse r.counts)) (active r) rs) (sym same))

      -- there is no operation
      pub walk_stuck : o ≡ None → Walks c r b move.Return r b'
      walk_stuck none rs = counted rs ∙ ap (λ (x : Option Line). step (code c) (steps_left b'.around) (on (steps_left b'.around)) (next_line x q (reverse r.counts)) (active r) rs (beside_of b')) none

      -- there is one
      module _ (h : Heads) (l : Line) (m : Option Move) (new : Running) (b'' : BesideInMemory) (is_heads : h ≡ c.heads) (some : o ≡ Some l) (does : Makes h l.operation q r b' m new b'') where
        makes : Makes c.heads l.operation q r b' m new b''
        makes = subst (λ (k : Heads). Makes k l.operation q r b' m new b'') is_heads does

        made : (rs : List (Active Point)) → on (steps_left b.around) (beside_of b) (active r ∷ rs)
            ≡ advance_if m (code c) (steps_left b''.around) (on (steps_left b''.around)) (active new) rs (beside_of b'')
        made rs =
            counted rs
            ∙ (ap (λ (x : Option Line). step (code c) (steps_left b'.around) (on (steps_left b'.around)) (next_line x q (reverse r.counts)) (active r) rs (beside_of b')) some
            ∙ (makes.step c.modules (steps_left b'.around) (on (steps_left b'.around)) (active r).at rs
            ∙ ap (λ (p : Pace). advance_if m (code c) (p.bound - p.steps) (on (p.bound - p.steps)) (active new) rs (beside_of b'')) (sym makes.pace)))

        -- the frame goes on
        pub walk_on : m ≡ None → (rs : List (Active Point)) → on (steps_left b.around) (beside_of b) (active r ∷ rs) ≡ on (steps_left b''.around) (beside_of b'') (active new ∷ rs)
        walk_on none rs = made rs ∙ ap (λ (x : Option Move). advance_if x (code c) (steps_left b''.around) (on (steps_left b''.around)) (active new) rs (beside_of b'')) none

        -- it doesn't just go on
        pub walk_moves : (other : Move) → m ≡ Some other → Walks c r b other new b''
        walk_moves other is rs = made rs ∙ ap (λ (x : Option Move). advance_if x (code c) (steps_left b''.around) (on (steps_left b''.around)) (active new) rs (beside_of b'')) is

-- where operation q enters a module, the frame stands
pub enters : (c : Automata) (lines : List Line) (q : ℕ) (l : Line) (new : Running) (b b' : BesideInMemory) (m : Option Move) (other : Move) → m ≡ Some other → lines ≡ lines_at c new.scope.at.module
    → StopsAreNumbered lines → Some l ≡ slice_get lines q → IfCalls m l.operation q new → b.around.steps < b'.around.steps → IfEnters other c new b b'
enters c lines q l new b b' m move.Pause is is_lines numbered at calls more = more
enters c lines q l new b b' m move.Return is is_lines numbered at calls more = tt
enters c lines q l new b b' m (move.Enter called arguments) is is_lines numbered at calls more =
    let stop = subst (λ (x : Option Move). IfCalls x l.operation q new) is calls in
    let found = numbered q new.scope.at.stop l (sym at) stop.0 in (
      record {
        stop = λ none. omega (arith, none, found.some);
        after = after_stop new.scope.at.stop (omega (arith, found.some)) found.first ∙ sym stop.1;
      },
      more,
    )
  where
    after_stop : (k : ℕ) → k ≢ 0 → stop_from 0 lines k ≡ Some q → op_after (lines_at c new.scope.at.module) k ≡ q + 1
    after_stop zero some first = absurd (some refl)
    after_stop (suc k) some first = ap (λ (ls : List Line). op_after ls (suc k)) (sym is_lines) ∙ ap (λ (x : Option ℕ). after_or_past x lines) first
enters c lines q l new b b' m (move.Hold wait) is is_lines numbered at calls more = tt
enters c lines q l new b b' m (move.Leave to) is is_lines numbered at calls more = tt
enters c lines q l new b b' m (move.End end) is is_lines numbered at calls more = tt

-- steps that come before others
pub walks_on : (c : Automata) (r r' new : Running) (b b' b'' : BesideInMemory) (m : Move)
    → ((rs : List (Active Point)) → going (code c) (steps_left b.around) (beside_of b) (active r ∷ rs) ≡ going (code c) (steps_left b'.around) (beside_of b') (active r' ∷ rs))
    → Walks c r' b' m new b'' → Walks c r b m new b''
walks_on c r r' new b b' b'' m before walks rs = before rs ∙ walks rs

-- ---- all frames

how_many : (c : Automata) (r : Active Point) (outer : List Frame) → length (r ∷ actives c outer) ≡ length outer + 1
how_many c r outer = grind (arith, length-map, length-reverse)

module _ (c : Automata) (top new : Running) (b b' : BesideInMemory) (outer : List Frame) (m : Move) (walks : Walks c top b m new b') where
  abbrev before : Outcome
  before = going (code c) (steps_left b.around) (beside_of b) (active top ∷ actives c outer)

  abbrev left : ℕ
  left = steps_left b'.around

  walked : (other : Move) → m ≡ other → before ≡ advance other (code c) left (going (code c) left) (active new) (actives c outer) (beside_of b')
  walked other is = walks (actives c outer) ∙ ap (λ (x : Move). advance x (code c) left (going (code c) left) (active new) (actives c outer) (beside_of b')) is

  -- the run pauses
  pub run_pauses : m ≡ move.Pause → going (code c) left (beside_of b') (active new ∷ actives c outer) ≡ before
  run_pauses is = sym (walked move.Pause is)

  -- no caller is there
  pub run_done : m ≡ move.Return → outer ≡ [] → ends Done (beside_of b') left ≡ before
  run_done is none = sym (walked move.Return is ∙ (ap (λ (fs : List Frame). going (code c) left (beside_of b') (actives c fs)) none ∙ nothing_left c left (beside_of b')))

  -- the caller goes on
  pub run_returns : (rest : List Frame) (caller : Running) → m ≡ move.Return → actives c outer ≡ active caller ∷ actives c rest
      → going (code c) left (beside_of b') (active caller ∷ actives c rest) ≡ before
  run_returns rest caller is back = sym (walked move.Return is ∙ ap (going (code c) left (beside_of b')) back)

  module _ (called : ModuleId) (arguments : List Value) (is : m ≡ move.Enter called arguments) where
    fits : (few : Bool) → nat_lt (length outer + 1) MAX_FRAMES ≡ few → nat_lt (length (active new ∷ actives c outer)) MAX_FRAMES ≡ few
    fits few e = ap (λ (n : ℕ). nat_lt n MAX_FRAMES) (how_many c (active new) outer) ∙ e

    -- a frame more would be one too many
    pub run_too_deep : MAX_FRAMES ≤ length outer + 1 → ends (Deep new.scope.at) (beside_of b') left ≡ before
    run_too_deep many =
        sym (walked (move.Enter called arguments) is
        ∙ run_deep (code c) left (going (code c) left) arguments called (active new) (actives c outer) (beside_of b') (fits false (le-ltb _ _ many)))

    -- a module begins
    pub run_calls : (first : Running) (pushed : List Frame) → length outer + 1 < MAX_FRAMES → active first ≡ begun_frame (code c) called arguments (beside_of b')
        → actives c pushed ≡ active new ∷ actives c outer
        → going (code c) left (beside_of b') (active first ∷ actives c pushed) ≡ before
    run_calls first pushed few begins frames =
        ap (λ (a : Active Point). going (code c) left (beside_of b') (a ∷ actives c pushed)) begins
        ∙ (ap (λ (l : List (Active Point)). going (code c) left (beside_of b') (begun_frame (code c) called arguments (beside_of b') ∷ l)) frames
        ∙ sym (walked (move.Enter called arguments) is
        ∙ run_enters (code c) left (going (code c) left) arguments called (active new) (actives c outer) (beside_of b') (fits true (lt-ltb _ _ few))))

  -- the thread stands, leaves or ends
  pub run_stops : (other : Move) → m ≡ other → advance other (code c) left (going (code c) left) (active new) (actives c outer) (beside_of b') ≡ before
  run_stops other is = sym (walked other is)

-- ---- a thread that goes on

-- no step is left
pub starts_over : (c : Automata) (n : ℕ) (b : Beside) (fs : List Frame) (wait : Wait) (e : EndOfThread) → n ≡ 0 → ends e b 0 ≡ no_step b (actives c fs) → ends e b n ≡ go_on (code c) n wait b (actives c fs)
starts_over c zero b fs wait e none is = is
starts_over c (suc n) b fs wait e none is = absurd (omega (arith, none))

-- no frame is there
pub starts_empty : (c : Automata) (n k : ℕ) (b b' : Beside) (wait : Wait) (rs : List (Active Point)) → n ≡ suc k → b' ≡ b → rs ≡ [] → ends Done b' k ≡ go_on (code c) n wait b rs
starts_empty c n k b b' wait rs some same none =
    ap (λ (x : Beside). ends Done x k) same
    ∙ (sym (nothing_left c k b)
    ∙ (ap (λ (l : List (Active Point)). go_on (code c) (suc k) wait b l) (sym none)
    ∙ ap (λ (j : ℕ). go_on (code c) j wait b rs) (sym some)))

-- the wait is answered
module _ (c : Automata) (h : Heads) (wait : Wait) (b b' b'' : BesideInMemory) (top : Running) (scope : Scope) (f : Frame) (target : Option TargetInMemory) (rs : List (Active Point)) (is_heads : h ≡ c.heads)
    (some : steps_left b.around ≡ suc (steps_left b'.around)) (same : beside_of b' ≡ beside_of b) (pace : pace_of b''.around ≡ pace_of b'.around)
    (woken : active top ≡ active_of (code c) f) (aims : option_map target_from target ≡ target_of (pause_in (lines_at c f.module) f.stop)) (same_at : scope.at ≡ top.scope.at)
    (answer : (pause : Option Pause) → target_of pause ≡ option_map target_from target → now scope.values (beside_of b'') ≡ answered h pause wait top.scope.values (beside_of b')) where
  abbrev after : Now → Active Point → Outcome
  after n a = going (code c) (steps_left b'.around) n.beside (record a { values = n.values } ∷ rs)

  abbrev pause_there : Option Pause
  pause_there = pause_in (lines_at c f.module) f.stop

  pub starts_on : going (code c) (steps_left b''.around) (beside_of b'') (active (record top { scope = scope }) ∷ rs) ≡ go_on (code c) (steps_left b.around) wait (beside_of b) (active_of (code c) f ∷ rs)
  starts_on =
      ap (λ (p : Pace). going (code c) (p.bound - p.steps) (beside_of b'') (active (record top { scope = scope }) ∷ rs)) pace
      ∙ (ap (λ (a : At). after (now scope.values (beside_of b'')) (record (active top) { «module» = a.module; stop = a.stop })) same_at
      ∙ (ap (λ (n : Now). after n (active top)) (answer pause_there (sym aims))
      ∙ (ap (λ (k : Heads). after (answered k pause_there wait top.scope.values (beside_of b')) (active top)) is_heads
      ∙ (ap (λ (a : Active Point). after (answered c.heads pause_there wait a.values (beside_of b')) a) woken
      ∙ (ap (λ (x : Beside). go_on (code c) (suc (steps_left b'.around)) wait x (active_of (code c) f ∷ rs)) same
      ∙ ap (λ (n : ℕ). go_on (code c) n wait (beside_of b) (active_of (code c) f ∷ rs)) (sym some))))))

-- the thread and what stands around it, taken apart
pub goes : (c : Automata) (t : Thread) (around taken : AroundInMemory) (n m : ℤ) (fs : List Frame) → taken ≡ around → n ≡ t.code → m ≡ t.mask → fs ≡ t.frames
    → go_on (code c) (steps_left taken) t.wait (record { id = t.id; code = n; mask = m; around = around_of taken }) (actives c fs) ≡ go (code c) t (around_of around) (steps_left around)
unfolding go
goes c t around taken n m fs same_around same_code same_mask same_frames =
    ap (λ (a : AroundInMemory). go_on (code c) (steps_left a) t.wait (record { id = t.id; code = n; mask = m; around = around_of a }) (actives c fs)) same_around
    ∙ (ap (λ (k : ℤ). go_on (code c) (steps_left around) t.wait (record { id = t.id; code = k; mask = m; around = around_of around }) (actives c fs)) same_code
    ∙ (ap (λ (k : ℤ). go_on (code c) (steps_left around) t.wait (record { id = t.id; code = t.code; mask = k; around = around_of around }) (actives c fs)) same_mask
    ∙ ap (λ (l : List Frame). go_on (code c) (steps_left around) t.wait (record { id = t.id; code = t.code; mask = t.mask; around = around_of around }) (actives c l)) same_frames))
