-- One thread runs from where it stood to the stop that holds it or by which it leaves, or to its end (docs/SEMANTICS.md,
-- "Run"). What a statement does is said in Statements.antt; where a thread goes on is said by a Control.
use Rattle.std.specs.Prelude.{ℕ, zero, suc, nat_lt, ℤ, List, [], ◌∷◌, ◌++◌, length, map, reverse, Option, Some, None, if◌then◌else◌}
use Rattle.loft_base.specs.declared.ids.ModuleId.{ModuleId}
use Rattle.loft_base.specs.declared.ids.Value.{Value}
use Rattle.loft_tree.specs.declared.heads.Heads.{Heads}
use Rattle.loft_tree.specs.Resolved.{Exp, Action, Pause}
use Rattle.loft_orders.specs.declared.thread.Frame.{Frame}
use Rattle.loft_orders.specs.declared.thread.Thread.{Thread}
use Rattle.loft_orders.specs.declared.thread.Wait.{Wait}
use Rattle.loft_orders.specs.declared.thread.Wait.TheVariants.{New}
use Rattle.loft_orders.specs.declared.order.At.{At}
use Rattle.loft_orders.specs.declared.order.End.{End}
use Rattle.loft_orders.specs.declared.order.End.TheVariants.{Done, Div, Deep, Over}
use Rattle.loft_orders.specs.declared.order.To.{To}
use Rattle.loft_orders.specs.declared.note.Act.TheVariants as act
use Rattle.loft_sense.specs.declared.limits.TheConstants.{MAX_FRAMES}
use Rattle.loft_sense.specs.Heads.{first_values}
use Rattle.loft_sense.specs.Around.{Around, Beside, with_act}
use Rattle.loft_sense.specs.Eval.{eval, eval_all, number_of, is_true}
use Rattle.loft_sense.specs.Statements.{Effect, GoesOn, Waits, Leaves, Dies, did, begun, answered}

-- what comes next at a point, and where it goes on. Each but Finish is one step.
pub data Next (A : Type 0) : Type 0 where
  -- the module's end
  Finish : Next A
  -- nothing: no program that is built has such a point
  Stuck : Next A
  Acts : (action : Action) (rest : A) → Next A
  -- a loop begins; a turn of a `repeat`, or its last test
  Advances : (rest : A) → Next A
  Tests : (test : Exp) (yes no : A) → Next A
  -- a `repeat` begins
  Counts : (count : Exp) (rest : ℤ → A) → Next A
  Holds : (stop : ℕ) (pause : Pause) (rest : A) → Next A
  -- a `run`
  Runs : (stop : ℕ) (called : ModuleId) (arguments : List Exp) (rest : A) → Next A

-- how a program says where its threads go on. A is a point within a module.
pub record Control (A : Type 0) : Type 0 where
  pub heads : Heads
  -- where a module begins
  pub start : ModuleId → A
  -- in a module, where it goes on after a stop, with these counts from the outside in
  pub resume : ModuleId → ℕ → List ℤ → A
  -- what a stop of a module waits for; nothing where it is a `run`
  pub pause : ModuleId → ℕ → Option Pause
  -- the counts at a point, from the outside in
  pub counts : A → List ℤ
  -- what comes next at a point of a module
  pub next : ModuleId → A → Next A

-- a frame with the point where it goes on
pub record Active (A : Type 0) : Type 0 where
  pub «module» : ModuleId
  pub stop : ℕ
  pub values : List Value
  pub at : A

-- how a run of a thread ends, and what it leaves around it; left is how many steps the thread may still make in this instant
pub data Outcome : Type 0 where
  -- a stop holds it
  Held : (t : Thread) (around : Around) (left : ℕ) → Outcome
  Left : (t : Thread) (to : To) (around : Around) (left : ℕ) → Outcome
  Ended : (end : End) (around : Around) (left : ℕ) → Outcome

-- the last stop of a frame
abbrev pub here : {A : Type 0} → Active A → At
here r = record { «module» = r.module; stop = r.stop }

-- the thread ends, and is known as ended
abbrev pub ends : End → Beside → ℕ → Outcome
ends end b left = Ended end (with_act (act.End b.id end) (record b.around { known = b.around.known ++ b.id ∷ [] })) left

-- the first where the module has ended there, else the second
abbrev pub if_finish : {A B : Type 0} → Next A → B → B → B
if_finish Finish x y = x
if_finish other x y = y

-- the frames, innermost first, without those at the front whose module has ended
abbrev pub live : {A : Type 0} → Control A → List (Active A) → List (Active A)
live c [] = []
live c (r ∷ rs) = if_finish (c.next r.module r.at) (live c rs) (r ∷ rs)

-- the frame as it is kept while the thread stands
abbrev pub frame_of : {A : Type 0} → Control A → Active A → Frame
frame_of c r = record { «module» = r.module; stop = r.stop; counts = c.counts r.at; values = r.values }

-- the thread with these frames, innermost first
abbrev pub thread_of : {A : Type 0} → Control A → Wait → List (Active A) → Beside → Thread
thread_of c wait rs b = record { id = b.id; code = b.code; mask = b.mask; wait = wait; frames = reverse (map (frame_of c) rs) }

-- The frame has gone past a statement to p: the thread goes on by `on` there, or stands, or ends.
abbrev pub effect_on : {A : Type 0} → Control A → ℕ → (Beside → List (Active A) → Outcome) → Effect → A → Active A → List (Active A) → Beside → Outcome
effect_on c left on (GoesOn now) p r rs b = on now.beside (record r { values = now.values; at = p } ∷ rs)
effect_on c left on (Waits wait) p r rs b = Held (thread_of c wait (record r { at = p } ∷ rs) b) b.around left
effect_on c left on (Leaves to) p r rs b = Left (thread_of c New (record r { at = p } ∷ rs) b) to b.around left
effect_on c left on (Dies end) p r rs b = ends end b left

-- a test has this value, or none
abbrev pub test_on : {A : Type 0} → ℕ → (Beside → List (Active A) → Outcome) → Option Value → A → A → Active A → List (Active A) → Beside → Outcome
test_on left on None p q r rs b = ends (Div (here r)) b left
test_on left on (Some v) p q r rs b = on b (record r { at = if is_true (number_of v) then p else q } ∷ rs)

-- the count of a `repeat` has this value, or none
abbrev pub count_on : {A : Type 0} → ℕ → (Beside → List (Active A) → Outcome) → Option Value → (ℤ → A) → Active A → List (Active A) → Beside → Outcome
count_on left on None f r rs b = ends (Div (here r)) b left
count_on left on (Some v) f r rs b = on b (record r { at = f (number_of v) } ∷ rs)

-- the first frame of a module's run
abbrev pub begun_frame : {A : Type 0} → Control A → ModuleId → List Value → Beside → Active A
begun_frame c m arguments b = record { «module» = m; stop = 0; values = first_values c.heads b.id m arguments; at = c.start m }

-- a module runs in a frame over rs, where there may be one more
abbrev pub run_on : {A : Type 0} → Control A → ℕ → (Beside → List (Active A) → Outcome) → Option (List Value) → ModuleId → Active A → List (Active A) → Beside → Outcome
run_on c left on None m r rs b = ends (Div (here r)) b left
run_on c left on (Some arguments) m r rs b =
    if nat_lt (length (r ∷ rs)) MAX_FRAMES
    then on b (begun_frame c m arguments b ∷ r ∷ rs)
    else ends (Deep (here r)) b left

-- the frame stands at stop k, and goes on at p
abbrev pub stopped : {A : Type 0} → Active A → ℕ → A → Active A
stopped r k p = record r { stop = k; at = p }

-- One step of the innermost frame r over the frames rs, after which `on` goes on: a stop sets its number, then the operands
-- are evaluated, then it acts.
abbrev pub step : {A : Type 0} → Control A → ℕ → (Beside → List (Active A) → Outcome) → Next A → Active A → List (Active A) → Beside → Outcome
step c left on Finish r rs b = on b rs
step c left on Stuck r rs b = on b rs
step c left on (Acts action p) r rs b = effect_on c left on (did c.heads action (here r) r.values b) p r rs b
step c left on (Advances p) r rs b = on b (record r { at = p } ∷ rs)
step c left on (Tests test p q) r rs b = test_on left on (eval c.heads r.values b test) p q r rs b
step c left on (Counts count f) r rs b = count_on left on (eval c.heads r.values b count) f r rs b
step c left on (Holds k pause p) r rs b = effect_on c left on (begun c.heads pause (here (stopped r k p)) r.values b) p (stopped r k p) rs b
step c left on (Runs k m arguments p) r rs b = run_on c left on (eval_all c.heads r.values b arguments) m (stopped r k p) rs b

-- the next step, which the bound still allows; left are the steps after it
abbrev pub step_on : {A : Type 0} → Control A → ℕ → (Beside → List (Active A) → Outcome) → Beside → List (Active A) → Outcome
step_on c left on b [] = ends Done b (suc left)
step_on c left on b (r ∷ rs) = step c left on (c.next r.module r.at) r rs b

-- no step is left
abbrev pub no_step : {A : Type 0} → Beside → List (Active A) → Outcome
no_step b [] = ends Done b 0
no_step b (r ∷ rs) = ends (Over (here r)) b 0

-- at most so many further steps
abbrev pub going : {A : Type 0} → Control A → ℕ → Beside → List (Active A) → Outcome
going c zero b rs = no_step b (live c rs)
going c (suc left) b rs = step_on c left (going c left) b (live c rs)

-- a frame that goes on after its stop, or begins where it has stood at none
abbrev pub point_of : {A : Type 0} → Control A → Frame → ℕ → A
point_of c f zero = c.start f.module
point_of c f (suc k) = c.resume f.module (suc k) f.counts

abbrev pub active_of : {A : Type 0} → Control A → Frame → Active A
active_of c f = record { «module» = f.module; stop = f.stop; values = f.values; at = point_of c f f.stop }

-- the frames of a thread as it goes on, innermost first
abbrev pub actives_of : {A : Type 0} → Control A → Thread → List (Active A)
actives_of c t = map (active_of c) (reverse t.frames)

-- to go on from where it stood is the first step; then the wait is answered
abbrev pub go_on : {A : Type 0} → Control A → ℕ → Wait → Beside → List (Active A) → Outcome
go_on c zero wait b rs = no_step b rs
go_on c (suc left) wait b [] = going c left b []
go_on c (suc left) wait b (r ∷ rs) =
    let now = answered c.heads (c.pause r.module r.stop) wait r.values b in
    going c left now.beside (record r { values = now.values } ∷ rs)

abbrev pub beside : Thread → Around → Beside
beside t around = record { id = t.id; code = t.code; mask = t.mask; around = around }

-- a thread that can go, in at most so many steps
unfoldable pub go : {A : Type 0} → Control A → Thread → Around → ℕ → Outcome
go c t around left = go_on c left t.wait (beside t around) (actives_of c t)
