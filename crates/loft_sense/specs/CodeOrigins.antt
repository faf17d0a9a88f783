-- Where the code of a thread, and the wait that sets it, come from (docs/SEMANTICS.md, "Statements").
use Rattle.std.specs.Prelude.{◌≡◌, ℕ, ℤ, pos, ◌≤ℤ◌, false, List, [], ◌∷◌, ◌++◌, Some, None}
use Rattle.loft_base.specs.declared.ids.SchedId.{SchedId}
use Rattle.loft_tree.specs.Resolved.{Pause}
use Rattle.loft_base.specs.declared.options.Limits.{Limits}
use Rattle.loft_orders.specs.declared.order.Order.{Order}
use Rattle.loft_orders.specs.declared.order.Order.TheVariants.{Arrive}
use Rattle.loft_orders.specs.declared.thread.Thread.{Thread}
use Rattle.loft_orders.specs.declared.thread.Wait.{Wait}
use Rattle.loft_orders.specs.declared.thread.Wait.TheVariants as wait
use Rattle.loft_sense.specs.Machine.{Prog, Tree, Code}
use Rattle.loft_sense.specs.Around.{Around, Beside}
use Rattle.loft_sense.specs.Statements.{code_ok, code_timeout, code_next, answered}
use Rattle.loft_sense.specs.Run.{Holds, Control, Active, Outcome, live, step_on, beside, actives_of}
use Rattle.loft_sense.specs.Tree.{tree}
use Rattle.loft_sense.specs.Code.{code}
use Rattle.loft_sense.specs.Passes.{Runner}
use Rattle.loft_sense.specs.Instant.{closed_wait, replay}
use Rattle.loft_sense.specs.LawWords.{instant_walk}
use Rattle.loft_sense.specs.WaitCodes.{limit_number, number_left, IsPending}

-- ---- over a run

-- a step from these frames goes on at those, whatever a run does there
abbrev pub StepsTo : {A : Type 0} → Control A → Beside → List (Active A) → Beside → List (Active A) → Type 0
StepsTo {A} c b rs d qs = (left : ℕ) (on : Beside → List (Active A) → Outcome) → step_on c left on b (live c rs) ≡ on d qs

-- steps lead from these frames to those
pub data Reaches {A : Type 0} (c : Control A) (b : Beside) (rs : List (Active A)) : Beside → List (Active A) → Type 0 where
  at_once : Reaches c b rs b rs
  further : (d : Beside) (qs : List (Active A)) (e : Beside) (ps : List (Active A)) → Reaches c b rs d qs → StepsTo c d qs e ps → Reaches c b rs e ps

-- the innermost frame begins a stop whose limit is at most 0
abbrev pub BeginsLate : {A : Type 0} → Control A → Beside → List (Active A) → Type 0
BeginsLate c b [] = ⊥
BeginsLate {A} c b (r ∷ rs) =
    (stop : ℕ) × (pause : Pause) × (rest : A) × (n : ℤ) × (c.next r.module r.at ≡ Holds stop pause rest) × (limit_number c.heads pause r.values b ≡ Some n) × (n ≤ℤ pos 0)

-- steps lead from these frames to ones that begin such a stop
abbrev pub LeadsLate : {A : Type 0} → Control A → Beside → List (Active A) → Type 0
LeadsLate {A} c b rs = (d : Beside) × (qs : List (Active A)) × Reaches c b rs d qs × BeginsLate c d (live c qs)

-- the same from frames that go on as their wait ends
abbrev pub WakesLate : {A : Type 0} → Control A → Wait → Beside → List (Active A) → Type 0
WakesLate c w b [] = ⊥
WakesLate c w b (r ∷ rs) =
    let now = answered c.heads (c.pause r.module r.stop) w r.values b in
    LeadsLate c now.beside (record r { values = now.values } ∷ rs)

-- as the thread runs it begins a stop whose limit is at most 0
abbrev pub RunsLate : Prog → Thread → Around → Type 0
RunsLate (Tree p) t around = WakesLate (tree p) t.wait (beside t around) (actives_of (tree p) t)
RunsLate (Code c) t around = WakesLate (code c) t.wait (beside t around) (actives_of (code c) t)

-- where the code that a thread has after a run comes from
pub data CodeComesFrom (x : Prog) (t : Thread) (around : Around) (now : ℤ) : Type 0 where
  -- it is the one before the run
  kept : now ≡ t.code → CodeComesFrom x t around now
  -- what it waited for was there
  there : now ≡ code_ok → CodeComesFrom x t around now
  -- no instant was left of its wait
  ran_out : now ≡ code_timeout → number_left t.wait ≡ Some (pos 0) → CodeComesFrom x t around now
  -- a stop began whose limit was at most 0
  late : now ≡ code_timeout → RunsLate x t around → CodeComesFrom x t around now
  -- its wait was marked
  marked : now ≡ code_next → t.wait ≡ wait.Next → CodeComesFrom x t around now

-- ---- over instants

-- a thread that arrives waits as a new one
abbrev pub ArrivesNew : Order → Type 0
ArrivesNew (Arrive t) = t.wait ≡ wait.New
ArrivesNew o = Unit {0}

-- The close of one of these instants has made the wait of the thread what it is, of one that was pending before it.
pub record IsSetByClose (x : Prog) (limits : Limits) (s : SchedId) (batches : List (List Order)) (t : Thread) : Type 0 where
  pub before : List (List Order)
  pub batch : List Order
  pub after : List (List Order)
  pub is_earlier : batches ≡ before ++ batch ∷ after
  -- the thread as that instant closes
  pub front : List Runner
  pub runner : Runner
  pub rest : List Runner
  pub linked : (instant_walk x limits (replay x limits s before).machine batch).runners ≡ front ++ runner ∷ rest
  pub is : runner.thread.id ≡ t.id
  pub goes : runner.suspended ≡ false
  pub stays : runner.leaving ≡ None
  pub pending : IsPending runner.thread.wait
  pub closed : t.wait ≡ closed_wait runner.thread.wait
