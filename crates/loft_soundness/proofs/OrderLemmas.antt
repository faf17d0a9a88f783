-- What fits where it is sent, and what a batch that fits leaves.
use Rattle.std.proofs.Common.{◌≡◌, ◌<◌, ℕ, zero, suc, ◌+◌, Bool, true, false, List, [], ◌∷◌, ◌++◌, length, Option, Some, None, slice_get, refl, sym, ap, ◌∙◌, subst, arith}
use Rattle.std.specs.Prelude.{if◌then◌else◌, nat_lt}
use Rattle.std.specs.Option.{option_map_or}
use Rattle.std.specs.Prelude.{All}
use Rattle.std.proofs.lemmas.List.{length-set}
use Rattle.loft_history.specs.History.{is_addressed, orders_to, starts_from}
use Rattle.loft_base.specs.declared.ids.SchedId.{SchedId}
use Rattle.loft_base.specs.declared.ids.ModuleId.{ModuleId}
use Rattle.loft_base.specs.declared.ids.ThreadId.{ThreadId}
use Rattle.loft_base.specs.declared.ids.Maker.TheVariants as maker
use Rattle.loft_base.specs.declared.ids.Value.{Value}
use Rattle.loft_tree.specs.declared.heads.Place.{Place}
use Rattle.loft_tree.specs.declared.heads.Place.TheVariants.{Sched, Unlinked}
use Rattle.loft_tree.specs.declared.heads.Signature.{Signature}
use Rattle.loft_tree.specs.declared.heads.Start.{Start}
use Rattle.loft_base.specs.declared.ids.EventId.{EventId}
use Rattle.loft_tree.specs.declared.heads.ClientOrder.{ClientOrder}
use Rattle.loft_tree.specs.declared.heads.ClientOrder.TheVariants as client
use Rattle.loft_tree.specs.declared.heads.Client.{Client}
use Rattle.loft_tree.specs.declared.heads.EventHead.{EventHead}
use Rattle.loft_tree.specs.declared.heads.Heads.{Heads}
use Rattle.loft_tree.specs.declared.kinds.Control.{Control}
use Rattle.loft_tree.specs.declared.kinds.Control.TheVariants as control
use Rattle.loft_tree.specs.Fits.{Each}
use Rattle.loft_tree.specs.HeadsFit.{kinds_of, TakesIn}
use Rattle.loft_tree.specs.NamedFits.{IsScheduler, IsStarted, EventHolds, slots_of}
use Rattle.loft_board.specs.Board.{values as event_values, value_list}
use Rattle.loft_sense.specs.declared.limits.TheConstants.{MAX_LINKED}
use Rattle.loft_orders.specs.declared.note.Act.{Act}
use Rattle.loft_orders.specs.declared.note.Act.TheVariants as act
use Rattle.loft_orders.specs.declared.note.Standing.{Standing}
use Rattle.loft_orders.specs.declared.order.End.{End}
use Rattle.loft_orders.specs.declared.order.End.TheVariants.{Stopped, Full as FullEnd}
use Rattle.loft_orders.specs.declared.order.Order.{Order}
use Rattle.loft_orders.specs.declared.order.Order.TheVariants as order
use Rattle.loft_orders.specs.declared.order.Sent.{Sent}
use Rattle.loft_orders.specs.declared.order.To.{To}
use Rattle.loft_orders.specs.declared.order.To.TheVariants as to
use Rattle.loft_orders.specs.declared.thread.Thread.{Thread}
use Rattle.loft_orders.specs.declared.thread.Wait.TheVariants as wait
use Rattle.loft_sense.specs.Heads.{scheduler, same_scheduler, first_values}
use Rattle.loft_history.specs.Legal.{FitsOne}
use Rattle.loft_sense.specs.Machine.{Prog, heads}
use Rattle.loft_sense.specs.CanGo.{same_thread}
use Rattle.loft_sense.specs.Stands.{begin_of, begin_or_unlinked, ValuesAgree, Stands}
use Rattle.loft_sense.specs.Statements.{order_of}
use Rattle.loft_history.specs.Clients.{orders_from, outside_of}
use Rattle.loft_sense.specs.Fits.{IsMaker, IsThread, IsValue, ThreadNames, EndNames, Fits}
use Rattle.loft_sense.specs.Apply.{Applied, new_thread, with_last, is_linked, without_first, suspend, tell_end, apply_order, apply_orders}
use Rattle.loft_sense.specs.Instant.{sent_by}
use Rattle.loft_history.proofs.HistoryLemmas.{is_same}
use Rattle.loft_soundness.specs.Points.{SentOrderFits, OutFits, ActFits, StandsThere}
use Rattle.loft_soundness.specs.Machines.{ThreadFits, FitsAt, SentFits}
use Rattle.loft_soundness.specs.WellFormed.{IsWellFormed}
use Rattle.loft_soundness.proofs.ListLemmas.{each_append, each_at, all_of}
use Rattle.loft_soundness.proofs.ValueLemmas.{values_agree, values_name, values_fit, first_values_fit}
use Rattle.loft_soundness.proofs.LeadsToPoints.{begin_stop, LeadsToPoints}
use Rattle.loft_soundness.proofs.ProgramLemmas.{Begins as StartBegins, starts_begin, argument_names, IsOrdered, Orders, clients_order, events_hold}

-- ---- what is sent

tells_end : (x : Prog) (place : Place) (t : ThreadId) (end : End) → IsThread (heads x) t → EndNames (heads x) end → SentFits x (tell_end place t end)
tells_end x (Sched s) t end is names = λ q declared there. (is, names)
tells_end x Unlinked t end is names = λ q declared there. (is, names)

-- what fits at a scheduler fits where it goes to that alone
at_one : (x : Prog) (s : SchedId) (o : Order) → Fits x s o → FitsAt x (to.Sched s) o
at_one x s o f q declared there = subst (λ (r : SchedId). Fits x r o) (sym (is_same q s there)) f

order_fits : (x : Prog) (s : SchedId) (o : Order) → SentOrderFits (heads x) s o → Fits x s o
order_fits x s (order.Create t m args) f = f
order_fits x s (order.Arrive t) f = absurd f
order_fits x s (order.Stop t) f = f
order_fits x s (order.Suspend t) f = f
order_fits x s (order.Resume t) f = f
order_fits x s (order.Broadcast e v) f = f
order_fits x s (order.Ended t end) f = absurd f

out_fits : (x : Prog) (t : To) (o : Order) → OutFits (heads x) t o → FitsAt x t o
out_fits x (to.Sched s) o f = at_one x s o (order_fits x s o f)
out_fits x (to.Others s) o f = absurd f
out_fits x to.All o f = absurd f
out_fits x to.Workers o f = absurd f

pub acts_fit : (x : Prog) (place : Place) (acts : List Act) → Each (ActFits (heads x)) acts → Each (SentFits x) (sent_by place acts)
acts_fit x place [] f = tt
acts_fit x place (act.Print t line ∷ acts) f = acts_fit x place acts f.1
acts_fit x place (act.Gen t event value ∷ acts) f = acts_fit x place acts f.1
acts_fit x place (act.Out t sent ∷ acts) f = (out_fits x sent.to sent.order f.0, acts_fit x place acts f.1)
acts_fit x place (act.End t end ∷ acts) f = (tells_end x place t end f.0.0 f.0.1, acts_fit x place acts f.1)

-- a thread on its way
abbrev pub Leaves : Prog → Thread → To → Type 0
Leaves x t to = (t.wait ≡ wait.New) × StandsThere x t to × ThreadNames (heads x) t

pub leaver_fits : (x : Prog) (t : Thread) (to : To) → Leaves x t to → FitsAt x to (order.Arrive t)
leaver_fits x t (to.Sched s) f = at_one x s (order.Arrive t) f
leaver_fits x t (to.Others s) f = absurd f.1
leaver_fits x t to.All f = absurd f.1
leaver_fits x t to.Workers f = (f.0, (f.1, f.2))

-- ---- orders to a scheduler

one_more : (x : Prog) (s : SchedId) (o : Order) (os : List Order) (b : Bool) → (b ≡ true → Fits x s o) → Each (Fits x s) os → Each (Fits x s) (if b then o ∷ os else os)
one_more x s o os true f g = (f refl, g)
one_more x s o os false f g = g

addressed_to : (x : Prog) (s : SchedId) → IsScheduler (heads x) s → (t : To) (o : Order) (os : List Order) → FitsAt x t o → Each (Fits x s) os → Each (Fits x s) (if is_addressed s t then o ∷ os else os)
addressed_to x s declared (to.Sched q) o os f g = one_more x s o os (is_addressed s (to.Sched q)) (f s declared) g
addressed_to x s declared (to.Others q) o os f g = one_more x s o os (is_addressed s (to.Others q)) (f s declared) g
addressed_to x s declared to.All o os f g = (f s declared refl, g)
addressed_to x s declared to.Workers o os f g = g

pub orders_fit : (x : Prog) (s : SchedId) → IsScheduler (heads x) s → (ms : List Sent) → Each (SentFits x) ms → Each (Fits x s) (orders_to s ms)
orders_fit x s declared [] f = tt
orders_fit x s declared (m ∷ ms) f = addressed_to x s declared m.to m.order (orders_to s ms) f.0 (orders_fit x s declared ms f.1)

-- ---- batches

-- a scheduler while it applies orders that fit
pub record AppliedFits (x : Prog) (s : SchedId) (a : Applied) : Type 0 where
  pub linked : Each (λ q. ThreadFits x (Sched s) q.thread) a.linked
  pub board : length a.board ≡ length (heads x).events
  pub sent : Each (SentFits x) a.sent

-- a new thread stands where its module begins
new_fits : (x : Prog) → LeadsToPoints x → (s : SchedId) (t : ThreadId) (m : ModuleId) (args : List Value) (o : Option Signature) → slice_get (heads x).modules m.0 ≡ o → IsThread (heads x) t → TakesIn s o args → Each (IsValue (heads x)) args
    → ThreadFits x (Sched s) (new_thread (heads x) t m args)
new_fits x leads s t m args None at is takes names = absurd takes
new_fits x leads s t m args (Some head) at is takes names =
    let vs = first_values (heads x) t m args in
    let vals = first_values_fit (heads x) t m head args is at (values_fit (heads x) (kinds_of head.parameters) args takes.1 names) in
    let begins : begin_of (heads x) m ≡ Sched s = ap begin_or_unlinked at ∙ takes.0 in
    let stands : Stands x (new_thread (heads x) t m args) (Sched s) = record {
      few = omega arith;
      frames = (
        (
          begin_stop (heads x) m,
          record {
            stop = leads.begins m head at;
            counts = refl;
            values = subst (λ o. ValuesAgree o vs) (sym at) (values_agree (heads x) (slots_of head) vs vals);
          },
          refl,
          begins,
        ),
        tt,
      );
    } in
    let names : ThreadNames (heads x) (new_thread (heads x) t m args) = record { id = is; wait = tt; values = (values_name (heads x) (slots_of head) vs vals, tt) } in
    (stands, names)

module _ (x : Prog) (s : SchedId) where
  abbrev pub Linked : Standing → Type 0
  Linked q = ThreadFits x (Sched s) q.thread

  unlinked_one : (b : Bool) (q : Standing) (rest others : List Standing) → Linked q → Each Linked rest → Each Linked others → Each Linked (if b then rest else q ∷ others)
  unlinked_one true q rest others f g h = g
  unlinked_one false q rest others f g h = (f, h)

  unlink_keeps : (t : ThreadId) (ss : List Standing) → Each Linked ss → Each Linked (without_first t ss)
  unlink_keeps t [] f = tt
  unlink_keeps t (q ∷ ss) f = unlinked_one (same_thread t q.thread.id) q ss (without_first t ss) f.0 f.1 (unlink_keeps t ss f.1)

  suspended_one : (b suspended : Bool) (q : Standing) (rest others : List Standing) → Linked q → Each Linked rest → Each Linked others
      → Each Linked (if b then record q { suspended = suspended } ∷ rest else q ∷ others)
  suspended_one true suspended q rest others f g h = (f, g)
  suspended_one false suspended q rest others f g h = (f, h)

  suspend_keeps : (t : ThreadId) (suspended : Bool) (ss : List Standing) → Each Linked ss → Each Linked (suspend t suspended ss)
  suspend_keeps t suspended [] f = tt
  suspend_keeps t suspended (q ∷ ss) f = suspended_one (same_thread t q.thread.id) suspended q ss (suspend t suspended ss) f.0 f.1 (suspend_keeps t suspended ss f.1)

  applied_one : (b : Bool) (v w : Applied) → AppliedFits x s v → AppliedFits x s w → AppliedFits x s (if b then v else w)
  applied_one true v w f g = f
  applied_one false v w f g = g

  link_fits : (t : Thread) (a : Applied) → AppliedFits x s a → ThreadFits x (Sched s) t → Each Linked (with_last t a.linked)
  link_fits t a f g = each_append Linked a.linked (record { thread = t; suspended = false } ∷ []) f.linked (g, tt)

  ended_fits : (t : ThreadId) (end : End) (a : Applied) → AppliedFits x s a → IsThread (heads x) t → EndNames (heads x) end → Each (SentFits x) (a.sent ++ tell_end (Sched s) t end ∷ [])
  ended_fits t end a f is names = each_append (SentFits x) a.sent (tell_end (Sched s) t end ∷ []) f.sent (tells_end x (Sched s) t end is names, tt)

  order_applied : LeadsToPoints x → (a : Applied) (o : Order) → AppliedFits x s a → Fits x s o → AppliedFits x s (apply_order (heads x) s a o)
  order_applied leads a (order.Create t m args) f g =
      applied_one (nat_lt (length a.linked) MAX_LINKED) _ _
      (record { linked = link_fits (new_thread (heads x) t m args) a f (new_fits x leads s t m args (slice_get (heads x).modules m.0) refl g.0 g.1.1 g.2); board = f.board; sent = f.sent })
      (record { linked = f.linked; board = f.board; sent = ended_fits t FullEnd a f g.0 tt })
  order_applied leads a (order.Arrive t) f g = record { linked = link_fits t a f (g.1, g.2); board = f.board; sent = f.sent }
  order_applied leads a (order.Stop t) f g =
      applied_one (is_linked t a.linked) _ _
      (record { linked = unlink_keeps t a.linked f.linked; board = f.board; sent = ended_fits t Stopped a f g tt })
      (record { linked = f.linked; board = f.board; sent = f.sent })
  order_applied leads a (order.Suspend t) f g =
      applied_one (is_linked t a.linked) _ _
      (record { linked = suspend_keeps t true a.linked f.linked; board = f.board; sent = f.sent })
      (record { linked = f.linked; board = f.board; sent = f.sent })
  order_applied leads a (order.Resume t) f g =
      applied_one (is_linked t a.linked) _ _
      (record { linked = suspend_keeps t false a.linked f.linked; board = f.board; sent = f.sent })
      (record { linked = f.linked; board = f.board; sent = f.sent })
  order_applied leads a (order.Broadcast e v) f g =
      record { linked = f.linked; board = length-set a.board e.0 (Some (event_values e a.board ++ value_list v)) ∙ f.board; sent = f.sent }
  order_applied leads a (order.Ended t end) f g = record { linked = f.linked; board = f.board; sent = f.sent }

  pub orders_applied : LeadsToPoints x → (a : Applied) (os : List Order) → AppliedFits x s a → Each (Fits x s) os → AppliedFits x s (apply_orders (heads x) s a os)
  orders_applied leads a [] f g = f
  orders_applied leads a (o ∷ os) f g = orders_applied leads (apply_order (heads x) s a o) os (order_applied leads a o f g.0) g.1

-- ---- starts

starts_fit_from : (x : Prog) (s : SchedId) (k : ℕ) (ts : List Start) → Each (StartBegins (heads x)) ts → Each (Fits x s) (starts_from s k ts)
starts_fit_from x s k [] f = tt
starts_fit_from x s k (t ∷ ts) f =
    let made : Order = order.Create (record { maker = maker.Source; seq = k }) t.module t.arguments in
    one_more x s made (starts_from s (k + 1) ts) (same_scheduler s t.scheduler) (λ same. subst (λ (r : SchedId). Fits x r made) (sym (is_same s t.scheduler same)) (tt, f.0.0, f.0.1)) (starts_fit_from x s (k + 1) ts f.1)

pub starts_fit : (x : Prog) → IsWellFormed x → (s : SchedId) → All (Fits x s) (starts_from s 0 (heads x).starts)
starts_fit x well s = all_of (Fits x s) (starts_from s 0 (heads x).starts) (starts_fit_from x s 0 (heads x).starts (starts_begin x well))

-- ---- clients

started_thread : (h : Heads) (t : ThreadId) → IsStarted h t → IsThread h t
started_thread h t is = subst (IsMaker h) (sym is.0) tt

control_fits : (x : Prog) (s : SchedId) (control : Control) (t : ThreadId) → IsThread (heads x) t → Fits x s (order_of control t)
control_fits x s control.Stop t is = is
control_fits x s control.Suspend t is = is
control_fits x s control.Resume t is = is

-- each goes to one declared scheduler, and fits there
abbrev IsForOne : Prog → Sent → Type 0
IsForOne x m = FitsOne x m.to m.order

none_past : {A Q : Type 0} (xs : List A) (i : ℕ) → slice_get xs i ≡ None → i < length xs → Q
none_past [] i none within = absurd (omega (arith, within))
none_past (a ∷ xs) zero none within = absurd cc
none_past (a ∷ xs) (suc i) none within = none_past xs i none (omega (arith, within))

home_there : (h : Heads) (e : EventId) (there : Option EventHead) → slice_get h.events e.0 ≡ there → Each (EventHolds h) h.events → e.0 < length h.events → IsScheduler h (option_map_or (λ x. x.scheduler) there (scheduler 0))
home_there h e None at all within = none_past h.events e.0 at within
home_there h e (Some event) at all within = (each_at (EventHolds h) h.events e.0 event all at).scheduler

orders_for_one : (x : Prog) (c k : ℕ) (os : List ClientOrder) → Each (EventHolds (heads x)) (heads x).events → Each (IsOrdered (heads x)) os → Each (IsForOne x) (orders_from (heads x) c k os)
orders_for_one x c k [] events f = tt
orders_for_one x c k (client.Create s m arguments ∷ os) events f = ((f.0.0.scheduler, (tt, f.0.1, argument_names (heads x) arguments f.0.0.arguments)), orders_for_one x c (k + 1) os events f.1)
orders_for_one x c k (client.Control control t s ∷ os) events f = ((f.0.0.1, control_fits x s control t (started_thread (heads x) t f.0.0.0)), orders_for_one x c k os events f.1)
orders_for_one x c k (client.Broadcast e value ∷ os) events f =
    ((home_there (heads x) e (slice_get (heads x).events e.0) refl events f.0.0.0, record { declared = f.0.0.0; there = refl }), orders_for_one x c k os events f.1)

client_for_one : (x : Prog) (c : ℕ) (there : Option Client) → slice_get (heads x).clients c ≡ there → Each (EventHolds (heads x)) (heads x).events → Each (Orders (heads x)) (heads x).clients
    → Each (IsForOne x) (orders_from (heads x) c 0 (option_map_or (λ d. d.orders) there []))
client_for_one x c None at events all = tt
client_for_one x c (Some client) at events all = orders_for_one x c 0 client.orders events (each_at (Orders (heads x)) (heads x).clients c client all at)

-- all that a client of the source sends goes to one declared scheduler, and fits there
pub outside_for_one : (x : Prog) → IsWellFormed x → (c : ℕ) → Each (IsForOne x) (outside_of (heads x) c)
outside_for_one x well c = client_for_one x c (slice_get (heads x).clients c) refl (events_hold x well) (clients_order x well)

pub one_fits : (x : Prog) (to : To) (q : Order) → FitsOne x to q → FitsAt x to q
one_fits x (to.Sched s) q f = at_one x s q f.1
one_fits x (to.Others s) q f = absurd f
one_fits x to.All q f = absurd f
one_fits x to.Workers q f = absurd f

all_fit_one : (x : Prog) (ms : List Sent) → Each (IsForOne x) ms → Each (SentFits x) ms
all_fit_one x [] f = tt
all_fit_one x (m ∷ ms) f = (one_fits x m.to m.order f.0, all_fit_one x ms f.1)

-- so it fits where it goes
pub outside_fits : (x : Prog) → IsWellFormed x → (c : ℕ) → Each (SentFits x) (outside_of (heads x) c)
outside_fits x well c = all_fit_one x (outside_of (heads x) c) (outside_for_one x well c)
