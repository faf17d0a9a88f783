-- Legal histories: what each actor has done, apart from how a list of choices makes a history (docs/SEMANTICS.md, "Legal").
use Rattle.std.specs.Prelude.{◌≡◌, ◌⊎◌, ℕ, ◌<◌, ◌≤◌, ◌==◌, Bool, true, false, List, [], ◌∷◌, ◌++◌, length, Some, IsTrue}
use Rattle.std.specs.List.{filter}
use Rattle.loft_base.specs.declared.ids.SchedId.{SchedId}
use Rattle.loft_tree.specs.declared.heads.Heads.{Heads}
use Rattle.loft_orders.specs.declared.entry.Actor.{Actor}
use Rattle.loft_orders.specs.declared.entry.Actor.TheVariants as actor
use Rattle.loft_orders.specs.declared.entry.Entry.{Entry}
use Rattle.loft_orders.specs.declared.entry.Entry.TheVariants.{Take, Give, Pick, Post, Client}
use Rattle.loft_base.specs.declared.options.RunOptions.{RunOptions}
use Rattle.loft_base.specs.declared.ids.ThreadId.{ThreadId}
use Rattle.loft_orders.specs.declared.order.Order.{Order}
use Rattle.loft_orders.specs.declared.order.Order.TheVariants as order
use Rattle.loft_orders.specs.declared.order.Sent.{Sent}
use Rattle.loft_orders.specs.declared.order.To.{To}
use Rattle.loft_orders.specs.declared.order.To.TheVariants as to
use Rattle.loft_sense.specs.Heads.{same_scheduler}
use Rattle.loft_sense.specs.Machine.{Prog, heads}
use Rattle.loft_sense.specs.Fits.{Fits}
use Rattle.loft_sense.specs.Async.{async}
use Rattle.loft_history.specs.Clients.{made_by, outside_of}
use Rattle.loft_history.specs.History.{choice_of, is_open, waiting, jobs, unposted, unsent, creates, replayed, has_turn, sent_last, entry_of}

abbrev pub actor_of : Entry → Actor
actor_of (Take s batch) = actor.Sched s
actor_of (Give s sent) = actor.Sched s
actor_of (Pick w job) = actor.Worker w
actor_of (Post w sent) = actor.Worker w
actor_of (Client c sent) = actor.Client c

abbrev pub same_actor : Actor → Actor → Bool
same_actor (actor.Sched a) (actor.Sched b) = same_scheduler a b
same_actor (actor.Worker a) (actor.Worker b) = a == b
same_actor (actor.Client a) (actor.Client b) = a == b
same_actor a b = false

-- the entries of an actor, in order
abbrev pub of : Actor → List Entry → List Entry
of a es = filter (λ e. same_actor a (actor_of e)) es

-- P holds of each entry and of what stands before it
abbrev pub AtEach : (List Entry → Entry → Type 0) → List Entry → Type 0
AtEach P es = (before : List Entry) (e : Entry) (after : List Entry) → es ≡ before ++ e ∷ after → P before e

-- the first of these
abbrev pub IsFirst : {A : Type 0} → A → List A → Type 0
IsFirst a [] = ⊥
IsFirst a (b ∷ bs) = a ≡ b

-- a Take takes all that waits for its scheduler, a Pick the thread that has waited longest for a worker
abbrev pub TakesDue : Heads → List Entry → Entry → Type 0
TakesDue h before (Take s batch) = batch ≡ waiting h s before
TakesDue h before (Pick w job) = IsFirst job (jobs before)
TakesDue h before e = Unit {0}

-- each batch is what waited in the history before it, and each job the first of those that waited
abbrev pub IsRouted : Heads → List Entry → Type 0
IsRouted h es = AtEach (TakesDue h) es

-- Takes and Gives take turns, and the first is a Give where an instant is running
abbrev pub TakeTurns : Bool → List Entry → Type 0
TakeTurns running [] = Unit {0}
TakeTurns false (Take s batch ∷ es) = TakeTurns true es
TakeTurns true (Give s sent ∷ es) = TakeTurns false es
TakeTurns running (e ∷ es) = ⊥

-- a Take is one for which the scheduler has a turn, a Give gives what its last instant sent, both by its instants on the batches so far
abbrev pub IsDue : Prog → RunOptions → SchedId → List Entry → Entry → Type 0
IsDue x o s before (Take q batch) = IsTrue (has_turn x o.limits (replayed x o.limits s before).machine batch)
IsDue x o s before (Give q sent) = sent ≡ sent_last (replayed x o.limits s before).notes
IsDue x o s before e = ⊥

-- a scheduler's own entries are those that it has to make
pub record IsFaithfulScheduler (x : Prog) (o : RunOptions) (s : SchedId) (list : List Entry) : Type 0 where
  pub turns : TakeTurns false list
  pub due : AtEach (IsDue x o s) list

-- Each Pick is followed by all that its job sends, one Post for each order, but for the last Pick by a prefix of it. These
-- orders are left from before.
abbrev pub Works : Prog → RunOptions → List Sent → List Entry → Type 0
Works x o left [] = Unit {0}
Works x o [] (Pick w job ∷ es) = Works x o (async x job o.limits.block) es
Works x o (m ∷ left) (Post w sent ∷ es) = (sent ≡ m) × Works x o left es
Works x o left (e ∷ es) = ⊥

-- these entries give a prefix of these orders, one by one
abbrev pub Gives : List Sent → List Entry → Type 0
Gives left [] = Unit {0}
Gives (m ∷ left) (Client c sent ∷ es) = (sent ≡ m) × Gives left es
Gives left (e ∷ es) = ⊥

-- an order that a caller may give: no `arrive` and no `ended`, and a create with the caller's next id
abbrev pub IsCallersOrder : ThreadId → Order → Type 0
IsCallersOrder next (order.Create t m arguments) = t ≡ next
IsCallersOrder next (order.Arrive t) = ⊥
IsCallersOrder next (order.Ended t end) = ⊥
IsCallersOrder next order = Unit {0}

-- it goes to one declared scheduler, and fits there
abbrev pub FitsOne : Prog → To → Order → Type 0
FitsOne x (to.Sched s) o = (s.0 < length (heads x).schedulers) × Fits x s o
FitsOne x to o = ⊥

-- an order that caller c may give after these entries; its creates are numbered from 0
abbrev pub IsCall : Prog → ℕ → List Entry → Sent → Type 0
IsCall x c before sent = IsCallersOrder (made_by c (creates c before)) sent.order × FitsOne x sent.to sent.order

abbrev pub Calls : Prog → ℕ → List Entry → Entry → Type 0
Calls x c before (Client d sent) = IsCall x c before sent
Calls x c before e = ⊥

-- a client of the source gives its orders as the source has them; any other client is a caller
pub record IsFaithfulClient (x : Prog) (c : ℕ) (list : List Entry) : Type 0 where
  pub source : c < length (heads x).clients → Gives (outside_of (heads x) c) list
  pub caller : length (heads x).clients ≤ c → AtEach (Calls x c) list

-- an actor's own entries are those that it has to make
abbrev pub IsFaithful : Prog → RunOptions → Actor → List Entry → Type 0
IsFaithful x o (actor.Sched s) list = IsFaithfulScheduler x o s list
IsFaithful x o (actor.Worker w) list = Works x o [] list
IsFaithful x o (actor.Client c) list = IsFaithfulClient x c list

-- What a client gives next: one of the source the first of what it has still to give, any other what a caller may give.
pub record IsNextOrder (x : Prog) (c : ℕ) (own : List Entry) (sent : Sent) : Type 0 where
  pub source : c < length (heads x).clients → IsFirst sent (unsent (heads x) c own)
  pub caller : length (heads x).clients ≤ c → IsCall x c own sent

-- The entry by which an actor's own list goes on. A scheduler takes a batch where no instant of it runs and it has a turn with
-- this batch, and gives where one runs, what this sent. A worker picks where it has nothing left to post, and else posts the
-- first of what is left. A client gives its next order.
abbrev pub IsNextOf : Prog → RunOptions → Actor → List Entry → Entry → Type 0
IsNextOf x o (actor.Sched s) own (Take q batch) = (is_open s own ≡ false) × IsTrue (has_turn x o.limits (replayed x o.limits s own).machine batch)
IsNextOf x o (actor.Sched s) own (Give q sent) = (is_open s own ≡ true) × (sent ≡ sent_last (replayed x o.limits s own).notes)
IsNextOf x o (actor.Worker w) own (Pick v job) = unposted x o w own ≡ []
IsNextOf x o (actor.Worker w) own (Post v sent) = IsFirst sent (unposted x o w own)
IsNextOf x o (actor.Client c) own (Client d sent) = IsNextOrder x c own sent
IsNextOf x o a own e = ⊥

-- a scheduler of the program, a worker of the run, or any client
abbrev pub IsDeclared : Heads → RunOptions → Actor → Type 0
IsDeclared h o (actor.Sched s) = s.0 < length h.schedulers
IsDeclared h o (actor.Worker w) = w < o.workers
IsDeclared h o (actor.Client c) = Unit {0}

abbrev pub HasDeclaredActors : Heads → RunOptions → List Entry → Type 0
HasDeclaredActors h o es = AtEach (λ before e. IsDeclared h o (actor_of e)) es

-- Schedulers of the program, workers of the run and clients made these entries, each batch and each job is what waited, and each
-- actor's own entries are those that it has to make.
pub record IsLegal (x : Prog) (o : RunOptions) (es : List Entry) : Type 0 where
  pub declared : HasDeclaredActors (heads x) o es
  pub routed : IsRouted (heads x) es
  pub faithful : (a : Actor) → IsFaithful x o a (of a es)

-- ---- callers

-- the source declares it, where it is a client
abbrev pub IsNoCaller : Heads → Actor → Type 0
IsNoCaller h (actor.Client c) = c < length h.clients
IsNoCaller h a = Unit {0}

-- each entry of a client is that of a client of the source
abbrev pub HasNoCallers : Heads → List Entry → Type 0
HasNoCallers h es = AtEach (λ before e. IsNoCaller h (actor_of e)) es

-- the entry is an order that a caller may give after this history
abbrev pub IsCallersEntry : Prog → List Entry → Entry → Type 0
IsCallersEntry x h (Client c sent) = (length (heads x).clients ≤ c) × IsCall x c h sent
IsCallersEntry x h e = ⊥

-- the entry may come next: it is that of its choice, or an order of a caller
abbrev pub ComesNext : Prog → RunOptions → List Entry → Entry → Type 0
ComesNext x o h e = (entry_of x o h (choice_of e) ≡ Some e) ⊎ IsCallersEntry x h e
