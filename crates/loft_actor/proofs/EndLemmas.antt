-- The history that is taken out at the end.
use Rattle.std.proofs.Common.{◌≡◌, ◌⊎◌, ⊎_elim, ℕ, suc, ◌+◌, ◌<◌, ◌≤◌, Bool, true, false, not, ◌&&◌, ◌||◌, IsTrue, List, [], ◌∷◌, ◌++◌, length, map, get_or, refl, sym, ap, ◌∙◌, subst, append-nil, append_assoc, arith, length-append, Some}
use Rattle.std.specs.List.{All, range_with_len}
use mathlib.Core.List.{IsPrefix}
use Rattle.std.proofs.lemmas.List.{map-append}
use Rattle.std.proofs.lemmas.List.Elements.{All-nil, All-cons, All-head, All-append, All-weaker, All-map}
use Rattle.atomic_table.specs.Seated.{TableId}
use Rattle.loft_base.specs.declared.ids.SchedId.{SchedId}
use Rattle.loft_base.specs.declared.options.Limits.{Limits}
use Rattle.loft_base.specs.declared.options.RunOptions.{RunOptions}
use Rattle.loft_code.specs.View.{automata_of}
use Rattle.loft_code.specs.declared.raw.CodeProgram.{CodeProgram}
use Rattle.loft_orders.specs.declared.note.InstantNote.{InstantNote}
use Rattle.loft_orders.specs.declared.entry.Actor.{Actor}
use Rattle.loft_orders.specs.declared.entry.Actor.TheVariants.{Sched, Worker, Client}
use Rattle.loft_orders.specs.declared.entry.Entry.{Entry}
use Rattle.loft_sense.specs.Heads.{scheduler}
use Rattle.loft_sense.specs.Machine.{Prog, Code, Mach, heads}
use Rattle.loft_history.specs.History.{is_open, jobs, unposted, unsent, waiting, replayed, has_turn, has_finished, HasEnded}
use Rattle.loft_history.specs.Legal.{actor_of, same_actor, of, AtEach, IsFaithful, IsDeclared, IsRouted, IsLegal, IsNoCaller, HasNoCallers}
use Rattle.loft_history.specs.Report.{schedulers}
use Rattle.loft_history.proofs.OwnLemmas.{replayed_own, open_own, left_own, unsent_own}
use Rattle.loft_world.specs.State.{State}
use Rattle.loft_turn_parts.specs.Turns.{IsReplay}
use Rattle.loft_baton.specs.declared.knows.Own.{Own}
use Rattle.loft_baton.specs.declared.knows.Knows.{Knows}
use Rattle.loft_baton.specs.PassValue.{PassValue}
use Rattle.loft_baton.specs.Knowing.{among, has, own_of, Follows}
use Rattle.loft_baton.specs.Faithful.{AreFaithful}
use Rattle.loft_baton.proofs.HistoryLemmas.{same-refl, of-append, all_has}
use Rattle.loft_seat.specs.declared.seat.Seat.{Seat}
use Rattle.loft_seat.specs.Seats.{entries_of, IsSeat}
use Rattle.loft_station.specs.declared.worker.Worker as hand
use Rattle.loft_station.specs.declared.outsider.Outsider as outside
use Rattle.loft_station.specs.Stations.{StationView}
use Rattle.loft_actor.specs.Engines.{shown, engine_after}
use Rattle.loft_actor.specs.Members.{AtIndex, IsGiver, IsStationOf, IsWorkerOf, IsOutsiderOf, Member, station_member, worker_member, outsider_member, members_of, names_of, owns_of, Remembers, Joins, SawNoMore, IsOver}
use Rattle.loft_actor.specs.Runs.{options_of, IsRun}
use Rattle.loft_actor.proofs.ListLemmas.{at_index, all_front, all_back, from_map, map_all, map_all_schedulers, prefix_of_longer, none_of_length}

-- ---- nothing was added after the look

-- an actor has no entry after a prefix that is at least as long as what it saw last
pub no_more : (b : TableId) (x : CodeProgram) (a : Actor) (list : List Entry) (v : Seat) (h early : List Entry) → IsSeat b x a list v → of a h ≡ list → IsPrefix v.pass.knows.seen h → (p : IsPrefix early h) → v.length ≤ length early → of a p.0 ≡ []
no_more b x a list v h early seat own seen p le =
    let rest : List Entry = p.0 in
    let saw : List Entry = v.pass.knows.seen in
    let parts : of a early ++ of a rest ≡ list = sym (of-append a early rest) ∙ ap (of a) p.1 ∙ own in
    let sum : length (of a early) + length (of a rest) ≡ length list = sym (length-append (of a early) (of a rest)) ∙ ap length parts in
    ⊎_elim
    (λ (none : list ≡ []). none_of_length (of a rest) (omega (arith, sum, ap length none)))
    (λ (t : (of a saw ≡ list) × (v.length ≡ length saw)).
    let shorter : length saw ≤ length early = omega (arith, t.1) in
    let q = prefix_of_longer saw early h seen p shorter in
    let more : of a saw ++ of a q.0 ≡ of a early = sym (of-append a saw q.0) ∙ ap (of a) q.1 in
    let sum' : length (of a saw) + length (of a q.0) ≡ length (of a early) = sym (length-append (of a saw) (of a q.0)) ∙ ap length more in
    none_of_length (of a rest) (omega (arith, sum, sum', ap length t.0)))
    seat.current

own_first : (e : Entry) (es : List Entry) → of (actor_of e) (e ∷ es) ≡ e ∷ of (actor_of e) es
own_first e es = rw (same-refl (actor_of e)) refl

none_left : (owns : List Own) (rest : List Entry) → All (λ o. of o.actor rest ≡ []) owns → All (λ e. has owns (actor_of e) ≡ true) rest → rest ≡ []
none_left owns [] none named = refl
none_left owns (e ∷ es) none named =
    let here : has owns (actor_of e) ≡ true = All-head (λ (e : Entry). has owns (actor_of e) ≡ true) e es named in
    let nothing : of (actor_of e) (e ∷ es) ≡ [] = all_has (λ a. of a (e ∷ es) ≡ []) owns (actor_of e) none here in
    let something : e ∷ of (actor_of e) es ≡ [] = sym (own_first e es) ∙ nothing in
    absurd (cc)

-- an actor and its seat, as the end finds them
pub record Sits (b : TableId) (x : CodeProgram) (h early : List Entry) (m : Member) : Type 0 where
  pub seat : IsSeat b x m.who (entries_of m.seat) m.seat
  pub own : of m.who h ≡ entries_of m.seat
  pub seen : IsPrefix m.seat.pass.knows.seen h
  pub saw : SawNoMore early m.seat

-- the history that is taken out is the one that was looked at
pub same_history : (b : TableId) (x : CodeProgram) (h early : List Entry) (ms : List Member) → IsPrefix early h → All (Sits b x h early) ms → All (λ e. has (owns_of ms) (actor_of e) ≡ true) h → early ≡ h
same_history b x h early ms p sits named =
    let P : Entry → Type 0 = λ e. has (owns_of ms) (actor_of e) ≡ true in
    let none : All (λ o. of o.actor p.0 ≡ []) (owns_of ms) =
    All-map (λ (o : Own). of o.actor p.0 ≡ []) (λ (m : Member). own_of m.who (entries_of m.seat)) ms
    (All-weaker (Sits b x h early) (λ (m : Member). of m.who p.0 ≡ []) (λ m k. no_more b x m.who (entries_of m.seat) m.seat h early k.seat k.own k.seen p k.saw) ms sits) in
    let rest : p.0 ≡ [] = none_left (owns_of ms) p.0 none (all_back P early p.0 (subst (All P) (sym p.1) named)) in
    sym (append-nil early) ∙ ap (λ (l : List Entry). early ++ l) (sym rest) ∙ p.1

-- ---- the pass has each actor that was given out

has_owns : (ms : List Member) (a : Actor) → has (owns_of ms) a ≡ among (names_of ms) a
has_owns [] a = refl
has_owns (m ∷ ms) a = ap (λ (b : Bool). same_actor a m.who || b) (has_owns ms a)

or_true : (b : Bool) → (b || true) ≡ true
or_true true = refl
or_true false = refl

there : (xs : List Actor) (y : Actor) (ys : List Actor) → among (xs ++ y ∷ ys) y ≡ true
there [] y ys = ap (λ (b : Bool). b || among ys y) (same-refl y)
there (x ∷ xs) y ys = ap (λ (b : Bool). same_actor y x || b) (there xs y ys) ∙ or_true (same_actor y x)

names_among : (xs ys : List Actor) → All (λ a. among (xs ++ ys) a ≡ true) ys
names_among xs [] = All-nil (λ a. among (xs ++ []) a ≡ true)
names_among xs (y ∷ ys) =
    All-cons (λ a. among (xs ++ y ∷ ys) a ≡ true) y ys (there xs y ys)
    (subst (λ (l : List Actor). All (λ a. among l a ≡ true) ys) (append_assoc xs (y ∷ []) ys) (names_among (xs ++ y ∷ []) ys))

pub whole_own : (b : TableId) (x : CodeProgram) (giver p : PassValue) (ms : List Member) → IsGiver b x (names_of ms) giver → Joins b giver ms p → All (λ a. has p.knows.own a ≡ true) p.knows.given
whole_own b x giver p ms is j =
    let own : p.knows.own ≡ owns_of ms = j.own ∙ ap (λ (o : List Own). o ++ owns_of ms) is.own in
    let given : p.knows.given ≡ names_of ms = j.given ∙ is.given_out in
    subst (λ (l : List Actor). All (λ a. has p.knows.own a ≡ true) l) (sym given)
    (subst (λ (o : List Own). All (λ a. has o a ≡ true) (names_of ms)) (sym own)
    (All-weaker (λ a. among (names_of ms) a ≡ true) (λ a. has (owns_of ms) a ≡ true) (λ a k. has_owns ms a ∙ k) (names_of ms) (names_among [] (names_of ms))))

-- ---- each actor by the whole history

-- how a scheduler stands, by the whole history
pub record Stands (x : Prog) (l : Limits) (h : List Entry) (s : SchedId) (m : Mach) (notes : List InstantNote) : Type 0 where
  pub closed : is_open s h ≡ false
  pub machine : m ≡ (replayed x l s h).machine
  pub told : notes ≡ (replayed x l s h).notes

stands_own : (x : Prog) (l : Limits) (h list : List Entry) (s : SchedId) (m : Mach) (notes : List InstantNote) → of (Sched s) h ≡ list → is_open s list ≡ false → IsReplay x l s list m notes → Stands x l h s m notes
stands_own x l h list s m notes own closed r = record {
  closed = sym (open_own s h) ∙ ap (is_open s) own ∙ closed;
  machine = r.machine ∙ ap (λ (k : List Entry). (replayed x l s k).machine) (sym own) ∙ ap (λ k. k.machine) (replayed_own x l s h);
  told = r.notes ∙ ap (λ (k : List Entry). (replayed x l s k).notes) (sym own) ∙ ap (λ k. k.notes) (replayed_own x l s h);
}

finished : (x : Prog) (o : RunOptions) (h : List Entry) (s : SchedId) → is_open s h ≡ false → has_turn x o.limits (replayed x o.limits s h).machine (waiting (heads x) s h) ≡ false → IsTrue (has_finished x o h s)
finished x o h s closed none = ap (λ (a : Bool). not a && not (has_turn x o.limits (replayed x o.limits s h).machine (waiting (heads x) s h))) closed ∙ ap not none

all_at : (P : Entry → Type 0) (before : List Entry) (e : Entry) (after : List Entry) → All P (before ++ e ∷ after) → P e
all_at P before e after all = All-head P e after (all_back P before (e ∷ after) all)

at_each : (P : Entry → Type 0) (h : List Entry) → All P h → AtEach (λ before e. P e) h
at_each P h all before e after is = all_at P before e after (subst (All P) is all)

-- ---- the end

-- what is known as the world is taken out
pub record Closing (b : TableId) (x : CodeProgram) (l : Limits) (count : ℕ) (h early : List Entry) (ss : List StationView) (ws : List hand.Worker) (os : List outside.Outsider) : Type 0 where
  pub begins : IsPrefix early h
  pub stations : AtIndex (IsStationOf b x l) ss
  pub many_s : length ss ≡ length x.heads.schedulers
  pub workers : AtIndex (IsWorkerOf b x l.block) ws
  pub many_w : length ws ≡ count
  pub outsiders : AtIndex (IsOutsiderOf b x) os
  pub many_o : length os ≡ length x.heads.clients
  pub over : IsOver x early ss ws os
  pub own : All (λ m. of m.who h ≡ entries_of m.seat) (members_of ss ws os)
  pub seen : All (λ m. IsPrefix m.seat.pass.knows.seen h) (members_of ss ws os)
  pub named : All (λ e. has (owns_of (members_of ss ws os)) (actor_of e) ≡ true) h

module _ (b : TableId) (x : CodeProgram) (l : Limits) (count : ℕ) (h early : List Entry) (ss : List StationView) (ws : List hand.Worker) (os : List outside.Outsider) (c : Closing b x l count h early ss ws os) where
  abbrev X : Prog
  X = Code (automata_of x)

  abbrev O : RunOptions
  O = options_of l count

  abbrev ms : List Member
  ms = members_of ss ws os

  of_s : (P : Member → Type 0) → All P ms → All (λ v. P (station_member v)) ss
  of_s P all = from_map P station_member ss (all_front P (map station_member ss) (map worker_member ws) (all_front P (map station_member ss ++ map worker_member ws) (map outsider_member os) all))

  of_w : (P : Member → Type 0) → All P ms → All (λ v. P (worker_member v)) ws
  of_w P all = from_map P worker_member ws (all_back P (map station_member ss) (map worker_member ws) (all_front P (map station_member ss ++ map worker_member ws) (map outsider_member os) all))

  of_o : (P : Member → Type 0) → All P ms → All (λ v. P (outsider_member v)) os
  of_o P all = from_map P outsider_member os (all_back P (map station_member ss ++ map worker_member ws) (map outsider_member os) all)

  every : (P : Member → Type 0) → All (λ v. P (station_member v)) ss → All (λ v. P (worker_member v)) ws → All (λ v. P (outsider_member v)) os → All P ms
  every P s w o =
      All-append P (map station_member ss ++ map worker_member ws) (map outsider_member os) (All-append P (map station_member ss) (map worker_member ws) (All-map P station_member ss s) (All-map P worker_member ws w)) (All-map P outsider_member os o)

  station_sits : All (λ v. Sits b x h early (station_member v)) ss
  station_sits k d lt = record {
    seat = (c.stations k d lt).ready.kept.seat;
    own = of_s (λ m. of m.who h ≡ entries_of m.seat) c.own k d lt;
    seen = of_s (λ m. IsPrefix m.seat.pass.knows.seen h) c.seen k d lt;
    saw = c.over.stations k d lt;
  }

  worker_sits : All (λ v. Sits b x h early (worker_member v)) ws
  worker_sits k d lt = record {
    seat = (c.workers k d lt).ready.kept.seat;
    own = of_w (λ m. of m.who h ≡ entries_of m.seat) c.own k d lt;
    seen = of_w (λ m. IsPrefix m.seat.pass.knows.seen h) c.seen k d lt;
    saw = c.over.workers k d lt;
  }

  outsider_sits : All (λ v. Sits b x h early (outsider_member v)) os
  outsider_sits k d lt = record {
    seat = (c.outsiders k d lt).ready.seat;
    own = of_o (λ m. of m.who h ≡ entries_of m.seat) c.own k d lt;
    seen = of_o (λ m. IsPrefix m.seat.pass.knows.seen h) c.seen k d lt;
    saw = c.over.outsiders k d lt;
  }

  pub same' : early ≡ h
  same' = same_history b x h early ms c.begins (every (Sits b x h early) station_sits worker_sits outsider_sits) c.named

  -- each actor is declared, and has the entries that it has to make
  pub faithful : AreFaithful X O (owns_of ms)
  faithful =
      All-map (λ (w : Own). IsDeclared x.heads O w.actor × IsFaithful X O w.actor w.entries) (λ (m : Member). own_of m.who (entries_of m.seat)) ms
      (every (λ m. IsDeclared x.heads O m.who × IsFaithful X O m.who (entries_of m.seat))
      (λ k d lt. let s = c.stations k d lt in (s.ready.kept.declared, s.ready.kept.faithful O (sym s.limits)))
      (λ k d lt. let w = c.workers k d lt in (omega (arith, w.number, c.many_w), w.ready.kept.faithful O (sym w.bound)))
      (λ k d lt. (tt, (c.outsiders k d lt).ready.faithful O)))

  pub callers : HasNoCallers x.heads h
  callers =
      at_each (λ e. IsNoCaller x.heads (actor_of e)) h
      (All-weaker (λ (e : Entry). has (owns_of ms) (actor_of e) ≡ true) (λ (e : Entry). IsNoCaller x.heads (actor_of e))
      (λ e named. all_has (IsNoCaller x.heads) (owns_of ms) (actor_of e)
      (All-map (λ (w : Own). IsNoCaller x.heads w.actor) (λ (m : Member). own_of m.who (entries_of m.seat)) ms
      (every (λ m. IsNoCaller x.heads m.who) (λ k d lt. tt) (λ k d lt. tt) (λ k d lt. (c.outsiders k d lt).ready.declared))) named) h c.named)

  -- the scheduler at an index stands as the replay of the history says, and has no turn to make
  pub station_stands : (k : ℕ) (d : StationView) → k < length ss → let v : StationView = get_or ss k d in Stands X l h (scheduler k) v.machine v.notes
  station_stands k d lt =
      let v : StationView = get_or ss k d in
      let s = c.stations k d lt in
      let own : of (Sched v.scheduler) h ≡ entries_of v.seat = of_s (λ m. of m.who h ≡ entries_of m.seat) c.own k d lt in
      subst (λ (q : SchedId). Stands X l h q v.machine v.notes) s.scheduler
      (subst (λ (j : Limits). Stands X j h v.scheduler v.machine v.notes) s.limits
      (stands_own X v.limits h (entries_of v.seat) v.scheduler v.machine v.notes own s.ready.rests.closed s.ready.rests.replay))

  rests : (k : ℕ) (d : StationView) → k < length ss → has_turn X l (replayed X l (scheduler k) h).machine (waiting x.heads (scheduler k) h) ≡ false
  rests k d lt =
      let v : StationView = get_or ss k d in
      let s = c.stations k d lt in
      ap (λ (m : Mach). has_turn X l m (waiting x.heads (scheduler k) h)) (sym (station_stands k d lt).machine)
      ∙ ap (λ (e : List Entry). has_turn X l v.machine (waiting x.heads (scheduler k) e)) (sym same')
      ∙ ap (λ (q : SchedId). has_turn X l v.machine (waiting x.heads q early)) (sym s.scheduler)
      ∙ ap (λ (j : Limits). has_turn X j v.machine (waiting x.heads v.scheduler early)) (sym s.limits)
      ∙ c.over.turns k d lt

  worker_laid : (k : ℕ) (d : hand.Worker) → k < length ws → unposted X O k h ≡ []
  worker_laid k d lt =
      let v : hand.Worker = get_or ws k d in
      let w = c.workers k d lt in
      ap (λ (n : ℕ). unposted X O n h) (sym w.number) ∙ sym (left_own X O v.number h) ∙ ap (unposted X O v.number) (of_w (λ m. of m.who h ≡ entries_of m.seat) c.own k d lt) ∙ w.ready.has O (sym w.bound)

  outsider_gave : (k : ℕ) (d : outside.Outsider) → k < length os → unsent x.heads k h ≡ []
  outsider_gave k d lt =
      let v : outside.Outsider = get_or os k d in
      let o = c.outsiders k d lt in
      ap (λ (n : ℕ). unsent x.heads n h) (sym o.client) ∙ sym (unsent_own x.heads v.client h) ∙ ap (unsent x.heads v.client) (of_o (λ m. of m.who h ≡ entries_of m.seat) c.own k d lt) ∙ c.over.orders k d lt

  pub ended : HasEnded X O h
  ended = record {
    clients = λ n lt. (at_index (λ k v. unsent x.heads k h ≡ []) os n (omega (arith, c.many_o)) outsider_gave).1;
    no_jobs = ap jobs (sym same') ∙ c.over.no_jobs;
    workers = λ n lt. (at_index (λ k v. unposted X O k h ≡ []) ws n (omega (arith, c.many_w)) worker_laid).1;
    schedulers = λ s lt.
        let at = at_index (λ k v. (is_open (scheduler k) h ≡ false) × (has_turn X l (replayed X l (scheduler k) h).machine (waiting x.heads (scheduler k) h) ≡ false)) ss s.0 (omega (arith, c.many_s))
        (λ k d less. ((station_stands k d less).closed, rests k d less)) in
        finished X O h s at.1.0 at.1.1;
  }

  pub engines : map (λ (v : StationView). shown X v.scheduler v.limits v.machine v.failed) ss ≡ map (engine_after X l h) (range_with_len 0 (length x.heads.schedulers))
  engines =
      map_all (λ (v : StationView). shown X v.scheduler v.limits v.machine v.failed) (engine_after X l h) ss
      (λ k d lt.
      let v : StationView = get_or ss k d in
      let s = c.stations k d lt in
      ap (λ (q : SchedId). shown X q v.limits v.machine v.failed) s.scheduler ∙ ap (λ (j : Limits). shown X (scheduler k) j v.machine v.failed) s.limits
      ∙ ap (λ (m : Mach). shown X (scheduler k) l m v.failed) (station_stands k d lt).machine
      ∙ ap (λ (f : Bool). shown X (scheduler k) l (replayed X l (scheduler k) h).machine f) s.ready.works)
      ∙ ap (λ (n : ℕ). map (engine_after X l h) (range_with_len 0 n)) c.many_s

  pub notes : map (λ (v : StationView). v.notes) ss ≡ map (λ s. (replayed X l s h).notes) (schedulers X)
  notes = map_all_schedulers (λ (v : StationView). v.notes) (λ s. (replayed X l s h).notes) ss x.heads.schedulers c.many_s (λ k d lt. (station_stands k d lt).told)

-- from the passes that came together and the world that was taken out
pub closing : (b : TableId) (x : CodeProgram) (l : Limits) (count : ℕ) (giver p : PassValue) (w : State) (ss : List StationView) (ws : List hand.Worker) (os : List outside.Outsider)
    → IsGiver b x (names_of (members_of ss ws os)) giver → AtIndex (IsStationOf b x l) ss → AtIndex (IsWorkerOf b x l.block) ws → AtIndex (IsOutsiderOf b x) os
    → (length ss ≡ length x.heads.schedulers) × (length ws ≡ count) × (length os ≡ length x.heads.clients) → IsOver x giver.knows.seen ss ws os
    → Joins b giver (members_of ss ws os) p → Follows p.knows w → All (λ e. has p.knows.own (actor_of e) ≡ true) w.history → Closing b x l count w.history giver.knows.seen ss ws os
closing b x l count giver p w ss ws os is stations workers outsiders lengths over j follows only =
    let ms : List Member = members_of ss ws os in
    let own : p.knows.own ≡ owns_of ms = j.own ∙ ap (λ (o : List Own). o ++ owns_of ms) is.own in
    let P : Own → Type 0 = λ o. of o.actor w.history ≡ o.entries in
    record {
      begins = j.keeps giver.knows.seen (λ h seen olds. seen) w.history follows.seen follows.olds;
      stations = stations;
      many_s = lengths.0;
      workers = workers;
      many_w = lengths.1;
      outsiders = outsiders;
      many_o = lengths.2;
      over = over;
      own = from_map P (λ (m : Member). own_of m.who (entries_of m.seat)) ms (subst (All P) own follows.own);
      seen = All-weaker (λ (m : Member). Remembers p m.seat.pass.knows.seen) (λ (m : Member). IsPrefix m.seat.pass.knows.seen w.history) (λ m k. k w.history follows.seen follows.olds) ms j.seen;
      named = subst (λ (o : List Own). All (λ e. has o (actor_of e) ≡ true) w.history) own only;
    }

-- the law of closed histories: where each actor of a pass has the entries that it has to make, the history is legal
abbrev pub ClosedAreLegal : Type 0
ClosedAreLegal = (c : CodeProgram) (o : RunOptions) (v : Knows) (w : State) → Follows v w → All (λ e. has v.own (actor_of e) ≡ true) w.history → IsRouted w.heads w.history → v.code ≡ Some c
    → AreFaithful (Code (automata_of c)) o v.own → IsLegal (Code (automata_of c)) o w.history

pub run_is : (b : TableId) (x : CodeProgram) (l : Limits) (count : ℕ) (giver p : PassValue) (w : State) (ss : List StationView) (ws : List hand.Worker) (os : List outside.Outsider)
    → IsGiver b x (names_of (members_of ss ws os)) giver → Joins b giver (members_of ss ws os) p → Follows p.knows w → All (λ e. has p.knows.own (actor_of e) ≡ true) w.history → IsRouted w.heads w.history
    → ClosedAreLegal → Closing b x l count w.history giver.knows.seen ss ws os → IsRun (Code (automata_of x)) (options_of l count) w
run_is b x l count giver p w ss ws os is j follows only routed law c =
    let ms : List Member = members_of ss ws os in
    let code : p.knows.code ≡ Some x = j.code ∙ is.code in
    let own : p.knows.own ≡ owns_of ms = j.own ∙ ap (λ (o : List Own). o ++ owns_of ms) is.own in
    record {
      heads = (follows.code x code).heads;
      legal = law x (options_of l count) p.knows w follows only routed code (subst (AreFaithful (Code (automata_of x)) (options_of l count)) (sym own) (faithful b x l count w.history giver.knows.seen ss ws os c));
      callers = callers b x l count w.history giver.knows.seen ss ws os c;
      ended = ended b x l count w.history giver.knows.seen ss ws os c;
    }

-- ---- the actors that were given out are those that the phases left

names_at : {A : Type 0} (f : A → Member) (g : ℕ → Actor) (xs ys : List A) → AtIndex (λ i x. (f x).who ≡ g i) xs → AtIndex (λ i y. (f y).who ≡ g i) ys → length ys ≡ length xs → names_of (map f xs) ≡ names_of (map f ys)
names_at f g [] [] one two len = refl
names_at f g [] (y ∷ ys) one two len = absurd (omega (arith, len))
names_at f g (x ∷ xs) [] one two len = absurd (omega (arith, len))
names_at f g (x ∷ xs) (y ∷ ys) one two len =
    ap (λ (a : Actor). a ∷ names_of (map f xs)) (one 0 x (omega arith) ∙ sym (two 0 y (omega arith)))
    ∙ ap (λ (l : List Actor). (f y).who ∷ l) (names_at f (λ k. g (suc k)) xs ys (λ k d lt. one (suc k) d (omega arith)) (λ k d lt. two (suc k) d (omega arith)) (omega (arith, len)))

pub same_names : (b : TableId) (x : CodeProgram) (l : Limits) (ss rs : List StationView) (ws us : List hand.Worker) (os qs : List outside.Outsider)
    → AtIndex (IsStationOf b x l) ss → AtIndex (IsStationOf b x l) rs → AtIndex (IsWorkerOf b x l.block) ws → AtIndex (IsWorkerOf b x l.block) us → AtIndex (IsOutsiderOf b x) os → AtIndex (IsOutsiderOf b x) qs
    → (length rs ≡ length ss) × (length us ≡ length ws) × (length qs ≡ length os)
    → (names_of (map station_member ss) ++ names_of (map worker_member ws)) ++ names_of (map outsider_member os) ≡ names_of (members_of rs us qs)
same_names b x l ss rs ws us os qs s r w u o q lens =
    let one = names_at station_member (λ k. Sched (scheduler k)) ss rs (λ k d lt. ap Sched (s k d lt).scheduler) (λ k d lt. ap Sched (r k d lt).scheduler) lens.0 in
    let two = names_at worker_member Worker ws us (λ k d lt. ap Worker (w k d lt).number) (λ k d lt. ap Worker (u k d lt).number) lens.1 in
    let three = names_at outsider_member Client os qs (λ k d lt. ap Client (o k d lt).client) (λ k d lt. ap Client (q k d lt).client) lens.2 in
    ap (λ (k : List Actor). (k ++ names_of (map worker_member ws)) ++ names_of (map outsider_member os)) one
    ∙ ap (λ (k : List Actor). (names_of (map station_member rs) ++ k) ++ names_of (map outsider_member os)) two
    ∙ ap (λ (k : List Actor). (names_of (map station_member rs) ++ names_of (map worker_member us)) ++ k) three
    ∙ ap (λ (k : List Actor). k ++ names_of (map outsider_member qs)) (sym (map-append (λ (m : Member). m.who) (map station_member rs) (map worker_member us)))
    ∙ sym (map-append (λ (m : Member). m.who) (map station_member rs ++ map worker_member us) (map outsider_member qs))
