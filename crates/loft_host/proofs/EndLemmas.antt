-- The passes of all actors and callers come together, and the world is taken out.
use Rattle.std.proofs.Common.{◌≡◌, ℕ, zero, suc, ◌+◌, Bool, true, ◌||◌, cond, List, [], ◌∷◌, ◌++◌, length, map, get_or, refl, sym, ap, ◌∙◌, subst, append_assoc, arith}
use Rattle.std.specs.List.{All, range_with_len}
use Rattle.std.proofs.lemmas.List.{map-append}
use Rattle.std.proofs.lemmas.List.Elements.{All-append, All-map}
use Rattle.std.proofs.lemmas.List.Folds.{list_any_at}
use Rattle.std.specs.Prelude.{slice_index_or}
use Rattle.atomic_table.specs.Seated.{TableId}
use Rattle.loft_base.specs.declared.ids.SchedId.{SchedId}
use Rattle.loft_base.specs.declared.options.Limits.{Limits}
use Rattle.loft_base.specs.declared.options.RunOptions.{RunOptions}
use Rattle.loft_code.specs.View.{automata_of}
use Rattle.loft_code.specs.declared.raw.CodeProgram.{CodeProgram}
use Rattle.loft_orders.specs.declared.entry.Actor.{Actor}
use Rattle.loft_orders.specs.declared.entry.Actor.TheVariants.{Sched, Worker, Client}
use Rattle.loft_orders.specs.declared.entry.Entry.{Entry}
use Rattle.loft_sense.specs.Heads.{scheduler}
use Rattle.loft_sense.specs.Machine.{Prog, Code, heads}
use Rattle.loft_history.specs.History.{replayed}
use Rattle.loft_history.specs.Legal.{actor_of, same_actor, of, IsFaithful, IsDeclared, IsRouted, IsLegal}
use Rattle.loft_history.specs.Report.{schedulers}
use Rattle.loft_history.proofs.LegalLemmas.{same_actor_self}
use Rattle.loft_history.proofs.OwnLemmas.{replayed_own}
use Rattle.loft_world.specs.State.{State}
use Rattle.loft_baton.specs.declared.knows.Own.{Own}
use Rattle.loft_baton.specs.declared.knows.Knows.{Knows}
use Rattle.loft_baton.specs.PassValue.{PassValue}
use Rattle.loft_baton.specs.Knowing.{among, has, joined, Follows}
use Rattle.loft_baton.specs.Faithful.{AreFaithful}
use Rattle.loft_station.specs.declared.worker.Worker as hand
use Rattle.loft_station.specs.declared.outsider.Outsider as outside
use Rattle.loft_station.specs.Stations.{StationView}
use Rattle.loft_ft.specs.Calls.{HasCaller, caller_of, entries_in}
use Rattle.loft_ft.proofs.CallLemmas.{of_code, own_is}
use Rattle.loft_actor.specs.Members.{AtIndex, IsGiver, IsStationOf, IsWorkerOf, IsOutsiderOf, Member, station_member, worker_member, outsider_member, names_of}
use Rattle.loft_actor.proofs.ListLemmas.{all_front, from_map, map_all, map_all_schedulers}
use Rattle.loft_actor.proofs.EndLemmas.{ClosedAreLegal}
use Rattle.loft_host.specs.Callers.{IsAtWork, IsCallerOf, caller_in, callers_in}
use Rattle.loft_host.specs.Gathered.{IsGathered, station_own, worker_own, outsider_own, caller_own, everyone}

-- ---- one pass after another

-- no pass is joined yet
pub gathered_none : (b : TableId) (x : CodeProgram) (given : List Actor) (p : PassValue) → IsGiver b x given p → IsGathered b x p.knows.given [] p
gathered_none b x given p m = record { baton = m.baton; idle = m.idle; code = m.code; gives = m.gives; given_out = refl; has = m.own }

gathered_first : (b : TableId) (x : CodeProgram) (given : List Actor) (p : PassValue) → IsGiver b x given p → IsGathered b x given [] p
gathered_first b x given p m = record { baton = m.baton; idle = m.idle; code = m.code; gives = m.gives; given_out = m.given_out; has = m.own }

-- what it gave out and has is what it knows
pub gathered_itself : (b : TableId) (x : CodeProgram) (given : List Actor) (own : List Own) (p : PassValue) → IsGathered b x given own p → IsGathered b x p.knows.given p.knows.own p
gathered_itself b x given own p g = record { baton = g.baton; idle = g.idle; code = g.code; gives = g.gives; given_out = refl; has = refl }

-- one more pass is joined
pub gathered_more : (b : TableId) (x : CodeProgram) (given : List Actor) (own : List Own) (w : PassValue) (u : Knows) (o : Own) (p : PassValue) → IsGathered b x given own w → u.own ≡ o ∷ []
    → p ≡ record { baton = b; knows = joined w.knows u } → IsGathered b x given (own ++ o ∷ []) p
gathered_more b x given own w u o p g mine is =
    let k : p.knows ≡ joined w.knows u = ap (λ (t : PassValue). t.knows) is in
    record {
      baton = ap (λ (t : PassValue). t.baton) is;
      idle = (ap (λ (v : Knows). v.stage) k ∙ g.idle.0, ap (λ (v : Knows). v.holds) k ∙ g.idle.1);
      code = ap (λ (v : Knows). v.code) k ∙ g.code;
      gives = ap (λ (v : Knows). v.gives) k ∙ ap (λ (c : Bool). c || u.gives) g.gives;
      given_out = ap (λ (v : Knows). v.given) k ∙ ap (λ (c : Bool). cond c w.knows.given u.given) g.gives ∙ g.given_out;
      has = ap (λ (v : Knows). v.own) k ∙ ap (λ (l : List Own). l ++ u.own) g.has ∙ ap (λ (l : List Own). own ++ l) mine;
    }

-- one more of a list of actors
pub gathered_push : (b : TableId) (x : CodeProgram) (given : List Actor) (before : List Own) (w : PassValue) (u : Knows) (p : PassValue) {A : Type 0} (f : A → Own) (vs : List A) (v : A)
    → IsGathered b x given (before ++ map f vs) w → u.own ≡ f v ∷ [] → p ≡ record { baton = b; knows = joined w.knows u } → IsGathered b x given (before ++ map f (vs ++ v ∷ [])) p
gathered_push b x given before w u p f vs v g mine is =
    subst (λ (l : List Own). IsGathered b x given l p) (append_assoc before (map f vs) (f v ∷ []) ∙ ap (λ (l : List Own). before ++ l) (sym (map-append f vs (v ∷ []))))
    (gathered_more b x given (before ++ map f vs) w u (f v) p g mine is)

-- these were joined, and then those
pub gathered_then : (b : TableId) (x : CodeProgram) (given : List Actor) (own more : List Own) (v w : PassValue) → IsGathered b x given own v → IsGathered b x v.knows.given (v.knows.own ++ more) w → IsGathered b x given (own ++ more) w
gathered_then b x given own more v w g h = record {
  baton = h.baton;
  idle = h.idle;
  code = h.code;
  gives = h.gives;
  given_out = h.given_out ∙ g.given_out;
  has = h.has ∙ ap (λ (l : List Own). l ++ more) g.has;
}

-- the pass of a caller has it with its entries
pub caller_has : (b : TableId) (x : CodeProgram) (p : PassValue) → IsAtWork b x p → p.knows.own ≡ caller_own p ∷ []
caller_has b x p w = own_is p.knows.own x.heads (of_code (λ y. HasCaller p.knows.own y.heads) p.knows.code x w.code w.may.caller)

-- ---- all of them

map_twice : {A B C : Type 0} (f : B → C) (g : A → B) (xs : List A) → map f (map g xs) ≡ map (λ x. f (g x)) xs
map_twice f g [] = refl
map_twice f g (x ∷ xs) = ap (λ l. f (g x) ∷ l) (map_twice f g xs)

abbrev pub owns : List StationView → List hand.Worker → List outside.Outsider → List PassValue → List Own
owns ss ws os ps = ((map station_own ss ++ map worker_own ws) ++ map outsider_own os) ++ map caller_own ps

pub all_gathered : (b : TableId) (x : CodeProgram) (given : List Actor) (giver first second third last : PassValue) (ss rs : List StationView) (ws us : List hand.Worker) (os qs : List outside.Outsider) {A : Type 0} (f : A → PassValue) (ds : List A)
    → IsGiver b x given giver → rs ≡ ss → us ≡ ws → qs ≡ os → IsGathered b x giver.knows.given (map station_own rs) first → IsGathered b x first.knows.given (first.knows.own ++ map worker_own us) second
    → IsGathered b x second.knows.given (second.knows.own ++ map outsider_own qs) third → IsGathered b x third.knows.given (third.knows.own ++ map (λ d. caller_own (f d)) ds) last → IsGathered b x given (owns ss ws os (map f ds)) last
all_gathered b x given giver first second third last ss rs ws us os qs f ds m s w o one two three four =
    let start : IsGathered b x given [] giver = gathered_first b x given giver m in
    let with_s : IsGathered b x given (map station_own ss) first =
    subst (λ (l : List Actor). IsGathered b x l (map station_own ss) first) m.given_out (subst (λ (l : List StationView). IsGathered b x giver.knows.given (map station_own l) first) s one) in
    let with_w : IsGathered b x given (map station_own ss ++ map worker_own ws) second =
    gathered_then b x given (map station_own ss) (map worker_own ws) first second with_s (subst (λ (l : List hand.Worker). IsGathered b x first.knows.given (first.knows.own ++ map worker_own l) second) w two) in
    let with_o : IsGathered b x given ((map station_own ss ++ map worker_own ws) ++ map outsider_own os) third =
    gathered_then b x given (map station_own ss ++ map worker_own ws) (map outsider_own os) second third with_w (subst (λ (l : List outside.Outsider). IsGathered b x second.knows.given (second.knows.own ++ map outsider_own l) third) o three) in
    gathered_then b x given ((map station_own ss ++ map worker_own ws) ++ map outsider_own os) (map caller_own (map f ds)) third last with_o
    (subst (λ (l : List Own). IsGathered b x third.knows.given (third.knows.own ++ l) last) (sym (map_twice caller_own f ds)) four)

-- ---- the pass has each actor that was given out

-- those of one kind, by their indexes
by_index : {A B : Type 0} (f : B → Actor) (g : A → B) (h : ℕ → Actor) (n : ℕ) (xs : List A) → AtIndex (λ i x. f (g x) ≡ h i) xs → length xs ≡ n → map f (map g xs) ≡ map h (range_with_len 0 n)
by_index f g h n xs each many = map_twice f g xs ∙ map_all (λ x. f (g x)) h xs each ∙ ap (λ k. map h (range_with_len 0 k)) many

has_actors : (own : List Own) (a : Actor) → has own a ≡ among (map (λ o. o.actor) own) a
has_actors [] a = refl
has_actors (o ∷ own) a = ap (λ (c : Bool). same_actor a o.actor || c) (has_actors own a)

among_itself : (actors : List Actor) → All (λ a. among actors a ≡ true) actors
among_itself actors = λ k d l. list_any_at (λ b. same_actor (slice_index_or actors k d) b) actors k d l (same_actor_self (slice_index_or actors k d))

-- ---- the end

-- what is known as the passes come together
pub record Ending (b : TableId) (x : CodeProgram) (o : RunOptions) (ss : List StationView) (ws : List hand.Worker) (os : List outside.Outsider) (ps : List PassValue) : Type 0 where
  pub stations : AtIndex (IsStationOf b x o.limits) ss
  pub many_s : length ss ≡ length x.heads.schedulers
  pub workers : AtIndex (IsWorkerOf b x o.limits.block) ws
  pub many_w : length ws ≡ o.workers
  pub outsiders : AtIndex (IsOutsiderOf b x) os
  pub many_o : length os ≡ length x.heads.clients
  pub callers : AtIndex (IsCallerOf b x) ps

module _ (b : TableId) (x : CodeProgram) (o : RunOptions) (ss : List StationView) (ws : List hand.Worker) (os : List outside.Outsider) (ps : List PassValue) (c : Ending b x o ss ws os ps) where
  abbrev X : Prog
  X = Code (automata_of x)

  abbrev actor_in : Own → Actor
  actor_in w = w.actor

  abbrev count : ℕ
  count = length ps

  actors_are : map actor_in (owns ss ws os ps) ≡ everyone (length x.heads.schedulers) o.workers (length x.heads.clients) count
  actors_are =
      map-append actor_in ((map station_own ss ++ map worker_own ws) ++ map outsider_own os) (map caller_own ps)
      ∙ ap (λ (l : List Actor). l ++ map actor_in (map caller_own ps)) (map-append actor_in (map station_own ss ++ map worker_own ws) (map outsider_own os))
      ∙ ap (λ (l : List Actor). (l ++ map actor_in (map outsider_own os)) ++ map actor_in (map caller_own ps)) (map-append actor_in (map station_own ss) (map worker_own ws))
      ∙ ap (λ (l : List Actor). ((l ++ map actor_in (map worker_own ws)) ++ map actor_in (map outsider_own os)) ++ map actor_in (map caller_own ps))
      (by_index actor_in station_own (λ k. Sched (scheduler k)) (length x.heads.schedulers) ss (λ k d lt. ap Sched (c.stations k d lt).scheduler) c.many_s)
      ∙ ap (λ (l : List Actor). ((map (λ k. Sched (scheduler k)) (range_with_len 0 (length x.heads.schedulers)) ++ l) ++ map actor_in (map outsider_own os)) ++ map actor_in (map caller_own ps))
      (by_index actor_in worker_own (λ k. Worker k) o.workers ws (λ k d lt. ap Worker (c.workers k d lt).number) c.many_w)
      ∙ ap (λ (l : List Actor). ((map (λ k. Sched (scheduler k)) (range_with_len 0 (length x.heads.schedulers)) ++ map (λ k. Worker k) (range_with_len 0 o.workers)) ++ l) ++ map actor_in (map caller_own ps))
      (by_index actor_in outsider_own (λ k. Client k) (length x.heads.clients) os (λ k d lt. ap Client (c.outsiders k d lt).client) c.many_o)
      ∙ ap (λ (l : List Actor). ((map (λ k. Sched (scheduler k)) (range_with_len 0 (length x.heads.schedulers)) ++ map (λ k. Worker k) (range_with_len 0 o.workers)) ++ map (λ k. Client k) (range_with_len 0 (length x.heads.clients))) ++ l)
      (by_index actor_in caller_own (λ k. Client (length x.heads.clients + k)) count ps (λ k d lt. ap Client (c.callers k d lt).caller) refl)

  pub whole : (n : ℕ) → count ≡ n → (p : PassValue) → IsGathered b x (everyone (length x.heads.schedulers) o.workers (length x.heads.clients) n) (owns ss ws os ps) p → All (λ a. has p.knows.own a ≡ true) p.knows.given
  whole n many p g =
      subst (λ (l : List Actor). All (λ a. has p.knows.own a ≡ true) l) (actors_are ∙ ap (everyone (length x.heads.schedulers) o.workers (length x.heads.clients)) many ∙ sym g.given_out)
      (subst (λ (l : List Own). All (λ a. has l a ≡ true) (map actor_in (owns ss ws os ps))) (sym g.has)
      (λ k d lt. has_actors (owns ss ws os ps) (get_or (map actor_in (owns ss ws os ps)) k d) ∙ among_itself (map actor_in (owns ss ws os ps)) k d lt))

  -- each actor is declared, and has the entries that it has to make
  faithful : AreFaithful X o (owns ss ws os ps)
  faithful =
      let P : Own → Type 0 = λ w. IsDeclared x.heads o w.actor × IsFaithful X o w.actor w.entries in
      All-append P ((map station_own ss ++ map worker_own ws) ++ map outsider_own os) (map caller_own ps)
      (All-append P (map station_own ss ++ map worker_own ws) (map outsider_own os)
      (All-append P (map station_own ss) (map worker_own ws)
      (All-map P station_own ss (λ k d lt. let s = c.stations k d lt in (s.ready.kept.declared, s.ready.kept.faithful o (sym s.limits))))
      (All-map P worker_own ws (λ k d lt. let w = c.workers k d lt in (omega (arith, w.number, c.many_w), w.ready.kept.faithful o (sym w.bound)))))
      (All-map P outsider_own os (λ k d lt. (tt, (c.outsiders k d lt).ready.faithful o))))
      (All-map P caller_own ps (λ k d lt.
      let p : PassValue = get_or ps k d in
      let w = (c.callers k d lt).at_work in
      (tt, of_code (λ y. (q : RunOptions) → IsFaithful (Code (automata_of y)) q (Client (caller_of p.knows)) (entries_in p.knows.own)) p.knows.code x w.code w.faithful o)))

  pub legal : (p : PassValue) (w : State) (given : List Actor) → IsGathered b x given (owns ss ws os ps) p → Follows p.knows w → All (λ e. has p.knows.own (actor_of e) ≡ true) w.history → IsRouted w.heads w.history → ClosedAreLegal
      → IsLegal X o w.history
  legal p w given g follows only routed law = law x o p.knows w follows only routed g.code (subst (AreFaithful X o) (sym g.has) faithful)

  pub same_heads : (p : PassValue) (w : State) (given : List Actor) → IsGathered b x given (owns ss ws os ps) p → Follows p.knows w → w.heads ≡ x.heads
  same_heads p w given g follows = (follows.code x g.code).heads

  -- what each scheduler's instants did is what the replay of the history says
  pub notes : (p : PassValue) (w : State) (given : List Actor) → IsGathered b x given (owns ss ws os ps) p → Follows p.knows w → map (λ (v : StationView). v.notes) ss ≡ map (λ s. (replayed X o.limits s w.history).notes) (schedulers X)
  notes p w given g follows =
      let h : List Entry = w.history in
      let P : Own → Type 0 = λ q. of q.actor h ≡ q.entries in
      let all : All P (owns ss ws os ps) = subst (All P) g.has follows.own in
      let own : All (λ v. P (station_own v)) ss =
      from_map P station_own ss (all_front P (map station_own ss) (map worker_own ws) (all_front P (map station_own ss ++ map worker_own ws) (map outsider_own os) (all_front P ((map station_own ss ++ map worker_own ws) ++ map outsider_own os) (map caller_own ps) all))) in
      map_all_schedulers (λ (v : StationView). v.notes) (λ s. (replayed X o.limits s h).notes) ss x.heads.schedulers c.many_s
      (λ k d lt.
      let v : StationView = get_or ss k d in
      let s = c.stations k d lt in
      s.ready.rests.replay.notes
      ∙ ap (λ (l : List Entry). (replayed X v.limits v.scheduler l).notes) (sym (own k d lt))
      ∙ ap (λ r. r.notes) (replayed_own X v.limits v.scheduler h)
      ∙ ap (λ (q : SchedId). (replayed X v.limits q h).notes) s.scheduler
      ∙ ap (λ (l : Limits). (replayed X l (scheduler k) h).notes) s.limits)

-- what holds at each index of a list holds so of what is made of its elements
at_map : {A B : Type 0} (P : ℕ → B → Type 0) (f : A → B) (xs : List A) → AtIndex (λ i x. P i (f x)) xs → AtIndex P (map f xs)
at_map P f [] all i d lt = absurd (omega arith)
at_map P f (x ∷ xs) all zero d lt = all 0 x (omega arith)
at_map P f (x ∷ xs) all (suc i) d lt = at_map (λ k. P (suc k)) f xs (λ k e l. all (suc k) e (omega arith)) i d (omega arith)

pub as_many : {A B : Type 0} (f : A → B) (xs : List A) → length (map f xs) ≡ length xs
as_many f [] = refl
as_many f (x ∷ xs) = ap suc (as_many f xs)

pub ending : (b : TableId) (x : CodeProgram) (o : RunOptions) (ss : List StationView) (ws : List hand.Worker) (os : List outside.Outsider) {A : Type 0} (f : A → PassValue) (ds : List A)
    → AtIndex (IsStationOf b x o.limits) ss → AtIndex (IsWorkerOf b x o.limits.block) ws → AtIndex (IsOutsiderOf b x) os → AtIndex (λ i d. IsCallerOf b x i (f d)) ds
    → (length ss ≡ length x.heads.schedulers) × (length ws ≡ o.workers) × (length os ≡ length x.heads.clients) → Ending b x o ss ws os (map f ds)
ending b x o ss ws os f ds s w q d many = record {
  stations = s;
  many_s = many.0;
  workers = w;
  many_w = many.1;
  outsiders = q;
  many_o = many.2;
  callers = at_map (IsCallerOf b x) f ds d;
}

-- ---- those that were given out at first

-- by their indexes
pub everyone_is : (b : TableId) (x : CodeProgram) (o : RunOptions) (ss : List StationView) (ws : List hand.Worker) (os : List outside.Outsider) (ps : List PassValue) (c : Ending b x o ss ws os ps)
    → ((names_of (map station_member ss) ++ names_of (map worker_member ws)) ++ names_of (map outsider_member os)) ++ callers_in ps ≡ everyone (length x.heads.schedulers) o.workers (length x.heads.clients) (length ps)
everyone_is b x o ss ws os ps c =
    let who : Member → Actor = λ m. m.who in
    ap (λ (l : List Actor). ((l ++ names_of (map worker_member ws)) ++ names_of (map outsider_member os)) ++ callers_in ps)
    (by_index who station_member (λ k. Sched (scheduler k)) (length x.heads.schedulers) ss (λ k d lt. ap Sched (c.stations k d lt).scheduler) c.many_s)
    ∙ ap (λ (l : List Actor). ((map (λ k. Sched (scheduler k)) (range_with_len 0 (length x.heads.schedulers)) ++ l) ++ names_of (map outsider_member os)) ++ callers_in ps)
    (by_index who worker_member (λ k. Worker k) o.workers ws (λ k d lt. ap Worker (c.workers k d lt).number) c.many_w)
    ∙ ap (λ (l : List Actor). ((map (λ k. Sched (scheduler k)) (range_with_len 0 (length x.heads.schedulers)) ++ map (λ k. Worker k) (range_with_len 0 o.workers)) ++ l) ++ callers_in ps)
    (by_index who outsider_member (λ k. Client k) (length x.heads.clients) os (λ k d lt. ap Client (c.outsiders k d lt).client) c.many_o)
    ∙ ap (λ (l : List Actor). ((map (λ k. Sched (scheduler k)) (range_with_len 0 (length x.heads.schedulers)) ++ map (λ k. Worker k) (range_with_len 0 o.workers)) ++ map (λ k. Client k) (range_with_len 0 (length x.heads.clients))) ++ l)
    (map_all caller_in (λ k. Client (length x.heads.clients + k)) ps (λ k d lt. ap Client (c.callers k d lt).caller))
