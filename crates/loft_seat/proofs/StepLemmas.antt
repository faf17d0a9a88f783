-- What a step means to a pass of one actor.
use Rattle.std.proofs.Common.{◌≡◌, inr, ℕ, Bool, true, false, cond, ◌||◌, List, [], ◌∷◌, ◌++◌, length, refl, sym, ap, ◌∙◌, subst, append-nil, Result, Ok, Err, OnOk, OnErr, Option, Some, None, MatchOption, IfOk, IfSome, IfNone}
use Rattle.std.specs.Prelude.{slice_get}
use Rattle.std.specs.List.{All}
use Rattle.std.proofs.lemmas.List.Elements.{All-nil, All-cons, All-head, All-tail, All-append, All-weaker}
use Rattle.std.proofs.lemmas.List.Prefix.{front_rest}
use Rattle.atomic_table.specs.Seated.{TableId}
use Rattle.loft_base.specs.declared.ids.SchedId.{SchedId}
use Rattle.loft_base.specs.declared.options.Limits.{Limits}
use Rattle.loft_base.specs.declared.options.RunOptions.{RunOptions}
use Rattle.loft_tree.specs.declared.heads.Heads.{Heads}
use Rattle.loft_tree.specs.declared.heads.Place.TheVariants.{Unlinked}
use Rattle.loft_tree.specs.NamedFits.{IsScheduler}
use Rattle.loft_code.specs.View.{automata_of}
use Rattle.loft_code.specs.declared.raw.CodeProgram.{CodeProgram}
use Rattle.loft_orders.specs.declared.order.Order.{Order}
use Rattle.loft_orders.specs.declared.thread.Thread.{Thread}
use Rattle.loft_orders.specs.declared.entry.Actor.{Actor}
use Rattle.loft_orders.specs.declared.entry.Actor.TheVariants.{Sched, Worker}
use Rattle.loft_orders.specs.declared.entry.Entry.{Entry}
use Rattle.loft_orders.specs.declared.entry.Entry.TheVariants as entry
use Rattle.loft_sense.specs.Fits.{Fits}
use Rattle.loft_sense.specs.Machine.{Prog, Code, Mach}
use Rattle.loft_history.specs.History.{sent_in, waiting, jobs, has_turn, is_open, is_busy}
use Rattle.loft_history.specs.Legal.{actor_of, same_actor, of}
use Rattle.loft_history.proofs.OwnLemmas.{scheduler_own, worker_own}
use Rattle.loft_soundness.specs.Machines.{ThreadFits, SentFits}
use Rattle.loft_soundness.specs.WellFormed.{IsWellFormed}
use Rattle.loft_soundness.proofs.HistoryFits.{sent_waits_fit, sent_jobs_stand}
use Rattle.loft_world.specs.State.{State, with_entry}
use Rattle.loft_turn_parts.specs.Turns.{due}
use Rattle.loft_baton.specs.declared.knows.Own.{Own}
use Rattle.loft_baton.specs.declared.knows.Knows.{Knows}
use Rattle.loft_baton.specs.OfCode.{IsOfCode}
use Rattle.loft_baton.specs.PassValue.{PassValue}
use Rattle.loft_baton.specs.Knowing.{has, added, Adds, own_of, own_with, holding, released, Follows}
use Rattle.loft_baton.proofs.HistoryLemmas.{same-refl, same-true, of-append}
use Rattle.loft_seat.specs.declared.seat.Seat.{Seat}
use Rattle.loft_seat.specs.Seats.{entries_of, IsOf, IsSeat, Takes, Idles, Picks, Finds}
use Rattle.loft_seat.proofs.FoundLemmas.{due_some, due_none, first_holds, no_first}

pub same_code : (x y : CodeProgram) (code : Option CodeProgram) → code ≡ Some x → code ≡ Some y → x ≡ y
same_code x y code one other = ap (λ o. elim o as (λ _. CodeProgram) [ None ↦ x | Some z ↦ z ]) (sym one ∙ other)

-- the world with these entries more
abbrev pub with_entries : State → List Entry → State
with_entries w new = record w { history = w.history ++ new }

-- an actor added these entries, and they fit
pub record Grows (a : Actor) (x : CodeProgram) (old new : State) : Type 0 where
  pub more : List Entry
  pub is : new ≡ with_entries old more
  pub mine : All (IsOf a) more
  pub fits : All (SentFits (Code (automata_of x))) (sent_in more)

-- entries of one actor are all its own
pub of_mine : (a : Actor) (es : List Entry) → All (IsOf a) es → of a es ≡ es
of_mine a [] all = refl
of_mine a (e ∷ es) all = ap (λ (t : Bool). cond t (e ∷ of a es) (of a es)) (All-head (IsOf a) e es all) ∙ ap (λ (l : List Entry). e ∷ l) (of_mine a es (All-tail (IsOf a) e es all))

-- the history that was taken has just the actor's entries
pub of_taken : (b : TableId) (x : CodeProgram) (a : Actor) (list : List Entry) (v : Seat) (taken : State) → IsSeat b x a list v → Follows v.pass.knows taken → of a taken.history ≡ list
of_taken b x a list v taken seat follows =
    let P : Own → Type 0 = λ o. of o.actor taken.history ≡ o.entries in
    All-head P (own_of a list) [] (subst (All P) seat.own follows.own)

pub added_is : (u : Knows) (h new : List Entry) → added (holding u h) (h ++ new) ≡ new
added_is u h new = front_rest (h ++ new) h new refl

has_mine : (b : TableId) (x : CodeProgram) (a : Actor) (list : List Entry) (v : Seat) (e : Entry) → IsSeat b x a list v → IsOf a e → has v.pass.knows.own (actor_of e) ≡ true
has_mine b x a list v e seat mine =
    ap (λ (own : List Own). has own (actor_of e)) seat.own
    ∙ ap (λ (t : Bool). t || false) (subst (λ (d : Actor). same_actor d a ≡ true) (same-true a (actor_of e) mine) (same-refl a))

-- what the actor added may be given back
pub adds_grown : (b : TableId) (x : CodeProgram) (a : Actor) (list : List Entry) (v : Seat) (mid : PassValue) (taken left : State) → IsSeat b x a list v
    → mid ≡ record v.pass { knows = holding v.pass.knows taken.history } → Follows v.pass.knows taken → Grows a x taken left → Adds mid.knows left
adds_grown b x a list v mid taken left seat is follows grows =
    let u : Knows = v.pass.knows in
    let h : List Entry = taken.history in
    let k : mid.knows ≡ holding u h = ap (λ (t : PassValue). t.knows) is in
    let more : left.history ≡ h ++ grows.more = ap (λ (w : State). w.history) grows.is in
    let new : added (holding u h) left.history ≡ grows.more = ap (added (holding u h)) more ∙ added_is u h grows.more in
    let P : Entry → Type 0 = λ e. has u.own (actor_of e) ≡ true in
    let adds : Adds (holding u h) left = record {
      seen = (grows.more, sym more);
      own = subst (All P) (sym new) (All-weaker (IsOf a) P (λ e m. has_mine b x a list v e seat m) grows.more grows.mine);
      heads = λ y known. ap (λ (w : State). w.heads) grows.is ∙ (follows.code y known).heads;
      fits = λ y known. subst (λ (l : List Entry). All (SentFits (Code (automata_of y))) (sent_in l)) (sym new)
          (subst (λ (z : CodeProgram). All (SentFits (Code (automata_of z))) (sent_in grows.more)) (same_code x y u.code seat.code known) grows.fits);
    } in
    subst (λ (w : Knows). Adds w left) (sym k) adds

-- the pass after a step that added these entries
pub stepped : (b : TableId) (x : CodeProgram) (a : Actor) (list new : List Entry) (v p : Seat) (mid : PassValue) (taken left : State) → IsSeat b x a list v
    → mid ≡ record v.pass { knows = holding v.pass.knows taken.history } → Follows v.pass.knows taken → left ≡ with_entries taken new → All (IsOf a) new
    → p.pass ≡ record mid { knows = released mid.knows left.history } → p.length ≡ length left.history → IsSeat b x a (list ++ new) p
stepped b x a list new v p mid taken left seat is follows grows mine after len =
    let u : Knows = v.pass.knows in
    let h : List Entry = taken.history in
    let more : left.history ≡ h ++ new = ap (λ (w : State). w.history) grows in
    let final : PassValue = record v.pass { knows = released (holding u h) (h ++ new) } in
    let q : p.pass ≡ final = after ∙ ap (λ (t : PassValue). record t { knows = released t.knows left.history }) is ∙ ap (λ (l : List Entry). record v.pass { knows = released (holding u h) l }) more in
    let owned : own_with (added (holding u h) (h ++ new)) u.own ≡ own_of a (list ++ new) ∷ [] =
    ap (λ (l : List Entry). own_with l u.own) (added_is u h new) ∙ ap (own_with new) seat.own ∙ ap (λ (l : List Entry). own_of a (list ++ l) ∷ []) (of_mine a new mine) in
    let seen : of a (h ++ new) ≡ list ++ new = of-append a h new ∙ ap (λ (l : List Entry). l ++ of a new) (of_taken b x a list v taken seat follows) ∙ ap (λ (l : List Entry). list ++ l) (of_mine a new mine) in
    record {
      baton = ap (λ (t : PassValue). t.baton) q ∙ seat.baton;
      idle = (ap (λ (t : PassValue). t.knows.stage) q ∙ seat.idle.0, ap (λ (t : PassValue). t.knows.holds) q);
      code = ap (λ (t : PassValue). t.knows.code) q ∙ seat.code;
      own = ap (λ (t : PassValue). t.knows.own) q ∙ owned;
      mine = All-append (IsOf a) list new seat.mine mine;
      current = inr (ap (λ (t : PassValue). of a t.knows.seen) q ∙ seen, len ∙ ap length more ∙ sym (ap (λ (t : PassValue). length t.knows.seen) q));
    }

pub stepped_none : (b : TableId) (x : CodeProgram) (a : Actor) (list : List Entry) (v p : Seat) (mid : PassValue) (taken left : State) → IsSeat b x a list v
    → mid ≡ record v.pass { knows = holding v.pass.knows taken.history } → Follows v.pass.knows taken → left ≡ taken
    → p.pass ≡ record mid { knows = released mid.knows left.history } → p.length ≡ length left.history → IsSeat b x a list p
stepped_none b x a list v p mid taken left seat is follows same after len =
    subst (λ (l : List Entry). IsSeat b x a l p) (append-nil list)
    (stepped b x a list [] v p mid taken left seat is follows (same ∙ ap (λ (l : List Entry). record taken { history = l }) (sym (append-nil taken.history))) (All-nil (IsOf a)) after len)

-- what the pass has seen then
pub seen_then : (v p : Seat) (mid : PassValue) (taken left : State) → left ≡ taken → p.pass ≡ record mid { knows = released mid.knows left.history } → p.pass.knows.seen ≡ taken.history
seen_then v p mid taken left same after = ap (λ (t : PassValue). t.knows.seen) after ∙ ap (λ (w : State). w.history) same

-- ---- what a call on the world added

pub grown_one : (a : Actor) (x : CodeProgram) (e : Entry) (old new : State) → new ≡ with_entry old e → IsOf a e → All (SentFits (Code (automata_of x))) (sent_in (e ∷ [])) → Grows a x old new
grown_one a x e old new is mine fits = record { more = e ∷ []; is = is; mine = All-cons (IsOf a) e [] mine (All-nil (IsOf a)); fits = fits }

pub grown_none : (a : Actor) (x : CodeProgram) (old new : State) → new ≡ old → Grows a x old new
grown_none a x old new is = record {
  more = [];
  is = is ∙ ap (λ (l : List Entry). record old { history = l }) (sym (append-nil old.history));
  mine = All-nil (IsOf a);
  fits = All-nil (SentFits (Code (automata_of x)));
}

pub grown_either : {A E : Type 0} (r : Result A E) (a : Actor) (x : CodeProgram) (e : Entry) (old new : State) → OnOk r (new ≡ with_entry old e) → OnErr r (new ≡ old) → IsOf a e → All (SentFits (Code (automata_of x))) (sent_in (e ∷ [])) → Grows a x old new
grown_either (Ok u) a x e old new ok err mine fits = grown_one a x e old new ok mine fits
grown_either (Err u) a x e old new ok err mine fits = grown_none a x old new err

-- an entry that sends nothing
pub grown_option : {A E : Type 0} (r : Result (Option A) E) (a : Actor) (x : CodeProgram) (make : A → Entry) (old new : State) → IfOk r (λ o. MatchOption o (new ≡ old) (λ found. new ≡ with_entry old (make found))) → OnErr r (new ≡ old)
    → ((found : A) → IsOf a (make found)) → ((found : A) → All (SentFits (Code (automata_of x))) (sent_in (make found ∷ []))) → Grows a x old new
grown_option (Ok None) a x make old new ok err mine fits = grown_none a x old new ok
grown_option (Ok (Some found)) a x make old new ok err mine fits = grown_one a x (make found) old new ok (mine found) (fits found)
grown_option (Err u) a x make old new ok err mine fits = grown_none a x old new err

-- ---- steps

-- a step of an actor: what it found, what it left, and the pass after it
pub record Step (b : TableId) (x : CodeProgram) (a : Actor) (list : List Entry) (v p : Seat) (mid : PassValue) (taken first changed left : State) : Type 0 where
  pub seat : IsSeat b x a list v
  pub is : mid ≡ record v.pass { knows = holding v.pass.knows taken.history }
  pub follows : Follows v.pass.knows taken
  pub was : first ≡ taken
  pub kept : left ≡ changed
  pub after : p.pass ≡ record mid { knows = released mid.knows left.history }
  pub len : p.length ≡ length left.history

-- the world that was found is one of the code
pub found_of : (b : TableId) (x : CodeProgram) (a : Actor) (list : List Entry) (v : Seat) (taken first : State) → IsSeat b x a list v → Follows v.pass.knows taken → first ≡ taken → IsOfCode x first
found_of b x a list v taken first seat follows was = subst (IsOfCode x) (sym was) (follows.code x seat.code)

pub step_more : (b : TableId) (x : CodeProgram) (a : Actor) (list : List Entry) (v p : Seat) (mid : PassValue) (taken first changed left : State) (e : Entry) → Step b x a list v p mid taken first changed left
    → changed ≡ with_entry first e → IsOf a e → IsSeat b x a (list ++ e ∷ []) p
step_more b x a list v p mid taken first changed left e s more mine =
    stepped b x a list (e ∷ []) v p mid taken left s.seat s.is s.follows (s.kept ∙ more ∙ ap (λ (w : State). with_entry w e) s.was) (All-cons (IsOf a) e [] mine (All-nil (IsOf a))) s.after s.len

pub step_same : (b : TableId) (x : CodeProgram) (a : Actor) (list : List Entry) (v p : Seat) (mid : PassValue) (taken first changed left : State) → Step b x a list v p mid taken first changed left → changed ≡ first → IsSeat b x a list p
step_same b x a list v p mid taken first changed left s none = stepped_none b x a list v p mid taken left s.seat s.is s.follows (s.kept ∙ none ∙ s.was) s.after s.len

pub step_seen : (b : TableId) (x : CodeProgram) (a : Actor) (list : List Entry) (v p : Seat) (mid : PassValue) (taken first changed left : State) → Step b x a list v p mid taken first changed left → changed ≡ first → p.pass.knows.seen ≡ first.history
step_seen b x a list v p mid taken first changed left s none = seen_then v p mid taken left (s.kept ∙ none ∙ s.was) s.after ∙ ap (λ (w : State). w.history) (sym s.was)

pub step_adds : (b : TableId) (x : CodeProgram) (a : Actor) (list : List Entry) (v : Seat) (mid : PassValue) (taken first changed left : State) → IsSeat b x a list v
    → mid ≡ record v.pass { knows = holding v.pass.knows taken.history } → Follows v.pass.knows taken → first ≡ taken → left ≡ changed → Grows a x first changed → Adds mid.knows left
step_adds b x a list v mid taken first changed left seat is follows was kept grows =
    adds_grown b x a list v mid taken left seat is follows (subst (λ (w : State). Grows a x taken w) (sym kept) (subst (λ (w : State). Grows a x w changed) was grows))

pub on_ok : {A E : Type 0} (r : Result A E) (b : TableId) (x : CodeProgram) (a : Actor) (list : List Entry) (v p : Seat) (mid : PassValue) (taken first changed left : State) (e : Entry) → Step b x a list v p mid taken first changed left
    → OnOk r (changed ≡ with_entry first e) → IsOf a e → OnOk r (IsSeat b x a (list ++ e ∷ []) p)
on_ok (Ok u) b x a list v p mid taken first changed left e s ok mine = step_more b x a list v p mid taken first changed left e s ok mine
on_ok (Err u) b x a list v p mid taken first changed left e s ok mine = ok

pub on_err : {A E : Type 0} (r : Result A E) (b : TableId) (x : CodeProgram) (a : Actor) (list : List Entry) (v p : Seat) (mid : PassValue) (taken first changed left : State) → Step b x a list v p mid taken first changed left
    → OnErr r (changed ≡ first) → OnErr r (IsSeat b x a list p)
on_err (Ok u) b x a list v p mid taken first changed left s err = err
on_err (Err u) b x a list v p mid taken first changed left s err = step_same b x a list v p mid taken first changed left s err

pub on_took : {E : Type 0} (r : Result (Option (List Order)) E) (b : TableId) (x : CodeProgram) (q : SchedId) (y : Prog) (l : Limits) (m : Mach) (v p : Seat) (mid : PassValue) (taken first changed left : State) → Step b x (Sched q) (entries_of v) v p mid taken first changed left
    → IsWellFormed (Code (automata_of x)) → IsScheduler x.heads q
    → IfOk r (λ o. o ≡ due y l m (waiting first.heads q first.history)) → IfOk r (λ o. MatchOption o (changed ≡ first) (λ batch. changed ≡ with_entry first (entry.Take q batch)))
    → IfOk r (λ o. IfSome o (Takes b x q y l m v p))
on_took (Ok None) b x q y l m v p mid taken first changed left s well lt is ok = tt
on_took (Ok (Some batch)) b x q y l m v p mid taken first changed left s well lt is ok =
    let orders : List Order = waiting first.heads q first.history in
    let got : (has_turn y l m orders ≡ true) × (batch ≡ orders) = due_some (has_turn y l m orders) orders batch is in
    let found : IsOfCode x first = found_of b x (Sched q) (entries_of v) v taken first s.seat s.follows s.was in
    record {
      more = step_more b x (Sched q) (entries_of v) v p mid taken first changed left (entry.Take q batch) s ok (same-refl (Sched q));
      fits = subst (All (Fits (Code (automata_of x)) q)) (sym (got.1 ∙ ap (λ (h : Heads). waiting h q first.history) found.heads)) (sent_waits_fit (Code (automata_of x)) well first.history found.fits q lt);
      turn = subst (λ (os : List Order). has_turn y l m os ≡ true) (sym got.1) got.0;
    }
on_took (Err u) b x q y l m v p mid taken first changed left s well lt is ok = tt

pub on_idle : {E : Type 0} (r : Result (Option (List Order)) E) (b : TableId) (x : CodeProgram) (q : SchedId) (y : Prog) (l : Limits) (m : Mach) (v p : Seat) (mid : PassValue) (taken first changed left : State) → Step b x (Sched q) (entries_of v) v p mid taken first changed left
    → IfOk r (λ o. o ≡ due y l m (waiting first.heads q first.history)) → IfOk r (λ o. MatchOption o (changed ≡ first) (λ batch. changed ≡ with_entry first (entry.Take q batch)))
    → IfOk r (λ o. IfNone o (Idles b x q y l m v p))
on_idle (Ok None) b x q y l m v p mid taken first changed left s is ok =
    let orders : List Order = waiting first.heads q first.history in
    let found : IsOfCode x first = found_of b x (Sched q) (entries_of v) v taken first s.seat s.follows s.was in
    record {
      kept = step_same b x (Sched q) (entries_of v) v p mid taken first changed left s ok;
      none = ap (λ (h : List Entry). has_turn y l m (waiting x.heads q h)) (step_seen b x (Sched q) (entries_of v) v p mid taken first changed left s ok)
          ∙ ap (λ (h : Heads). has_turn y l m (waiting h q first.history)) (sym found.heads)
          ∙ due_none (has_turn y l m orders) orders is;
    }
on_idle (Ok (Some batch)) b x q y l m v p mid taken first changed left s is ok = tt
on_idle (Err u) b x q y l m v p mid taken first changed left s is ok = tt

pub on_picked : {E : Type 0} (r : Result (Option Thread) E) (b : TableId) (x : CodeProgram) (w : ℕ) (v p : Seat) (mid : PassValue) (taken first changed left : State) → Step b x (Worker w) (entries_of v) v p mid taken first changed left
    → IfOk r (λ o. o ≡ slice_get (jobs first.history) 0) → IfOk r (λ o. MatchOption o (changed ≡ first) (λ job. changed ≡ with_entry first (entry.Pick w job)))
    → IfOk r (λ o. IfSome o (Picks b x w v p))
on_picked (Ok None) b x w v p mid taken first changed left s is ok = tt
on_picked (Ok (Some job)) b x w v p mid taken first changed left s is ok =
    let found : IsOfCode x first = found_of b x (Worker w) (entries_of v) v taken first s.seat s.follows s.was in
    record {
      more = step_more b x (Worker w) (entries_of v) v p mid taken first changed left (entry.Pick w job) s ok (same-refl (Worker w));
      stands = first_holds (ThreadFits (Code (automata_of x)) Unlinked) (jobs first.history) job (sent_jobs_stand (Code (automata_of x)) first.history found.fits) is;
    }
on_picked (Err u) b x w v p mid taken first changed left s is ok = tt

pub on_found : {E : Type 0} (r : Result (Option Thread) E) (b : TableId) (x : CodeProgram) (w : ℕ) (v p : Seat) (mid : PassValue) (taken first changed left : State) → Step b x (Worker w) (entries_of v) v p mid taken first changed left
    → IfOk r (λ o. o ≡ slice_get (jobs first.history) 0) → IfOk r (λ o. MatchOption o (changed ≡ first) (λ job. changed ≡ with_entry first (entry.Pick w job)))
    → IfOk r (λ o. IfNone o (Finds b x w v p))
on_found (Ok None) b x w v p mid taken first changed left s is ok = record {
  kept = step_same b x (Worker w) (entries_of v) v p mid taken first changed left s ok;
  none = ap jobs (step_seen b x (Worker w) (entries_of v) v p mid taken first changed left s ok) ∙ no_first (jobs first.history) is;
}
on_found (Ok (Some job)) b x w v p mid taken first changed left s is ok = tt
on_found (Err u) b x w v p mid taken first changed left s is ok = tt

-- ---- what the actor's own entries tell of the world that was found

pub open_is : (b : TableId) (x : CodeProgram) (q : SchedId) (list : List Entry) (v : Seat) (taken first : State) (t : Bool) → IsSeat b x (Sched q) list v → Follows v.pass.knows taken → first ≡ taken → is_open q list ≡ t → is_open q first.history ≡ t
open_is b x q list v taken first t seat follows was is = ap (λ (w : State). is_open q w.history) was ∙ sym (scheduler_own q taken.history).1 ∙ ap (is_open q) (of_taken b x (Sched q) list v taken seat follows) ∙ is

-- any options: whether a worker has a job in hand is told without them
abbrev any_options : RunOptions
any_options = record { limits = record { instants = 1; budget = 1; block = 1 }; workers = 1 }

pub busy_is : (b : TableId) (x : CodeProgram) (q : ℕ) (list : List Entry) (v : Seat) (taken first : State) (t : Bool) → IsSeat b x (Worker q) list v → Follows v.pass.knows taken → first ≡ taken → is_busy q list ≡ t → is_busy q first.history ≡ t
busy_is b x q list v taken first t seat follows was is =
    ap (λ (w : State). is_busy q w.history) was ∙ sym (worker_own (Code (automata_of x)) any_options q taken.history).1 ∙ ap (is_busy q) (of_taken b x (Worker q) list v taken seat follows) ∙ is
