-- A scheduler's turn, by its own list.
use Rattle.std.proofs.Common.{◌≡◌, inr, ◌+◌, Bool, true, false, not, ◌&&◌, List, [], ◌∷◌, ◌++◌, length, refl, sym, ap, ◌∙◌, subst, append_assoc, Some, Result, Ok, Err, OnOk, OnErr, Option, None, IfOk, IfSome, IfNone}
use Rattle.std.specs.Prelude.{if◌then◌else◌}
use Rattle.std.specs.Result.{is_err}
use Rattle.std.specs.List.{All}
use Rattle.std.proofs.lemmas.List.{length-append}
use Rattle.std.proofs.lemmas.List.Elements.{All-nil, All-cons, All-head, All-tail, All-append}
use Rattle.atomic_table.specs.Seated.{TableId}
use Rattle.loft_base.specs.declared.ids.SchedId.{SchedId}
use Rattle.loft_base.specs.declared.options.Limits.{Limits}
use Rattle.loft_tree.specs.NamedFits.{IsScheduler}
use Rattle.loft_code.specs.View.{automata_of}
use Rattle.loft_code.specs.declared.raw.CodeProgram.{CodeProgram}
use Rattle.loft_orders.specs.declared.entry.Actor.{Actor}
use Rattle.loft_orders.specs.declared.entry.Actor.TheVariants.{Sched}
use Rattle.loft_orders.specs.declared.entry.Entry.{Entry}
use Rattle.loft_orders.specs.declared.entry.Entry.TheVariants.{Take, Give}
use Rattle.loft_orders.specs.declared.note.InstantNote.{InstantNote}
use Rattle.loft_orders.specs.declared.order.Order.{Order}
use Rattle.loft_orders.specs.declared.order.Sent.{Sent}
use Rattle.loft_sense.specs.Fits.{Fits}
use Rattle.loft_sense.specs.Machine.{Prog, Code, Mach, empty}
use Rattle.loft_sense.specs.Rest.{is_spent, is_resting}
use Rattle.loft_history.specs.History.{log, is_open, waiting, has_turn, sent_last, replayed, is_empty}
use Rattle.loft_history.proofs.GrowthLemmas.{own_grows}
use Rattle.loft_history.proofs.HistoryLemmas.{same_self, log-append}
use Rattle.loft_history.proofs.LegalLemmas.{faithful_none}
use Rattle.loft_soundness.specs.Machines.{SentFits}
use Rattle.loft_soundness.specs.WellFormed.{IsWellFormed}
use Rattle.loft_soundness.proofs.HistoryFits.{replayed_notes}
use Rattle.loft_turn_parts.specs.Turns.{IsReplay}
use Rattle.loft_turn_parts.proofs.TurnLemmas.{opened, shut, log_given, replay_given}
use Rattle.loft_baton.specs.declared.knows.Own.{Own}
use Rattle.loft_baton.specs.Count.{sole}
use Rattle.loft_baton.specs.Knowing.{own_of}
use Rattle.loft_seat.specs.declared.seat.Seat.{Seat}
use Rattle.loft_seat.specs.Seats.{entries_of, IsOf, IsSeat, HasSame, HasMore, Takes, Idles, IsNewPass}
use Rattle.loft_seat.proofs.SeatLemmas.{entries_is, reseat, new_seat}
use Rattle.loft_seat.proofs.StepLemmas.{same_code}
use Rattle.loft_station.specs.Stations.{StationView, RunsCode, IsFaithfulTo, IsAtRest, IsKept, IsReady, HasTaken, IsSame, MadeTurn, Turned, AddedTakeAtMost, HasMade, WentOn}

-- ---- a scheduler's own list

log_taken : (s : SchedId) (list : List Entry) (batch : List Order) → log s (list ++ Take s batch ∷ []) ≡ log s list ++ batch ∷ []
log_taken s list batch = log-append s list (Take s batch ∷ []) ∙ ap (λ (own : Bool). log s list ++ (if own then batch ∷ [] else [])) (same_self s)

taken_faithful : (x : Prog) (l : Limits) (s : SchedId) (list : List Entry) (m : Mach) (notes : List InstantNote) (batch : List Order) → All (IsOf (Sched s)) list → IsFaithfulTo x l s list
    → IsAtRest x l s list m notes → has_turn x l m batch ≡ true → IsFaithfulTo x l s (list ++ Take s batch ∷ [])
taken_faithful x l s list m notes batch mine faithful rests turn o same =
    (own_grows x o (Sched s) list (Take s batch) mine).1 (
      faithful o same,
      (rests.closed, subst (λ (k : Limits). has_turn x k (replayed x k s list).machine batch ≡ true) (sym same) (ap (λ (k : Mach). has_turn x l k batch) (sym rests.replay.machine) ∙ turn)),
    )

given_faithful : (x : Prog) (l : Limits) (s : SchedId) (list : List Entry) (m : Mach) (notes : List InstantNote) → All (IsOf (Sched s)) list → IsFaithfulTo x l s list
    → is_open s list ≡ true → IsReplay x l s list m notes → IsFaithfulTo x l s (list ++ Give s (sent_last notes) ∷ [])
given_faithful x l s list m notes mine faithful running replay o same =
    (own_grows x o (Sched s) list (Give s (sent_last notes)) mine).1 (
      faithful o same,
      (running, subst (λ (k : Limits). sent_last notes ≡ sent_last (replayed x k s list).notes) (sym same) (ap sent_last replay.notes)),
    )

-- ---- its pass

pub mine_of : {b : TableId} {x : CodeProgram} {v : StationView} → IsKept b x v → All (IsOf (Sched v.scheduler)) (entries_of v.seat)
mine_of kept = kept.seat.mine

-- a pass with these entries, which it has to make
pub kept_by : (b : TableId) (x : CodeProgram) (list : List Entry) (v : StationView) → IsScheduler x.heads v.scheduler → IsSeat b x (Sched v.scheduler) list v.seat
    → IsFaithfulTo (Code (automata_of x)) v.limits v.scheduler list → IsKept b x v
kept_by b x list v declared seat faithful = record {
  declared = declared;
  seat = reseat seat;
  faithful = subst (IsFaithfulTo (Code (automata_of x)) v.limits v.scheduler) (sym (entries_is seat)) faithful;
}

-- the pass is for the code still
pub runs_code : (b : TableId) (x : CodeProgram) (a : Actor) (list : List Entry) (p : Seat) (y : Prog) → IsSeat b x a list p → y ≡ Code (automata_of x) → RunsCode y p
runs_code b x a list p y seat program z known = program ∙ ap (λ (k : CodeProgram). Code (automata_of k)) (same_code x z p.pass.knows.code seat.code known)

-- ---- a turn begins

abbrev pub with_seat : StationView → Seat → StationView
with_seat v p = record { seat = p; scheduler = v.scheduler; limits = v.limits; machine = v.machine; failed = v.failed; notes = v.notes; refused = v.refused }

has_turn_as : (x y : Prog) (l : Limits) (m : Mach) (orders : List Order) (t : Bool) → y ≡ x → has_turn y l m orders ≡ t → has_turn x l m orders ≡ t
has_turn_as x y l m orders t same is = subst (λ (z : Prog). has_turn z l m orders ≡ t) same is

pub taken : (b : TableId) (x : CodeProgram) (v : StationView) (y : Prog) (p : Seat) (batch : List Order) → y ≡ Code (automata_of x) → IsReady b x v → Takes b x v.scheduler y v.limits v.machine v.seat p batch
    → HasTaken b x (entries_of v.seat) (with_seat v p) batch
taken b x v y p batch program ready takes =
    let turn : has_turn (Code (automata_of x)) v.limits v.machine batch ≡ true = has_turn_as (Code (automata_of x)) y v.limits v.machine batch true program takes.turn in
    record {
      kept = kept_by b x (entries_of v.seat ++ Take v.scheduler batch ∷ []) (with_seat v p) ready.kept.declared takes.more
          (taken_faithful (Code (automata_of x)) v.limits v.scheduler (entries_of v.seat) v.machine v.notes batch ready.kept.seat.mine ready.kept.faithful ready.rests turn);
      works = ready.works;
      entries = entries_is takes.more;
      rested = ready.rests;
      turn = turn;
      fits = takes.fits;
    }

-- it has the entries that it had
pub kept_still : (b : TableId) (x : CodeProgram) (v : StationView) (p : Seat) → IsKept b x v → HasSame b x (Sched v.scheduler) v.seat p → IsKept b x (with_seat v p)
kept_still b x v p kept same = kept_by b x (entries_of v.seat) (with_seat v p) kept.declared same kept.faithful

pub ready_still : (b : TableId) (x : CodeProgram) (v : StationView) (p : Seat) → IsReady b x v → HasSame b x (Sched v.scheduler) v.seat p → IsReady b x (with_seat v p)
ready_still b x v p ready same = record {
  kept = kept_still b x v p ready.kept same;
  works = ready.works;
  rests = subst (λ (l : List Entry). IsAtRest (Code (automata_of x)) v.limits v.scheduler l v.machine v.notes) (sym (entries_is same)) ready.rests;
}

pub on_took : {E : Type 0} (r : Result (Option (List Order)) E) (b : TableId) (x : CodeProgram) (v : StationView) (y : Prog) (p : Seat) → y ≡ Code (automata_of x) → IsReady b x v
    → IfOk r (λ o. IfSome o (Takes b x v.scheduler y v.limits v.machine v.seat p)) → IfOk r (λ o. IfSome o (HasTaken b x (entries_of v.seat) (with_seat v p)))
on_took (Ok None) b x v y p program ready took = tt
on_took (Ok (Some batch)) b x v y p program ready took = taken b x v y p batch program ready took
on_took (Err u) b x v y p program ready took = tt

pub on_none : {E : Type 0} (r : Result (Option (List Order)) E) (b : TableId) (x : CodeProgram) (v : StationView) (y : Prog) (p : Seat) → y ≡ Code (automata_of x) → IsReady b x v
    → IfOk r (λ o. IfNone o (Idles b x v.scheduler y v.limits v.machine v.seat p)) → IfOk r (λ o. IfNone o (IsReady b x (with_seat v p) × Turned x v (with_seat v p) false))
on_none (Ok None) b x v y p program ready none = (
  ready_still b x v p ready none.kept,
  (has_turn_as (Code (automata_of x)) y v.limits v.machine (waiting x.heads v.scheduler p.pass.knows.seen) false program none.none, entries_is none.kept),
)
on_none (Ok (Some batch)) b x v y p program ready none = tt
on_none (Err u) b x v y p program ready none = tt

pub on_refused : {A E : Type 0} (r : Result A E) (b : TableId) (x : CodeProgram) (v : StationView) (p : Seat) → IsReady b x v
    → OnErr r (HasSame b x (Sched v.scheduler) v.seat p) → OnErr r (IsKept b x (with_seat v p) × (entries_of p ≡ entries_of v.seat))
on_refused (Ok a) b x v p ready err = tt
on_refused (Err u) b x v p ready err = (kept_still b x v p ready.kept err, entries_is err)

-- ---- a turn ends

-- a scheduler with a turn to make hasn't used up its bounds
not_spent : (spent rests : Bool) → (not spent && not rests) ≡ true → spent ≡ false
not_spent true rests is = cc
not_spent false rests is = refl

pub unspent : (b : TableId) (x : CodeProgram) (before : List Entry) (v : StationView) (batch : List Order) (y : Prog) → y ≡ Code (automata_of x) → HasTaken b x before v batch → is_spent y v.limits v.machine ≡ false
unspent b x before v batch y program t =
    subst (λ (z : Prog). is_spent z v.limits v.machine ≡ false) (sym program)
    (not_spent (is_spent (Code (automata_of x)) v.limits v.machine) (is_resting v.machine && is_empty batch) t.turn)

-- an engine's replay goes on, in the words of the station
pub replay_on : (x y z : Prog) (l k : Limits) (s q r : SchedId) (list : List Entry) (batch : List Order) (m n : Mach) (notes more : List InstantNote) → y ≡ x → z ≡ y → k ≡ l → q ≡ s → r ≡ q
    → ((es : List Entry) → IsReplay y l q es m notes → IsReplay z k r (es ++ Take r batch ∷ []) n more) → IsReplay x l s list m notes → IsReplay x k s (list ++ Take s batch ∷ []) n more
replay_on x y z l k s q r list batch m n notes more program same bounds scheduler own on was =
    let first : IsReplay y l q list m notes = subst (λ (u : SchedId). IsReplay y l u list m notes) (sym scheduler) (subst (λ (u : Prog). IsReplay u l s list m notes) (sym program) was) in
    subst (λ (u : Prog). IsReplay u k s (list ++ Take s batch ∷ []) n more) (same ∙ program)
    (subst (λ (u : SchedId). IsReplay z k u (list ++ Take u batch ∷ []) n more) (own ∙ scheduler) (on list first))

-- after the instant, and before the Give
pub record HasInstant (b : TableId) (x : CodeProgram) (v : StationView) : Type 0 where
  pub kept : IsKept b x v
  pub works : v.failed ≡ false
  pub running : is_open v.scheduler (entries_of v.seat) ≡ true
  pub replay : IsReplay (Code (automata_of x)) v.limits v.scheduler (entries_of v.seat) v.machine v.notes
  pub fits : All (All (Fits (Code (automata_of x)) v.scheduler)) (log v.scheduler (entries_of v.seat))

-- the same scheduler with its engine gone on
pub record Goes (v w : StationView) : Type 0 where
  pub same : IsSame v w
  pub seat : w.seat ≡ v.seat

pub kept_goes : (b : TableId) (x : CodeProgram) (v w : StationView) → Goes v w → IsKept b x v → IsKept b x w
kept_goes b x v w goes kept =
    let at : SchedId → Limits → Seat → Type 0 = λ s l p. IsSeat b x (Sched s) (entries_of p) p × IsFaithfulTo (Code (automata_of x)) l s (entries_of p) in
    let all : at w.scheduler w.limits w.seat =
    subst (λ (p : Seat). at w.scheduler w.limits p) (sym goes.seat)
    (subst (λ (l : Limits). at w.scheduler l v.seat) (sym goes.same.limits)
    (subst (λ (s : SchedId). at s v.limits v.seat) (sym goes.same.scheduler) (kept.seat, kept.faithful))) in
    record {
      declared = subst (IsScheduler x.heads) (sym goes.same.scheduler) kept.declared;
      seat = all.0;
      faithful = all.1;
    }

pub instant_made : (b : TableId) (x : CodeProgram) (before : List Entry) (v w : StationView) (batch : List Order) → HasTaken b x before v batch → Goes v w → w.failed ≡ false
    → IsReplay (Code (automata_of x)) w.limits v.scheduler (before ++ Take v.scheduler batch ∷ []) w.machine w.notes → HasInstant b x w
instant_made b x before v w batch t goes works replay =
    let list : entries_of w.seat ≡ before ++ Take v.scheduler batch ∷ [] = ap entries_of goes.seat ∙ t.entries in
    let s : SchedId = v.scheduler in
    let P : SchedId → List Entry → Type 0 =
    λ q l. (is_open q l ≡ true) × (IsReplay (Code (automata_of x)) w.limits q l w.machine w.notes × All (All (Fits (Code (automata_of x)) q)) (log q l)) in
    let fits : All (All (Fits (Code (automata_of x)) s)) (log s (before ++ Take s batch ∷ [])) =
    subst (All (All (Fits (Code (automata_of x)) s))) (sym (log_taken s before batch))
    (All-append (All (Fits (Code (automata_of x)) s)) (log s before) (batch ∷ []) t.rested.fits
    (All-cons (All (Fits (Code (automata_of x)) s)) batch [] t.fits (All-nil (All (Fits (Code (automata_of x)) s))))) in
    let all : P w.scheduler (entries_of w.seat) =
    subst (λ (q : SchedId). P q (entries_of w.seat)) (sym goes.same.scheduler)
    (subst (P s) (sym list) (opened s before batch, (replay, fits))) in
    record { kept = kept_goes b x v w goes t.kept; works = works; running = all.0; replay = all.1.0; fits = all.1.1 }

-- ---- what the last instant sent fits

last_fits : (P : Sent → Type 0) (notes : List InstantNote) → All (λ (n : InstantNote). All P n.sent) notes → All P (sent_last notes)
last_fits P [] all = All-nil P
last_fits P (n ∷ []) all = All-head (λ (k : InstantNote). All P k.sent) n [] all
last_fits P (n ∷ m ∷ notes) all = last_fits P (m ∷ notes) (All-tail (λ (k : InstantNote). All P k.sent) n (m ∷ notes) all)

pub sent_fits : (b : TableId) (x : CodeProgram) (v : StationView) → IsWellFormed (Code (automata_of x)) → HasInstant b x v → All (SentFits (Code (automata_of x))) (sent_last v.notes)
sent_fits b x v well i =
    last_fits (SentFits (Code (automata_of x))) v.notes
    (subst (All (λ (n : InstantNote). All (SentFits (Code (automata_of x))) n.sent)) (sym i.replay.notes)
    (replayed_notes (Code (automata_of x)) well v.limits v.scheduler i.kept.declared (log v.scheduler (entries_of v.seat)) i.fits))

-- ---- the Give

pub ready_given : (b : TableId) (x : CodeProgram) (v : StationView) (p : Seat) → HasInstant b x v → HasMore b x (Sched v.scheduler) (Give v.scheduler (sent_last v.notes)) v.seat p → IsReady b x (with_seat v p)
ready_given b x v p i more =
    let s : SchedId = v.scheduler in
    let list : List Entry = entries_of v.seat in
    let next : List Entry = list ++ Give s (sent_last v.notes) ∷ [] in
    let rests : IsAtRest (Code (automata_of x)) v.limits s next v.machine v.notes = record {
      closed = shut s list (sent_last v.notes);
      replay = replay_given (Code (automata_of x)) v.limits s list (sent_last v.notes) v.machine v.notes i.replay;
      fits = subst (All (All (Fits (Code (automata_of x)) s))) (sym (log_given s list (sent_last v.notes))) i.fits;
    } in
    record {
      kept = kept_by b x next (with_seat v p) i.kept.declared more
          (given_faithful (Code (automata_of x)) v.limits s list v.machine v.notes i.kept.seat.mine i.kept.faithful i.running i.replay);
      works = i.works;
      rests = subst (λ (l : List Entry). IsAtRest (Code (automata_of x)) v.limits s l v.machine v.notes) (sym (entries_is more)) rests;
    }

pub on_gave : {A E : Type 0} (r : Result A E) (b : TableId) (x : CodeProgram) (v : StationView) (p : Seat) → HasInstant b x v
    → OnOk r (HasMore b x (Sched v.scheduler) (Give v.scheduler (sent_last v.notes)) v.seat p) → OnOk r (IsReady b x (with_seat v p))
on_gave (Ok a) b x v p i ok = ready_given b x v p i ok
on_gave (Err u) b x v p i ok = tt

pub on_entries : {A E : Type 0} (r : Result A E) (b : TableId) (x : CodeProgram) (v : StationView) (p : Seat)
    → OnOk r (HasMore b x (Sched v.scheduler) (Give v.scheduler (sent_last v.notes)) v.seat p) → OnOk r (entries_of p ≡ entries_of v.seat ++ Give v.scheduler (sent_last v.notes) ∷ [])
on_entries (Ok a) b x v p ok = entries_is ok
on_entries (Err u) b x v p ok = tt

pub on_stayed : {A E : Type 0} (r : Result A E) (b : TableId) (x : CodeProgram) (v : StationView) (p : Seat) → OnErr r (HasSame b x (Sched v.scheduler) v.seat p) → OnErr r (entries_of p ≡ entries_of v.seat)
on_stayed (Ok a) b x v p err = tt
on_stayed (Err u) b x v p err = entries_is err

-- whatever a Give answers
pub kept_gave : {A E : Type 0} (r : Result A E) (b : TableId) (x : CodeProgram) (v : StationView) (p : Seat) → HasInstant b x v
    → OnOk r (HasMore b x (Sched v.scheduler) (Give v.scheduler (sent_last v.notes)) v.seat p) → OnErr r (HasSame b x (Sched v.scheduler) v.seat p) → IsKept b x (with_seat v p)
kept_gave (Ok a) b x v p i ok err = (ready_given b x v p i ok).kept
kept_gave (Err u) b x v p i ok err = kept_still b x v p i.kept err

-- ---- a whole turn

pub turn_made : (b : TableId) (x : CodeProgram) (v m w : StationView) (batch : List Order) → HasTaken b x (entries_of v.seat) m batch → IsSame v m → IsSame m w
    → entries_of w.seat ≡ entries_of m.seat ++ Give w.scheduler (sent_last w.notes) ∷ [] → MadeTurn v w
turn_made b x v m w batch t first last more =
    let s : SchedId = w.scheduler in
    let list : List Entry = entries_of v.seat in
    let sent : List Sent = sent_last w.notes in
    let took : entries_of m.seat ≡ list ++ Take s batch ∷ [] = t.entries ∙ ap (λ (q : SchedId). list ++ Take q batch ∷ []) (sym last.scheduler) in
    let two : entries_of w.seat ≡ (list ++ Take s batch ∷ []) ++ Give s sent ∷ [] = more ∙ ap (λ (l : List Entry). l ++ Give s sent ∷ []) took in
    record {
      batch = batch;
      entries = two ∙ append_assoc list (Take s batch ∷ []) (Give s sent ∷ []);
      one = ap (λ (l : List Entry). length (log s l)) two ∙ ap length (log_given s (list ++ Take s batch ∷ []) sent) ∙ ap length (log_taken s list batch) ∙ length-append (log s list) (batch ∷ [])
          ∙ ap (λ (q : SchedId). length (log q list) + 1) (last.scheduler ∙ first.scheduler);
    }

pub took_at_most : (b : TableId) (x : CodeProgram) (v m w : StationView) (batch : List Order) → HasTaken b x (entries_of v.seat) m batch → IsSame m w → entries_of w.seat ≡ entries_of m.seat → AddedTakeAtMost v w
took_at_most b x v m w batch t last same =
    inr (batch, same ∙ t.entries ∙ ap (λ (q : SchedId). entries_of v.seat ++ Take q batch ∷ []) (sym last.scheduler))

-- ---- a share of a phase

abbrev pub with_refused : StationView → Bool → StationView
with_refused v t = record { seat = v.seat; scheduler = v.scheduler; limits = v.limits; machine = v.machine; failed = v.failed; notes = v.notes; refused = t }

kept_flag : (b : TableId) (x : CodeProgram) (v : StationView) (t : Bool) → IsKept b x v → IsKept b x (with_refused v t)
kept_flag b x v t k = record { declared = k.declared; seat = k.seat; faithful = k.faithful }

pub went_on : {A E : Type 0} (r : Result A E) (b : TableId) (x : CodeProgram) (v m : StationView) (t : Bool) → t ≡ is_err r → IsKept b x m → IsSame v m → OnOk r (IsReady b x m) → OnOk r (HasMade 32 x v m)
    → WentOn b x v (with_refused m t)
went_on (Ok a) b x v m t flag kept same ready made = record {
  kept = kept_flag b x m t kept;
  same = record { scheduler = same.scheduler; limits = same.limits };
  ready = λ was. record { kept = kept_flag b x m t ready.kept; works = ready.works; rests = ready.rests };
  made = λ was. made;
}
went_on (Err u) b x v m t flag kept same ready made = record {
  kept = kept_flag b x m t kept;
  same = record { scheduler = same.scheduler; limits = same.limits };
  ready = λ was. absurd cc;
  made = λ was. absurd cc;
}

-- ---- before the first turn

-- the pass's actor is the scheduler
pub the_scheduler : (own : List Own) (s q : SchedId) (a : Option Actor) → own ≡ own_of (Sched q) [] ∷ [] → a ≡ sole own → a ≡ Some (Sched s) → q ≡ s
the_scheduler own s q a is found here = let one : Some (Sched q) ≡ Some (Sched s) = sym (ap sole is) ∙ sym found ∙ here in cc

pub ready_new : (x : CodeProgram) (v : StationView) (y : Prog) → IsNewPass (Sched v.scheduler) v.seat.pass → v.seat.pass.knows.code ≡ Some x → y ≡ Code (automata_of x) → IsScheduler x.heads v.scheduler
    → v.machine ≡ empty y v.scheduler → v.failed ≡ false → v.notes ≡ [] → IsReady v.seat.pass.baton x v
ready_new x v y new code program declared fresh works none =
    let b : TableId = v.seat.pass.baton in
    let seat : IsSeat b x (Sched v.scheduler) [] v.seat = new_seat x (Sched v.scheduler) v.seat new code in
    let rests : IsAtRest (Code (automata_of x)) v.limits v.scheduler [] v.machine v.notes = record {
      closed = refl;
      replay = record { machine = fresh ∙ ap (λ (z : Prog). empty z v.scheduler) program; notes = none };
      fits = All-nil (All (Fits (Code (automata_of x)) v.scheduler));
    } in
    record {
      kept = kept_by b x [] v declared seat (λ o same. faithful_none (Code (automata_of x)) o (Sched v.scheduler));
      works = works;
      rests = subst (λ (l : List Entry). IsAtRest (Code (automata_of x)) v.limits v.scheduler l v.machine v.notes) (sym (entries_is seat)) rests;
    }
