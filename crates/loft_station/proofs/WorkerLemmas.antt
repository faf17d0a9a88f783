-- A worker's turn, by its own list.
use Rattle.std.proofs.Common.{◌≡◌, inr, ℕ, ◌+◌, arith, true, false, not, List, [], ◌∷◌, ◌++◌, length, refl, sym, ap, ◌∙◌, subst, append-nil, append_assoc, Some}
use Rattle.std.specs.List.{All}
use Rattle.std.proofs.lemmas.Grind.{flat_map-append}
use Rattle.std.proofs.lemmas.List.{length-append}
use Rattle.std.proofs.lemmas.List.Elements.{All-nil, All-head, All-tail}
use Rattle.atomic_table.specs.Seated.{TableId}
use Rattle.loft_code.specs.View.{automata_of}
use Rattle.loft_code.specs.declared.raw.CodeProgram.{CodeProgram}
use Rattle.loft_orders.specs.declared.entry.Actor.TheVariants as actor
use Rattle.loft_orders.specs.declared.entry.Entry.{Entry}
use Rattle.loft_orders.specs.declared.entry.Entry.TheVariants.{Pick, Post}
use Rattle.loft_orders.specs.declared.order.Sent.{Sent}
use Rattle.loft_orders.specs.declared.thread.Thread.{Thread}
use Rattle.loft_sense.specs.Async.{async}
use Rattle.loft_sense.specs.Machine.{Prog, Code}
use Rattle.loft_history.specs.History.{is_busy}
use Rattle.loft_history.specs.Legal.{IsFirst}
use Rattle.loft_history.proofs.GrowthLemmas.{own_grows}
use Rattle.loft_history.proofs.LegalLemmas.{faithful_none}
use Rattle.loft_soundness.specs.Machines.{SentFits}
use Rattle.loft_soundness.specs.WellFormed.{IsWellFormed}
use Rattle.loft_soundness.proofs.InstantLemmas.{unlinked_fits}
use Rattle.loft_conservation.specs.Blocks.{EndsAtLast}
use Rattle.loft_conservation.proofs.BlockLemmas.{block_ends}
use Rattle.loft_turn_parts.proofs.HandLemmas.{left_picked, busy_picked, left_posted, busy_posted}
use Rattle.loft_job.specs.declared.job.Job.{Job}
use Rattle.loft_job.specs.Job.{left_of_job}
use Rattle.loft_seat.specs.declared.seat.Seat.{Seat}
use Rattle.loft_seat.specs.Seats.{entries_of, IsOf, IsSeat, HasSame, HasMore, Picks, IsNewPass}
use Rattle.loft_seat.proofs.SeatLemmas.{entries_is, reseat, new_seat}
use Rattle.loft_station.specs.declared.worker.Worker.{Worker}
use Rattle.loft_station.specs.Workers.{IsFaithfulTo, HasLeft, IsInHand, posts_of, picked_by, picked, IsReady, HasToPost, IsSame, MadeJob, AddedJobAtMost, PostedBut, PostedNext}

-- ---- a worker's own list

picked_faithful : (x : Prog) (block w : ℕ) (list : List Entry) (job : Thread) → All (IsOf (actor.Worker w)) list → IsFaithfulTo x block w list → HasLeft x block w list [] → IsFaithfulTo x block w (list ++ Pick w job ∷ [])
picked_faithful x block w list job mine faithful none o same = (own_grows x o (actor.Worker w) list (Pick w job) mine).1 (faithful o same, none o same)

posted_faithful : (x : Prog) (block w : ℕ) (list : List Entry) (m : Sent) (left : List Sent) → All (IsOf (actor.Worker w)) list → IsFaithfulTo x block w list → HasLeft x block w list (m ∷ left)
    → IsFaithfulTo x block w (list ++ Post w m ∷ [])
posted_faithful x block w list m left mine faithful has o same =
    (own_grows x o (actor.Worker w) list (Post w m) mine).1 (faithful o same, subst (IsFirst m) (sym (has o same)) refl)

picked_left : (x : Prog) (block w : ℕ) (list : List Entry) (job : Thread) → HasLeft x block w (list ++ Pick w job ∷ []) (async x job block)
picked_left x block w list job o same = left_picked x o w list job ∙ ap (async x job) same

posted_left : (x : Prog) (block w : ℕ) (list : List Entry) (m : Sent) (left : List Sent) → HasLeft x block w list (m ∷ left) → HasLeft x block w (list ++ Post w m ∷ []) left
posted_left x block w list m left has o same = left_posted x o w list m left (has o same)

picked_hand : (w : ℕ) (list : List Entry) (job : Thread) (left : List Sent) → EndsAtLast left → IsInHand w (list ++ Pick w job ∷ []) left
picked_hand w list job [] ends = absurd ends
picked_hand w list job (m ∷ left) ends = (busy_picked w list job, ends)

posted_hand : (w : ℕ) (list : List Entry) (m : Sent) (left : List Sent) → IsInHand w list (m ∷ left) → IsInHand w (list ++ Post w m ∷ []) left
posted_hand w list m [] hand = busy_posted w list m ∙ ap not hand.1
posted_hand w list m (n ∷ left) hand = (busy_posted w list m ∙ ap not hand.1.0, hand.1.1)

-- ---- its pass

abbrev pub with_seat : Worker → Seat → Worker
with_seat v p = record { seat = p; number = v.number; block = v.block; refused = v.refused }

-- a worker with these entries, of whose job this is left
by_list : (b : TableId) (x : CodeProgram) (list : List Entry) (left : List Sent) (v : Worker) → IsSeat b x (actor.Worker v.number) list v.seat → IsFaithfulTo (Code (automata_of x)) v.block v.number list
    → HasLeft (Code (automata_of x)) v.block v.number list left → IsInHand v.number list left → All (SentFits (Code (automata_of x))) left → HasToPost b x left v
by_list b x list left v seat faithful has hand fits =
    let same : list ≡ entries_of v.seat = sym (entries_is seat) in
    record {
      kept = record { seat = reseat seat; faithful = subst (IsFaithfulTo (Code (automata_of x)) v.block v.number) same faithful };
      has = subst (λ (l : List Entry). HasLeft (Code (automata_of x)) v.block v.number l left) same has;
      hand = subst (λ (l : List Entry). IsInHand v.number l left) same hand;
      fits = fits;
    }

pub left_still : (b : TableId) (x : CodeProgram) (left : List Sent) (v : Worker) (p : Seat) → HasToPost b x left v → HasSame b x (actor.Worker v.number) v.seat p → HasToPost b x left (with_seat v p)
left_still b x left v p h same = by_list b x (entries_of v.seat) left (with_seat v p) same h.kept.faithful h.has h.hand h.fits

pub left_as : (b : TableId) (x : CodeProgram) (left rest : List Sent) (v : Worker) → left ≡ rest → HasToPost b x left v → HasToPost b x rest v
left_as b x left rest v is h = subst (λ (l : List Sent). HasToPost b x l v) is h

-- ---- a job begins

pub job_picked : (b : TableId) (x : CodeProgram) (v : Worker) (p : Seat) (job : Thread) → IsWellFormed (Code (automata_of x)) → IsReady b x v → Picks b x v.number v.seat p job
    → HasToPost b x (async (Code (automata_of x)) job v.block) (with_seat v p)
job_picked b x v p job well ready picks =
    let y : Prog = Code (automata_of x) in
    let list : List Entry = entries_of v.seat in
    by_list b x (list ++ Pick v.number job ∷ []) (async y job v.block) (with_seat v p) picks.more
    (picked_faithful y v.block v.number list job ready.kept.seat.mine ready.kept.faithful ready.has)
    (picked_left y v.block v.number list job)
    (picked_hand v.number list job (async y job v.block) (block_ends y well job v.block picks.stands))
    (unlinked_fits y well job v.block picks.stands).0

-- ---- the posts of a job

pub busy_with : (b : TableId) (x : CodeProgram) (left : List Sent) (m : Sent) (rest : List Sent) (v : Worker) → HasToPost b x left v → left ≡ m ∷ rest → is_busy v.number (entries_of v.seat) ≡ true
busy_with b x left m rest v h is = (left_as b x left (m ∷ rest) v is h).hand.0

pub first_fits : (b : TableId) (x : CodeProgram) (left : List Sent) (m : Sent) (rest : List Sent) (v : Worker) → HasToPost b x left v → left ≡ m ∷ rest → SentFits (Code (automata_of x)) m
first_fits b x left m rest v h is = All-head (SentFits (Code (automata_of x))) m rest (left_as b x left (m ∷ rest) v is h).fits

pub one_posted : (b : TableId) (x : CodeProgram) (left : List Sent) (m : Sent) (rest : List Sent) (v : Worker) (p : Seat) → HasToPost b x left v → left ≡ m ∷ rest
    → HasMore b x (actor.Worker v.number) (Post v.number m) v.seat p → HasToPost b x rest (with_seat v p)
one_posted b x left m rest v p has is more =
    let y : Prog = Code (automata_of x) in
    let list : List Entry = entries_of v.seat in
    let h : HasToPost b x (m ∷ rest) v = left_as b x left (m ∷ rest) v is has in
    by_list b x (list ++ Post v.number m ∷ []) rest (with_seat v p) more
    (posted_faithful y v.block v.number list m rest h.kept.seat.mine h.kept.faithful h.has)
    (posted_left y v.block v.number list m rest h.has)
    (posted_hand v.number list m rest h.hand)
    (All-tail (SentFits y) m rest h.fits)

pub next_posted : (b : TableId) (x : CodeProgram) (job after : Job) (m : Sent) (v : Worker) (p : Seat) → HasToPost b x (left_of_job (automata_of x) job) v
    → left_of_job (automata_of x) job ≡ m ∷ left_of_job (automata_of x) after → HasMore b x (actor.Worker v.number) (Post v.number m) v.seat p → PostedNext b x v job (with_seat v p) after true
next_posted b x job after m v p h is more =
    let rest : List Sent = left_of_job (automata_of x) after in
    let list : List Entry = entries_of v.seat in
    let longer : length (left_of_job (automata_of x) job) ≡ length (m ∷ rest) = ap length is in (
      one_posted b x (left_of_job (automata_of x) job) m rest v p h is more,
      omega (arith, longer),
      ap (λ (l : List Entry). l ++ posts_of v.number rest) (entries_is more)
          ∙ append_assoc list (Post v.number m ∷ []) (posts_of v.number rest)
          ∙ ap (λ (l : List Sent). list ++ posts_of v.number l) (sym is),
    )

pub none_posted : (b : TableId) (x : CodeProgram) (job after : Job) (v : Worker) → HasToPost b x (left_of_job (automata_of x) job) v → left_of_job (automata_of x) job ≡ [] → PostedNext b x v job v after false
none_posted b x job after v h is =
    (left_as b x (left_of_job (automata_of x) job) [] v is h, ap (λ (l : List Sent). entries_of v.seat ++ posts_of v.number l) (sym is))

-- more of a job was posted
pub posted_on : (left mid rest : List Sent) (u v w : Worker) → IsSame u v → IsSame v w → PostedBut left mid u v → PostedBut mid rest v w → PostedBut left rest u w
posted_on left mid rest u v w first last one more =
    more ∙ ap (λ (n : ℕ). entries_of v.seat ++ posts_of n mid) last.number ∙ one ∙ ap (λ (n : ℕ). entries_of u.seat ++ posts_of n left) (sym last.number)

-- no more of it was
pub posted_till : (left mid : List Sent) (u v w : Worker) → IsSame v w → PostedBut left mid u v → entries_of w.seat ≡ entries_of v.seat → PostedBut left mid u w
posted_till left mid u v w last one same =
    ap (λ (l : List Entry). l ++ posts_of w.number mid) same ∙ ap (λ (n : ℕ). entries_of v.seat ++ posts_of n mid) last.number ∙ one ∙ ap (λ (n : ℕ). entries_of u.seat ++ posts_of n left) (sym last.number)

-- ---- a whole job

picked_none : (w : ℕ) (sents : List Sent) → picked (posts_of w sents) ≡ []
picked_none w [] = refl
picked_none w (m ∷ sents) = picked_none w sents

pub job_made : (b : TableId) (x : CodeProgram) (v w : Worker) (p : Seat) (job : Thread) → Picks b x v.number v.seat p job → IsSame v w
    → PostedBut (async (Code (automata_of x)) job v.block) [] (with_seat v p) w → MadeJob x v w
job_made b x v w p job picks same posted =
    let list : List Entry = entries_of v.seat in
    let n : ℕ = w.number in
    let sents : List Sent = async (Code (automata_of x)) job w.block in
    let is : entries_of w.seat ≡ list ++ Pick n job ∷ posts_of n sents =
    sym (append-nil (entries_of w.seat)) ∙ posted
    ∙ ap (λ (l : List Entry). l ++ posts_of n (async (Code (automata_of x)) job v.block)) (entries_is picks.more)
    ∙ append_assoc list (Pick v.number job ∷ []) (posts_of n (async (Code (automata_of x)) job v.block))
    ∙ ap (λ (k : ℕ). list ++ Pick v.number job ∷ posts_of n (async (Code (automata_of x)) job k)) (sym same.block)
    ∙ ap (λ (k : ℕ). list ++ Pick k job ∷ posts_of n sents) (sym same.number) in
    record {
      job = job;
      entries = is;
      one = ap (λ (l : List Entry). length (picked l)) is ∙ ap length (flat_map-append picked_by list (Pick n job ∷ posts_of n sents))
          ∙ length-append (picked list) (picked (Pick n job ∷ posts_of n sents)) ∙ ap (λ (l : List Thread). length (picked list) + length (job ∷ l)) (picked_none n sents);
    }

pub job_at_most : (b : TableId) (x : CodeProgram) (v w : Worker) (p : Seat) (job : Thread) (rest : List Sent) → Picks b x v.number v.seat p job → IsSame v w
    → PostedBut (async (Code (automata_of x)) job v.block) rest (with_seat v p) w → AddedJobAtMost x v w
job_at_most b x v w p job rest picks same posted =
    let list : List Entry = entries_of v.seat in
    let n : ℕ = w.number in
    let sents : List Sent = async (Code (automata_of x)) job w.block in
    inr (
      job,
      rest,
      posted
          ∙ ap (λ (l : List Entry). l ++ posts_of n (async (Code (automata_of x)) job v.block)) (entries_is picks.more)
          ∙ append_assoc list (Pick v.number job ∷ []) (posts_of n (async (Code (automata_of x)) job v.block))
          ∙ ap (λ (k : ℕ). list ++ Pick v.number job ∷ posts_of n (async (Code (automata_of x)) job k)) (sym same.block)
          ∙ ap (λ (k : ℕ). list ++ Pick k job ∷ posts_of n sents) (sym same.number),
    )

-- ---- before the first turn

pub ready_new : (x : CodeProgram) (v : Worker) → IsNewPass (actor.Worker v.number) v.seat.pass → v.seat.pass.knows.code ≡ Some x → IsReady v.seat.pass.baton x v
ready_new x v new code =
    let y : Prog = Code (automata_of x) in
    by_list v.seat.pass.baton x [] [] v (new_seat x (actor.Worker v.number) v.seat new code) (λ o same. faithful_none y o (actor.Worker v.number)) (λ o same. refl) refl (All-nil (SentFits y))
