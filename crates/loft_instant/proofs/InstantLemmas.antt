-- An instant, from the batch and the passes that it consists of.
use Rattle.std.proofs.Common.{◌≡◌, ◌+◌, List, ◌++◌, map, ap, ◌∙◌, append_assoc, Result, Ok, Err, IfOk}
use Rattle.std.specs.Prelude.{filter}
use Rattle.loft_tree.specs.declared.heads.Place.TheVariants.{Sched}
use Rattle.loft_base.specs.declared.options.Limits.{Limits}
use Rattle.loft_orders.specs.declared.note.Change.{Change}
use Rattle.loft_orders.specs.declared.note.InstantNote.{InstantNote}
use Rattle.loft_orders.specs.declared.note.Standing.{Standing}
use Rattle.loft_orders.specs.declared.order.Order.{Order}
use Rattle.loft_orders.specs.declared.order.Sent.{Sent}
use Rattle.loft_orders.specs.declared.thread.Thread.{Thread}
use Rattle.loft_sense.specs.Heads.{shared_of}
use Rattle.loft_sense.specs.declared.tally.Tally.{Tally}
use Rattle.loft_sense.specs.Machine.{Prog, heads, Mach}
use Rattle.loft_sense.specs.Tally.{tally_after}
use Rattle.loft_sense.specs.Apply.{Applied, apply}
use Rattle.loft_sense.specs.Passes.{Walk}
use Rattle.loft_sense.specs.Instant.{machine_closed, machine_after, note_of, instant, closed, closed_thread, stays, has_run, sent_by, leavers, changes}
use Rattle.loft_instant.specs.States.{walk_from}

-- where one follows from another for each answer
pub if_ok : {A E : Type 0} {P Q : A → Type 0} (r : Result A E) → IfOk r P → ((a : A) → P a → Q a) → IfOk r Q
if_ok (Ok a) p follows = follows a p
if_ok (Err e) p follows = tt

module _ (x : Prog) (limits : Limits) (m : Mach) (batch : List Order) (a : Applied) (a_is : a ≡ apply x m batch) where
  -- the machine that the close leaves, with what is used told by the note
  pub machine_is : (closed_so : Mach) (note : InstantNote) (tally : Tally) → closed_so ≡ machine_closed m (walk_from x limits.budget m a) → note ≡ note_of x m a (walk_from x limits.budget m a)
      → tally ≡ tally_after (heads x) m.tally batch note → record closed_so { tally = tally } ≡ (instant x limits m batch).machine
  unfolding instant
  machine_is closed_so note tally closed_is note_is tally_is =
      let after : Applied → Mach = λ b. machine_after x m batch (note_of x m b (walk_from x limits.budget m b)) (walk_from x limits.budget m b) in
      ap (λ (q : Mach). record q { tally = tally }) closed_is
      ∙ (ap (λ (t : Tally). record (machine_closed m (walk_from x limits.budget m a)) { tally = t }) (tally_is ∙ ap (tally_after (heads x) m.tally batch) note_is)
      ∙ ap after a_is)

  pub note_is : note_of x m a (walk_from x limits.budget m a) ≡ (instant x limits m batch).note
  unfolding instant
  note_is = ap (λ (b : Applied). note_of x m b (walk_from x limits.budget m b)) a_is

module _ (x : Prog) (m : Mach) (a : Applied) (w walk : Walk) (w_is : w ≡ walk) where
  pub machine_so : (linked : List Standing) → linked ≡ map closed (filter stays w.runners)
      → record m { linked = linked; shared = w.around.shared; known = w.around.known; made = w.around.made } ≡ machine_closed m walk
  machine_so linked linked_is = ap (λ (l : List Standing). record m { linked = l; shared = w.around.shared; known = w.around.known; made = w.around.made }) linked_is ∙ ap (machine_closed m) w_is

  pub note_so : (sent told : List Sent) (stands : List Thread) (changed : List Change) → told ≡ a.sent ++ sent_by (Sched m.s) w.around.acts → sent ≡ told ++ leavers w.runners
      → stands ≡ map closed_thread (filter has_run (filter stays w.runners)) → changed ≡ changes (shared_of (heads x) m.s) m.shared w.around.shared
      → record { number = m.tally.number + 1; marks = a.marks; stopped = a.stopped; acts = w.around.acts; sent = sent; stands = stands; changed = changed } ≡ note_of x m a walk
  note_so sent told stands changed told_is sent_is stands_is changed_is =
      let note : List Sent → List Thread → List Change → InstantNote = λ s t c. record { number = m.tally.number + 1; marks = a.marks; stopped = a.stopped; acts = w.around.acts; sent = s; stands = t; changed = c } in
      let all_sent : sent ≡ a.sent ++ (sent_by (Sched m.s) w.around.acts ++ leavers w.runners) =
      sent_is ∙ (ap (λ (l : List Sent). l ++ leavers w.runners) told_is ∙ append_assoc a.sent (sent_by (Sched m.s) w.around.acts) (leavers w.runners)) in
      ap (λ (l : List Sent). note l stands changed) all_sent
      ∙ (ap (λ (l : List Thread). note (a.sent ++ (sent_by (Sched m.s) w.around.acts ++ leavers w.runners)) l changed) stands_is
      ∙ (ap (note (a.sent ++ (sent_by (Sched m.s) w.around.acts ++ leavers w.runners)) (map closed_thread (filter has_run (filter stays w.runners)))) changed_is
      ∙ ap (note_of x m a) w_is))
