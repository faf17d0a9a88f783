-- A scheduler in memory stays ready for its next instant.
use Rattle.std.proofs.Common.{◌≡◌, ℕ, ◌+◌, true, false, List, [], sym, ap, ◌∙◌, arith, length, option_map, Option, Some, None}
use Rattle.std.specs.Prelude.{ℤ, slice_index_or}
use Rattle.std.proofs.lemmas.List.{length-map}
use Rattle.loft_base.specs.declared.ids.SchedId.{SchedId}
use Rattle.loft_base.specs.declared.options.Limits.{Limits}
use Rattle.loft_base.specs.declared.ids.ThreadId.{ThreadId}
use Rattle.loft_orders.specs.declared.note.InstantNote.{InstantNote}
use Rattle.loft_orders.specs.declared.note.Standing.{Standing}
use Rattle.loft_orders.specs.declared.order.Order.{Order}
use Rattle.loft_orders.specs.declared.thread.Wait.{Wait}
use Rattle.loft_sense.specs.declared.tally.Tally.{Tally}
use Rattle.loft_sense.specs.Around.{Around}
use Rattle.loft_sense.specs.Heads.{shared_values}
use Rattle.loft_sense.specs.Instant.{instant}
use Rattle.loft_sense.specs.Machine.{Prog, Mach}
use Rattle.loft_sense.specs.Passes.{Runner, Walk, passes}
use Rattle.loft_sense.specs.Rest.{is_spent, waits_for_ever}
use Rattle.loft_sense.specs.Tally.{first_tally, tally_after}
use Rattle.loft_sense.proofs.AroundLemmas.{passes_follow}
use Rattle.loft_sense.proofs.InstantLemmas.{instant_creates, instant_number}
use Rattle.loft_sense.proofs.TallyLemmas.{unspent_number}
use Rattle.loft_instant.specs.States.{first_machine}
use Rattle.loft_tree.specs.declared.heads.Heads.{Heads}
use Rattle.loft_waits.specs.Told.{Told, Counts, counts_of, no_counts, closed, wait_at, ends_alone}
use Rattle.loft_line_engine.specs.declared.state.State.{State}
use Rattle.loft_line_engine.specs.States.{machine_with, machine_of, IsClosed, IsReady}

-- a scheduler before its first instant
pub first_so : (h : Heads) (s : SchedId) (linked : List Standing) (shared : List ℤ) (known : List ThreadId) (tally : Tally) → linked ≡ [] → shared ≡ shared_values h s → known ≡ [] → tally ≡ first_tally h s
    → record { s = s; linked = linked; shared = shared; known = known; made = 0; tally = tally } ≡ first_machine h s
first_so h s linked shared known tally none values nobody first =
    let so : List Standing → List ℤ → List ThreadId → Tally → Mach = λ l v k t. record { s = s; linked = l; shared = v; known = k; made = 0; tally = t } in
    ap (λ (l : List Standing). so l shared known tally) none
    ∙ (ap (λ (v : List ℤ). so [] v known tally) values
    ∙ (ap (λ (k : List ThreadId). so [] (shared_values h s) k tally) nobody
    ∙ ap (so [] (shared_values h s) []) first))

-- where nobody waits, nobody waits for what is there
pub nobody_quiet : (t : Told) → t.waits ≡ [] → (i : ℕ) (w : Wait) → wait_at t i ≡ Some w → ends_alone w ≡ false → waits_for_ever w t.ended ≡ true
nobody_quiet t none i w there alone =
    let gone : wait_at t i ≡ None = ap (λ (ws : List (Option Wait)). slice_index_or ws i None) none in
    absurd (cc (gone, there))

-- once the waits have closed, no event is present
pub told_closed : (x : Prog) (rs : List Runner) (around : Around) (w : Walk) (events : ℕ) (mid after : Told) → w ≡ passes x rs around → length around.board ≡ events → mid.counts ≡ counts_of w.around.board → after ≡ closed mid
    → after.counts ≡ no_counts events
told_closed x rs around w events mid after is there mid_is after_is =
    ap (λ (t : Told). t.counts) after_is
    ∙ ap no_counts
    (ap (λ (c : Counts). length c) mid_is ∙ (length-map w.around.board (option_map length)
    ∙ (ap (λ (v : Walk). length v.around.board) is ∙ ((passes_follow x rs around).events ∙ there))))

pub number_after : (h : Heads) (t u : Tally) (batch : List Order) (note : InstantNote) → u ≡ tally_after h t batch note → u.number ≡ t.number + 1
unfolding tally_after
number_after h t u batch note is = ap (λ (v : Tally). v.number) is

-- the instant is told
pub retold : (events budget n : ℕ) (e : State) (t : Tally) → t.number ≡ n + 1 → IsClosed events budget (n + 1) e → IsClosed events budget t.number (record e { tally = t })
retold events budget n e t is c = record {
  idle = c.idle;
  quiet = c.quiet;
  counts = c.counts;
  ended = c.ended;
  closes_are = c.closes_are ∙ sym is;
  budget_is = c.budget_is;
  no_event = c.no_event;
}

pub unspent_there : (x : Prog) (limits : Limits) (s : SchedId) (o : Option State) (e : State) → o ≡ Some e → is_spent x limits (machine_of s o) ≡ false → is_spent x limits (machine_with s e) ≡ false
unspent_there x limits s o e there unspent = sym (ap (λ (p : Option State). is_spent x limits (machine_of s p)) there) ∙ unspent

pub stays_ready : (x : Prog) (limits : Limits) (events : ℕ) (s : SchedId) (old new : State) (orders : List Order) → IsReady events limits old → is_spent x limits (machine_with s old) ≡ false
    → machine_with s new ≡ (instant x limits (machine_with s old) orders).machine → IsClosed events limits.budget new.tally.number new → IsReady events limits new
stays_ready x limits events s old new orders ready unspent machine closed_so =
    let made = ap (λ (m : Mach). m.made) machine in
    let number = ap (λ (m : Mach). m.tally.number) machine ∙ instant_number x limits (machine_with s old) orders in
    let creates = instant_creates x limits (machine_with s old) orders in
    let few = ready.few_made in
    let below = unspent_number x limits (machine_with s old) unspent in
    record {
      closed = closed_so;
      few_made = omega (arith, made, number, creates, few);
      few_instants = omega (arith, number, below);
    }
