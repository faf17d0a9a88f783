-- How a scheduler stands, by one entry more.
use Rattle.std.proofs.Common.{arith, ◌≡◌, ℕ, suc, ◌-◌, Bool, true, false, List, [], ◌∷◌, ◌++◌, length, sym, ◌∙◌, ap, subst, append-nil, ◌||◌, Some, Result, Ok, Err, slice_get}
use Rattle.std.specs.Prelude.{OnOk, ◌↔◌, if◌then◌else◌, not, ◌&&◌}
use Rattle.std.proofs.lemmas.List.Sums.{fold-append}
use Rattle.loft_base.specs.declared.ids.SchedId.{SchedId}
use Rattle.loft_orders.specs.declared.entry.Actor.TheVariants as actor
use Rattle.loft_orders.specs.declared.entry.Entry.{Entry}
use Rattle.loft_orders.specs.declared.entry.Entry.TheVariants.{Take, Give}
use Rattle.loft_base.specs.declared.options.Limits.{Limits}
use Rattle.loft_orders.specs.declared.note.InstantNote.{InstantNote}
use Rattle.loft_orders.specs.declared.order.Order.{Order}
use Rattle.loft_orders.specs.declared.order.Sent.{Sent}
use Rattle.loft_sense.specs.Machine.{Prog, Mach}
use Rattle.loft_sense.specs.Instant.{Replayed, instant, one_more, replay}
use Rattle.loft_history.specs.History.{log, in_instant, is_open, replayed, sent_last, instant_step}
use Rattle.loft_history.specs.Legal.{of}
use Rattle.loft_sense.proofs.ReplayLemmas.{replay_on-append}
use Rattle.loft_history.proofs.HistoryLemmas.{same_self, log-append}
use Rattle.loft_history.proofs.OwnLemmas.{scheduler_own}
use Rattle.loft_turn_parts.specs.Turns.{IsReplay}

-- ---- a Take

log_taken : (s : SchedId) (h : List Entry) (batch : List Order) → log s (h ++ Take s batch ∷ []) ≡ log s h ++ batch ∷ []
log_taken s h batch = log-append s h (Take s batch ∷ []) ∙ ap (λ (own : Bool). log s h ++ (if own then batch ∷ [] else [])) (same_self s)

pub opened : (s : SchedId) (h : List Entry) (batch : List Order) → is_open s (h ++ Take s batch ∷ []) ≡ true
opened s h batch = fold-append (instant_step s) false h (Take s batch ∷ []) ∙ ap (λ (b : Bool). b || in_instant s false h) (same_self s)

pub replayed_taken : (x : Prog) (l : Limits) (s : SchedId) (h : List Entry) (batch : List Order) → replayed x l s (h ++ Take s batch ∷ []) ≡ one_more x l (replayed x l s h) batch
replayed_taken x l s h batch = ap (replay x l s) (log_taken s h batch) ∙ replay_on-append x l _ (log s h) batch

-- ---- a Give

pub log_given : (s : SchedId) (h : List Entry) (sent : List Sent) → log s (h ++ Give s sent ∷ []) ≡ log s h
log_given s h sent = log-append s h (Give s sent ∷ []) ∙ append-nil (log s h)

pub shut : (s : SchedId) (h : List Entry) (sent : List Sent) → is_open s (h ++ Give s sent ∷ []) ≡ false
shut s h sent = fold-append (instant_step s) false h (Give s sent ∷ []) ∙ ap (λ (b : Bool). not b && in_instant s false h) (same_self s)

one_less : (n : ℕ) → suc n - 1 ≡ n
one_less n = omega arith

sent_there : (m : InstantNote) (ns : List InstantNote) (n : InstantNote) → slice_get (m ∷ ns) (length ns) ≡ Some n → n.sent ≡ sent_last (m ∷ ns)
sent_there m [] n e = cc
sent_there m (k ∷ ns) n e = sent_there k ns n e

-- what the last instant sent, by the index of its note
pub sent_at_end : (notes : List InstantNote) (n : InstantNote) → slice_get notes (length notes - 1) ≡ Some n → n.sent ≡ sent_last notes
sent_at_end [] n e = cc
sent_at_end (m ∷ ns) n e = sent_there m ns n (ap (slice_get (m ∷ ns)) (sym (one_less (length ns))) ∙ e)

-- ---- how a scheduler stands

pub replay_taken : (x : Prog) (l : Limits) (s : SchedId) (es : List Entry) (batch : List Order) (m : Mach) (notes : List InstantNote) → IsReplay x l s es m notes
    → IsReplay x l s (es ++ Take s batch ∷ []) (instant x l m batch).machine (notes ++ (instant x l m batch).note ∷ [])
replay_taken x l s es batch m notes is = record {
  machine = ap (λ (k : Mach). (instant x l k batch).machine) is.machine ∙ sym (ap (λ (r : Replayed). r.machine) (replayed_taken x l s es batch));
  notes =
      ap (λ (k : Mach). notes ++ (instant x l k batch).note ∷ []) is.machine
      ∙ (ap (λ (ns : List InstantNote). ns ++ (instant x l (replayed x l s es).machine batch).note ∷ []) is.notes
      ∙ sym (ap (λ (r : Replayed). r.notes) (replayed_taken x l s es batch)));
}

-- the same of the engine and the notes that an instant leaves, where memory was found
pub replay_made : {A E : Type 0} (r : Result A E) (x y : Prog) (l k : Limits) (s q : SchedId) (m n : Mach) (notes more : List InstantNote) (batch : List Order) (note : InstantNote)
    → y ≡ x → k ≡ l → q ≡ s → n ≡ (instant x l m batch).machine → note ≡ (instant x l m batch).note → OnOk r (more ≡ notes ++ note ∷ [])
    → OnOk r ((es : List Entry) → IsReplay x l s es m notes → IsReplay y k q (es ++ Take q batch ∷ []) n more)
replay_made (Ok a) x y l k s q m n notes more batch note program limits scheduler machine noted grows = λ es is.
    subst (λ (p : Prog). IsReplay p k q (es ++ Take q batch ∷ []) n more) (sym program)
    (subst (λ (p : Limits). IsReplay x p q (es ++ Take q batch ∷ []) n more) (sym limits)
    (subst (λ (p : SchedId). IsReplay x l p (es ++ Take p batch ∷ []) n more) (sym scheduler)
    (subst (λ (p : Mach). IsReplay x l s (es ++ Take s batch ∷ []) p more) (sym machine)
    (subst (λ (p : List InstantNote). IsReplay x l s (es ++ Take s batch ∷ []) (instant x l m batch).machine p) (sym (grows ∙ ap (λ (d : InstantNote). notes ++ d ∷ []) noted))
    (replay_taken x l s es batch m notes is)))))
replay_made (Err e) x y l k s q m n notes more batch note program limits scheduler machine noted grows = tt

pub replay_given : (x : Prog) (l : Limits) (s : SchedId) (es : List Entry) (sent : List Sent) (m : Mach) (notes : List InstantNote) → IsReplay x l s es m notes → IsReplay x l s (es ++ Give s sent ∷ []) m notes
replay_given x l s es sent m notes is =
    let same = ap (replay x l s) (sym (log_given s es sent)) in
    record { machine = is.machine ∙ ap (λ (r : Replayed). r.machine) same; notes = is.notes ∙ ap (λ (r : Replayed). r.notes) same }

by_log : (x : Prog) (l : Limits) (s : SchedId) (es fs : List Entry) (m : Mach) (notes : List InstantNote) → log s es ≡ log s fs → IsReplay x l s es m notes → IsReplay x l s fs m notes
by_log x l s es fs m notes logs is =
    let same = ap (replay x l s) logs in
    record { machine = is.machine ∙ ap (λ (r : Replayed). r.machine) same; notes = is.notes ∙ ap (λ (r : Replayed). r.notes) same }

pub replay_own : (x : Prog) (l : Limits) (s : SchedId) (es : List Entry) (m : Mach) (notes : List InstantNote) → IsReplay x l s (of (actor.Sched s) es) m notes ↔ IsReplay x l s es m notes
replay_own x l s es m notes =
    let own = (scheduler_own s es).0 in
    (by_log x l s (of (actor.Sched s) es) es m notes own, by_log x l s es (of (actor.Sched s) es) m notes (sym own))
