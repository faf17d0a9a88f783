-- In each legal history a thread with a bound never ends with Over, as the law says it: of instants and blocks, and of a thread
-- by its id.
use Rattle.std.proofs.Common.{◌≡◌, ℕ, List, [], ◌∷◌, ◌++◌, Option, Some, refl, ap, subst}
use Rattle.std.specs.Prelude.{All}
use Rattle.loft_base.specs.declared.ids.SchedId.{SchedId}
use Rattle.loft_base.specs.declared.ids.ModuleId.{ModuleId}
use Rattle.loft_base.specs.declared.ids.ThreadId.{ThreadId}
use Rattle.loft_tree.specs.Fits.{Each}
use Rattle.loft_tree.specs.Resolved.{Resolved}
use Rattle.loft_orders.specs.declared.entry.Entry.{Entry}
use Rattle.loft_orders.specs.declared.entry.Entry.TheVariants.{Pick}
use Rattle.loft_base.specs.declared.options.RunOptions.{RunOptions}
use Rattle.loft_orders.specs.declared.note.Act.{Act}
use Rattle.loft_orders.specs.declared.note.Act.TheVariants as act
use Rattle.loft_orders.specs.declared.note.InstantNote.{InstantNote}
use Rattle.loft_orders.specs.declared.order.End.{End}
use Rattle.loft_orders.specs.declared.order.End.TheVariants as end
use Rattle.loft_orders.specs.declared.order.Order.{Order}
use Rattle.loft_orders.specs.declared.order.Order.TheVariants as order
use Rattle.loft_orders.specs.declared.order.Sent.{Sent}
use Rattle.loft_orders.specs.declared.thread.Thread.{Thread}
use Rattle.loft_sense.specs.Machine.{Tree}
use Rattle.loft_sense.specs.Apply.{apply}
use Rattle.loft_sense.specs.Instant.{instant, replay}
use Rattle.loft_sense.specs.Async.{async}
use Rattle.loft_history.specs.History.{sent_in, log, starts_of, replayed}
use Rattle.loft_history.specs.Legal.{actor_of, AtEach, IsDeclared, IsLegal, ComesNext}
use Rattle.loft_history.proofs.AtEachLemmas.{at_each_before}
use Rattle.loft_history.proofs.LegalEntries.{legal_exactly}
use Rattle.loft_soundness.specs.Numbered.{IsNumbered}
use Rattle.loft_soundness.proofs.HistoryWalk.{HistoryHolds}
use Rattle.loft_soundness.proofs.ListLemmas.{each_map, all_of, each_of}
use Rattle.loft_budget.specs.Bounds.{IsBounded, ActOverBy, OrderOverOf, MakesBounded, Spares, OrderSpares, ActSpares}
use Rattle.loft_budget.proofs.Threads.{CarryIs, MakeIs, SentIs, EndIs, ActEndIs}
use Rattle.loft_budget.proofs.Histories.{Makes, claims, holds, took, instant_over, block_over, notes_end}

each_entry : (Q : Entry → Type 0) (es : List Entry) → AtEach (λ before e. Q e) es → Each Q es
each_entry Q [] f = tt
each_entry Q (e ∷ es) f = (f [] e es refl, each_entry Q es (λ before g after same. f (e ∷ before) g after (ap (λ (l : List Entry). e ∷ l) same)))

each_any : {A : Type 0} (Q : A → Type 0) (xs : List A) → ((y : A) → Q y) → Each Q xs
each_any Q [] f = tt
each_any Q (y ∷ ys) f = (f y, each_any Q ys f)

module _ (p : Resolved) (numbered : IsNumbered p) (o : RunOptions) (es : List Entry) (legal : IsLegal (Tree p) o es) where
  each_next : AtEach (ComesNext (Tree p) o) es
  each_next = (legal_exactly (Tree p) o es).0 legal

  declared : Each (λ (e : Entry). IsDeclared p.heads o (actor_of e)) es
  declared = each_entry (λ (e : Entry). IsDeclared p.heads o (actor_of e)) es legal.declared

  -- ---- nothing is known of threads

  abbrev Any : ThreadId → Option ModuleId → Type 0
  Any t m = Unit {0}

  any_made : (order : Order) → MakeIs p o.limits Any order
  any_made (order.Create t m arguments) = tt
  any_made (order.Arrive t) = tt
  any_made (order.Stop t) = tt
  any_made (order.Suspend t) = tt
  any_made (order.Resume t) = tt
  any_made (order.Broadcast e v) = tt
  any_made (order.Ended t end) = tt

  any_starts : (s : SchedId) → Each (λ (order : Order). MakeIs p o.limits Any order) (starts_of p.heads s)
  any_starts s = each_any (λ (order : Order). MakeIs p o.limits Any order) (starts_of p.heads s) any_made

  any_history : (gs : List Entry) → AtEach (ComesNext (Tree p) o) gs → HistoryHolds (Tree p) o (claims p numbered o Any) gs
  any_history gs each = holds p numbered o Any gs any_starts (each_any (Makes p numbered o Any) (sent_in gs) (λ m. any_made m.order)) each

  pub instants_over : (s : SchedId) (before : List (List Order)) (batch : List Order) (after : List (List Order)) → log s es ≡ before ++ batch ∷ after
      → let m = (replay (Tree p) o.limits s before).machine in All (ActOverBy p o.limits (apply (Tree p) m batch).linked) (instant (Tree p) o.limits m batch).note.acts
  instants_over s before batch after is =
      let m = (replay (Tree p) o.limits s before).machine in
      let all = took p numbered o Any es (any_history es each_next) declared s in
      all_of (ActOverBy p o.limits (apply (Tree p) m batch).linked) (instant (Tree p) o.limits m batch).note.acts (instant_over p numbered o Any s before batch after (subst (Each (Each _)) is all))

  pub blocks_over : (before : List Entry) (w : ℕ) (job : Thread) (after : List Entry) → es ≡ before ++ Pick w job ∷ after
      → All (λ (sent : Sent). OrderOverOf p o.limits job sent.order) (async (Tree p) job o.limits.block)
  blocks_over before w job after is =
      all_of (λ (sent : Sent). OrderOverOf p o.limits job sent.order) (async (Tree p) job o.limits.block)
      (block_over p numbered o Any any_starts before w job (any_history before (at_each_before (ComesNext (Tree p) o) before (Pick w job ∷ after) (subst (AtEach (ComesNext (Tree p) o)) is each_next))) (each_next before (Pick w job) after is))

  -- ---- a thread by its id

  module _ (t : ThreadId) where
    -- a thread of this id has an outermost module with a bound that both budgets allow
    abbrev Bounded : ThreadId → Option ModuleId → Type 0
    Bounded u m = u ≡ t → (q : ModuleId) × (m ≡ Some q) × IsBounded p o.limits q

    bounded_made : (order : Order) → MakesBounded p o.limits t order → MakeIs p o.limits Bounded order
    bounded_made (order.Create u m arguments) f = λ e. (m, refl, f e)
    bounded_made (order.Arrive u) f = tt
    bounded_made (order.Stop u) f = tt
    bounded_made (order.Suspend u) f = tt
    bounded_made (order.Resume u) f = tt
    bounded_made (order.Broadcast e v) f = tt
    bounded_made (order.Ended u end) f = tt

    abbrev SentBounded : Sent → Type 0
    SentBounded sent = MakesBounded p o.limits t sent.order

    -- its end isn't Over
    spared : (u : ThreadId) (end : End) → EndIs p o.limits Bounded u end → Spares t u end
    spared u end.Done f = tt
    spared u end.Stopped f = tt
    spared u end.Full f = tt
    spared u (end.Div at) f = tt
    spared u (end.Deep at) f = tt
    spared u (end.Over at) f = λ e. let m = f.1 e in f.2 m.0 m.1 m.2
    spared u (end.Flood at) f = tt

    order_spared : (order : Order) → CarryIs p o.limits Bounded order → OrderSpares t order
    order_spared (order.Create u m arguments) f = tt
    order_spared (order.Arrive u) f = tt
    order_spared (order.Stop u) f = tt
    order_spared (order.Suspend u) f = tt
    order_spared (order.Resume u) f = tt
    order_spared (order.Broadcast e v) f = tt
    order_spared (order.Ended u end) f = spared u end f

    act_spared : (a : Act) → ActEndIs p o.limits Bounded a → ActSpares t a
    act_spared (act.Print u line) f = tt
    act_spared (act.Gen u event value) f = tt
    act_spared (act.Out u sent) f = tt
    act_spared (act.End u end) f = spared u end f

    module _ (starts : (s : SchedId) → All (MakesBounded p o.limits t) (starts_of p.heads s)) (sents : All SentBounded (sent_in es)) where
      bounded_history : HistoryHolds (Tree p) o (claims p numbered o Bounded) es
      bounded_history =
          holds p numbered o Bounded es
          (λ s. each_map (MakesBounded p o.limits t) (λ (order : Order). MakeIs p o.limits Bounded order) (starts_of p.heads s) bounded_made (each_of (MakesBounded p o.limits t) (starts_of p.heads s) (starts s)))
          (each_map SentBounded (Makes p numbered o Bounded) (sent_in es) (λ m. bounded_made m.order) (each_of SentBounded (sent_in es) sents)) each_next

      pub sents_spared : All (λ (sent : Sent). OrderSpares t sent.order) (sent_in es)
      sents_spared =
          all_of (λ (sent : Sent). OrderSpares t sent.order) (sent_in es)
          (each_map (λ (sent : Sent). SentIs p o.limits Bounded sent) (λ (sent : Sent). OrderSpares t sent.order) (sent_in es) (λ sent f. order_spared sent.order f) bounded_history.sent)

      pub notes_spared : (s : SchedId) → All (λ (note : InstantNote). All (ActSpares t) note.acts) (replayed (Tree p) o.limits s es).notes
      notes_spared s =
          let notes = (replayed (Tree p) o.limits s es).notes in
          all_of (λ (note : InstantNote). All (ActSpares t) note.acts) notes
          (each_map (λ (note : InstantNote). Each (ActEndIs p o.limits Bounded) note.acts) (λ (note : InstantNote). All (ActSpares t) note.acts) notes
          (λ note f. all_of (ActSpares t) note.acts (each_map (ActEndIs p o.limits Bounded) (ActSpares t) note.acts act_spared f))
          (notes_end p numbered o Bounded es s (took p numbered o Bounded es bounded_history declared s)))
