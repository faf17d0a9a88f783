-- One entry more in a run.
use Rattle.std.proofs.Common.{◌≡◌, ◌<◌, Bool, true, false, List, [], ◌∷◌, ◌++◌, length, refl, sym, ◌∙◌, ap, subst, Option, Some, None}
use Rattle.std.proofs.lemmas.Bool.{lt-ltb}
use Rattle.std.specs.Prelude.{MatchOption}
use Rattle.loft_base.specs.declared.ids.SchedId.{SchedId}
use Rattle.loft_orders.specs.declared.order.Order.{Order}
use Rattle.loft_orders.specs.declared.order.Sent.{Sent}
use Rattle.loft_orders.specs.declared.note.InstantNote.{InstantNote}
use Rattle.loft_orders.specs.declared.entry.Entry.{Entry}
use Rattle.loft_orders.specs.declared.entry.Entry.TheVariants.{Take, Give}
use Rattle.loft_base.specs.declared.options.RunOptions.{RunOptions}
use Rattle.loft_sense.specs.Machine.{Prog, heads, Mach}
use Rattle.loft_sense.specs.Instant.{replay}
use Rattle.loft_history.specs.History.{Choice, TakeBy, GiveBy, is_open, replayed, has_turn, sent_last, waiting, entry_of}
use Rattle.loft_history.proofs.HistoryLemmas.{take_allowed, give_allowed}
use Rattle.loft_turn_parts.proofs.TurnLemmas.{log_given, shut}
use Rattle.loft_course.specs.Course.{Stand, stand_after, Moves}

-- ---- stands

pub same_stand : (a b : Stand) → a.scheduler ≡ b.scheduler → a.failed ≡ b.failed → a.machine ≡ b.machine → a.notes ≡ b.notes → a.running ≡ b.running → a ≡ b
same_stand a b s f m n r =
    ap (λ (q : SchedId). record { scheduler = q; failed = a.failed; machine = a.machine; notes = a.notes; running = a.running }) s
    ∙ (ap (λ (q : Bool). record { scheduler = b.scheduler; failed = q; machine = a.machine; notes = a.notes; running = a.running }) f
    ∙ (ap (λ (q : Mach). record { scheduler = b.scheduler; failed = b.failed; machine = q; notes = a.notes; running = a.running }) m
    ∙ (ap (λ (q : List InstantNote). record { scheduler = b.scheduler; failed = b.failed; machine = b.machine; notes = q; running = a.running }) n
    ∙ ap (λ (q : Bool). record { scheduler = b.scheduler; failed = b.failed; machine = b.machine; notes = b.notes; running = q }) r)))

-- ---- what a choice does

pub moved_by : (x : Prog) (o : RunOptions) (h : List Entry) (c : Choice) (after : List Entry) (e : Entry) → entry_of x o h c ≡ Some e → after ≡ h ++ e ∷ [] → Moves x o h c true after
moved_by x o h c after e is grows =
    subst (λ (next : Option Entry). MatchOption next ((true ≡ false) × (after ≡ h)) (λ q. (true ≡ true) × (after ≡ h ++ q ∷ []))) (sym is) (refl, grows)

-- the choice isn't allowed, and the history is as before
pub stays : (x : Prog) (o : RunOptions) (h : List Entry) (c : Choice) → entry_of x o h c ≡ None → Moves x o h c false h
stays x o h c none = subst (λ (next : Option Entry). MatchOption next ((false ≡ false) × (h ≡ h)) (λ e. (false ≡ true) × (h ≡ h ++ e ∷ []))) (sym none) (refl, refl)

-- ---- a Take

pub take_entry : (x : Prog) (o : RunOptions) (s : SchedId) (h : List Entry) → s.0 < length (heads x).schedulers → is_open s h ≡ false
    → has_turn x o.limits (replayed x o.limits s h).machine (waiting (heads x) s h) ≡ true
    → entry_of x o h (TakeBy s) ≡ Some (Take s (waiting (heads x) s h))
take_entry x o s h declared shut turn = take_allowed _ _ _ (Take s (waiting (heads x) s h)) (lt-ltb s.0 _ declared) shut turn

-- ---- a Give

-- the scheduler after a Give
pub given : (x : Prog) (o : RunOptions) (s : SchedId) (h after : List Entry) (old new : Stand) (sent : List Sent)
    → old ≡ stand_after x o h s.0 → after ≡ h ++ Give s sent ∷ []
    → new.scheduler ≡ old.scheduler → new.failed ≡ old.failed → new.machine ≡ old.machine → new.notes ≡ old.notes → new.running ≡ false
    → new ≡ stand_after x o after s.0
given x o s h after old new sent was grows scheduler works machine notes running =
    subst (λ (l : List Entry). new ≡ stand_after x o l s.0) (sym grows)
    (same_stand new (stand_after x o (h ++ Give s sent ∷ []) s.0)
    (scheduler ∙ ap (λ (q : Stand). q.scheduler) was)
    (works ∙ ap (λ (q : Stand). q.failed) was)
    (machine ∙ (ap (λ (q : Stand). q.machine) was ∙ sym (ap (λ (l : List (List Order)). (replay x o.limits s l).machine) (log_given s h sent))))
    (notes ∙ (ap (λ (q : Stand). q.notes) was ∙ sym (ap (λ (l : List (List Order)). (replay x o.limits s l).notes) (log_given s h sent))))
    (running ∙ sym (shut s h sent)))

pub give_entry : (x : Prog) (o : RunOptions) (s : SchedId) (h : List Entry) (sent : List Sent) → s.0 < length (heads x).schedulers → is_open s h ≡ true
    → sent ≡ sent_last (replayed x o.limits s h).notes
    → entry_of x o h (GiveBy s) ≡ Some (Give s sent)
give_entry x o s h sent declared running due = give_allowed _ _ (Give s (sent_last (replayed x o.limits s h).notes)) (lt-ltb s.0 _ declared) running ∙ ap (λ (l : List Sent). Some (Give s l)) (sym due)
