-- Whether all threads of a line rest.
use Rattle.std.proofs.Common.{◌≡◌, ℕ, zero, suc, Bool, true, false, List, [], ◌∷◌, ◌++◌, refl, sym, ◌∙◌, ap, arith, Option, Some, None, option_map, get_or, map}
use Rattle.std.specs.Prelude.{not, ◌&&◌, ◌||◌, is_none, is_some, if◌then◌else◌}
use Rattle.std.specs.List.{list_any}
use Rattle.std.proofs.lemmas.List.Concat.{flat_map-cons}
use Rattle.loft_base.specs.declared.ids.EventId.{EventId}
use Rattle.loft_base.specs.declared.ids.ThreadId.{ThreadId}
use Rattle.loft_orders.specs.declared.note.Standing.{Standing}
use Rattle.loft_orders.specs.declared.thread.Wait.{Wait}
use Rattle.loft_orders.specs.declared.thread.Wait.TheVariants.{New, Coop, Events, Index, Next, Join, Halt}
use Rattle.loft_sense.specs.CanGo.{is_known, is_over}
use Rattle.loft_sense.specs.Instant.{closed_wait}
use Rattle.loft_sense.specs.Rest.{waits_for_ever, all_rest}
use Rattle.loft_passes.specs.declared.runner.Runner.{Runner}
use Rattle.loft_passes.specs.View.{standing_of, is_held}
use Rattle.loft_ready.specs.Entered.{wait_of}
use Rattle.loft_waits.specs.Told.{Told, count_in, ends_alone, is_alone, is_ready, wait_at, closed, NobodyFrom}
use Rattle.loft_line.specs.Line.{standing_if, standings_in}

none_or : {A : Type 0} (o : Option A) → is_some o ≡ true → is_none o ≡ false
none_or None h = absurd cc
none_or (Some x) h = refl

-- a wait that ends by itself isn't for ever
alone_ends : (w : Wait) (known : List ThreadId) → ends_alone w ≡ true → waits_for_ever w known ≡ false
alone_ends New known h = refl
alone_ends (Coop left) known h = refl
alone_ends (Events events left) known h = none_or left h
alone_ends (Index event at) known h = refl
alone_ends Next known h = refl
alone_ends (Join thread left) known h = ap (λ (b : Bool). b && not (is_known thread known)) (none_or left h)
alone_ends Halt known h = absurd cc

for_ever_is : (w : Wait) (known : List ThreadId) → (ends_alone w ≡ false → waits_for_ever w known ≡ true) → waits_for_ever w known ≡ not (ends_alone w)
for_ever_is w known quiet = one (ends_alone w) refl
  where
    one : (b : Bool) → ends_alone w ≡ b → waits_for_ever w known ≡ not (ends_alone w)
    one true e = alone_ends w known e ∙ sym (ap not e)
    one false e = quiet e ∙ sym (ap not e)

not_or : (a b : Bool) → not (a || b) ≡ not a && not b
not_or true b = refl
not_or false b = refl

pub all_rest_is : (rs : List Runner) (known : List ThreadId) → ((i : ℕ) (w : Wait) → get_or (map wait_of rs) i None ≡ Some w → ends_alone w ≡ false → waits_for_ever w known ≡ true) → not (list_any is_alone (map wait_of rs)) ≡ all_rest (standings_in rs) known
all_rest_is [] known quiet = refl
all_rest_is (r ∷ rs) known quiet =
    not_or (is_alone (wait_of r)) (list_any is_alone (map wait_of rs))
    ∙ ap (λ (b : Bool). not (is_alone (wait_of r)) && b) (all_rest_is rs known (λ i w h e. quiet (suc i) w h e))
    ∙ sym (ap (λ (l : List Standing). all_rest l known) (flat_map-cons standing_if r rs) ∙ by (is_held r.stop) r.suspended refl refl)
  where
    by : (held suspended : Bool) → is_held r.stop ≡ held → r.suspended ≡ suspended → all_rest (standing_if r ++ standings_in rs) known ≡ not (is_alone (wait_of r)) && all_rest (standings_in rs) known
    by false suspended h u =
        ap (λ (b : Bool). all_rest ((if b then standing_of r ∷ [] else []) ++ standings_in rs) known) h
        ∙ sym (ap (λ (b : Bool). not (is_alone (if b && not r.suspended then Some r.thread.wait else None)) && all_rest (standings_in rs) known) h)
    by true true h u =
        ap (λ (b : Bool). all_rest ((if b then standing_of r ∷ [] else []) ++ standings_in rs) known) h
        ∙ ap (λ (b : Bool). (b || waits_for_ever r.thread.wait known) && all_rest (standings_in rs) known) u
        ∙ sym (ap (λ (b : Bool). not (is_alone (if b && not r.suspended then Some r.thread.wait else None)) && all_rest (standings_in rs) known) h
        ∙ ap (λ (b : Bool). not (is_alone (if not b then Some r.thread.wait else None)) && all_rest (standings_in rs) known) u)
    by true false h u =
        let awake : wait_of r ≡ Some r.thread.wait =
        ap (λ (b : Bool). if b && not r.suspended then Some r.thread.wait else None) h ∙ ap (λ (b : Bool). if not b then Some r.thread.wait else None) u in
        ap (λ (b : Bool). all_rest ((if b then standing_of r ∷ [] else []) ++ standings_in rs) known) h
        ∙ ap (λ (b : Bool). (b || waits_for_ever r.thread.wait known) && all_rest (standings_in rs) known) u
        ∙ ap (λ (b : Bool). b && all_rest (standings_in rs) known) (for_ever_is r.thread.wait known (quiet 0 r.thread.wait awake))
        ∙ sym (ap (λ (o : Option Wait). not (is_alone o) && all_rest (standings_in rs) known) awake)

-- ---- after a close

quiet_one : (w : Wait) (count : EventId → Option ℕ) (known : List ThreadId) → is_over w count known ≡ false → ends_alone (closed_wait w) ≡ false → waits_for_ever (closed_wait w) known ≡ true
quiet_one New count known over alone = absurd cc
quiet_one (Coop left) count known over alone = absurd cc
quiet_one (Events events None) count known over alone = refl
quiet_one (Events events (Some n)) count known over alone = absurd cc
quiet_one (Index event at) count known over alone = absurd cc
quiet_one Next count known over alone = absurd cc
quiet_one (Join thread None) count known over alone = ap not over
quiet_one (Join thread (Some n)) count known over alone = absurd cc
quiet_one Halt count known over alone = refl

closed_at : (ws : List (Option Wait)) (i : ℕ) → get_or (map (option_map closed_wait) ws) i None ≡ option_map closed_wait (get_or ws i None)
closed_at [] i = refl
closed_at (w ∷ ws) zero = refl
closed_at (w ∷ ws) (suc i) = closed_at ws i

quiet_at : (t : Told) (o : Option Wait) (w : Wait) → is_ready t.counts t.ended o ≡ false → option_map closed_wait o ≡ Some w → ends_alone w ≡ false → waits_for_ever w t.ended ≡ true
quiet_at t None w over is alone = absurd cc
quiet_at t (Some v) w over is alone =
    let same : closed_wait v ≡ w = cc is in
    ap (λ (x : Wait). waits_for_ever x t.ended) (sym same) ∙ quiet_one v (count_in t.counts) t.ended over (ap ends_alone same ∙ alone)

pub quiet_closed : (t u : Told) → NobodyFrom t 0 → u ≡ closed t → (i : ℕ) (w : Wait) → wait_at u i ≡ Some w → ends_alone w ≡ false → waits_for_ever w u.ended ≡ true
quiet_closed t u nobody is i w h alone =
    let here : option_map closed_wait (wait_at t i) ≡ Some w = sym (closed_at t.waits i) ∙ sym (ap (λ (x : Told). wait_at x i) is) ∙ h in
    ap (λ (x : Told). waits_for_ever w x.ended) is ∙ quiet_at t (wait_at t i) w (nobody i (omega arith)) here alone
