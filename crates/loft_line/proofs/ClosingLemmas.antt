-- A line whose waits have closed.
use Rattle.std.proofs.Common.{◌≡◌, ℕ, zero, suc, ◌+◌, Bool, true, false, List, [], ◌∷◌, ◌++◌, refl, sym, ◌∙◌, ap, subst, Option, Some, None, option_map, map}
use Rattle.std.specs.Prelude.{not, ◌&&◌, ◌||◌, ◌==◌, filter, if◌then◌else◌, slice_get}
use Rattle.std.specs.List.{flat_map}
use Rattle.std.proofs.lemmas.List.Concat.{flat_map-cons}
use Rattle.loft_base.specs.declared.ids.ThreadId.{ThreadId}
use Rattle.loft_orders.specs.declared.thread.Wait.{Wait}
use Rattle.loft_sense.specs.Instant.{closed_wait, closed as closed_runner, closed_thread, stays, has_run, leavers}
use Rattle.loft_passes.specs.declared.runner.Runner.{Runner}
use Rattle.loft_passes.specs.View.{runners_of, linked_of, is_held}
use Rattle.loft_ready.specs.Entered.{wait_of}
use Rattle.loft_waits.specs.Told.{closed}
use Rattle.loft_finder.specs.declared.finder.Finder.{Finder}
use Rattle.loft_finder.specs.Finder.{may_stand}
use Rattle.loft_line.specs.declared.line.Line.{Line}
use Rattle.loft_line.specs.Line.{with_wait, with_waits, runners_in, standing_if, standings_in, Rests, one_if, count_present, AreMarked, AreNamed, IsLine, stands_if, leaves_if, closing}
use Rattle.loft_line.proofs.CloseLemmas.{with_closed, closes_if, closing_standing, closing_stands, closing_leaves, all_closed, all_stand, all_leave}
use Rattle.loft_line.proofs.EndLemmas.{wait_rests}

none_closes : (c : Bool) (r : Runner) → (if c then Some r.thread.wait else None) ≡ None → r ≡ (if c then with_closed r else r)
none_closes true r h = absurd cc
none_closes false r h = refl

some_closes : (c : Bool) (w : Wait) (r : Runner) → Some w ≡ (if c then Some r.thread.wait else None) → with_closed r ≡ (if c then with_closed r else r)
some_closes true w r h = refl
some_closes false w r h = absurd cc

one_closes : (w : Option Wait) (r : Runner) → w ≡ wait_of (with_wait w r) → with_wait (option_map closed_wait w) r ≡ closing (with_wait w r)
one_closes None r h = none_closes (is_held r.stop && not r.suspended) r (sym h)
one_closes (Some w) r h = some_closes (is_held r.stop && not r.suspended) w (with_wait (Some w) r) h

pub all_close : (rs : List Runner) (ws : List (Option Wait)) → ws ≡ map wait_of (with_waits rs ws) → with_waits rs (map (option_map closed_wait) ws) ≡ map closing (with_waits rs ws)
all_close [] ws h = refl
all_close (r ∷ rs) [] h = absurd cc
all_close (r ∷ rs) (w ∷ ws) h =
    let first : w ≡ wait_of (with_wait w r) = cc h in
    let rest : ws ≡ map wait_of (with_waits rs ws) = cc h in
    ap (λ (q : Runner). q ∷ with_waits rs (map (option_map closed_wait) ws)) (one_closes w r first)
    ∙ ap (λ (l : List Runner). closing (with_wait w r) ∷ l) (all_close rs ws rest)

wait_closes : (r : Runner) → option_map closed_wait (wait_of r) ≡ wait_of (closing r)
wait_closes r = one (is_held r.stop && not r.suspended) refl
  where
    one : (c : Bool) → (is_held r.stop && not r.suspended) ≡ c → option_map closed_wait (wait_of r) ≡ wait_of (closing r)
    one true e =
        ap (λ (b : Bool). option_map closed_wait (if b then Some r.thread.wait else None)) e
        ∙ sym (ap wait_of (closes_if r true e) ∙ ap (λ (b : Bool). if b then Some (closed_wait r.thread.wait) else None) e)
    one false e =
        ap (λ (b : Bool). option_map closed_wait (if b then Some r.thread.wait else None)) e
        ∙ sym (ap wait_of (closes_if r false e) ∙ ap (λ (b : Bool). if b then Some r.thread.wait else None) e)

waits_close : (rs : List Runner) → map (option_map closed_wait) (map wait_of rs) ≡ map wait_of (map closing rs)
waits_close [] = refl
waits_close (r ∷ rs) =
    ap (λ (w : Option Wait). w ∷ map (option_map closed_wait) (map wait_of rs)) (wait_closes r) ∙ ap (λ (l : List (Option Wait)). wait_of (closing r) ∷ l) (waits_close rs)

rests_close : (budget : ℕ) (r : Runner) → Rests budget r → Rests budget (closing r)
rests_close budget r rests = one (is_held r.stop && not r.suspended) refl
  where
    one : (c : Bool) → (is_held r.stop && not r.suspended) ≡ c → Rests budget (closing r)
    one true e = subst (Rests budget) (sym (closes_if r true e)) (wait_rests (Some (closed_wait r.thread.wait)) r budget rests)
    one false e = subst (Rests budget) (sym (closes_if r false e)) rests

stop_closes : (r : Runner) → is_held (closing r).stop ≡ is_held r.stop
stop_closes r = one (is_held r.stop && not r.suspended)
  where
    one : (c : Bool) → is_held (if c then with_closed r else r).stop ≡ is_held r.stop
    one true = refl
    one false = refl

there : (l : List Runner) (i : ℕ) (r : Runner) → slice_get (map closing l) i ≡ Some r → (q : Runner) × (closing q ≡ r) × (slice_get l i ≡ Some q)
there [] i r h = absurd cc
there (x ∷ l) zero r h = (x, cc h, refl)
there (x ∷ l) (suc i) r h = there l i r h

marked_close : (budget : ℕ) (rs : List Runner) (ran : List ℕ) → AreMarked budget rs ran → AreMarked budget (map closing rs) ran
marked_close budget rs ran marked = λ i r h unmarked. let it = there rs i r h in subst (Rests budget) it.1 (rests_close budget it.0 (marked i it.0 it.2 unmarked))

id_closes : (r : Runner) → (closing r).thread.id ≡ r.thread.id
id_closes r = one (is_held r.stop && not r.suspended)
  where
    one : (c : Bool) → (if c then with_closed r else r).thread.id ≡ r.thread.id
    one true = refl
    one false = refl

named_close : (f : Finder) (rs : List Runner) → AreNamed f rs → AreNamed f (map closing rs)
named_close f rs named = λ i r h held.
    let it = there rs i r h in
    ap (λ (q : Runner). may_stand f q.thread.id i) (sym it.1)
    ∙ ap (λ (t : ThreadId). may_stand f t i) (id_closes it.0)
    ∙ named i it.0 it.2 (sym (stop_closes it.0) ∙ ap (λ (q : Runner). is_held q.stop) it.1 ∙ held)

present_close : (rs : List Runner) (ran : List ℕ) → count_present (map closing rs) ran ≡ count_present rs ran
present_close [] ran = refl
present_close (r ∷ rs) [] = refl
present_close (r ∷ rs) (b ∷ ran) =
    ap (λ (c : Bool). one_if (c || b == 1) + count_present (map closing rs) ran) (stop_closes r) ∙ ap (λ (n : ℕ). one_if (is_held r.stop || b == 1) + n) (present_close rs ran)

-- the same line, once its waits have closed
pub closed_runners : (l : Line) → IsLine l → with_waits l.slots.items (closed l.waits).waits ≡ map closing (runners_in l)
closed_runners l line = all_close l.slots.items l.waits.waits line.waits

pub still_line : (l : Line) → IsLine l → IsLine (record l { waits = closed l.waits })
still_line l line = record {
  waits = ap (map (option_map closed_wait)) line.waits ∙ waits_close (runners_in l) ∙ ap (map wait_of) (sym (closed_runners l line));
  many = line.many;
  marked = subst (λ (q : List Runner). AreMarked l.budget q l.ran) (sym (closed_runners l line)) (marked_close l.budget (runners_in l) l.ran line.marked);
  held = line.held ∙ sym (present_close (runners_in l) l.ran) ∙ ap (λ (q : List Runner). count_present q l.ran) (sym (closed_runners l line));
  named = subst (AreNamed l.finder) (sym (closed_runners l line)) (named_close l.finder (runners_in l) line.named);
}

flat_closing : {B : Type 0} (f g : Runner → List B) → ((r : Runner) → f (closing r) ≡ g r) → (rs : List Runner) → flat_map f (map closing rs) ≡ flat_map g rs
flat_closing f g same [] = refl
flat_closing f g same (r ∷ rs) =
    flat_map-cons f (closing r) (map closing rs) ∙ ap (λ (l : List _). l ++ flat_map f (map closing rs)) (same r)
    ∙ ap (λ (l : List _). g r ++ l) (flat_closing f g same rs) ∙ sym (flat_map-cons g r rs)

pub closed_standings : (l : Line) → IsLine l → standings_in (with_waits l.slots.items (closed l.waits).waits) ≡ map closed_runner (filter stays (runners_of (runners_in l)))
closed_standings l line = ap standings_in (closed_runners l line) ∙ flat_closing standing_if (λ r. map closed_runner (filter stays (linked_of r))) closing_standing (runners_in l) ∙ all_closed (runners_in l)

pub closed_stands : (l : Line) → IsLine l → flat_map stands_if (with_waits l.slots.items (closed l.waits).waits) ≡ map closed_thread (filter has_run (filter stays (runners_of (runners_in l))))
closed_stands l line =
    ap (flat_map stands_if) (closed_runners l line) ∙ flat_closing stands_if (λ r. map closed_thread (filter has_run (filter stays (linked_of r)))) closing_stands (runners_in l) ∙ all_stand (runners_in l)

pub closed_leaves : (l : Line) → IsLine l → flat_map leaves_if (with_waits l.slots.items (closed l.waits).waits) ≡ leavers (runners_of (runners_in l))
closed_leaves l line = ap (flat_map leaves_if) (closed_runners l line) ∙ flat_closing leaves_if leaves_if closing_leaves (runners_in l) ∙ all_leave (runners_in l)
