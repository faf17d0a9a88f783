-- Threads that can be found by their ids.
use Rattle.std.proofs.Common.{◌≡◌, ℕ, zero, suc, Bool, true, false, List, [], ◌∷◌, ◌++◌, refl, sym, ◌∙◌, ap, arith, Option, Some, None, length, get_or, set, ◌⊎◌, inl, inr}
use Rattle.std.specs.Prelude.{◌&&◌, ◌==◌, if◌then◌else◌, slice_get}
use Rattle.std.proofs.lemmas.Bool.{eqb-true}
use Rattle.std.proofs.lemmas.Option.{slice_get_within}
use mathlib.Core.Logic.{dite}
use native.Mathlib.Decide.{ℕ_discrete}
use Rattle.loft_base.specs.declared.ids.Maker.{Maker}
use Rattle.loft_base.specs.declared.ids.Maker.TheVariants as maker
use Rattle.loft_base.specs.declared.ids.ThreadId.{ThreadId}
use Rattle.loft_orders.specs.declared.note.Standing.{Standing}
use Rattle.loft_orders.specs.declared.order.Stop.{Stop}
use Rattle.loft_orders.specs.declared.order.Stop.TheVariants.{Holds, Leaves, Ends}
use Rattle.loft_orders.specs.declared.thread.Wait.{Wait}
use Rattle.loft_sense.specs.Around.{Around}
use Rattle.loft_sense.specs.CanGo.{same_maker, same_thread}
use Rattle.loft_sense.specs.Machine.{Prog}
use Rattle.loft_sense.specs.Passes.{run_of, runners_after}
use Rattle.loft_passes.specs.declared.runner.Runner.{Runner}
use Rattle.loft_passes.specs.View.{runner_to, linked_after, linked_of, standing_of, is_held}
use Rattle.loft_finder.specs.declared.finder.Finder.{Finder}
use Rattle.loft_finder.specs.Finder.{may_stand, KeepsAll, KeepsOthers}
use Rattle.loft_line.specs.Line.{with_wait, with_waits, standing_if, is_named, AreNamed}
use Rattle.loft_line.proofs.ListLemmas.{length_with, with_there, there_is}
use Rattle.loft_line.proofs.LineLemmas.{get_other, get_same}
use Rattle.loft_line.proofs.IdLemmas.{run_keeps, id_after}

-- ---- one position changes

pub named_now : (f g : Finder) (rs : List Runner) (p : ℕ) (now : Runner) → KeepsOthers p f g → (is_held now.stop ≡ true → may_stand g now.thread.id p ≡ true) → AreNamed f rs → AreNamed g (set rs p now)
named_now f g rs p now keeps here named = λ i r at held.
    dite (ℕ_discrete i p)
    (λ same.
    let is : now ≡ r = get_same rs p now r (ap (slice_get (set rs p now)) (sym same) ∙ at) in
    ap (may_stand g r.thread.id) same
    ∙ ap (λ (q : Runner). may_stand g q.thread.id p) (sym is)
    ∙ here (ap (λ (q : Runner). is_held q.stop) is ∙ held))
    (λ apart. keeps r.thread.id i apart (named i r (sym (get_other rs p i now apart) ∙ at) held))

refuse : (b : Bool) → b ≡ false → b ≡ true → ⊥
refuse true f t = cc
refuse false f t = cc

-- an empty place
pub named_hole : (f g : Finder) (rs : List Runner) (p : ℕ) (hole : Runner) → KeepsOthers p f g → is_held hole.stop ≡ false → AreNamed f rs → AreNamed g (set rs p hole)
named_hole f g rs p hole keeps gone named = named_now f g rs p hole keeps (λ held. absurd (refuse (is_held hole.stop) gone held)) named

-- a thread that has the id of the one that was there
pub named_same : (f : Finder) (rs : List Runner) (p : ℕ) (was now : Runner) → slice_get rs p ≡ Some was → (is_held now.stop ≡ true → (is_held was.stop ≡ true) × (now.thread.id ≡ was.thread.id)) → AreNamed f rs → AreNamed f (set rs p now)
named_same f rs p was now there same named =
    named_now f f rs p now (λ t i apart h. h)
    (λ held.
    let both = same held in
    ap (λ (t : ThreadId). may_stand f t p) both.1 ∙ named p was there both.0)
    named

get_more : (rs : List Runner) (n : Runner) (i : ℕ) (r : Runner) → slice_get (rs ++ n ∷ []) i ≡ Some r → (slice_get rs i ≡ Some r) ⊎ ((i ≡ length rs) × (n ≡ r))
get_more [] n zero r h = inr (refl, cc h)
get_more [] n (suc i) r h = absurd cc
get_more (x ∷ rs) n zero r h = inl h
get_more (x ∷ rs) n (suc i) r h = one (get_more rs n i r h)
  where
    one : (slice_get rs i ≡ Some r) ⊎ ((i ≡ length rs) × (n ≡ r)) → (slice_get rs i ≡ Some r) ⊎ ((suc i ≡ suc (length rs)) × (n ≡ r))
    one (inl e) = inl e
    one (inr e) = inr (ap suc e.0, e.1)

-- one more thread
pub named_more : (f g : Finder) (rs : List Runner) (n : Runner) → KeepsAll f g → may_stand g n.thread.id (length rs) ≡ true → AreNamed f rs → AreNamed g (rs ++ n ∷ [])
named_more f g rs n keeps stands named = λ i r at held. one i r held (get_more rs n i r at)
  where
    one : (i : ℕ) (r : Runner) → is_held r.stop ≡ true → (slice_get rs i ≡ Some r) ⊎ ((i ≡ length rs) × (n ≡ r)) → may_stand g r.thread.id i ≡ true
    one i r held (inl e) = keeps r.thread.id i (named i r e held)
    one i r held (inr e) = ap (may_stand g r.thread.id) e.0 ∙ ap (λ (q : Runner). may_stand g q.thread.id (length rs)) (sym e.1) ∙ stands

-- a thread goes to an empty place
pub named_moved : (f mid g : Finder) (rs : List Runner) (to pos : ℕ) (h r : Runner) → (to ≡ pos → ⊥) → is_held h.stop ≡ false → KeepsAll f mid → may_stand mid r.thread.id to ≡ true → KeepsOthers pos mid g → AreNamed f rs
    → AreNamed g (set (set rs pos h) to r)
named_moved f mid g rs to pos h r apart gone adds stands keeps named =
    named_now g g (set rs pos h) to r (λ t i other x. x) (λ held. keeps r.thread.id to apart stands)
    (named_hole f g rs pos h (λ t i other x. keeps t i other (adds t i x)) gone named)

-- ---- a wait tells nothing of an id

with_id : (w : Option Wait) (r : Runner) → (with_wait w r).thread.id ≡ r.thread.id
with_id None r = refl
with_id (Some w) r = refl

with_held : (w : Option Wait) (r : Runner) → is_held (with_wait w r).stop ≡ is_held r.stop
with_held None r = refl
with_held (Some w) r = refl

pub named_slots : (f : Finder) (rs : List Runner) (ws : List (Option Wait)) → AreNamed f (with_waits rs ws) → AreNamed f rs
named_slots f rs ws named = λ i r at held.
    let w = get_or ws i None in
    sym (ap (λ (t : ThreadId). may_stand f t i) (with_id w r)) ∙ named i (with_wait w r) (with_there rs ws i r at) (with_held w r ∙ held)

pub named_runners : (f : Finder) (rs : List Runner) (ws : List (Option Wait)) → AreNamed f rs → AreNamed f (with_waits rs ws)
named_runners f rs ws named = λ i r at held.
    let inside = slice_get_within (with_waits rs ws) i r at in
    let long = length_with rs ws in
    let it = there_is rs i (omega (arith, inside, long)) in
    let w = get_or ws i None in
    let both : Some (with_wait w it.0) ≡ Some r = sym (with_there rs ws i it.0 it.1) ∙ at in
    let is : with_wait w it.0 ≡ r = cc both in
    ap (λ (q : Runner). may_stand f q.thread.id i) (sym is)
    ∙ ap (λ (t : ThreadId). may_stand f t i) (with_id w it.0)
    ∙ named i it.0 it.1 (sym (with_held w it.0) ∙ ap (λ (q : Runner). is_held q.stop) is ∙ held)

-- the id of the thread at a position that was read
pub read_id : (rs : List Runner) (ws : List (Option Wait)) (p : ℕ) (x r : Runner) → slice_get rs p ≡ Some x → slice_get (with_waits rs ws) p ≡ Some r → r.thread.id ≡ x.thread.id
read_id rs ws p x r there at =
    let w = get_or ws p None in
    let both : Some (with_wait w x) ≡ Some r = sym (with_there rs ws p x there) ∙ at in
    let is : with_wait w x ≡ r = cc both in
    ap (λ (q : Runner). q.thread.id) (sym is) ∙ with_id w x

-- ---- standings

-- held threads that stand alike have one id
pub standing_id : (was now : Runner) → is_held was.stop ≡ true → is_held now.stop ≡ true → standing_if now ≡ standing_if was → now.thread.id ≡ was.thread.id
standing_id was now h k same =
    let one : standing_of now ∷ [] ≡ standing_of was ∷ [] =
    sym (ap (λ (c : Bool). if c then standing_of now ∷ [] else []) k)
    ∙ same
    ∙ ap (λ (c : Bool). if c then standing_of was ∷ [] else []) h in
    let is : standing_of now ≡ standing_of was = cc one in
    ap (λ (s : Standing). s.thread.id) is

-- ---- a run

held_stop : (stop : Stop) → is_held stop ≡ true → stop ≡ Holds
held_stop Holds h = refl
held_stop (Leaves to) h = absurd cc
held_stop (Ends end) h = absurd cc

pub named_run : (x : Prog) (f : Finder) (rs : List Runner) (p : ℕ) (before now : Runner) (a : Around) (left : ℕ) → slice_get rs p ≡ Some before → is_held before.stop ≡ true → linked_of now ≡ runners_after (runner_to None before) (run_of x before.thread a left)
    → AreNamed f rs → AreNamed f (set rs p now)
named_run x f rs p before now a left there was linked named =
    named_same f rs p before now there
    (λ held. (was, id_after (run_of x before.thread a left) before.thread.id (runner_to None before) (runner_to None now) (run_keeps x before.thread a left) (sym linked ∙ ap (λ (s : Stop). linked_after s now) (held_stop now.stop held))))
    named

-- ---- a search

maker_is : (a b : Maker) → same_maker a b ≡ true → a ≡ b
maker_is maker.Source maker.Source h = refl
maker_is maker.Source (maker.Sched n) h = absurd cc
maker_is maker.Source (maker.Client n) h = absurd cc
maker_is (maker.Sched m) maker.Source h = absurd cc
maker_is (maker.Sched m) (maker.Sched n) h = ap (λ (k : ℕ). maker.Sched k) (eqb-true m n h)
maker_is (maker.Sched m) (maker.Client n) h = absurd cc
maker_is (maker.Client m) maker.Source h = absurd cc
maker_is (maker.Client m) (maker.Sched n) h = absurd cc
maker_is (maker.Client m) (maker.Client n) h = ap (λ (k : ℕ). maker.Client k) (eqb-true m n h)

and_left : (a b : Bool) → (a && b) ≡ true → a ≡ true
and_left true b h = refl
and_left false b h = absurd cc

and_right : (a b : Bool) → (a && b) ≡ true → b ≡ true
and_right true b h = h
and_right false b h = absurd cc

same_is : (a b : ThreadId) → same_thread a b ≡ true → a ≡ b
same_is a b h =
    ap (λ (m : Maker). record { maker = m; seq = a.seq }) (maker_is a.maker b.maker (and_left (same_maker a.maker b.maker) (a.seq == b.seq) h))
    ∙ ap (λ (n : ℕ). record { maker = b.maker; seq = n }) (eqb-true a.seq b.seq (and_right (same_maker a.maker b.maker) (a.seq == b.seq) h))

by_contents : (b : Bool) → (b ≡ true → ⊥) → b ≡ false
by_contents true h = absurd (h refl)
by_contents false h = refl

-- where nobody with an id may stand, nobody with it is held
pub not_named : (f : Finder) (rs : List Runner) (t : ThreadId) (i : ℕ) (r : Runner) → AreNamed f rs → slice_get rs i ≡ Some r → may_stand f t i ≡ false → is_named t r ≡ false
not_named f rs t i r named at nobody =
    by_contents (is_named t r) (λ is.
    let same : t ≡ r.thread.id = same_is t r.thread.id (and_right (is_held r.stop) (same_thread t r.thread.id) is) in
    refuse (may_stand f t i) nobody (ap (λ (u : ThreadId). may_stand f u i) same ∙ named i r at (and_left (is_held r.stop) (same_thread t r.thread.id) is)))
