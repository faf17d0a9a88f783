-- A thread closes at its position, and then all that have run.
use Rattle.std.proofs.Common.{Vec, Global, ◌≡◌, ◌≢◌, ℕ, zero, suc, ◌+◌, ◌-◌, ◌<◌, ◌≤◌, ◌==◌, Bool, true, false, List, [], ◌∷◌, ◌++◌, refl, sym, ◌∙◌, ap, subst, arith, Option, Some, None, length, get_or, set, map, append-nil, append_assoc, get_or-set_other}
use Rattle.std.specs.Prelude.{not, ◌&&◌, ◌||◌, filter, nat_lt, MatchOption, if◌then◌else◌, slice_get, slice_set}
use Rattle.std.proofs.lemmas.Bool.{ltb-true, ltb-false}
use Rattle.std.specs.List.{flat_map}
use Rattle.std.proofs.lemmas.List.{length-set, map-set}
use Rattle.std.proofs.lemmas.List.Concat.{flat_map-cons}
use mathlib.Core.Logic.{dite}
use native.Mathlib.Decide.{ℕ_discrete}
use Rattle.loft_base.specs.declared.ids.ThreadId.{ThreadId}
use Rattle.loft_orders.specs.declared.note.Standing.{Standing}
use Rattle.loft_orders.specs.declared.order.End.{End}
use Rattle.loft_orders.specs.declared.order.Order.TheVariants.{Arrive}
use Rattle.loft_orders.specs.declared.order.Sent.{Sent}
use Rattle.loft_orders.specs.declared.order.Stop.{Stop}
use Rattle.loft_orders.specs.declared.order.Stop.TheVariants.{Holds, Leaves, Ends}
use Rattle.loft_orders.specs.declared.order.To.{To}
use Rattle.loft_orders.specs.declared.thread.Thread.{Thread}
use Rattle.loft_orders.specs.declared.thread.Wait.{Wait}
use Rattle.loft_sense.specs.Instant.{runner_of, stays, has_run, leaver, leavers}
use Rattle.loft_sense.specs.Passes.{Runner as Linked}
use Rattle.loft_passes.specs.declared.runner.Runner.{Runner}
use Rattle.loft_passes.specs.View.{runner_to, linked_after, linked_of, standing_of, is_held}
use Rattle.loft_ready.specs.Entered.{wait_of}
use Rattle.loft_waits.specs.Told.{Told}
use Rattle.loft_finder.specs.declared.finder.Finder.{Finder}
use Rattle.loft_finder.specs.Finder.{may_stand, KeepsOthers}
use Rattle.loft_line.specs.declared.line.Line.{Line}
use Rattle.loft_line.specs.Line.{with_wait, with_waits, runners_in, standing_if, standings_in, Rests, is_marked, one_if, count_present, AreMarked, AreNamed, IsLine, stands_if, leaves_if, IsBegun, IsEmptied, HasBegunAt, HasClosedAt}
use Rattle.loft_line.proofs.ListLemmas.{length_with, with_there}
use Rattle.loft_line.proofs.LineLemmas.{get_other, get_same}
use Rattle.loft_line.proofs.NameLemmas.{named_now, standing_id}
use Rattle.loft_line.proofs.BatchLemmas.{begun_held, begun_standing, hole_waits, hole_rests, hole_standing}
use Rattle.loft_line.proofs.CloseLemmas.{takes_first, keeps_same, nothing_left}

-- ---- what follows from how a thread stands

stands_as : Bool → Standing → List Standing
stands_as held s = if held then s ∷ [] else []

same_standing : (a b : Runner) → is_held a.stop ≡ is_held b.stop → standing_of a ≡ standing_of b → standing_if a ≡ standing_if b
same_standing a b h s = ap (λ (c : Bool). if c then standing_of a ∷ [] else []) h ∙ ap (λ (q : Standing). if is_held b.stop then q ∷ [] else []) s

same_wait : (a b : Runner) → is_held a.stop ≡ is_held b.stop → standing_of a ≡ standing_of b → wait_of a ≡ wait_of b
same_wait a b h s =
    ap (λ (c : Bool). if c && not a.suspended then Some a.thread.wait else None) h
    ∙ ap (λ (q : Standing). if is_held b.stop && not q.suspended then Some q.thread.wait else None) s

with_held : (w : Option Wait) (r : Runner) → is_held (with_wait w r).stop ≡ is_held r.stop
with_held None r = refl
with_held (Some w) r = refl

with_same : (w : Option Wait) (a b : Runner) → standing_of a ≡ standing_of b → standing_of (with_wait w a) ≡ standing_of (with_wait w b)
with_same None a b s = s
with_same (Some w) a b s = ap (λ (q : Standing). record { thread = record q.thread { wait = w }; suspended = q.suspended }) s

waits_one : (stop : Stop) (r : Runner) (w : Wait) (budget : ℕ) → r.stop ≡ stop → Rests budget r → Rests budget (with_wait (Some w) r)
waits_one Holds r w budget s rests =
    let was : linked_after Holds r ≡ map (runner_of budget) (standing_of r ∷ []) =
    ap (λ (x : Stop). linked_after x r) (sym s) ∙ rests ∙ ap (λ (x : Stop). map (runner_of budget) (if is_held x then standing_of r ∷ [] else [])) s in
    let same : runner_to None r ≡ runner_of budget (standing_of r) = cc was in
    let now : runner_to None (with_wait (Some w) r) ≡ runner_of budget (standing_of (with_wait (Some w) r)) = ap (λ (q : Linked). record q { thread = record q.thread { wait = w } }) same in
    ap (λ (x : Stop). linked_after x (with_wait (Some w) r)) s
    ∙ ap (λ (q : Linked). q ∷ []) now
    ∙ sym (ap (λ (x : Stop). map (runner_of budget) (if is_held x then standing_of (with_wait (Some w) r) ∷ [] else [])) s)
waits_one (Leaves to) r w budget s rests =
    let was : linked_after (Leaves to) r ≡ [] =
    ap (λ (x : Stop). linked_after x r) (sym s) ∙ rests ∙ ap (λ (x : Stop). map (runner_of budget) (if is_held x then standing_of r ∷ [] else [])) s in
    absurd cc
waits_one (Ends end) r w budget s rests =
    ap (λ (x : Stop). linked_after x (with_wait (Some w) r)) s ∙ sym (ap (λ (x : Stop). map (runner_of budget) (if is_held x then standing_of (with_wait (Some w) r) ∷ [] else [])) s)

pub wait_rests : (w : Option Wait) (r : Runner) (budget : ℕ) → Rests budget r → Rests budget (with_wait w r)
wait_rests None r budget rests = rests
wait_rests (Some w) r budget rests = waits_one r.stop r w budget refl rests

head_is : (n : Runner) (held : Bool) (s : Standing) → is_held n.stop ≡ held → held ≡ true → standing_if n ≡ s ∷ [] → standing_of n ≡ s
head_is n held s h t is =
    let one : standing_of n ∷ [] ≡ s ∷ [] = sym (ap (λ (c : Bool). if c then standing_of n ∷ [] else []) (h ∙ t)) ∙ is in
    cc one

-- a held thread begins anew, and its wait stays where it is kept
pub begun_with : (w : Option Wait) (x n : Runner) (budget : ℕ) → linked_of n ≡ runner_of budget (standing_of x) ∷ [] → is_held (with_wait w x).stop ≡ true → IsBegun budget (with_wait w x) (with_wait w n)
begun_with w x n budget begun held =
    let stop : is_held n.stop ≡ true = begun_held n budget (standing_of x) begun in
    let is : standing_if n ≡ standing_of x ∷ [] = begun_standing n budget (standing_of x) begun in
    let stands : standing_of n ≡ standing_of x = head_is n true (standing_of x) stop refl is in
    let both : is_held (with_wait w n).stop ≡ is_held (with_wait w x).stop = with_held w n ∙ stop ∙ sym held in
    let same : standing_of (with_wait w n) ≡ standing_of (with_wait w x) = with_same w n x stands in
    record {
      rests = wait_rests w n budget (begun ∙ sym (ap (map (runner_of budget)) is));
      stop = with_held w n ∙ stop;
      standing = same_standing (with_wait w n) (with_wait w x) both same;
      waits = same_wait (with_wait w n) (with_wait w x) both same;
    }

-- a position has another thread, and the wait that it had
pub with_slot : (rs : List Runner) (ws : List (Option Wait)) (p : ℕ) (r : Runner) → with_waits (set rs p r) ws ≡ set (with_waits rs ws) p (with_wait (get_or ws p None) r)
with_slot [] ws p r = refl
with_slot (x ∷ rs) [] zero r = refl
with_slot (x ∷ rs) [] (suc p) r = refl
with_slot (x ∷ rs) (w ∷ ws) zero r = refl
with_slot (x ∷ rs) (w ∷ ws) (suc p) r = ap (λ (l : List Runner). with_wait w x ∷ l) (with_slot rs ws p r)

-- ---- what a thread leaves, by how it stopped

held_stop : (stop : Stop) → is_held stop ≡ true → stop ≡ Holds
held_stop Holds h = refl
held_stop (Leaves to) h = absurd cc
held_stop (Ends end) h = absurd cc

ran_one : (b : Bool) (q : Linked) → map (λ (x : Linked). x.thread) (if b then q ∷ [] else []) ≡ (if b then q.thread ∷ [] else [])
ran_one true q = refl
ran_one false q = refl

pub stands_held : (r : Runner) (ran : Bool) → is_held r.stop ≡ true → nat_lt 0 r.runs ≡ ran → stands_if r ≡ (if ran then r.thread ∷ [] else [])
stands_held r ran h is =
    ap (λ (x : Stop). map (λ (q : Linked). q.thread) (filter has_run (filter stays (linked_after x r)))) (held_stop r.stop h)
    ∙ ran_one (nat_lt 0 r.runs) (runner_to None r)
    ∙ ap (λ (b : Bool). if b then r.thread ∷ [] else []) is

pub stands_gone : (r : Runner) (stop : Stop) → r.stop ≡ stop → is_held stop ≡ false → stands_if r ≡ []
stands_gone r Holds s h = absurd cc
stands_gone r (Leaves to) s h = ap (λ (x : Stop). map (λ (q : Linked). q.thread) (filter has_run (filter stays (linked_after x r)))) s
stands_gone r (Ends end) s h = ap (λ (x : Stop). map (λ (q : Linked). q.thread) (filter has_run (filter stays (linked_after x r)))) s

abbrev leaves_of : Linked → List Sent
leaves_of r = leaver r.thread r.leaving

pub leaves_held : (r : Runner) → is_held r.stop ≡ true → leaves_if r ≡ []
leaves_held r h = ap (λ (x : Stop). leavers (linked_after x r)) (held_stop r.stop h) ∙ flat_map-cons leaves_of (runner_to None r) []

pub leaves_to : (r : Runner) (to : To) → r.stop ≡ Leaves to → leaves_if r ≡ record { to = to; order = Arrive r.thread } ∷ []
leaves_to r to s = ap (λ (x : Stop). leavers (linked_after x r)) s ∙ flat_map-cons leaves_of (runner_to (Some to) r) []

pub leaves_ended : (r : Runner) (end : End) → r.stop ≡ Ends end → leaves_if r ≡ []
leaves_ended r end s = ap (λ (x : Stop). leavers (linked_after x r)) s

rest_stands : (budget : ℕ) (s : List Standing) → map (λ (x : Linked). x.thread) (filter has_run (filter stays (map (runner_of budget) s))) ≡ []
rest_stands budget [] = refl
rest_stands budget (s ∷ ss) = rest_stands budget ss

rest_leaves : (budget : ℕ) (s : List Standing) → leavers (map (runner_of budget) s) ≡ []
rest_leaves budget [] = refl
rest_leaves budget (s ∷ ss) = flat_map-cons leaves_of (runner_of budget s) (map (runner_of budget) ss) ∙ rest_leaves budget ss

-- one that hasn't run leaves nothing
pub rests_stands : (budget : ℕ) (r : Runner) → Rests budget r → stands_if r ≡ []
rests_stands budget r rests = ap (λ (l : List Linked). map (λ (q : Linked). q.thread) (filter has_run (filter stays l))) rests ∙ rest_stands budget (standing_if r)

pub rests_leaves : (budget : ℕ) (r : Runner) → Rests budget r → leaves_if r ≡ []
rests_leaves budget r rests = ap leavers rests ∙ rest_leaves budget (standing_if r)

-- ---- one mark less

present_closed : (rs : List Runner) (ran : List ℕ) (p : ℕ) (was now : Runner) → length ran ≡ length rs → slice_get rs p ≡ Some was → is_held now.stop ≡ is_held was.stop → is_marked ran p ≡ true
    → count_present (set rs p now) (set ran p 0) + 1 ≡ count_present rs ran + one_if (is_held was.stop)
present_closed [] ran p was now same h stop marked = absurd cc
present_closed (x ∷ rs) [] p was now same h stop marked = absurd (omega (arith, same))
present_closed (x ∷ rs) (b ∷ ran) zero was now same h stop marked =
    let before : one_if (is_held x.stop || b == 1) ≡ 1 = ap (λ (c : Bool). one_if (is_held x.stop || c)) marked ∙ or_true (is_held x.stop) in
    let after : one_if (is_held now.stop || 0 == 1) ≡ one_if (is_held was.stop) = or_none (is_held now.stop) ∙ ap one_if stop in
    omega (arith, before, after)
  where
    or_true : (a : Bool) → one_if (a || true) ≡ 1
    or_true true = refl
    or_true false = refl

    or_none : (a : Bool) → one_if (a || 0 == 1) ≡ one_if a
    or_none true = refl
    or_none false = refl
present_closed (x ∷ rs) (b ∷ ran) (suc p) was now same h stop marked = let e = present_closed rs ran p was now (omega (arith, same)) h stop marked in omega (arith, e)

unmarked_here : (ran : List ℕ) (p : ℕ) → is_marked (set ran p 0) p ≡ false
unmarked_here [] p = refl
unmarked_here (b ∷ ran) zero = refl
unmarked_here (b ∷ ran) (suc p) = unmarked_here ran p

unmarked_other : (ran : List ℕ) (p i : ℕ) → i ≢ p → is_marked (set ran p 0) i ≡ is_marked ran i
unmarked_other ran p i apart = ap (λ (n : ℕ). n == 1) (get_or-set_other ran p i 0 0 apart)

marked_closed : (budget : ℕ) (rs : List Runner) (ran : List ℕ) (p : ℕ) (now : Runner) → Rests budget now → AreMarked budget rs ran → AreMarked budget (set rs p now) (set ran p 0)
marked_closed budget rs ran p now rests marked = λ i r h unmarked.
    dite (ℕ_discrete i p)
    (λ same. subst (Rests budget) (get_same rs p now r (ap (slice_get (set rs p now)) (sym same) ∙ h)) rests)
    (λ apart. marked i r (sym (get_other rs p i now apart) ∙ h) (sym (unmarked_other ran p i apart) ∙ unmarked))

set_same : (ws : List (Option Wait)) (p : ℕ) (rs : List Runner) (was : Runner) → slice_get rs p ≡ Some was → set (map wait_of rs) p (wait_of was) ≡ map wait_of rs
set_same ws p [] was h = absurd cc
set_same ws zero (x ∷ rs) was h = let is : x ≡ was = cc h in ap (λ (r : Runner). wait_of r ∷ map wait_of rs) (sym is)
set_same ws (suc p) (x ∷ rs) was h = ap (λ (l : List (Option Wait)). wait_of x ∷ l) (set_same ws p rs was h)

-- the line stays one
pub closed_line : (p : ℕ) (old new : Line) → IsLine old → is_marked old.ran p ≡ true → HasClosedAt p old new → IsLine new
closed_line p old new line marked d = record {
  waits =
      ap (λ (t : Told). t.waits) d.told ∙ line.waits
      ∙ sym (ap (map wait_of) d.runners ∙ map-set wait_of (runners_in old) p d.now ∙ ap (set (map wait_of (runners_in old)) p) d.waits ∙ set_same [] p (runners_in old) d.was d.there);
  many = ap (λ (l : List ℕ). length l) d.ran ∙ length-set old.ran p 0 ∙ line.many ∙ sym d.long;
  marked =
      subst (λ (b : ℕ). AreMarked b (runners_in new) new.ran) (sym d.budget)
      (subst (λ (l : List ℕ). AreMarked old.budget (runners_in new) l) (sym d.ran)
      (subst (λ (l : List Runner). AreMarked old.budget l (set old.ran p 0)) (sym d.runners) (marked_closed old.budget (runners_in old) old.ran p d.now d.rests line.marked)));
  held =
      let same = line.many ∙ sym (length_with old.slots.items old.waits.waits) in
      let count = present_closed (runners_in old) old.ran p d.was d.now same d.there d.stop marked in
      let is = line.held in
      let held = d.held in
      let now : count_present (runners_in new) new.ran ≡ count_present (set (runners_in old) p d.now) (set old.ran p 0) =
      ap (λ (l : List Runner). count_present l new.ran) d.runners ∙ ap (count_present (set (runners_in old) p d.now)) d.ran in
      omega (arith, count, is, held, now);
  named =
      subst (AreNamed new.finder) (sym d.runners)
      (named_now old.finder new.finder (runners_in old) p d.now d.finder
      (λ held.
      let was : is_held d.was.stop ≡ true = sym d.stop ∙ held in
      ap (λ (f : Finder). may_stand f d.now.thread.id p) (d.stays was)
      ∙ ap (λ (t : ThreadId). may_stand old.finder t p) (standing_id d.was d.now was held d.standing)
      ∙ line.named p d.was d.there was)
      line.named);
}

-- ---- all that are marked

-- the next mark, if there is one, and none before it
abbrev pub IfMark : List ℕ → Option ℕ → Type 0
IfMark ran None = (i : ℕ) → is_marked ran i ≡ false
IfMark ran (Some q) = (q < length ran) × (is_marked ran q ≡ true) × ((i : ℕ) → i < q → is_marked ran i ≡ false)

-- whoever stands before the next mark leaves nothing
pub before_rest : (l : Line) (q : ℕ) → IsLine l → ((i : ℕ) → i < q → is_marked l.ran i ≡ false) → (i : ℕ) (r : Runner) → i < q → slice_get (runners_in l) i ≡ Some r → Rests l.budget r
before_rest l q line none i r lt h = line.marked i r h (none i lt)

pub next_stands : (p : ℕ) (old new : Line) (acc now : List Thread) → IsLine old → ((i : ℕ) → i < p → is_marked old.ran i ≡ false) → (d : HasClosedAt p old new) → now ≡ acc ++ stands_if d.was
    → now ++ flat_map stands_if (runners_in new) ≡ acc ++ flat_map stands_if (runners_in old)
next_stands p old new acc now line none d is =
    ap (λ (l : List Thread). l ++ flat_map stands_if (runners_in new)) is
    ∙ append_assoc acc (stands_if d.was) (flat_map stands_if (runners_in new))
    ∙ ap (λ (l : List Runner). acc ++ (stands_if d.was ++ flat_map stands_if l)) d.runners
    ∙ ap (λ (l : List Thread). acc ++ l)
    (sym (takes_first stands_if (runners_in old) p d.was d.now (λ i q lt h. rests_stands old.budget q (before_rest old p line none i q lt h)) d.there (rests_stands old.budget d.now d.rests)))

pub next_leaves : (p : ℕ) (old new : Line) (acc now : List Sent) → IsLine old → ((i : ℕ) → i < p → is_marked old.ran i ≡ false) → (d : HasClosedAt p old new) → now ≡ acc ++ leaves_if d.was
    → now ++ flat_map leaves_if (runners_in new) ≡ acc ++ flat_map leaves_if (runners_in old)
next_leaves p old new acc now line none d is =
    ap (λ (l : List Sent). l ++ flat_map leaves_if (runners_in new)) is
    ∙ append_assoc acc (leaves_if d.was) (flat_map leaves_if (runners_in new))
    ∙ ap (λ (l : List Runner). acc ++ (leaves_if d.was ++ flat_map leaves_if l)) d.runners
    ∙ ap (λ (l : List Sent). acc ++ l)
    (sym (takes_first leaves_if (runners_in old) p d.was d.now (λ i q lt h. rests_leaves old.budget q (before_rest old p line none i q lt h)) d.there (rests_leaves old.budget d.now d.rests)))

pub next_standings : (p : ℕ) (old new : Line) → (d : HasClosedAt p old new) → standings_in (runners_in new) ≡ standings_in (runners_in old)
next_standings p old new d = ap standings_in d.runners ∙ keeps_same standing_if (runners_in old) p d.was d.now d.there d.standing

pub next_unmarked : (p : ℕ) (old new : Line) → ((i : ℕ) → i < p → is_marked old.ran i ≡ false) → HasClosedAt p old new → (i : ℕ) → i < p + 1 → is_marked new.ran i ≡ false
next_unmarked p old new none d i lt =
    ap (λ (l : List ℕ). is_marked l i) d.ran
    ∙ dite (ℕ_discrete i p)
    (λ same. ap (is_marked (set old.ran p 0)) same ∙ unmarked_here old.ran p)
    (λ apart. unmarked_other old.ran p i apart ∙ none i (omega (arith, lt, apart)))

pub last_stands : (l : Line) (acc : List Thread) → IsLine l → ((i : ℕ) → is_marked l.ran i ≡ false) → acc ++ flat_map stands_if (runners_in l) ≡ acc
last_stands l acc line none = ap (λ (x : List Thread). acc ++ x) (nothing_left stands_if (runners_in l) (λ i q h. rests_stands l.budget q (line.marked i q h (none i)))) ∙ append-nil acc

pub last_leaves : (l : Line) (acc : List Sent) → IsLine l → ((i : ℕ) → is_marked l.ran i ≡ false) → acc ++ flat_map leaves_if (runners_in l) ≡ acc
last_leaves l acc line none = ap (λ (x : List Sent). acc ++ x) (nothing_left leaves_if (runners_in l) (λ i q h. rests_leaves l.budget q (line.marked i q h (none i)))) ∙ append-nil acc

abbrev pub left_from : ℕ → Option ℕ → ℕ
left_from n None = 0
left_from n (Some q) = n - q

-- what `next` of the flags says, from the first mark on
pub mark_from : (ran : List ℕ) (from : ℕ) (o : Option ℕ) → ((i : ℕ) → i < from → is_marked ran i ≡ false)
    → MatchOption o ((i : ℕ) → from ≤ i → is_marked ran i ≡ false) (λ q. (from ≤ q) × (q < length ran) × (is_marked ran q ≡ true) × ((i : ℕ) → from ≤ i → i < q → is_marked ran i ≡ false)) → IfMark ran o
mark_from ran from None below found = λ i. one i (nat_lt i from) refl
  where
    one : (i : ℕ) (b : Bool) → nat_lt i from ≡ b → is_marked ran i ≡ false
    one i true lt = below i (ltb-true i from lt)
    one i false ge = found i (ltb-false i from ge)
mark_from ran from (Some q) below found = (found.1, found.2, λ i lt. one i (nat_lt i from) refl lt)
  where
    one : (i : ℕ) (b : Bool) → nat_lt i from ≡ b → i < q → is_marked ran i ≡ false
    one i true lt h = below i (ltb-true i from lt)
    one i false ge h = found.3 i (ltb-false i from ge) h

pub less_left : (n p from : ℕ) (o : Option ℕ) (ran : List ℕ) → p < n → from ≡ p + 1 → IfMark ran o
    → MatchOption o ((i : ℕ) → from ≤ i → is_marked ran i ≡ false) (λ q. (from ≤ q) × (q < length ran) × (is_marked ran q ≡ true) × ((i : ℕ) → from ≤ i → i < q → is_marked ran i ≡ false)) → left_from n o < n - p
less_left n p from None ran h is mark found = omega (arith, h)
less_left n p from (Some q) ran h is mark found = let le : from ≤ q = found.0 in omega (arith, h, is, le)

-- ---- a position, from the thread in memory

pub logical_is : (rs : List Runner) (ws : List (Option Wait)) (p : ℕ) (x r : Runner) → slice_get rs p ≡ Some x → slice_get (with_waits rs ws) p ≡ Some r → with_wait (get_or ws p None) x ≡ r
logical_is rs ws p x r there h = let e : Some (with_wait (get_or ws p None) x) ≡ Some r = sym (with_there rs ws p x there) ∙ h in cc e

pub begun_there : (rs : List Runner) (ws : List (Option Wait)) (p : ℕ) (x n : Runner) (budget : ℕ) → slice_get rs p ≡ Some x → linked_of n ≡ runner_of budget (standing_of x) ∷ []
    → (r : Runner) → slice_get (with_waits rs ws) p ≡ Some r → is_held r.stop ≡ true → IsBegun budget r (with_wait (get_or ws p None) n)
begun_there rs ws p x n budget there begun r h held =
    let is : with_wait (get_or ws p None) x ≡ r = logical_is rs ws p x r there h in
    subst (λ (q : Runner). IsBegun budget q (with_wait (get_or ws p None) n)) is
    (begun_with (get_or ws p None) x n budget begun (ap (λ (q : Runner). is_held q.stop) is ∙ held))

with_stop : (w : Option Wait) (r : Runner) → (with_wait w r).stop ≡ r.stop
with_stop None r = refl
with_stop (Some w) r = refl

pub logical_stop : (rs : List Runner) (ws : List (Option Wait)) (p : ℕ) (x r : Runner) → slice_get rs p ≡ Some x → slice_get (with_waits rs ws) p ≡ Some r → r.stop ≡ x.stop
logical_stop rs ws p x r there h = sym (ap (λ (q : Runner). q.stop) (logical_is rs ws p x r there h)) ∙ with_stop (get_or ws p None) x

pub closed_held : (p : ℕ) (l mid new : Line) (x : Runner) → slice_get l.slots.items p ≡ Some x → x.stop ≡ Holds → mid.slots ≡ l.slots → mid.waits ≡ l.waits → mid.ran ≡ slice_set l.ran p 0 → mid.held ≡ l.held → mid.budget ≡ l.budget → mid.finder ≡ l.finder
    → HasBegunAt p mid new → HasClosedAt p l new
closed_held p l mid new x there holds slots waits ran held budget finder b =
    let w = get_or l.waits.waits p None in
    let was = with_wait w x in
    let same : runners_in mid ≡ runners_in l = ap (λ (s : Vec Runner Global). with_waits s.items mid.waits.waits) slots ∙ ap (λ (t : Told). with_waits l.slots.items t.waits) waits in
    let at : slice_get (runners_in l) p ≡ Some was = with_there l.slots.items l.waits.waits p x there in
    let is_held_was : is_held was.stop ≡ true = ap is_held (with_stop w x ∙ holds) in
    let is = b.runners was (ap (λ (q : List Runner). slice_get q p) same ∙ at) is_held_was in
    record {
      was = was;
      there = at;
      now = b.now;
      runners = ap (λ (t : Told). with_waits new.slots.items t.waits) b.told ∙ b.slots ∙ ap (λ (q : List Runner). set q p b.now) same;
      rests = subst (λ (k : ℕ). Rests k b.now) budget is.rests;
      stop = is.stop ∙ sym is_held_was;
      standing = is.standing;
      waits = is.waits;
      long = b.long ∙ ap (λ (s : Vec Runner Global). length s.items) slots;
      ran = b.ran ∙ ran;
      told = b.told ∙ waits;
      held = ap (λ (k : ℕ). k + 1) (b.held ∙ held) ∙ sym (ap (λ (c : Bool). l.held + one_if c) is_held_was);
      budget = b.budget ∙ budget;
      finder = subst (KeepsOthers p l.finder) (sym (b.finder ∙ finder)) (λ t i apart h. h);
      stays = λ h. b.finder ∙ finder;
    }

wait_at_map : (rs : List Runner) (p : ℕ) (r : Runner) → slice_get rs p ≡ Some r → get_or (map wait_of rs) p None ≡ wait_of r
wait_at_map [] p r h = absurd cc
wait_at_map (x ∷ rs) zero r h = let is : x ≡ r = cc h in ap wait_of is
wait_at_map (x ∷ rs) (suc p) r h = wait_at_map rs p r h

-- one that isn't held has no wait that is kept
none_kept : (l : Line) (p : ℕ) (x : Runner) → IsLine l → slice_get l.slots.items p ≡ Some x → is_held x.stop ≡ false → get_or l.waits.waits p None ≡ None
none_kept l p x line there gone =
    let was = with_wait (get_or l.waits.waits p None) x in
    ap (λ (ws : List (Option Wait)). get_or ws p None) line.waits
    ∙ wait_at_map (runners_in l) p was (with_there l.slots.items l.waits.waits p x there)
    ∙ hole_waits was (ap is_held (with_stop (get_or l.waits.waits p None) x) ∙ gone)

pub gone_thread : (l : Line) (p : ℕ) (x r : Runner) → IsLine l → slice_get l.slots.items p ≡ Some x → is_held x.stop ≡ false → slice_get (runners_in l) p ≡ Some r → r.thread ≡ x.thread
gone_thread l p x r line there gone h =
    sym (ap (λ (q : Runner). q.thread) (logical_is l.slots.items l.waits.waits p x r there h)) ∙ ap (λ (w : Option Wait). (with_wait w x).thread) (none_kept l p x line there gone)

gone_held : (b : Bool) → b ≡ false → b ≡ true → ⊥
gone_held true f t = cc
gone_held false f t = cc

pub closed_gone : (p : ℕ) (l new : Line) (x : Runner) → IsLine l → slice_get l.slots.items p ≡ Some x → is_held x.stop ≡ false → (e : IsEmptied p l.slots.items new.slots.items) → new.waits ≡ l.waits → new.ran ≡ slice_set l.ran p 0
    → new.held + 1 ≡ l.held → new.budget ≡ l.budget → KeepsOthers p l.finder new.finder → HasClosedAt p l new
closed_gone p l new x line there gone e waits ran held budget finder =
    let w = get_or l.waits.waits p None in
    let was = with_wait w x in
    let none : w ≡ None = none_kept l p x line there gone in
    let gone_was : is_held was.stop ≡ false = ap is_held (with_stop w x) ∙ gone in
    record {
      was = was;
      there = with_there l.slots.items l.waits.waits p x there;
      now = e.hole;
      runners =
          ap (λ (t : Told). with_waits new.slots.items t.waits) waits
          ∙ ap (λ (s : List Runner). with_waits s l.waits.waits) e.slots
          ∙ with_slot l.slots.items l.waits.waits p e.hole
          ∙ ap (λ (v : Option Wait). set (runners_in l) p (with_wait v e.hole)) none;
      rests = hole_rests l.budget e.hole e.gone e.nobody;
      stop = e.gone ∙ sym gone_was;
      standing = hole_standing e.hole e.gone ∙ sym (hole_standing was gone_was);
      waits = hole_waits e.hole e.gone ∙ sym (hole_waits was gone_was);
      long = ap (λ (s : List Runner). length s) e.slots ∙ length-set l.slots.items p e.hole;
      ran = ran;
      told = waits;
      held = let nothing : one_if (is_held was.stop) ≡ 0 = ap one_if gone_was in omega (arith, held, nothing);
      budget = budget;
      finder = finder;
      stays = λ h. absurd (gone_held (is_held was.stop) gone_was h);
    }

pub some_marked : (rs : List Runner) (ran : List ℕ) (p : ℕ) → length ran ≡ length rs → p < length ran → is_marked ran p ≡ true → 1 ≤ count_present rs ran
some_marked rs [] p same within h = absurd (omega arith)
some_marked [] (b ∷ ran) p same within h = absurd (omega (arith, same))
some_marked (x ∷ rs) (b ∷ ran) zero same within h =
    let one : one_if (is_held x.stop || b == 1) ≡ 1 = ap (λ (c : Bool). one_if (is_held x.stop || c)) h ∙ or_true (is_held x.stop) in
    omega (arith, one)
  where
    or_true : (a : Bool) → one_if (a || true) ≡ 1
    or_true true = refl
    or_true false = refl
some_marked (x ∷ rs) (b ∷ ran) (suc p) same within h = let rest = some_marked rs ran p (omega (arith, same)) (omega arith) h in omega (arith, rest)

pub many_held : (l : Line) (p : ℕ) → IsLine l → p < length l.ran → is_marked l.ran p ≡ true → 1 ≤ l.held
many_held l p line within marked =
    let one = some_marked (runners_in l) l.ran p (line.many ∙ sym (length_with l.slots.items l.waits.waits)) within marked in
    let is = line.held in
    omega (arith, one, is)

with_runs : (w : Option Wait) (r : Runner) → (with_wait w r).runs ≡ r.runs
with_runs None r = refl
with_runs (Some w) r = refl

pub logical_runs : (rs : List Runner) (ws : List (Option Wait)) (p : ℕ) (x r : Runner) → slice_get rs p ≡ Some x → slice_get (with_waits rs ws) p ≡ Some r → r.runs ≡ x.runs
logical_runs rs ws p x r there h = sym (ap (λ (q : Runner). q.runs) (logical_is rs ws p x r there h)) ∙ with_runs (get_or ws p None) x

pub positive : (n : ℕ) → 0 < n → nat_lt 0 n ≡ true
positive n h = one (nat_lt 0 n) refl
  where
    one : (b : Bool) → nat_lt 0 n ≡ b → b ≡ true
    one true is = refl
    one false is = let le : n ≤ 0 = ltb-false 0 n is in absurd (omega (arith, h, le))
