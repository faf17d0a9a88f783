-- Threads that are linked, stopped and suspended, in a line in which nobody has run.
use Rattle.std.proofs.Common.{◌≡◌, ℕ, ◌+◌, ◌<◌, ◌≤◌, ◌==◌, Bool, true, false, List, [], ◌∷◌, ◌++◌, refl, sym, ◌∙◌, ap, arith, Option, Some, None, length, get_or, set, map}
use Rattle.std.specs.Prelude.{not, ◌&&◌, ◌||◌, if◌then◌else◌, slice_get, slice_set}
use Rattle.std.proofs.lemmas.List.{set-set}
use Rattle.std.proofs.lemmas.List.Concat.{flat_map-cons}
use Rattle.std.proofs.lemmas.Grind.{flat_map-append}
use Rattle.loft_base.specs.declared.ids.ThreadId.{ThreadId}
use Rattle.loft_orders.specs.declared.note.Standing.{Standing}
use Rattle.loft_orders.specs.declared.order.Stop.{Stop}
use Rattle.loft_orders.specs.declared.order.Stop.TheVariants.{Holds, Leaves, Ends}
use Rattle.loft_orders.specs.declared.thread.Thread.{Thread}
use Rattle.loft_orders.specs.declared.thread.Wait.{Wait}
use Rattle.loft_sense.specs.Instant.{runner_of}
use Rattle.loft_sense.specs.Passes.{Runner as Linked}
use Rattle.loft_passes.specs.declared.runner.Runner.{Runner}
use Rattle.loft_passes.specs.View.{runner_to, linked_after, linked_of, standing_of, is_held}
use Rattle.loft_ready.specs.Entered.{wait_of}
use Rattle.loft_line.specs.Line.{with_wait, with_waits, standing_if, standings_in, Rests, is_marked, one_if, count_present, is_named, IsFirstAt, IsEmptied}
use Rattle.loft_line.proofs.ListLemmas.{there_is, with_set}
use Rattle.loft_line.proofs.LineLemmas.{present_now}

-- ---- a thread that is begun

begun_one : (stop : Stop) (n : Runner) (b : ℕ) (s : Standing) → linked_after stop n ≡ runner_of b s ∷ [] → (is_held stop ≡ true) × (standing_of n ≡ s)
begun_one Holds n b s h =
    let same : runner_to None n ≡ runner_of b s = cc h in
    (refl, ap (λ (t : Thread). (record { thread = t; suspended = n.suspended })) (ap (λ (r : Linked). r.thread) same) ∙ ap (λ (u : Bool). (record { thread = s.thread; suspended = u })) (ap (λ (r : Linked). r.suspended) same))
begun_one (Leaves to) n b s h =
    let same : runner_to (Some to) n ≡ runner_of b s = cc h in
    let no : Some to ≡ None = ap (λ (r : Linked). r.leaving) same in
    absurd cc
begun_one (Ends end) n b s h = absurd cc

pub begun_held : (n : Runner) (b : ℕ) (s : Standing) → linked_of n ≡ runner_of b s ∷ [] → is_held n.stop ≡ true
begun_held n b s h = (begun_one n.stop n b s h).0

pub held_standing : (r : Runner) → is_held r.stop ≡ true → standing_if r ≡ standing_of r ∷ []
held_standing r h = ap (λ (b : Bool). if b then standing_of r ∷ [] else []) h

pub begun_standing : (n : Runner) (b : ℕ) (s : Standing) → linked_of n ≡ runner_of b s ∷ [] → standing_if n ≡ s ∷ []
begun_standing n b s h = let it = begun_one n.stop n b s h in held_standing n it.0 ∙ ap (λ (x : Standing). x ∷ []) it.1

pub begun_rests : (n : Runner) (b : ℕ) (s : Standing) → linked_of n ≡ runner_of b s ∷ [] → Rests b n
begun_rests n b s h = h ∙ sym (ap (map (runner_of b)) (begun_standing n b s h))

pub one_more : (rs : List Runner) (n : Runner) (b : ℕ) (s : Standing) → linked_of n ≡ runner_of b s ∷ [] → standings_in (rs ++ n ∷ []) ≡ standings_in rs ++ s ∷ []
one_more rs n b s h =
    flat_map-append standing_if rs (n ∷ [])
    ∙ ap (λ (l : List Standing). standings_in rs ++ l) (flat_map-cons standing_if n [] ∙ ap (λ (l : List Standing). l ++ []) (begun_standing n b s h))

few_present : (rs : List Runner) (ran : List ℕ) → count_present rs ran ≤ length rs
few_present [] ran = omega arith
few_present (r ∷ rs) [] = omega arith
few_present (r ∷ rs) (b ∷ ran) = let one = at_most (is_held r.stop || b == 1) in let rest = few_present rs ran in omega (arith, one, rest)
  where
    at_most : (b : Bool) → one_if b ≤ 1
    at_most true = omega arith
    at_most false = omega arith

pub few_held : (rs : List Runner) (ran : List ℕ) (held n : ℕ) → held ≡ count_present rs ran → length rs ≡ n → held ≤ n
few_held rs ran held n is long = let few = few_present rs ran in omega (arith, is, long, few)

-- ---- a place that is emptied

pub emptied : (s0 s1 s2 : List Runner) (w0 w1 : List (Option Wait)) (p : ℕ) → p < length s0 → length w0 ≡ length s0 → ((r : Runner) → slice_get s0 p ≡ Some r → s1 ≡ slice_set s0 p (with_wait (get_or w0 p None) r)) → w1 ≡ slice_set w0 p None
    → (e : IsEmptied p s1 s2) → with_waits s2 w1 ≡ set (with_waits s0 w0) p e.hole
emptied s0 s1 s2 w0 w1 p within long left e1 e =
    let it = there_is s0 p within in
    let s2_is : s2 ≡ set s0 p e.hole = e.slots ∙ ap (λ (l : List Runner). set l p e.hole) (left it.0 it.1) ∙ set-set s0 p (with_wait (get_or w0 p None) it.0) e.hole in
    ap (λ (l : List Runner). with_waits l w1) s2_is ∙ ap (with_waits (set s0 p e.hole)) e1 ∙ with_set s0 w0 p e.hole None long

pub hole_standing : (hole : Runner) → is_held hole.stop ≡ false → standing_if hole ≡ []
hole_standing hole h = ap (λ (b : Bool). if b then standing_of hole ∷ [] else []) h

pub hole_rests : (budget : ℕ) (hole : Runner) → is_held hole.stop ≡ false → linked_of hole ≡ [] → Rests budget hole
hole_rests budget hole h nobody = nobody ∙ sym (ap (map (runner_of budget)) (hole_standing hole h))

pub hole_waits : (hole : Runner) → is_held hole.stop ≡ false → wait_of hole ≡ None
hole_waits hole h = ap (λ (b : Bool). if b && not hole.suspended then Some hole.thread.wait else None) h

named_held : (t : ThreadId) (r : Runner) → is_named t r ≡ true → is_held r.stop ≡ true
named_held t r h = one (is_held r.stop) _ h
  where
    one : (a b : Bool) → (a && b) ≡ true → a ≡ true
    one true b h = refl
    one false b h = absurd cc

pub first_held : (p : ℕ) (t : ThreadId) (rs : List Runner) → (f : IsFirstAt p t rs) → is_held f.runner.stop ≡ true
first_held p t rs f = named_held t f.runner f.named

pub one_fewer : (rs : List Runner) (ran : List ℕ) (held p : ℕ) (t : ThreadId) (hole : Runner) → length ran ≡ length rs → held ≡ count_present rs ran → IsFirstAt p t rs → is_marked ran p ≡ false → is_held hole.stop ≡ false
    → held ≡ count_present (set rs p hole) ran + 1
one_fewer rs ran held p t hole same is f unmarked gone =
    let e = present_now rs ran p f.runner hole same f.there unmarked in
    let a : one_if (is_held f.runner.stop) ≡ 1 = ap one_if (first_held p t rs f) in
    let b : one_if (is_held hole.stop) ≡ 0 = ap one_if gone in
    omega (arith, e, a, b, is)

-- ---- a thread that is suspended, or isn't any more

abbrev pub with_flag : Bool → Runner → Runner
with_flag b r = record r { suspended = b }

flag_one : (stop : Stop) (r : Runner) (b : Bool) (budget : ℕ) → r.stop ≡ stop → Rests budget r → Rests budget (with_flag b r)
flag_one Holds r b budget s rests =
    let was : linked_after Holds r ≡ map (runner_of budget) (standing_of r ∷ []) =
    ap (λ (x : Stop). linked_after x r) (sym s) ∙ rests ∙ ap (λ (x : Stop). map (runner_of budget) (if is_held x then standing_of r ∷ [] else [])) s in
    let same : runner_to None r ≡ runner_of budget (standing_of r) = cc was in
    let now : runner_to None (with_flag b r) ≡ runner_of budget (standing_of (with_flag b r)) = ap (λ (q : Linked). record q { suspended = b }) same in
    ap (λ (x : Stop). linked_after x (with_flag b r)) s
    ∙ ap (λ (q : Linked). q ∷ []) now
    ∙ sym (ap (λ (x : Stop). map (runner_of budget) (if is_held x then standing_of (with_flag b r) ∷ [] else [])) s)
flag_one (Leaves to) r b budget s rests =
    let was : linked_after (Leaves to) r ≡ [] =
    ap (λ (x : Stop). linked_after x r) (sym s) ∙ rests ∙ ap (λ (x : Stop). map (runner_of budget) (if is_held x then standing_of r ∷ [] else [])) s in
    absurd cc
flag_one (Ends end) r b budget s rests =
    ap (λ (x : Stop). linked_after x (with_flag b r)) s ∙ sym (ap (λ (x : Stop). map (runner_of budget) (if is_held x then standing_of (with_flag b r) ∷ [] else [])) s)

pub flag_rests : (r : Runner) (b : Bool) (budget : ℕ) → Rests budget r → Rests budget (with_flag b r)
flag_rests r b budget rests = flag_one r.stop r b budget refl rests

pub flag_standing : (r : Runner) (b : Bool) → is_held r.stop ≡ true → standing_if (with_flag b r) ≡ record (standing_of r) { suspended = b } ∷ []
flag_standing r b h = ap (λ (c : Bool). if c then standing_of (with_flag b r) ∷ [] else []) h

pub same_held : (rs : List Runner) (ran : List ℕ) (held p : ℕ) (r : Runner) (b : Bool) → length ran ≡ length rs → held ≡ count_present rs ran → slice_get rs p ≡ Some r → is_marked ran p ≡ false → held ≡ count_present (set rs p (with_flag b r)) ran
same_held rs ran held p r b same is h unmarked = let e = present_now rs ran p r (with_flag b r) same h unmarked in omega (arith, e, is)
