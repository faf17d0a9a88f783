-- How the threads of a line stand.
use Rattle.std.proofs.Common.{◌≡◌, ℕ, zero, suc, ◌+◌, ◌<◌, Bool, true, false, List, [], ◌∷◌, ◌++◌, refl, sym, ◌∙◌, ap, Option, Some, None, length, get_or, take, add-one, append-nil, append_assoc}
use Rattle.std.specs.Prelude.{if◌then◌else◌, slice_get}
use Rattle.std.proofs.lemmas.List.Concat.{flat_map-cons}
use Rattle.loft_orders.specs.declared.note.Standing.{Standing}
use Rattle.loft_orders.specs.declared.thread.Thread.{Thread}
use Rattle.loft_orders.specs.declared.thread.Wait.{Wait}
use Rattle.loft_passes.specs.declared.runner.Runner.{Runner}
use Rattle.loft_passes.specs.View.{standing_of, is_held}
use Rattle.loft_line.specs.Line.{with_wait, with_waits, standing_if, standings_in}
use Rattle.loft_line.proofs.ListLemmas.{there_is}
use Rattle.loft_line.proofs.EndLemmas.{logical_stop, logical_is}

with_flag_same : (w : Option Wait) (r : Runner) → (with_wait w r).suspended ≡ r.suspended
with_flag_same None r = refl
with_flag_same (Some w) r = refl

logical_flag : (rs : List Runner) (ws : List (Option Wait)) (p : ℕ) (x r : Runner) → slice_get rs p ≡ Some x → slice_get (with_waits rs ws) p ≡ Some r → r.suspended ≡ x.suspended
logical_flag rs ws p x r there h = sym (ap (λ (q : Runner). q.suspended) (logical_is rs ws p x r there h)) ∙ with_flag_same (get_or ws p None) x

-- one more of the first ones
one_more : (rs : List Runner) (p : ℕ) (r : Runner) → slice_get rs p ≡ Some r → standings_in (take (suc p) rs) ≡ standings_in (take p rs) ++ standing_if r
one_more [] p r h = absurd cc
one_more (x ∷ rs) zero r h =
    let is : x ≡ r = cc h in
    flat_map-cons standing_if x [] ∙ append-nil (standing_if x) ∙ ap standing_if is
one_more (x ∷ rs) (suc p) r h =
    flat_map-cons standing_if x (take (suc p) rs)
    ∙ ap (λ (l : List Standing). standing_if x ++ l) (one_more rs p r h)
    ∙ sym (append_assoc (standing_if x) (standings_in (take p rs)) (standing_if r))
    ∙ ap (λ (l : List Standing). l ++ standing_if r) (sym (flat_map-cons standing_if x (take p rs)))

pub next_standing : (rs : List Runner) (p : ℕ) (old new : List Standing) → p < length rs → old ≡ standings_in (take p rs) → ((r : Runner) → slice_get rs p ≡ Some r → new ≡ old ++ standing_if r) → new ≡ standings_in (take (p + 1) rs)
next_standing rs p old new within is pushed =
    let it = there_is rs p within in
    pushed it.0 it.1 ∙ ap (λ (l : List Standing). l ++ standing_if it.0) is ∙ sym (one_more rs p it.0 it.1) ∙ ap (λ (n : ℕ). standings_in (take n rs)) (sym (add-one p))

pub all_standings : (rs : List Runner) (n : ℕ) → n ≡ length rs → standings_in (take n rs) ≡ standings_in rs
all_standings rs n is = ap (λ (k : ℕ). standings_in (take k rs)) is ∙ ap standings_in (whole rs)
  where
    whole : (l : List Runner) → take (length l) l ≡ l
    whole [] = refl
    whole (x ∷ l) = ap (λ (q : List Runner). x ∷ q) (whole l)

pub held_standing : (rs : List Runner) (ws : List (Option Wait)) (p : ℕ) (x r : Runner) (t : Thread) → slice_get rs p ≡ Some x → is_held x.stop ≡ true → slice_get (with_waits rs ws) p ≡ Some r → t ≡ r.thread
    → standing_if r ≡ record { thread = t; suspended = x.suspended } ∷ []
held_standing rs ws p x r t there held h thread =
    ap (λ (b : Bool). if b then standing_of r ∷ [] else []) (ap is_held (logical_stop rs ws p x r there h) ∙ held)
    ∙ ap (λ (b : Bool). (record { thread = r.thread; suspended = b }) ∷ []) (logical_flag rs ws p x r there h)
    ∙ ap (λ (q : Thread). (record { thread = q; suspended = x.suspended }) ∷ []) (sym thread)

pub gone_standing : (rs : List Runner) (ws : List (Option Wait)) (p : ℕ) (x r : Runner) → slice_get rs p ≡ Some x → is_held x.stop ≡ false → slice_get (with_waits rs ws) p ≡ Some r → standing_if r ≡ []
gone_standing rs ws p x r there gone h = ap (λ (b : Bool). if b then standing_of r ∷ [] else []) (ap is_held (logical_stop rs ws p x r there h) ∙ gone)
