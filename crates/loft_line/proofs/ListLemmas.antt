-- Threads beside their waits, by position.
use Rattle.std.proofs.Common.{◌≡◌, ℕ, zero, suc, ◌+◌, ◌<◌, Bool, true, false, List, [], ◌∷◌, ◌++◌, refl, sym, ◌∙◌, ap, arith, Option, Some, None, length, get_or, set, map}
use Rattle.std.specs.Prelude.{not, ◌&&◌, if◌then◌else◌, slice_get, slice_set}
use Rattle.std.proofs.lemmas.List.{set-set, length-set, length-append}
use Rattle.loft_orders.specs.declared.thread.Wait.{Wait}
use Rattle.loft_orders.specs.declared.thread.Wait.TheVariants.{Halt}
use Rattle.loft_passes.specs.declared.runner.Runner.{Runner}
use Rattle.loft_passes.specs.View.{is_held}
use Rattle.loft_ready.specs.Entered.{wait_of}
use Rattle.loft_line.specs.Line.{with_wait, without_wait, with_waits, thread_with}

pub length_with : (rs : List Runner) (ws : List (Option Wait)) → length (with_waits rs ws) ≡ length rs
length_with [] ws = refl
length_with (r ∷ rs) [] = refl
length_with (r ∷ rs) (w ∷ ws) = ap suc (length_with rs ws)

-- the thread at a position, with its wait
pub with_there : (rs : List Runner) (ws : List (Option Wait)) (p : ℕ) (r : Runner) → slice_get rs p ≡ Some r → slice_get (with_waits rs ws) p ≡ Some (with_wait (get_or ws p None) r)
with_there [] ws p r h = absurd cc
with_there (x ∷ rs) [] zero r h = h
with_there (x ∷ rs) [] (suc p) r h = h
with_there (x ∷ rs) (w ∷ ws) zero r h = let same : x ≡ r = cc h in ap (λ (y : Runner). Some (with_wait w y)) same
with_there (x ∷ rs) (w ∷ ws) (suc p) r h = with_there rs ws p r h

-- there is one at each position
pub there_is : (rs : List Runner) (p : ℕ) → p < length rs → (r : Runner) × (slice_get rs p ≡ Some r)
there_is [] p h = absurd (omega arith)
there_is (r ∷ rs) zero h = (r, refl)
there_is (r ∷ rs) (suc p) h = there_is rs p (omega arith)

-- a position has another thread, and another wait
pub with_set : (rs : List Runner) (ws : List (Option Wait)) (p : ℕ) (r : Runner) (w : Option Wait) → length ws ≡ length rs → with_waits (set rs p r) (set ws p w) ≡ set (with_waits rs ws) p (with_wait w r)
with_set [] [] p r w same = refl
with_set [] (v ∷ ws) p r w same = absurd (omega (arith, same))
with_set (x ∷ rs) [] p r w same = absurd (omega (arith, same))
with_set (x ∷ rs) (v ∷ ws) zero r w same = refl
with_set (x ∷ rs) (v ∷ ws) (suc p) r w same = ap (λ (l : List Runner). with_wait v x ∷ l) (with_set rs ws p r w (omega (arith, same)))

-- a thread by itself, with the wait that it has
kept_one : (held suspended : Bool) (r : Runner) → with_wait (if held && not suspended then Some r.thread.wait else None) (if held && not suspended then with_wait (Some Halt) r else r) ≡ r
kept_one true true r = refl
kept_one true false r = refl
kept_one false suspended r = refl

pub kept_is : (r : Runner) → with_wait (wait_of r) (without_wait r) ≡ r
kept_is r = kept_one (is_held r.stop) r.suspended r

pub there_set : (rs : List Runner) (p : ℕ) (r : Runner) → p < length rs → slice_get (set rs p r) p ≡ Some r
there_set [] p r h = absurd (omega arith)
there_set (x ∷ rs) zero r h = refl
there_set (x ∷ rs) (suc p) r h = there_set rs p r (omega arith)

pub set_there : (rs : List Runner) (p : ℕ) (r : Runner) → slice_get rs p ≡ Some r → set rs p r ≡ rs
set_there [] p r h = absurd cc
set_there (x ∷ rs) zero r h = let same : x ≡ r = cc h in ap (λ (y : Runner). y ∷ rs) (sym same)
set_there (x ∷ rs) (suc p) r h = ap (λ (l : List Runner). x ∷ l) (set_there rs p r h)

-- A position is left, changed, and entered again: the list has another thread there, and nothing else has changed.
pub changed_at : (s0 s1 s2 s3 : List Runner) (w0 w1 w3 : List (Option Wait)) (p : ℕ) (now : Runner) → p < length s0 → length w0 ≡ length s0
    → ((r : Runner) → slice_get s0 p ≡ Some r → s1 ≡ slice_set s0 p (with_wait (get_or w0 p None) r)) → w1 ≡ slice_set w0 p None → s2 ≡ slice_set s1 p now
    → ((r : Runner) → slice_get s2 p ≡ Some r → s3 ≡ slice_set s2 p (without_wait r)) → w3 ≡ slice_set w1 p (wait_of now) → with_waits s3 w3 ≡ set (with_waits s0 w0) p now
changed_at s0 s1 s2 s3 w0 w1 w3 p now within long left e1 e2 entered e3 =
    let it = there_is s0 p within in
    let s1_is = left it.0 it.1 in
    let long1 : length s1 ≡ length s0 = ap (λ (l : List Runner). length l) s1_is ∙ length-set s0 p (with_wait (get_or w0 p None) it.0) in
    let s3_is = entered now (ap (λ (l : List Runner). slice_get l p) e2 ∙ there_set s1 p now (omega (arith, long1, within))) in
    let s3_all : s3 ≡ set s0 p (without_wait now) =
    s3_is ∙ ap (λ (l : List Runner). set l p (without_wait now)) (e2 ∙ ap (λ (l : List Runner). set l p now) s1_is ∙ set-set s0 p (with_wait (get_or w0 p None) it.0) now) ∙ set-set s0 p now (without_wait now) in
    let w3_all : w3 ≡ set w0 p (wait_of now) = e3 ∙ ap (λ (l : List (Option Wait)). set l p (wait_of now)) e1 ∙ set-set w0 p None (wait_of now) in
    ap (λ (l : List Runner). with_waits l w3) s3_all
    ∙ ap (with_waits (set s0 p (without_wait now))) w3_all
    ∙ with_set s0 w0 p (without_wait now) (wait_of now) long
    ∙ ap (set (with_waits s0 w0) p) (kept_is now)

-- the thread that a position is left with is the one that was there, with its wait
pub left_there : (s0 s1 : List Runner) (w0 : List (Option Wait)) (p : ℕ) → p < length s0 → ((r : Runner) → slice_get s0 p ≡ Some r → s1 ≡ slice_set s0 p (with_wait (get_or w0 p None) r)) → slice_get s1 p ≡ slice_get (with_waits s0 w0) p
left_there s0 s1 w0 p within left =
    let it = there_is s0 p within in
    ap (λ (l : List Runner). slice_get l p) (left it.0 it.1)
    ∙ there_set s0 p (with_wait (get_or w0 p None) it.0) within
    ∙ sym (with_there s0 w0 p it.0 it.1)

pub length_line : (rs : List Runner) (ws : List (Option Wait)) → ws ≡ map wait_of (with_waits rs ws) → length ws ≡ length rs
length_line rs ws is = ap (λ (l : List (Option Wait)). length l) is ∙ mapped (with_waits rs ws) ∙ length_with rs ws
  where
    mapped : (l : List Runner) → length (map wait_of l) ≡ length l
    mapped [] = refl
    mapped (x ∷ l) = ap suc (mapped l)

-- what is read at a position stands there
pub read_there : (rs : List Runner) (p : ℕ) (x r : Runner) → p < length rs → x ≡ get_or rs p x → slice_get rs p ≡ Some r → x ≡ r
read_there [] p x r within is h = absurd (omega arith)
read_there (y ∷ rs) zero x r within is h = is ∙ cc h
read_there (y ∷ rs) (suc p) x r within is h = read_there rs p x r (omega arith) is h

thread_one : (w : Option Wait) (r : Runner) → thread_with w r.thread ≡ (with_wait w r).thread
thread_one None r = refl
thread_one (Some w) r = refl

-- the thread at a position, from what is read of it and of its wait
pub thread_there : (rs : List Runner) (ws : List (Option Wait)) (p : ℕ) (x r : Runner) → p < length rs → x ≡ get_or rs p x → slice_get (with_waits rs ws) p ≡ Some r → thread_with (get_or ws p None) x.thread ≡ r.thread
thread_there rs ws p x r within is h =
    let it = there_is rs p within in
    let same : x ≡ it.0 = read_there rs p x it.0 within is it.1 in
    let here : Some (with_wait (get_or ws p None) it.0) ≡ Some r = sym (with_there rs ws p it.0 it.1) ∙ h in
    let one : with_wait (get_or ws p None) it.0 ≡ r = cc here in
    thread_one (get_or ws p None) x ∙ ap (λ (q : Runner). (with_wait (get_or ws p None) q).thread) same ∙ ap (λ (q : Runner). q.thread) one

pub get_last : (rs : List Runner) (x : Runner) → slice_get (rs ++ x ∷ []) (length rs) ≡ Some x
get_last [] x = refl
get_last (y ∷ rs) x = get_last rs x

-- one more thread is entered: it is the last
pub linked_last : (slots s0 s3 : List Runner) (ws w0 w3 : List (Option Wait)) (p : ℕ) (x : Runner) → length ws ≡ length slots → p ≡ length slots → s0 ≡ slots ++ x ∷ [] → w0 ≡ ws ++ None ∷ []
    → ((r : Runner) → slice_get s0 p ≡ Some r → s3 ≡ slice_set s0 p (without_wait r)) → w3 ≡ slice_set w0 p (wait_of x) → with_waits s3 w3 ≡ with_waits slots ws ++ x ∷ []
linked_last slots s0 s3 ws w0 w3 p x long at e0 f0 entered e3 =
    let there : slice_get s0 p ≡ Some x = ap (λ (l : List Runner). slice_get l p) e0 ∙ ap (slice_get (slots ++ x ∷ [])) at ∙ get_last slots x in
    let s3_is : s3 ≡ set s0 p (without_wait x) = entered x there in
    let all : with_waits s0 w0 ≡ with_waits slots ws ++ x ∷ [] = ap (λ (l : List Runner). with_waits l w0) e0 ∙ ap (with_waits (slots ++ x ∷ [])) f0 ∙ more slots ws long in
    let both : length w0 ≡ length s0 = ap (λ (l : List (Option Wait)). length l) f0 ∙ length-append ws (None ∷ []) ∙ ap (λ (n : ℕ). n + 1) long ∙ sym (length-append slots (x ∷ [])) ∙ ap (λ (l : List Runner). length l) (sym e0) in
    let last : slice_get (with_waits slots ws ++ x ∷ []) p ≡ Some x = ap (slice_get (with_waits slots ws ++ x ∷ [])) (at ∙ sym (length_with slots ws)) ∙ get_last (with_waits slots ws) x in
    ap (λ (l : List Runner). with_waits l w3) s3_is
    ∙ ap (with_waits (set s0 p (without_wait x))) e3
    ∙ with_set s0 w0 p (without_wait x) (wait_of x) both
    ∙ ap (set (with_waits s0 w0) p) (kept_is x)
    ∙ ap (λ (l : List Runner). set l p x) all
    ∙ set_there (with_waits slots ws ++ x ∷ []) p x last
  where
    more : (rs : List Runner) (vs : List (Option Wait)) → length vs ≡ length rs → with_waits (rs ++ x ∷ []) (vs ++ None ∷ []) ≡ with_waits rs vs ++ x ∷ []
    more [] [] same = refl
    more [] (v ∷ vs) same = absurd (omega (arith, same))
    more (y ∷ rs) [] same = absurd (omega (arith, same))
    more (y ∷ rs) (v ∷ vs) same = ap (λ (l : List Runner). with_wait v y ∷ l) (more rs vs (omega (arith, same)))

pub length_left : (s0 s1 : List Runner) (w0 : List (Option Wait)) (p : ℕ) → p < length s0 → ((r : Runner) → slice_get s0 p ≡ Some r → s1 ≡ slice_set s0 p (with_wait (get_or w0 p None) r)) → length s1 ≡ length s0
length_left s0 s1 w0 p within left = let it = there_is s0 p within in ap (λ (l : List Runner). length l) (left it.0 it.1) ∙ length-set s0 p (with_wait (get_or w0 p None) it.0)

pub get_there : (rs : List Runner) (p : ℕ) (d r : Runner) → slice_get rs p ≡ Some r → get_or rs p d ≡ r
get_there [] p d r h = absurd cc
get_there (x ∷ rs) zero d r h = cc h
get_there (x ∷ rs) (suc p) d r h = get_there rs p d r h
