-- A frame that stands keeps its counts where it goes on.
use Rattle.std.proofs.Common.{◌≡◌, ℕ, zero, suc, ◌+◌, ◌≤◌, ◌==◌, Bool, true, false, List, [], ◌∷◌, ◌++◌, length, reverse, Option, Some, None, refl, sym, ap, ◌∙◌, subst, arith, append-nil}
use Rattle.std.specs.Prelude.{ℤ, if◌then◌else◌, unwrap_or, drop}
use Rattle.std.proofs.lemmas.List.{reverse-reverse}
use Rattle.loft_tree.specs.declared.heads.Place.{Place}
use Rattle.loft_tree.specs.declared.heads.Heads.{Heads}
use Rattle.loft_tree.specs.Resolved.{Step, Do, Hold, Call, Choose, Loop, Times, Body, Empty, Then, Resolved}
use Rattle.loft_orders.specs.declared.thread.Frame.{Frame}
use Rattle.loft_sense.specs.Machine.{Tree}
use Rattle.loft_sense.specs.Run.{frame_of, point_of, active_of}
use Rattle.loft_sense.specs.Tree.{Work, Again, Turns, body_then, counts_in, first_some, at_stop, first_count, after_step, after_body, body_at, tree}
use Rattle.loft_sense.specs.Stands.{StopAt, Begins, begin_of, leads_step, stop_in_step, stop_in, program_stop, FrameStands}
use Rattle.loft_soundness.proofs.LeftLemmas.{counts_before, reverse_one}

-- A stop inside so many repeats and more. Where there are as many counts as there are repeats between, the work after it has
-- these counts, in front of those that were there.
abbrev Keeps : ℕ → List ℤ → List ℤ → Option (List Work) → Option StopAt → Type 0
Keeps d cs there None None = Unit {0}
Keeps d cs there (Some w) (Some at) = (d ≤ at.depth) × (at.depth ≡ d + length cs → counts_in w ≡ reverse cs ++ there)
Keeps d cs there None (Some at) = ⊥
Keeps d cs there (Some w) None = ⊥

keeps_first : (d : ℕ) (cs there : List ℤ) (a b : Option (List Work)) (e f : Option StopAt) → Keeps d cs there a e → Keeps d cs there b f → Keeps d cs there (first_some a b) (first_some e f)
keeps_first d cs there None b None f g h = h
keeps_first d cs there (Some w) b (Some at) f g h = g
keeps_first d cs there None b (Some at) f g h = absurd g
keeps_first d cs there (Some w) b None f g h = absurd g

no_counts : (d : ℕ) (cs there : List ℤ) → d ≡ d + length cs → there ≡ reverse cs ++ there
no_counts d [] there e = refl
no_counts d (c ∷ cs) there e = absurd (omega (arith, e))

keeps_at : (here k : ℕ) (w : List Work) (at : StopAt) (cs : List ℤ) → Keeps at.depth cs (counts_in w) (at_stop here k w) (at_stop here k at)
keeps_at here k w at cs = by (here == k)
  where
    by : (b : Bool) → Keeps at.depth cs (counts_in w) (if b then Some w else None) (if b then Some at else None)
    by true = let same : at.depth ≤ at.depth = omega arith in (same, λ e. no_counts at.depth cs (counts_in w) e)
    by false = tt

-- one repeat further out
keeps_turns : (d : ℕ) (cs there : List ℤ) (a : Option (List Work)) (e : Option StopAt) → Keeps (d + 1) (drop 1 cs) (first_count cs ∷ there) a e → Keeps d cs there a e
keeps_turns d cs there None None k = tt
keeps_turns d [] there (Some w) (Some at) k = let less : d ≤ at.depth = omega (arith, k.0) in (less, λ e. absurd (omega (arith, e, k.0)))
keeps_turns d (c ∷ cs) there (Some w) (Some at) k =
    let less : d ≤ at.depth = omega (arith, k.0) in
    (less, λ e. let one_less : at.depth ≡ d + 1 + length cs = omega (arith, e) in k.1 one_less ∙ sym (reverse_one c cs there))
keeps_turns d cs there None (Some at) k = absurd k
keeps_turns d cs there (Some w) None k = absurd k

module _ (h : Heads) where
  mutual
    step_keeps : (s : Step) (k d : ℕ) (p : Place) (cs : List ℤ) (w : List Work) → Keeps d cs (counts_in w) (after_step s k cs w) (stop_in_step h s k d p)
    step_keeps (Do action) k d p cs w = tt
    step_keeps (Hold here pause) k d p cs w = keeps_at here k w _ cs
    step_keeps (Call here m arguments) k d p cs w = keeps_at here k w _ cs
    step_keeps (Choose test x y) k d p cs w =
        keeps_first d cs (counts_in w) (after_body x k cs w) (after_body y k cs w) (stop_in h x k d p) (stop_in h y k d p) (body_keeps x k d p cs w) (body_keeps y k d p cs w)
    step_keeps (Loop test x) k d p cs w = body_keeps x k d p cs (Again test x ∷ w)
    step_keeps (Times count x) k d p cs w =
        keeps_turns d cs (counts_in w) (after_body x k (drop 1 cs) (Turns (first_count cs) x ∷ w)) (stop_in h x k (d + 1) p) (body_keeps x k (d + 1) p (drop 1 cs) (Turns (first_count cs) x ∷ w))

    body_keeps : (b : Body) (k d : ℕ) (p : Place) (cs : List ℤ) (w : List Work) → Keeps d cs (counts_in w) (after_body b k cs w) (stop_in h b k d p)
    body_keeps Empty k d p cs w = tt
    body_keeps (Then s b) k d p cs w =
        keeps_first d cs (counts_in w) (after_step s k cs (body_then b w)) (after_body b k cs w) (stop_in_step h s k d p) (stop_in h b k d (leads_step h s p))
        (subst (λ (l : List ℤ). Keeps d cs l (after_step s k cs (body_then b w)) (stop_in_step h s k d p)) (counts_before b w) (step_keeps s k d p cs (body_then b w)))
        (body_keeps b k d (leads_step h s p) cs w)

kept_by : (cs : List ℤ) (o : Option (List Work)) (s : Option StopAt) (at : StopAt) → s ≡ Some at → length cs ≡ at.depth → Keeps 0 cs [] o s → reverse (counts_in (unwrap_or o [])) ≡ cs
kept_by cs None None at e n k = absurd cc
kept_by cs (Some w) (Some other) at e n k =
    let same : other ≡ at = cc in
    let depth : other.depth ≡ at.depth = ap (λ (a : StopAt). a.depth) same in
    let all : other.depth ≡ 0 + length cs = omega (arith, depth, n) in
    ap (λ (l : List ℤ). reverse l) (k.1 all ∙ append-nil (reverse cs)) ∙ reverse-reverse cs
kept_by cs None (Some other) at e n k = absurd k
kept_by cs (Some w) None at e n k = absurd k

none_of : (cs : List ℤ) → length cs ≡ 0 → [] ≡ cs
none_of [] e = refl
none_of (c ∷ cs) e = absurd (omega (arith, e))

counts_kept : (p : Resolved) (f : Frame) (k : ℕ) (at : StopAt) → program_stop (Tree p) f.module k ≡ Some at → length f.counts ≡ at.depth → reverse (counts_in (point_of (tree p) f k)) ≡ f.counts
counts_kept p f zero at e n =
    let same : record { kind = Begins; depth = 0; after = begin_of p.heads f.module } ≡ at = cc in
    let depth : 0 ≡ at.depth = ap (λ (a : StopAt). a.depth) same in
    let none : length f.counts ≡ 0 = omega (arith, depth, n) in
    ap (λ (l : List ℤ). reverse l) (counts_before (body_at p f.module) []) ∙ none_of f.counts none
counts_kept p f (suc k) at e n =
    kept_by f.counts (after_body (body_at p f.module) (suc k) f.counts []) (stop_in p.heads (body_at p f.module) (suc k) 0 (begin_of p.heads f.module)) at e n
    (body_keeps p.heads (body_at p f.module) (suc k) 0 (begin_of p.heads f.module) f.counts [])

-- taken up and kept again, a frame that stands is the same
pub frame_kept : (p : Resolved) (f : Frame) (at : StopAt) → FrameStands (Tree p) f at → frame_of (tree p) (active_of (tree p) f) ≡ f
frame_kept p f at stands = ap (λ (cs : List ℤ). record f { counts = cs }) (counts_kept p f f.stop at stands.stop stands.counts)
