-- Threads by their ids, and how often they are in lists.
use Rattle.std.proofs.Common.{◌≡◌, ◌==◌, ℕ, ◌+◌, Bool, true, false, List, [], ◌∷◌, ◌++◌, refl, ap, ◌∙◌, arith}
use Rattle.std.specs.Prelude.{◌&&◌, ◌||◌, if◌then◌else◌}
use Rattle.std.proofs.lemmas.Bool.{and_parts, eqb-true, eq-eqb}
use Rattle.loft_base.specs.declared.ids.Maker.{Maker}
use Rattle.loft_base.specs.declared.ids.Maker.TheVariants.{Source, Sched, Client}
use Rattle.loft_base.specs.declared.ids.ThreadId.{ThreadId}
use Rattle.loft_orders.specs.declared.note.Standing.{Standing}
use Rattle.loft_orders.specs.declared.order.Order.{Order}
use Rattle.loft_orders.specs.declared.thread.Thread.{Thread}
use Rattle.loft_sense.specs.Apply.{is_linked, with_last, without_first, suspend}
use Rattle.loft_sense.specs.CanGo.{same_maker, same_thread}
use Rattle.loft_conservation.specs.Counts.{one, brought_in, threads_in, linked_in}

maker_is : (a b : Maker) → same_maker a b ≡ true → a ≡ b
maker_is Source Source e = refl
maker_is Source (Sched n) e = absurd cc
maker_is Source (Client n) e = absurd cc
maker_is (Sched m) Source e = absurd cc
maker_is (Sched m) (Sched n) e = ap Sched (eqb-true m n e)
maker_is (Sched m) (Client n) e = absurd cc
maker_is (Client m) Source e = absurd cc
maker_is (Client m) (Sched n) e = absurd cc
maker_is (Client m) (Client n) e = ap Client (eqb-true m n e)

pub same_is : (u v : ThreadId) → same_thread u v ≡ true → u ≡ v
same_is u v e =
    let p = and_parts (same_maker u.maker v.maker) (u.seq == v.seq) e in
    ap (λ (m : Maker). record { maker = m; seq = u.seq }) (maker_is u.maker v.maker p.0) ∙ ap (λ (k : ℕ). record { maker = v.maker; seq = k }) (eqb-true u.seq v.seq p.1)

maker_same : (a : Maker) → same_maker a a ≡ true
maker_same Source = refl
maker_same (Sched n) = eq-eqb n n refl
maker_same (Client n) = eq-eqb n n refl

pub same_self : (t : ThreadId) → same_thread t t ≡ true
same_self t = by (same_maker t.maker t.maker) (t.seq == t.seq) (maker_same t.maker) (eq-eqb t.seq t.seq refl)
  where
    by : (a b : Bool) → a ≡ true → b ≡ true → (a && b) ≡ true
    by true true p q = refl
    by true false p q = q
    by false b p q = p

pub brought_in-append : (t : ThreadId) (xs ys : List Order) → brought_in t (xs ++ ys) ≡ brought_in t xs + brought_in t ys
brought_in-append t [] ys = omega arith
brought_in-append t (o ∷ xs) ys = let e = brought_in-append t xs ys in omega (arith, e)

pub threads_in-append : (t : ThreadId) (xs ys : List Thread) → threads_in t (xs ++ ys) ≡ threads_in t xs + threads_in t ys
threads_in-append t [] ys = omega arith
threads_in-append t (u ∷ xs) ys = let e = threads_in-append t xs ys in omega (arith, e)

pub linked_in-append : (t : ThreadId) (xs ys : List Standing) → linked_in t (xs ++ ys) ≡ linked_in t xs + linked_in t ys
linked_in-append t [] ys = omega arith
linked_in-append t (s ∷ xs) ys = let e = linked_in-append t xs ys in omega (arith, e)

-- ---- linked threads

pub one_linked : (t : ThreadId) (u : Thread) (ss : List Standing) → linked_in t (with_last u ss) ≡ linked_in t ss + one (same_thread t u.id)
one_linked t u ss = let e = linked_in-append t ss (record { thread = u; suspended = false } ∷ []) in omega (arith, e)

pub unlinked : (t u : ThreadId) (ss : List Standing) → is_linked u ss ≡ true → linked_in t ss ≡ linked_in t (without_first u ss) + one (same_thread t u)
unlinked t u [] e = absurd cc
unlinked t u (s ∷ ss) e = by (same_thread u s.thread.id) refl e (unlinked t u ss)
  where
    by : (b : Bool) → same_thread u s.thread.id ≡ b → (b || is_linked u ss) ≡ true → (is_linked u ss ≡ true → linked_in t ss ≡ linked_in t (without_first u ss) + one (same_thread t u))
        → one (same_thread t s.thread.id) + linked_in t ss ≡ linked_in t (if b then ss else s ∷ without_first u ss) + one (same_thread t u)
    by true is some rest = let p = ap (λ (v : ThreadId). one (same_thread t v)) (same_is u s.thread.id is) in omega (arith, p)
    by false is some rest = let p = rest some in omega (arith, p)

pub suspended_same : (t u : ThreadId) (b : Bool) (ss : List Standing) → linked_in t (suspend u b ss) ≡ linked_in t ss
suspended_same t u b [] = refl
suspended_same t u b (s ∷ ss) = by (same_thread u s.thread.id) (suspended_same t u b ss)
  where
    by : (c : Bool) → linked_in t (suspend u b ss) ≡ linked_in t ss
        → linked_in t (if c then record s { suspended = b } ∷ ss else s ∷ suspend u b ss) ≡ one (same_thread t s.thread.id) + linked_in t ss
    by true rest = refl
    by false rest = ap (λ (n : ℕ). one (same_thread t s.thread.id) + n) rest
