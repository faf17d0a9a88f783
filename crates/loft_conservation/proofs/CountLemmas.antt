-- Counts of what is sent, and the numbers of threads.
use Rattle.std.proofs.Common.{◌≡◌, ℕ, ◌+◌, ◌≤◌, Bool, true, false, List, [], ◌∷◌, ◌++◌, refl, ap, arith}
use Rattle.std.specs.Prelude.{nat_le, nat_lt, ◌&&◌}
use Rattle.std.proofs.lemmas.Bool.{leb-true, leb-false, ltb-true, ltb-false}
use Rattle.loft_base.specs.declared.ids.Maker.{Maker}
use Rattle.loft_base.specs.declared.ids.ThreadId.{ThreadId}
use Rattle.loft_tree.specs.declared.heads.Place.{Place}
use Rattle.loft_tree.specs.Fits.{Each}
use Rattle.loft_sense.specs.CanGo.{same_maker}
use Rattle.loft_orders.specs.declared.note.Act.{Act}
use Rattle.loft_orders.specs.declared.note.Act.TheVariants as act
use Rattle.loft_orders.specs.declared.order.Order.{Order}
use Rattle.loft_orders.specs.declared.order.Order.TheVariants as order
use Rattle.loft_orders.specs.declared.order.Sent.{Sent}
use Rattle.loft_sense.specs.Apply.{tell_end}
use Rattle.loft_sense.specs.Instant.{sent_by}
use Rattle.loft_conservation.specs.Counts.{one, carries, tells_end_of, made_in, carried_in, ended_in, among_made}
use Rattle.loft_conservation.specs.Adds.{IsPlain, IsPlainAct}

-- ---- lists

pub made_in-append : (t : ThreadId) (ms ns : List Sent) → made_in t (ms ++ ns) ≡ made_in t ms + made_in t ns
made_in-append t [] ns = omega arith
made_in-append t (m ∷ ms) ns = let e = made_in-append t ms ns in omega (arith, e)

pub carried_in-append : (t : ThreadId) (ms ns : List Sent) → carried_in t (ms ++ ns) ≡ carried_in t ms + carried_in t ns
carried_in-append t [] ns = omega arith
carried_in-append t (m ∷ ms) ns = let e = carried_in-append t ms ns in omega (arith, e)

pub ended_in-append : (t : ThreadId) (ms ns : List Sent) → ended_in t (ms ++ ns) ≡ ended_in t ms + ended_in t ns
ended_in-append t [] ns = omega arith
ended_in-append t (m ∷ ms) ns = let e = ended_in-append t ms ns in omega (arith, e)

pub sent_by-append : (at : Place) (acts bs : List Act) → sent_by at (acts ++ bs) ≡ sent_by at acts ++ sent_by at bs
sent_by-append at [] bs = refl
sent_by-append at (act.Print t line ∷ acts) bs = sent_by-append at acts bs
sent_by-append at (act.Gen t event value ∷ acts) bs = sent_by-append at acts bs
sent_by-append at (act.Out t sent ∷ acts) bs = ap (λ (ms : List Sent). sent ∷ ms) (sent_by-append at acts bs)
sent_by-append at (act.End t end ∷ acts) bs = ap (λ (ms : List Sent). tell_end at t end ∷ ms) (sent_by-append at acts bs)

-- ---- plain orders

pub plain_carries : (t : ThreadId) (o : Order) → IsPlain o → carries t o ≡ 0
plain_carries t (order.Create u m args) f = refl
plain_carries t (order.Arrive u) f = absurd f
plain_carries t (order.Stop u) f = refl
plain_carries t (order.Suspend u) f = refl
plain_carries t (order.Resume u) f = refl
plain_carries t (order.Broadcast event value) f = refl
plain_carries t (order.Ended u end) f = absurd f

pub plain_ends : (t : ThreadId) (o : Order) → IsPlain o → tells_end_of t o ≡ 0
plain_ends t (order.Create u m args) f = refl
plain_ends t (order.Arrive u) f = absurd f
plain_ends t (order.Stop u) f = refl
plain_ends t (order.Suspend u) f = refl
plain_ends t (order.Resume u) f = refl
plain_ends t (order.Broadcast event value) f = refl
plain_ends t (order.Ended u end) f = absurd f

-- what acts of statements send
pub plain_sent : (at : Place) (acts : List Act) → Each IsPlainAct acts → Each (λ (m : Sent). IsPlain m.order) (sent_by at acts)
plain_sent at [] f = tt
plain_sent at (act.Print t line ∷ acts) f = plain_sent at acts f.1
plain_sent at (act.Gen t event value ∷ acts) f = plain_sent at acts f.1
plain_sent at (act.Out t sent ∷ acts) f = (f.0, plain_sent at acts f.1)
plain_sent at (act.End t end ∷ acts) f = absurd f.0

pub plain_carried : (t : ThreadId) (ms : List Sent) → Each (λ (m : Sent). IsPlain m.order) ms → carried_in t ms ≡ 0
plain_carried t [] f = refl
plain_carried t (m ∷ ms) f = let p = plain_carries t m.order f.0 in let q = plain_carried t ms f.1 in omega (arith, p, q)

pub plain_ended : (t : ThreadId) (ms : List Sent) → Each (λ (m : Sent). IsPlain m.order) ms → ended_in t ms ≡ 0
plain_ended t [] f = refl
plain_ended t (m ∷ ms) f = let p = plain_ends t m.order f.0 in let q = plain_ended t ms f.1 in omega (arith, p, q)

-- ---- numbers

-- nobody is made where the numbers stay
pub none_made : (t : ThreadId) (m : Maker) (n : ℕ) → among_made t m n n ≡ 0
none_made t m n = by (same_maker t.maker m) (nat_le n t.seq) (nat_lt t.seq n) refl refl
  where
    by : (p q r : Bool) → nat_le n t.seq ≡ q → nat_lt t.seq n ≡ r → one (p && q && r) ≡ 0
    by false q r e f = refl
    by true false r e f = refl
    by true true false e f = refl
    by true true true e f = let u = leb-true n t.seq e in let v = ltb-true t.seq n f in absurd (omega (arith, u, v))

-- numbers from a to b and from b to c are those from a to c
pub numbers_join : (t : ThreadId) (m : Maker) (a b c : ℕ) → a ≤ b → b ≤ c → among_made t m a b + among_made t m b c ≡ among_made t m a c
numbers_join t m a b c le more = by (same_maker t.maker m) (nat_le a t.seq) (nat_lt t.seq b) (nat_le b t.seq) (nat_lt t.seq c) refl refl refl refl
  where
    by : (p q r s u : Bool) → nat_le a t.seq ≡ q → nat_lt t.seq b ≡ r → nat_le b t.seq ≡ s → nat_lt t.seq c ≡ u → one (p && q && r) + one (p && s && u) ≡ one (p && q && u)
    by false q r s u e f g h = refl
    by true true true true u e f g h = let v = ltb-true t.seq b f in let w = leb-true b t.seq g in absurd (omega (arith, v, w))
    by true true true false true e f g h = refl
    by true true true false false e f g h = let v = ltb-true t.seq b f in let w = ltb-false t.seq c h in absurd (omega (arith, v, w, more))
    by true true false true u e f g h = omega arith
    by true true false false u e f g h = let v = ltb-false t.seq b f in let w = leb-false b t.seq g in absurd (omega (arith, v, w))
    by true false r true u e f g h = let v = leb-false a t.seq e in let w = leb-true b t.seq g in absurd (omega (arith, v, w, le))
    by true false r false u e f g h = refl
