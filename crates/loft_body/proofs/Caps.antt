-- Steps that are counted up to a number alone.
use Rattle.std.proofs.Common.{◌≡◌, ℕ, zero, suc, ◌+◌, ◌*◌, ◌<◌, ◌≤◌, ◌⊎◌, inl, inr, Bool, true, false, Option, Some, None, refl, sym, ap, ◌∙◌, subst, arith}
use Rattle.std.specs.Prelude.{min, nat_le}
use Rattle.std.proofs.lemmas.Bool.{leb-true, leb-false}
use Rattle.loft_budget.specs.declared.steps.Steps.{Steps}
use Rattle.loft_body.specs.declared.steps.TheConstants.{MOST_COUNTED}
use Rattle.loft_budget.specs.Steps.{plus, larger, only_through, followed, either, one_more, turning, loop_steps, repeat_steps, times_steps}
use Rattle.loft_budget.proofs.Order.{followed_assoc, before_nothing}
use Rattle.loft_body.specs.Capped.{capped, capped_steps, IsSmall, AreSmall}

pub capped_small : (a : Option ℕ) → IsSmall (capped a)
capped_small None = tt
capped_small (Some n) = omega arith

pub small_capped : (a : Option ℕ) → IsSmall a → capped a ≡ a
small_capped None f = refl
small_capped (Some n) f = ap Some (omega (arith, f))

pub capped_right : (a b : Option ℕ) → capped (larger a (capped b)) ≡ capped (larger a b)
capped_right None None = refl
capped_right None (Some n) = ap Some (omega arith)
capped_right (Some m) None = refl
capped_right (Some m) (Some n) = ap Some (omega arith)

pub capped_left : (a b : Option ℕ) → capped (larger (capped a) b) ≡ capped (larger a b)
capped_left None b = refl
capped_left (Some m) None = ap Some (omega arith)
capped_left (Some m) (Some n) = ap Some (omega arith)

pub plus_right : (a b : Option ℕ) → capped (plus a (capped b)) ≡ capped (plus a b)
plus_right None b = refl
plus_right (Some m) None = refl
plus_right (Some m) (Some n) = ap Some (omega arith)

pub plus_left : (a b : Option ℕ) → capped (plus (capped a) b) ≡ capped (plus a b)
plus_left None b = refl
plus_left (Some m) None = refl
plus_left (Some m) (Some n) = ap Some (omega arith)

pub plus_both : (a b : Option ℕ) → capped (plus (capped a) (capped b)) ≡ capped (plus a b)
plus_both a b = plus_left a (capped b) ∙ plus_right a b

pub larger_both : (a b : Option ℕ) → capped (larger (capped a) (capped b)) ≡ capped (larger a b)
larger_both a b = capped_left a (capped b) ∙ capped_right a b

-- steps by their parts
parts : (x y : Steps) → x.through ≡ y.through → x.head ≡ y.head → x.tail ≡ y.tail → x.most ≡ y.most → x ≡ y
parts x y e f g h =
    ap (λ (a : Option ℕ). record { through = a; head = x.head; tail = x.tail; most = x.most }) e ∙ ap (λ (a : Option ℕ). record { through = y.through; head = a; tail = x.tail; most = x.most }) f
    ∙ ap (λ (a : Option ℕ). record { through = y.through; head = y.head; tail = a; most = x.most }) g ∙ ap (λ (a : Option ℕ). record { through = y.through; head = y.head; tail = y.tail; most = a }) h

pub steps_small : (x : Steps) → AreSmall (capped_steps x)
steps_small x = record { through = capped_small x.through; head = capped_small x.head; tail = capped_small x.tail; most = capped_small x.most }

pub small_steps : (x : Steps) → AreSmall x → capped_steps x ≡ x
small_steps x f = parts (capped_steps x) x (small_capped x.through f.through) (small_capped x.head f.head) (small_capped x.tail f.tail) (small_capped x.most f.most)

pub capped_twice : (a : Option ℕ) → capped (capped a) ≡ capped a
capped_twice a = small_capped (capped a) (capped_small a)

-- ---- what is counted alike stays so

pub plus_same : (a b c d : Option ℕ) → capped a ≡ capped c → capped b ≡ capped d → capped (plus a b) ≡ capped (plus c d)
plus_same a b c d e f = sym (plus_both a b) ∙ ap (λ (o : Option ℕ). capped (plus o (capped b))) e ∙ ap (λ (o : Option ℕ). capped (plus (capped c) o)) f ∙ plus_both c d

pub larger_same : (a b c d : Option ℕ) → capped a ≡ capped c → capped b ≡ capped d → capped (larger a b) ≡ capped (larger c d)
larger_same a b c d e f = sym (larger_both a b) ∙ ap (λ (o : Option ℕ). capped (larger o (capped b))) e ∙ ap (λ (o : Option ℕ). capped (larger (capped c) o)) f ∙ larger_both c d

pub record Alike (x y : Steps) : Type 0 where
  pub through : capped x.through ≡ capped y.through
  pub head : capped x.head ≡ capped y.head
  pub tail : capped x.tail ≡ capped y.tail
  pub most : capped x.most ≡ capped y.most

pub alike : (x y : Steps) → capped_steps x ≡ capped_steps y → Alike x y
alike x y e = record { through = ap (λ (s : Steps). s.through) e; head = ap (λ (s : Steps). s.head) e; tail = ap (λ (s : Steps). s.tail) e; most = ap (λ (s : Steps). s.most) e }

pub same_of : (x y : Steps) → Alike x y → capped_steps x ≡ capped_steps y
same_of x y f = parts (capped_steps x) (capped_steps y) f.through f.head f.tail f.most

pub alike_capped : (x : Steps) → Alike (capped_steps x) x
alike_capped x = record { through = capped_twice x.through; head = capped_twice x.head; tail = capped_twice x.tail; most = capped_twice x.most }

pub followed_alike : (x y v w : Steps) → Alike x y → Alike v w → Alike (followed x v) (followed y w)
followed_alike x y v w f g = record {
  through = plus_same _ _ _ _ f.through g.through;
  head = larger_same _ _ _ _ f.head (plus_same _ _ _ _ f.through g.head);
  tail = larger_same _ _ _ _ g.tail (plus_same _ _ _ _ f.tail g.through);
  most = larger_same _ _ _ _ (larger_same _ _ _ _ f.most g.most) (plus_same _ _ _ _ f.tail g.head);
}

pub either_alike : (x y v w : Steps) → Alike x y → Alike v w → Alike (either x v) (either y w)
either_alike x y v w f g = record {
  through = larger_same _ _ _ _ f.through g.through;
  head = larger_same _ _ _ _ f.head g.head;
  tail = larger_same _ _ _ _ f.tail g.tail;
  most = larger_same _ _ _ _ f.most g.most;
}

pub one_more_alike : (x y : Steps) → Alike x y → Alike (one_more x) (one_more y)
one_more_alike x y f = record { through = plus_same (Some 1) x.through (Some 1) y.through refl f.through; head = plus_same (Some 1) x.head (Some 1) y.head refl f.head; tail = f.tail; most = f.most }

pub turning_alike : (c d : ℕ) (x y : Steps) → capped (Some c) ≡ capped (Some d) → Alike x y → Alike (turning c x) (turning d y)
turning_alike c d x y e f = record {
  through = e;
  head = plus_same (Some c) x.head (Some d) y.head e f.head;
  tail = plus_same x.tail (Some c) y.tail (Some d) f.tail e;
  most = larger_same _ _ _ _ f.most (plus_same (plus x.tail (Some c)) x.head (plus y.tail (Some d)) y.head (plus_same x.tail (Some c) y.tail (Some d) f.tail e) f.head);
}

-- ---- loops

pub loop_alike : (x y : Steps) → Alike x y → Alike (loop_steps x) (loop_steps y)
loop_alike x y f = one_more_alike (turning 1 x) (turning 1 y) (turning_alike 1 1 x y refl f)

-- the steps of turns, as they are counted
few_or_many : (a k : ℕ) → (a < k) ⊎ (k ≤ a)
few_or_many a k = by (nat_le k a) refl
  where
    by : (b : Bool) → nat_le k a ≡ b → (a < k) ⊎ (k ≤ a)
    by true e = inr (leb-true k a e)
    by false e = inl (leb-false k a e)

-- where one of these is large, so is the product
large_turns : (n t k : ℕ) → k ≤ n → k ≤ n * (t + 1) + 2
large_turns n t k f = omega (arith, f)

large_way : (n t k : ℕ) → 0 < n → k ≤ t → k ≤ n * (t + 1) + 2
large_way zero t k some f = absurd (omega (arith, some))
large_way (suc j) t k some f = omega (arith, f)

both_large : (a b k : ℕ) → k ≤ a → k ≤ b → min a k ≡ min b k
both_large a b k f g = omega (arith, f, g)

turns_same : (n m t u k : ℕ) → min n k ≡ min m k → min t k ≡ min u k → min (n * (t + 1) + 2) k ≡ min (m * (u + 1) + 2) k
turns_same n m t u k e f = by (few_or_many n k) (few_or_many t k)
  where
    same_way : (t u : ℕ) → t ≡ u → min (n * (t + 1) + 2) k ≡ min (n * (u + 1) + 2) k
    same_way t u g = ap (λ (w : ℕ). min (n * (w + 1) + 2) k) g

    no_turns : (j : ℕ) → j ≡ 0 → min (j * (t + 1) + 2) k ≡ min (j * (u + 1) + 2) k
    no_turns zero g = omega arith
    no_turns (suc j) g = absurd (omega (arith, g))

    few : (j : ℕ) → k ≤ t → min (j * (t + 1) + 2) k ≡ min (j * (u + 1) + 2) k
    few zero g = no_turns zero refl
    few (suc j) g =
        let some : 0 < suc j = omega arith in
        let other : k ≤ u = omega (arith, f, g) in
        both_large _ _ k (large_way (suc j) t k some g) (large_way (suc j) u k some other)

    by : (n < k) ⊎ (k ≤ n) → (t < k) ⊎ (k ≤ t) → min (n * (t + 1) + 2) k ≡ min (m * (u + 1) + 2) k
    by (inr g) w = let other : k ≤ m = omega (arith, e, g) in both_large _ _ k (large_turns n t k g) (large_turns m u k other)
    by (inl g) (inl h) =
        let turns : n ≡ m = omega (arith, e, g) in
        let way : t ≡ u = omega (arith, f, h) in
        same_way t u way ∙ ap (λ (j : ℕ). min (j * (u + 1) + 2) k) turns
    by (inl g) (inr h) = let turns : n ≡ m = omega (arith, e, g) in few n h ∙ ap (λ (j : ℕ). min (j * (u + 1) + 2) k) turns

some_of : {a b : ℕ} → Some a ≡ Some b → a ≡ b
some_of e = cc

repeat_alike : (c d : Option ℕ) (t u : ℕ) (x y : Steps) → capped c ≡ capped d → min t MOST_COUNTED ≡ min u MOST_COUNTED → Alike x y → Alike (repeat_steps c t x) (repeat_steps d u y)
repeat_alike None None t u x y e f g = loop_alike x y g
repeat_alike None (Some m) t u x y e f g = absurd cc
repeat_alike (Some n) None t u x y e f g = absurd cc
repeat_alike (Some n) (Some m) t u x y e f g = turning_alike _ _ x y (ap Some (turns_same n m t u MOST_COUNTED (some_of e) f)) g

pub times_alike : (c d t u : Option ℕ) (x y : Steps) → capped c ≡ capped d → capped t ≡ capped u → Alike x y → Alike (times_steps c t x) (times_steps d u y)
times_alike c d None None x y e f g = loop_alike x y g
times_alike c d None (Some u) x y e f g = absurd cc
times_alike c d (Some t) None x y e f g = absurd cc
times_alike c d (Some t) (Some u) x y e f g = repeat_alike c d t u x y e (some_of f) g

-- ---- as functions meet it

pub small_of : (x y : Steps) → x ≡ capped_steps y → AreSmall x
small_of x y e = subst AreSmall (sym e) (steps_small y)

pub loop_counted : (x a b : Steps) → a ≡ capped_steps (turning 1 x) → b ≡ capped_steps (one_more a) → b ≡ capped_steps (loop_steps x)
loop_counted x a b e f = f ∙ ap (λ (u : Steps). capped_steps (one_more u)) e ∙ same_of _ _ (one_more_alike _ _ (alike_capped (turning 1 x)))

-- some statements are counted, and the rest of the body is left
pub counted_on : (all done next one left : Steps) → capped_steps (followed done (followed one left)) ≡ capped_steps all → next ≡ capped_steps (followed done (capped_steps one)) → capped_steps (followed next left) ≡ capped_steps all
counted_on all done next one left e f =
    ap (λ (u : Steps). capped_steps (followed u left)) f
    ∙ same_of _ _ (followed_alike _ _ left left (alike_capped (followed done (capped_steps one))) (alike left left refl))
    ∙ same_of _ _ (followed_alike _ _ left left (followed_alike done done _ _ (alike done done refl) (alike_capped one)) (alike left left refl))
    ∙ ap capped_steps (followed_assoc done one left) ∙ e

-- at last nothing is left
pub counted_all : (all done : Steps) → AreSmall done → capped_steps (followed done (only_through 0)) ≡ capped_steps all → done ≡ capped_steps all
counted_all all done f e = sym (small_steps done f) ∙ ap capped_steps (sym (before_nothing done)) ∙ e

pub if_counted : (x y a b c : Steps) → a ≡ capped_steps x → b ≡ capped_steps y → (d : Steps) → d ≡ capped_steps (either a b) → c ≡ capped_steps (one_more d) → c ≡ capped_steps (one_more (either x y))
if_counted x y a b c e f d g h =
    h ∙ ap (λ (u : Steps). capped_steps (one_more u)) g ∙ same_of _ _ (one_more_alike _ _ (alike_capped (either a b)))
    ∙ ap (λ (u : Steps). capped_steps (one_more (either u b))) e ∙ ap (λ (u : Steps). capped_steps (one_more (either (capped_steps x) u))) f
    ∙ same_of _ _ (one_more_alike _ _ (either_alike _ _ _ _ (alike_capped x) (alike_capped y)))

pub while_counted : (x a c : Steps) → a ≡ capped_steps x → c ≡ capped_steps (loop_steps a) → c ≡ capped_steps (loop_steps x)
while_counted x a c e f = f ∙ ap (λ (u : Steps). capped_steps (loop_steps u)) e ∙ same_of _ _ (loop_alike _ _ (alike_capped x))

pub repeat_counted : (n m : Option ℕ) (x a c : Steps) → m ≡ capped n → a ≡ capped_steps x → c ≡ capped_steps (times_steps m a.through a) → c ≡ capped_steps (times_steps n x.through x)
repeat_counted n m x a c d e f =
    f ∙ ap (λ (u : Option ℕ). capped_steps (times_steps u a.through a)) d ∙ ap (λ (u : Steps). capped_steps (times_steps (capped n) u.through u)) e
    ∙ same_of _ _ (times_alike (capped n) n (capped x.through) x.through (capped_steps x) x (capped_twice n) (capped_twice x.through) (alike_capped x))

-- for the functions that count
pub ruleset caps = (capped_small, small_capped, capped_right, capped_left, plus_right, plus_left, steps_small)
