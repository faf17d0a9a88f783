-- Fewer steps in each way.
use Rattle.std.proofs.Common.{◌≡◌, ◌⊎◌, inl, inr, ℕ, suc, ◌+◌, ◌≤◌, Option, Some, None, refl, sym, subst, arith, ap, ◌∙◌}
use Rattle.loft_budget.specs.declared.steps.Steps.{Steps}
use Rattle.loft_budget.specs.Steps.{plus, larger, only_through, surely, followed, either, one_more, turning}
use Rattle.loft_budget.proofs.Sums.{Below, below_refl, below_trans, plus_below, below_left, below_right, larger_least, larger_below, plus_twice, plus_larger, zero_plus, AtMost, at_most, at_most_more, one_less, one_above, plus_twice_back, larger_plus, plus_zero_first, zero_last, below_both}

pub record Less (x y : Steps) : Type 0 where
  pub through : Below x.through y.through
  pub head : Below x.head y.head
  pub tail : Below x.tail y.tail
  pub most : Below x.most y.most

pub less_refl : (x : Steps) → Less x x
less_refl x = record { through = below_refl x.through; head = below_refl x.head; tail = below_refl x.tail; most = below_refl x.most }

pub less_trans : (x y z : Steps) → Less x y → Less y z → Less x z
less_trans x y z f g = record {
  through = below_trans x.through y.through z.through f.through g.through;
  head = below_trans x.head y.head z.head f.head g.head;
  tail = below_trans x.tail y.tail z.tail f.tail g.tail;
  most = below_trans x.most y.most z.most f.most g.most;
}

pub followed_less : (x y v w : Steps) → Less x y → Less v w → Less (followed x v) (followed y w)
followed_less x y v w f g = record {
  through = plus_below x.through y.through v.through w.through f.through g.through;
  head = larger_below x.head y.head _ _ f.head (plus_below x.through y.through v.head w.head f.through g.head);
  tail = larger_below v.tail w.tail _ _ g.tail (plus_below x.tail y.tail v.through w.through f.tail g.through);
  most =
      larger_below _ _ _ _ (larger_below x.most y.most v.most w.most f.most g.most)
      (plus_below x.tail y.tail v.head w.head f.tail g.head);
}

pub one_more_less : (x y : Steps) → Less x y → Less (one_more x) (one_more y)
one_more_less x y f = record {
  through = plus_below (Some 1) (Some 1) x.through y.through (below_refl (Some 1)) f.through;
  head = plus_below (Some 1) (Some 1) x.head y.head (below_refl (Some 1)) f.head;
  tail = f.tail;
  most = f.most;
}

-- the steps of what is done first can be counted together
pub followed_twice : (x y z : Steps) → Less (followed x (followed y z)) (followed (followed x y) z)
followed_twice x y z =
    let xy = followed x y in
    let all = followed xy z in
    record {
      through = plus_twice x.through y.through z.through;
      head =
          larger_least x.head _ all.head (below_trans x.head xy.head _ (below_left x.head _) (below_left xy.head _))
          (plus_larger x.through y.head (plus y.through z.head) all.head
          (below_trans (plus x.through y.head) xy.head _ (below_right x.head _) (below_left xy.head _))
          (below_trans (plus x.through (plus y.through z.head)) (plus xy.through z.head) _ (plus_twice x.through y.through z.head) (below_right xy.head _)));
      tail =
          larger_least _ _ all.tail
          (larger_least z.tail _ all.tail (below_left z.tail _)
          (below_trans (plus y.tail z.through) (plus xy.tail z.through) _ (plus_below y.tail xy.tail z.through z.through (below_left y.tail _) (below_refl z.through)) (below_right z.tail _)))
          (below_trans (plus x.tail (plus y.through z.through)) (plus xy.tail z.through) _
          (below_trans (plus x.tail (plus y.through z.through)) (plus (plus x.tail y.through) z.through) _ (plus_twice x.tail y.through z.through) (plus_below (plus x.tail y.through) xy.tail z.through z.through (below_right y.tail _) (below_refl z.through)))
          (below_right z.tail _));
      most =
          let inner = larger xy.most z.most in
          let in_xy : Below xy.most all.most = below_trans xy.most inner _ (below_left xy.most z.most) (below_left inner _) in
          let in_z : Below z.most all.most = below_trans z.most inner _ (below_right xy.most z.most) (below_left inner _) in
          let first = larger x.most y.most in
          let in_first : Below first all.most = below_trans first xy.most _ (below_left first _) in_xy in
          let in_x : Below x.most all.most = below_trans x.most first _ (below_left x.most y.most) in_first in
          let in_y : Below y.most all.most = below_trans y.most first _ (below_right x.most y.most) in_first in
          let in_a : Below (plus x.tail y.head) all.most = below_trans (plus x.tail y.head) xy.most _ (below_right first _) in_xy in
          let last : Below (plus xy.tail z.head) all.most = below_right inner _ in
          let in_b : Below (plus y.tail z.head) all.most = below_trans (plus y.tail z.head) (plus xy.tail z.head) _ (plus_below y.tail xy.tail z.head z.head (below_left y.tail _) (below_refl z.head)) last in
          let in_c : Below (plus x.tail (plus y.through z.head)) all.most =
          below_trans (plus x.tail (plus y.through z.head)) (plus (plus x.tail y.through) z.head) _ (plus_twice x.tail y.through z.head)
          (below_trans (plus (plus x.tail y.through) z.head) (plus xy.tail z.head) _ (plus_below (plus x.tail y.through) xy.tail z.head z.head (below_right y.tail _) (below_refl z.head)) last) in
          larger_least _ _ all.most
          (larger_least x.most _ all.most in_x (larger_least (larger y.most z.most) _ all.most (larger_least y.most z.most all.most in_y in_z) in_b))
          (plus_larger x.tail y.head (plus y.through z.head) all.most in_a in_c);
    }

-- nothing is done first
pub nothing_first : (x : Steps) → Less x (followed (only_through 0) x)
nothing_first x = record {
  through = zero_plus x.through;
  head = zero_plus x.head;
  tail = below_left x.tail None;
  most = below_trans x.most x.most _ (below_refl x.most) (below_left x.most None);
}

no_end : (a b : Option ℕ) → Below (plus a None) b
no_end None b = tt
no_end (Some m) b = tt

plus_zero : (a : Option ℕ) → Below (plus a (Some 0)) a
plus_zero None = tt
plus_zero (Some m) = omega arith

-- nothing is done last
pub nothing_last : (x : Steps) → Less (followed x (only_through 0)) x
nothing_last x = record {
  through = plus_zero x.through;
  head = larger_least x.head _ x.head (below_refl x.head) (no_end x.through x.head);
  tail = plus_zero x.tail;
  most = larger_least _ _ x.most (larger_least x.most None x.most (below_refl x.most) tt) (no_end x.tail x.most);
}

-- two steps before what is left
pub two_first : (x : Steps) → Less (one_more (one_more x)) (followed (only_through 2) x)
two_first x = record { through = two x.through; head = two x.head; tail = below_left x.tail None; most = below_left x.most None }
  where
    two : (a : Option ℕ) → Below (plus (Some 1) (plus (Some 1) a)) (plus (Some 2) a)
    two None = tt
    two (Some m) = omega arith

plus_one : (a b : Option ℕ) → Below (plus (Some 1) (plus a b)) (plus (plus (Some 1) a) b)
plus_one a b = plus_twice (Some 1) a b

-- a step before what is done first is a step before all
pub one_first : (x y : Steps) → Less (one_more (followed x y)) (followed (one_more x) y)
one_first x y =
    let all = followed (one_more x) y in
    record {
      through = plus_one x.through y.through;
      head =
          plus_larger (Some 1) x.head (plus x.through y.head) all.head (below_left (plus (Some 1) x.head) _)
          (below_trans (plus (Some 1) (plus x.through y.head)) (plus (plus (Some 1) x.through) y.head) _ (plus_one x.through y.head) (below_right (plus (Some 1) x.head) _));
      tail = below_refl _;
      most = below_refl _;
    }

-- a step leads from the first to what is left of it, whatever is done after
pub push : (x y z : Steps) → Less (one_more x) y → Less (one_more (followed x z)) (followed y z)
push x y z f = less_trans _ _ _ (one_first x z) (followed_less (one_more x) y z z f (less_refl z))

pub either_first : (x y : Steps) → Less x (either x y)
either_first x y = record { through = below_left x.through y.through; head = below_left x.head y.head; tail = below_left x.tail y.tail; most = below_left x.most y.most }

pub either_second : (x y : Steps) → Less y (either x y)
either_second x y = record { through = below_right x.through y.through; head = below_right x.head y.head; tail = below_right x.tail y.tail; most = below_right x.most y.most }

-- ---- turns

-- the last test
pub last_test : (c : ℕ) (x : Steps) → 1 ≤ c → Less (one_more (only_through 0)) (turning c x)
last_test c x f = record { through = omega (arith, f); head = tt; tail = tt; most = tt }

longer_head : (c d : ℕ) (h : Option ℕ) → c ≤ d → Below (plus (Some c) h) (plus (Some d) h)
longer_head c d h f = plus_below (Some c) (Some d) h h f (below_refl h)

longer_tail : (c d : ℕ) (t : Option ℕ) → c ≤ d → Below (plus t (Some c)) (plus t (Some d))
longer_tail c d t f = plus_below t t (Some c) (Some d) (below_refl t) f

-- a step before the turns, where one more is counted
pub begin_turns : (c d : ℕ) (x : Steps) → 1 + c ≤ d → Less (one_more (turning c x)) (turning d x)
begin_turns c d x f =
    let less : c ≤ d = omega (arith, f) in
    record {
      through = f;
      head = below_trans (plus (Some 1) (plus (Some c) x.head)) (plus (Some (1 + c)) x.head) _ (plus_twice (Some 1) (Some c) x.head) (longer_head (1 + c) d x.head f);
      tail = longer_tail c d x.tail less;
      most = larger_below x.most x.most _ _ (below_refl x.most) (plus_below _ _ x.head x.head (longer_tail c d x.tail less) (below_refl x.head));
    }

-- a turn without a way through: what is after it is no further away than it was
pub sure_turn : (x : Steps) → x.through ≡ None → Less (one_more (followed x (turning 1 x))) (turning 1 x)
sure_turn x e =
    let t = turning 1 x in
    let none : (a : Option ℕ) → plus x.through a ≡ None = λ a. subst (λ (o : Option ℕ). plus o a ≡ None) (sym e) refl in
    record {
      through = subst (λ (o : Option ℕ). Below (plus (Some 1) o) t.through) (sym (none t.through)) tt;
      head = subst (λ (o : Option ℕ). Below (plus (Some 1) (larger x.head o)) t.head) (sym (none t.head)) (plus_larger (Some 1) x.head None t.head (below_refl t.head) tt);
      tail = larger_least t.tail _ t.tail (below_refl t.tail) (below_refl t.tail);
      most = larger_least _ _ t.most (larger_least x.most t.most t.most (below_left x.most _) (below_refl t.most)) (beyond x.tail x.head t.most (below_right x.most _));
    }
  where
    beyond : (a h m : Option ℕ) → Below (plus (plus a (Some 1)) h) m → Below (plus a (plus (Some 1) h)) m
    beyond a h m f = below_trans (plus a (plus (Some 1) h)) (plus (plus a (Some 1)) h) m (plus_twice a (Some 1) h) f

-- a turn with a way through of t steps
pub turn : (c t d : ℕ) (x : Steps) → c + t + 1 ≤ d → x.through ≡ Some t → Less (one_more (followed x (turning c x))) (turning d x)
turn c t d x f e =
    let s = turning c x in
    let u = turning d x in
    let shorter : c ≤ d = omega (arith, f) in
    let one : 1 ≤ d = omega (arith, f) in
    record {
      through = subst (λ (o : Option ℕ). Below (plus (Some 1) (plus o s.through)) u.through) (sym e) (omega (arith, f));
      head =
          plus_larger (Some 1) x.head (plus x.through s.head) u.head (longer_head 1 d x.head one)
          (subst (λ (o : Option ℕ). Below (plus (Some 1) (plus o s.head)) u.head) (sym e) (heads x.head));
      tail =
          larger_least s.tail _ u.tail (longer_tail c d x.tail shorter)
          (longer_tail c d x.tail shorter);
      most =
          let further : Below (plus (plus x.tail (Some c)) x.head) (plus (plus x.tail (Some d)) x.head) = plus_below _ _ x.head x.head (longer_tail c d x.tail shorter) (below_refl x.head) in
          larger_least _ _ u.most
          (larger_least x.most s.most u.most (below_left x.most _) (larger_below x.most x.most _ _ (below_refl x.most) further))
          (below_trans (plus x.tail s.head) (plus (plus x.tail (Some c)) x.head) _ (plus_twice x.tail (Some c) x.head) (below_trans (plus (plus x.tail (Some c)) x.head) _ _ further (below_right x.most _)));
    }
  where
    heads : (h : Option ℕ) → Below (plus (Some 1) (plus (Some t) (plus (Some c) h))) (plus (Some d) h)
    heads None = tt
    heads (Some h) = omega (arith, f)

-- ---- what is left

-- at most so many to the next sure statement or the end, and so many between two sure ones and after the last
pub record Within (left n : ℕ) (x : Steps) : Type 0 where
  pub through : AtMost x.through left
  pub head : AtMost x.head left
  pub tail : AtMost x.tail n
  pub most : AtMost x.most n

pub within_less : (left n : ℕ) (x y : Steps) → Less x y → Within left n y → Within left n x
within_less left n x y f g = record {
  through = at_most x.through y.through left f.through g.through;
  head = at_most x.head y.head left f.head g.head;
  tail = at_most x.tail y.tail n f.tail g.tail;
  most = at_most x.most y.most n f.most g.most;
}

pub within_more : (left more n : ℕ) (x : Steps) → left ≤ more → Within left n x → Within more n x
within_more left more n x f g = record { through = at_most_more x.through left more f g.through; head = at_most_more x.head left more f g.head; tail = g.tail; most = g.most }

pub within_step : (left n : ℕ) (x : Steps) → Within (suc left) n (one_more x) → Within left n x
within_step left n x f = record { through = one_less x.through left f.through; head = one_less x.head left f.head; tail = f.tail; most = f.most }

pub one_more_above : (x : Steps) → Less x (one_more x)
one_more_above x = record { through = one_above x.through; head = one_above x.head; tail = below_refl x.tail; most = below_refl x.most }

-- after a sure statement: going on there counts one
pub after_sure : (left n : ℕ) (x : Steps) → Within left n (followed surely x) → Within n n (one_more x)
after_sure left n x f = record {
  through = at_most (plus (Some 1) x.through) _ n (below_right x.tail (plus (Some 1) x.through)) f.tail;
  head = at_most (plus (Some 1) x.head) _ n (below_right (larger None x.most) (plus (Some 1) x.head)) f.most;
  tail = at_most x.tail _ n (below_left x.tail (plus (Some 1) x.through)) f.tail;
  most = at_most x.most _ n (below_left x.most (plus (Some 1) x.head)) f.most;
}

-- ---- each work has a way to its end or to a sure statement

abbrev IsThere : Option ℕ → Type 0
IsThere None = ⊥
IsThere (Some n) = Unit {0}

abbrev pub HasWay : Steps → Type 0
HasWay x = IsThere x.through ⊎ IsThere x.head

there_plus : (a b : Option ℕ) → IsThere a → IsThere b → IsThere (plus a b)
there_plus None b f g = absurd f
there_plus (Some m) None f g = absurd g
there_plus (Some m) (Some n) f g = tt

there_left : (a b : Option ℕ) → IsThere a → IsThere (larger a b)
there_left None b f = absurd f
there_left (Some m) None f = tt
there_left (Some m) (Some n) f = tt

there_right : (a b : Option ℕ) → IsThere b → IsThere (larger a b)
there_right None b f = f
there_right (Some m) None f = tt
there_right (Some m) (Some n) f = tt

pub way_followed : (x y : Steps) → HasWay x → HasWay y → HasWay (followed x y)
way_followed x y (inr f) g = inr (there_left x.head (plus x.through y.head) f)
way_followed x y (inl f) (inl g) = inl (there_plus x.through y.through f g)
way_followed x y (inl f) (inr g) = inr (there_right x.head (plus x.through y.head) (there_plus x.through y.head f g))

pub way_either : (x y : Steps) → HasWay x → HasWay (either x y)
way_either x y (inl f) = inl (there_left x.through y.through f)
way_either x y (inr f) = inr (there_left x.head y.head f)

pub way_one_more : (x : Steps) → HasWay x → HasWay (one_more x)
way_one_more x (inl f) = inl (there_plus (Some 1) x.through tt f)
way_one_more x (inr f) = inr (there_plus (Some 1) x.head tt f)

none_at_zero : (a : Option ℕ) → IsThere a → AtMost (plus (Some 1) a) 0 → ⊥
none_at_zero None f g = f
none_at_zero (Some m) f g = omega (arith, g)

-- a step can't be made without one
pub no_step_left : (n : ℕ) (x : Steps) → HasWay x → Within 0 n (one_more x) → ⊥
no_step_left n x (inl f) g = none_at_zero x.through f g.through
no_step_left n x (inr f) g = none_at_zero x.head f g.head

-- ---- both ways

pub less_both : (x y : Steps) → Less x y → Less y x → x ≡ y
less_both x y f g =
    ap (λ (a : Option ℕ). record { through = a; head = x.head; tail = x.tail; most = x.most }) (below_both x.through y.through f.through g.through)
    ∙ ap (λ (a : Option ℕ). record { through = y.through; head = a; tail = x.tail; most = x.most }) (below_both x.head y.head f.head g.head)
    ∙ ap (λ (a : Option ℕ). record { through = y.through; head = y.head; tail = a; most = x.most }) (below_both x.tail y.tail f.tail g.tail)
    ∙ ap (λ (a : Option ℕ). record { through = y.through; head = y.head; tail = y.tail; most = a }) (below_both x.most y.most f.most g.most)

twice_back : (x y z : Steps) → Less (followed (followed x y) z) (followed x (followed y z))
twice_back x y z =
    let yz = followed y z in
    let all = followed x yz in
    record {
      through = plus_twice_back x.through y.through z.through;
      head =
          let last : Below (plus x.through yz.head) all.head = below_right x.head _ in
          larger_least _ _ all.head
          (larger_least x.head _ all.head (below_left x.head _) (below_trans (plus x.through y.head) (plus x.through yz.head) _ (plus_below x.through x.through y.head yz.head (below_refl x.through) (below_left y.head _)) last))
          (below_trans (plus (plus x.through y.through) z.head) (plus x.through (plus y.through z.head)) _ (plus_twice_back x.through y.through z.head)
          (below_trans (plus x.through (plus y.through z.head)) (plus x.through yz.head) _ (plus_below x.through x.through (plus y.through z.head) yz.head (below_refl x.through) (below_right y.head _)) last));
      tail =
          larger_least z.tail _ all.tail (below_trans z.tail yz.tail _ (below_left z.tail _) (below_left yz.tail _))
          (larger_plus y.tail (plus x.tail y.through) z.through all.tail (below_trans (plus y.tail z.through) yz.tail _ (below_right z.tail _) (below_left yz.tail _))
          (below_trans (plus (plus x.tail y.through) z.through) (plus x.tail (plus y.through z.through)) _ (plus_twice_back x.tail y.through z.through) (below_right yz.tail _)));
      most =
          let last : Below (plus x.tail yz.head) all.most = below_right (larger x.most yz.most) _ in
          let in_yz : Below yz.most all.most = below_trans yz.most (larger x.most yz.most) _ (below_right x.most yz.most) (below_left (larger x.most yz.most) _) in
          let in_x : Below x.most all.most = below_trans x.most (larger x.most yz.most) _ (below_left x.most yz.most) (below_left (larger x.most yz.most) _) in
          let both = larger y.most z.most in
          let in_both : Below both all.most = below_trans both yz.most _ (below_left both _) in_yz in
          let in_y : Below y.most all.most = below_trans y.most both _ (below_left y.most z.most) in_both in
          let in_z : Below z.most all.most = below_trans z.most both _ (below_right y.most z.most) in_both in
          let in_a : Below (plus x.tail y.head) all.most = below_trans (plus x.tail y.head) (plus x.tail yz.head) _ (plus_below x.tail x.tail y.head yz.head (below_refl x.tail) (below_left y.head _)) last in
          let in_b : Below (plus y.tail z.head) all.most = below_trans (plus y.tail z.head) yz.most _ (below_right both _) in_yz in
          let in_c : Below (plus (plus x.tail y.through) z.head) all.most =
          below_trans (plus (plus x.tail y.through) z.head) (plus x.tail (plus y.through z.head)) _ (plus_twice_back x.tail y.through z.head)
          (below_trans (plus x.tail (plus y.through z.head)) (plus x.tail yz.head) _ (plus_below x.tail x.tail (plus y.through z.head) yz.head (below_refl x.tail) (below_right y.head _)) last) in
          larger_least _ _ all.most (larger_least _ z.most all.most (larger_least _ _ all.most (larger_least x.most y.most all.most in_x in_y) in_a) in_z) (larger_plus y.tail (plus x.tail y.through) z.head all.most in_b in_c);
    }

pub followed_assoc : (x y z : Steps) → followed (followed x y) z ≡ followed x (followed y z)
followed_assoc x y z = less_both _ _ (twice_back x y z) (followed_twice x y z)

first_nothing : (x : Steps) → Less (followed (only_through 0) x) x
first_nothing x = record {
  through = plus_zero_first x.through;
  head = plus_zero_first x.head;
  tail = larger_least x.tail None x.tail (below_refl x.tail) tt;
  most = larger_least (larger None x.most) None x.most (below_refl x.most) tt;
}

pub after_nothing : (x : Steps) → followed (only_through 0) x ≡ x
after_nothing x = less_both _ _ (first_nothing x) (nothing_first x)

last_nothing : (x : Steps) → Less x (followed x (only_through 0))
last_nothing x = record {
  through = zero_last x.through;
  head = below_left x.head _;
  tail = below_trans x.tail (plus x.tail (Some 0)) _ (zero_last x.tail) (below_right None (plus x.tail (Some 0)));
  most = below_trans x.most (larger x.most None) _ (below_left x.most None) (below_left (larger x.most None) _);
}

pub before_nothing : (x : Steps) → followed x (only_through 0) ≡ x
before_nothing x = less_both _ _ (nothing_last x) (last_nothing x)
