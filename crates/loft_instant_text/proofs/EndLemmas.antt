-- The ends of a batch, order by order.
use Rattle.std.proofs.Common.{◌≡◌, ℕ, suc, ◌+◌, ◌==◌, ◌<◌, ◌≤◌, Bool, true, false, List, [], ◌∷◌, ◌++◌, length, drop, take, get_or, subst, refl, sym, ap, ◌∙◌, arith, append-nil, if◌then◌else◌, eq-eqb}
use Rattle.std.proofs.lemmas.Bool.{ne_eqb, true≢false}
use Rattle.std.proofs.lemmas.Map.Views.{exact_unsigned_eq}
use Rattle.std.proofs.lemmas.Grind.{common_steps, flat_map-append}
use Rattle.loft_instant_text.proofs.Lists.{drop-at}
use Rattle.loft_tree.specs.declared.heads.Heads.{Heads}
use Rattle.loft_orders.specs.declared.note.Ended.{Ended}
use Rattle.loft_orders.specs.Lines.{text_of, end_line, ends_at}
use Rattle.loft_instant_text.specs.Ends.{InOrderFrom, AreLeft, leading}

-- the line of an end is told where its index is that one
abbrev end_if : Heads → Ended → List (List ℕ) → Bool → List (List ℕ)
end_if h e later here = if here then end_line h e.thread e.end ∷ later else later

-- an end of another order has no line here
pub ends_at-other : (h : Heads) (k : ℕ) (e : Ended) (es : List Ended) → (e.index ≡ k → ⊥) → ends_at h k (e ∷ es) ≡ ends_at h k es
ends_at-other h k e es other = ap (end_if h e (ends_at h k es)) (ne_eqb e.index k other)

-- an end of this order has one
pub ends_at-own : (h : Heads) (k : ℕ) (e : Ended) (es : List Ended) → e.index ≡ k → ends_at h k (e ∷ es) ≡ end_line h e.thread e.end ∷ ends_at h k es
ends_at-own h k e es own = ap (end_if h e (ends_at h k es)) (eq-eqb e.index k own)

-- its text
pub text_own : (h : Heads) (k : ℕ) (e : Ended) → e.index ≡ k → text_of (ends_at h k (e ∷ [])) ≡ end_line h e.thread e.end ++ 10 ∷ []
text_own h k e own = ap text_of (ends_at-own h k e [] own) ∙ append-nil (end_line h e.thread e.end ++ 10 ∷ [])

pub text_other : (h : Heads) (k : ℕ) (e : Ended) → (e.index ≡ k → ⊥) → text_of (ends_at h k (e ∷ [])) ≡ []
text_other h k e other = ap text_of (ends_at-other h k e [] other)

joined_by : (h : Heads) (e : Ended) (a b : List (List ℕ)) (here : Bool) → end_if h e (a ++ b) here ≡ end_if h e a here ++ b
joined_by h e a b true = refl
joined_by h e a b false = refl

pub ends_at-append : (h : Heads) (k : ℕ) (a b : List Ended) → ends_at h k (a ++ b) ≡ ends_at h k a ++ ends_at h k b
ends_at-append h k [] b = refl
ends_at-append h k (e ∷ es) b = ap (λ later. end_if h e later (e.index == k)) (ends_at-append h k es b) ∙ joined_by h e (ends_at h k es) (ends_at h k b) (e.index == k)

-- the text of the ends of an order, in two parts
pub text_of_ends : (h : Heads) (k : ℕ) (a b : List Ended) → text_of (ends_at h k (a ++ b)) ≡ text_of (ends_at h k a) ++ text_of (ends_at h k b)
text_of_ends h k a b = ap text_of (ends_at-append h k a b) ∙ flat_map-append (λ line. line ++ 10 ∷ []) (ends_at h k a) (ends_at h k b)

-- the text of those so far, with one more
pub text_of_next : (h : Heads) (k : ℕ) (es : List Ended) (i : ℕ) (d : Ended) → i < length es → text_of (ends_at h k (take (i + 1) es)) ≡ text_of (ends_at h k (take i es)) ++ text_of (ends_at h k (get_or es i d ∷ []))
text_of_next h k es i d below =
    let next : take (i + 1) es ≡ take i es ++ get_or es i d ∷ [] = grind (arith, common_steps) in
    ap (λ ends. text_of (ends_at h k ends)) next ∙ text_of_ends h k (take i es) (get_or es i d ∷ [])

-- where ends stand in order, none from a larger index on is of this order
none_of : (h : Heads) (k m : ℕ) → k < m → (es : List Ended) → InOrderFrom m es → ends_at h k es ≡ []
none_of h k m below [] order = refl
none_of h k m below (e ∷ es) order =
    ends_at-other h k e es (λ is. absurd (omega (arith, below, order.0, is)))
    ∙ none_of h k e.index (omega (arith, below, order.0)) es order.1

one_taken : (n : ℕ) (e : Ended) (es : List Ended) → take (1 + n) (e ∷ es) ≡ e ∷ take n es
one_taken n e es = let next : 1 + n ≡ suc n = omega arith in ap (λ m. take m (e ∷ es)) next

one_dropped : (n : ℕ) (e : Ended) (es : List Ended) → drop (1 + n) (e ∷ es) ≡ drop n es
one_dropped n e es = let next : 1 + n ≡ suc n = omega arith in ap (λ m. drop m (e ∷ es)) next

here_by : (h : Heads) (k : ℕ) (e : Ended) (es : List Ended) → InOrderFrom k (e ∷ es) → (ends_at h k (take (leading k es) es) ≡ ends_at h k es) → (b : Bool) → (e.index == k) ≡ b
    → ends_at h k (take (if b then 1 + leading k es else 0) (e ∷ es)) ≡ ends_at h k (e ∷ es)
here_by h k e es order later true is =
    ap (λ taken. ends_at h k taken) (one_taken (leading k es) e es) ∙ ap (λ x. end_if h e x (e.index == k)) later
here_by h k e es order later false is =
    let other : (e.index ≡ k → ⊥) = λ own. true≢false (sym (eq-eqb e.index k own) ∙ is) in
    sym (ends_at-other h k e es other ∙ none_of h k e.index (omega (arith, order.0, other)) es order.1)

-- ends in order from a number on are so from a smaller one on
lowered : (k m : ℕ) → k ≤ m → (es : List Ended) → InOrderFrom m es → InOrderFrom k es
lowered k m below [] order = order
lowered k m below (e ∷ es) order = (omega (arith, below, order.0), order.1)

-- the first ends with this index are all that have it, where ends stand in order
pub first_are_all : (h : Heads) (k : ℕ) (es : List Ended) → InOrderFrom k es → ends_at h k (take (leading k es) es) ≡ ends_at h k es
first_are_all h k [] order = refl
first_are_all h k (e ∷ es) order = here_by h k e es order (first_are_all h k es (lowered k e.index order.0 es order.1)) (e.index == k) refl

later_by : (h : Heads) (k j : ℕ) → k < j → (e : Ended) (es : List Ended) → (ends_at h j (drop (leading k es) es) ≡ ends_at h j es) → (b : Bool) → (e.index == k) ≡ b
    → ends_at h j (drop (if b then 1 + leading k es else 0) (e ∷ es)) ≡ ends_at h j (e ∷ es)
later_by h k j below e es later true is =
    let own = exact_unsigned_eq e.index k is in
    ap (λ left. ends_at h j left) (one_dropped (leading k es) e es) ∙ later ∙ sym (ends_at-other h j e es (λ other. absurd (omega (arith, below, own, other))))
later_by h k j below e es later false is = refl

-- without them a later order has the same ends
pub later_stay : (h : Heads) (k j : ℕ) → k < j → (es : List Ended) → ends_at h j (drop (leading k es) es) ≡ ends_at h j es
later_stay h k j below [] = refl
later_stay h k j below (e ∷ es) = later_by h k j below e es (later_stay h k j below es) (e.index == k) refl

order_by : (k : ℕ) (e : Ended) (es : List Ended) → InOrderFrom k (e ∷ es) → InOrderFrom (k + 1) (drop (leading k es) es) → (b : Bool) → (e.index == k) ≡ b
    → InOrderFrom (k + 1) (drop (if b then 1 + leading k es else 0) (e ∷ es))
order_by k e es order later true is = subst (InOrderFrom (k + 1)) (sym (one_dropped (leading k es) e es)) later
order_by k e es order later false is =
    let other : (e.index ≡ k → ⊥) = λ own. true≢false (sym (eq-eqb e.index k own) ∙ is) in
    (omega (arith, order.0, other), order.1)

-- those after them stand in order from the next index on
pub rest_in_order : (k : ℕ) (es : List Ended) → InOrderFrom k es → InOrderFrom (k + 1) (drop (leading k es) es)
rest_in_order k [] order = order
rest_in_order k (e ∷ es) order = order_by k e es order (rest_in_order k es (lowered k e.index order.0 es order.1)) (e.index == k) refl

-- in order: the ends of this order, and what is left after it
pub own_ends : (in_order : Bool) (all left here : List Ended) (k n : ℕ) → in_order ≡ true → n ≡ leading k left → here ≡ take n left → AreLeft in_order all k left → (h : Heads) → ends_at h k here ≡ ends_at h k all
own_ends in_order all left here k n is counted taken are h =
    ap (λ ends. ends_at h k ends) (taken ∙ ap (λ m. take m left) counted)
    ∙ first_are_all h k left (are.order is)
    ∙ are.same h k (omega arith)

pub left_in_order : (in_order : Bool) (all left rest : List Ended) (k n : ℕ) → in_order ≡ true → n ≡ leading k left → rest ≡ drop n left → AreLeft in_order all k left → AreLeft in_order all (k + 1) rest
left_in_order in_order all left rest k n is counted dropped are =
    let rest_is : rest ≡ drop (leading k left) left = dropped ∙ ap (λ m. drop m left) counted in
    record {
      same = λ h j below. ap (λ ends. ends_at h j ends) rest_is ∙ later_stay h k j (omega (arith, below)) left ∙ are.same h j (omega (arith, below));
      order = λ _. subst (InOrderFrom (k + 1)) (sym rest_is) (rest_in_order k left (are.order is));
    }

-- what is in order from the end at this index on is so from here on
pub from_next : (es : List Ended) (least i : ℕ) (e : Ended) → i < length es → e ≡ get_or es i e → least ≤ e.index → InOrderFrom e.index (drop (i + 1) es) → InOrderFrom least (drop i es)
from_next es least i e below is at_least order = subst (InOrderFrom least) (sym (drop-at es i e below is)) (at_least, order)

-- how many of those from here on lead, where that at this index does
pub leading_from : (k : ℕ) (es : List Ended) (i : ℕ) (e : Ended) → i < length es → e ≡ get_or es i e → e.index ≡ k → leading k (drop i es) ≡ 1 + leading k (drop (i + 1) es)
leading_from k es i e below is own =
    ap (leading k) (drop-at es i e below is)
    ∙ ap (λ b. if b then 1 + leading k (drop (i + 1) es) else 0) (eq-eqb e.index k own)

-- and where it doesn't
pub leading_stops : (k : ℕ) (es : List Ended) (i : ℕ) (e : Ended) → i < length es → e ≡ get_or es i e → (e.index ≡ k → ⊥) → leading k (drop i es) ≡ 0
leading_stops k es i e below is other =
    ap (leading k) (drop-at es i e below is)
    ∙ ap (λ b. if b then 1 + leading k (drop (i + 1) es) else 0) (ne_eqb e.index k other)
