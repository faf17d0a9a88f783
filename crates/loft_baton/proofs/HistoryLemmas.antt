-- Entries by their actors, prefixes of lists, and what is in a list.
use Rattle.std.proofs.Common.{◌≡◌, ◌≤◌, Bool, true, false, true≢false, cond, ◌||◌, ltb, ltb-true, ltb-false, List, [], ◌∷◌, ◌++◌, length, drop, slice_index_or, refl, sym, ap, ap₂, ◌∙◌, subst, append_assoc, append-nil, eqb-true}
use Rattle.std.specs.List.{All}
use mathlib.Core.List.{IsPrefix}
use native.Mathlib.Omega.{arith}
use Rattle.std.proofs.lemmas.Grind.{flat_map-append}
use Rattle.std.proofs.lemmas.List.Elements.{All-head, All-tail, filter-append}
use Rattle.std.proofs.lemmas.List.Folds.{list_any-append, Any-from_list_any}
use Rattle.std.proofs.lemmas.List.Prefix.{front_rest}
use Rattle.loft_orders.specs.declared.entry.Actor.{Actor}
use Rattle.loft_orders.specs.declared.entry.Actor.TheVariants.{Sched, Worker, Client}
use Rattle.loft_orders.specs.declared.entry.Entry.{Entry}
use Rattle.loft_history.specs.History.{sends, sent_in}
use Rattle.loft_history.specs.Legal.{actor_of, same_actor, of}
use Rattle.loft_history.proofs.HistoryLemmas.{is_same}
use Rattle.loft_history.proofs.LegalLemmas.{same_actor_self}
use Rattle.loft_baton.specs.declared.knows.Own.{Own}
use Rattle.loft_baton.specs.Knowing.{among, has, longer}

pub same-refl : (a : Actor) → same_actor a a ≡ true
same-refl a = same_actor_self a

pub same-true : (a b : Actor) → same_actor a b ≡ true → a ≡ b
same-true (Sched a) (Sched b) e = ap Sched (is_same a b e)
same-true (Sched a) (Worker b) e = absurd (true≢false (sym e))
same-true (Sched a) (Client b) e = absurd (true≢false (sym e))
same-true (Worker a) (Sched b) e = absurd (true≢false (sym e))
same-true (Worker a) (Worker b) e = ap Worker (eqb-true a b e)
same-true (Worker a) (Client b) e = absurd (true≢false (sym e))
same-true (Client a) (Sched b) e = absurd (true≢false (sym e))
same-true (Client a) (Worker b) e = absurd (true≢false (sym e))
same-true (Client a) (Client b) e = ap Client (eqb-true a b e)

pub off : {b : Bool} → (b ≡ true → ⊥) → b ≡ false
off {b} never = elim b as (λ c. (c ≡ true → ⊥) → c ≡ false) [ true ↦ (λ n. absurd (n refl)) | false ↦ (λ _. refl) ] never

pub both_ways : {b : Bool} → b ≡ true → b ≡ false → ⊥
both_ways t f = true≢false (sym t ∙ f)

pub of-append : (a : Actor) (h new : List Entry) → of a (h ++ new) ≡ of a h ++ of a new
of-append a h new = filter-append (λ (e : Entry). same_actor a (actor_of e)) h new

pub sent_in-append : (h new : List Entry) → sent_in (h ++ new) ≡ sent_in h ++ sent_in new
sent_in-append h new = flat_map-append sends h new

pub of_none : (a : Actor) (new : List Entry) → All (λ e. same_actor a (actor_of e) ≡ false) new → of a new ≡ []
of_none a [] h = refl
of_none a (x ∷ xs) h =
    let P : Entry → Type 0 = λ e. same_actor a (actor_of e) ≡ false in
    let others : of a xs ≡ [] = of_none a xs (All-tail P x xs h) in
    ap (λ b. cond b (x ∷ of a xs) (of a xs)) (All-head P x xs h) ∙ others

module _ {A : Type 0} where
  pub prefix_trans : (a b c : List A) → IsPrefix a b → IsPrefix b c → IsPrefix a c
  prefix_trans a b c p q = (p.0 ++ q.0, sym (append_assoc a p.0 q.0) ∙ ap (λ l. l ++ q.0) p.1 ∙ q.1)

  pub prefix_refl : (a b : List A) → a ≡ b → IsPrefix a b
  prefix_refl a b e = ([], append-nil a ∙ e)

  pub prefix_rest : (a b : List A) → IsPrefix a b → a ++ drop (length a) b ≡ b
  prefix_rest a b p = ap (λ l. a ++ l) (front_rest b a p.0 (sym p.1)) ∙ p.1

  -- of two lists that begin one list, the shorter begins the longer
  pub prefix_short : (a b r s : List A) → a ++ r ≡ b ++ s → length a ≤ length b → IsPrefix a b
  prefix_short [] b r s e few = (b, refl)
  prefix_short (x ∷ a) [] r s e few = absurd (omega (arith, few))
  prefix_short (x ∷ a) (y ∷ b) r s e few =
      let more = prefix_short a b r s (ap (drop 1) e) (omega (arith, few)) in
      (more.0, ap₂ (λ z zs. z ∷ zs) (ap (λ l. slice_index_or l 0 x) e) more.1)

module _ (a b h : List Entry) (p : IsPrefix a h) (q : IsPrefix b h) where
  pub longer_first : IsPrefix a (longer a b)
  longer_first =
      elim (ltb (length a) (length b)) as (λ t. ltb (length a) (length b) ≡ t → IsPrefix a (cond t b a)) [
        | true ↦ (λ less. prefix_short a b p.0 q.0 (p.1 ∙ sym q.1) (omega (arith, ltb-true (length a) (length b) less)))
        | false ↦ (λ _. prefix_refl a a refl)
      ] refl

  pub longer_second : IsPrefix b (longer a b)
  longer_second =
      elim (ltb (length a) (length b)) as (λ t. ltb (length a) (length b) ≡ t → IsPrefix b (cond t b a)) [
        | true ↦ (λ _. prefix_refl b b refl)
        | false ↦ (λ most. prefix_short b a q.0 p.0 (q.1 ∙ sym p.1) (omega (arith, ltb-false (length a) (length b) most)))
      ] refl

pub longer_is : (P : List Entry → Type 0) (a b : List Entry) → P a → P b → P (longer a b)
longer_is P a b p q = elim (ltb (length a) (length b)) as (λ t. P (cond t b a)) [ true ↦ q | false ↦ p ]

pub among-push : (given : List Actor) (b a : Actor) → among given a ≡ true → among (given ++ b ∷ []) a ≡ true
among-push given b a e = list_any-append (λ c. same_actor a c) given (b ∷ []) ∙ ap (λ t. t || among (b ∷ []) a) e

-- a fact of each of a pass's actors is a fact of one of them
pub all_has : (P : Actor → Type 0) (own : List Own) (a : Actor) → All (λ o. P o.actor) own → has own a ≡ true → P a
all_has P own a all e =
    let w = Any-from_list_any (λ (o : Own). same_actor a o.actor) own e in
    subst P (sym (same-true _ _ w.4)) (subst (λ (o : Own). P o.actor) w.3 (all w.0 w.1 w.2))

pub all_among : (P : Actor → Type 0) (given : List Actor) (a : Actor) → All P given → among given a ≡ true → P a
all_among P given a all e =
    let w = Any-from_list_any (λ (b : Actor). same_actor a b) given e in
    subst P (sym (same-true _ _ w.4)) (subst P w.3 (all w.0 w.1 w.2))
