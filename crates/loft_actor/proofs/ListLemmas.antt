-- Lists by their indexes, and prefixes of one list.
use Rattle.std.proofs.Common.{◌≡◌, ℕ, zero, suc, ◌+◌, ◌<◌, ◌≤◌, arith, List, [], ◌∷◌, ◌++◌, length, map, refl, sym, ap, ◌∙◌}
use Rattle.std.specs.List.{All, range_with_len}
use mathlib.Core.List.{IsPrefix}
use Rattle.std.proofs.lemmas.List.Elements.{All-nil, All-cons, All-head, All-tail}
use Rattle.loft_base.specs.declared.ids.SchedId.{SchedId}
use Rattle.loft_sense.specs.Heads.{scheduler}
use Rattle.loft_history.specs.Report.{schedulers_from}
use Rattle.loft_actor.specs.Members.{AtIndex}

module _ {A : Type 0} where
  -- what holds at each index does so with one more, where it holds of that
  pub index_push : (P : ℕ → A → Type 0) (xs : List A) (x : A) → AtIndex P xs → P (length xs) x → AtIndex P (xs ++ x ∷ [])
  index_push P [] x all p zero d lt = p
  index_push P [] x all p (suc i) d lt = absurd (omega arith)
  index_push P (y ∷ ys) x all p zero d lt = all 0 d (omega arith)
  index_push P (y ∷ ys) x all p (suc i) d lt = index_push (λ k. P (suc k)) ys x (λ k e l. all (suc k) e (omega arith)) p i d (omega arith)

  -- the element at an index
  pub at_index : (P : ℕ → A → Type 0) (xs : List A) (n : ℕ) → n < length xs → AtIndex P xs → (x : A) × P n x
  at_index P [] n lt all = absurd (omega arith)
  at_index P (x ∷ xs) zero lt all = (x, all 0 x (omega arith))
  at_index P (x ∷ xs) (suc n) lt all = at_index (λ k. P (suc k)) xs n (omega arith) (λ k d l. all (suc k) d (omega arith))

  pub all_front : (P : A → Type 0) (xs ys : List A) → All P (xs ++ ys) → All P xs
  all_front P [] ys all = All-nil P
  all_front P (x ∷ xs) ys all = All-cons P x xs (All-head P x (xs ++ ys) all) (all_front P xs ys (All-tail P x (xs ++ ys) all))

  pub all_back : (P : A → Type 0) (xs ys : List A) → All P (xs ++ ys) → All P ys
  all_back P [] ys all = all
  all_back P (x ∷ xs) ys all = all_back P xs ys (All-tail P x (xs ++ ys) all)

  pub from_map : {B : Type 0} (P : B → Type 0) (f : A → B) (xs : List A) → All P (map f xs) → All (λ x. P (f x)) xs
  from_map P f [] all = All-nil (λ x. P (f x))
  from_map P f (x ∷ xs) all = All-cons (λ x. P (f x)) x xs (All-head P (f x) (map f xs) all) (from_map P f xs (All-tail P (f x) (map f xs) all))

  -- the values of a list whose elements have those of their indexes
  map_at : {B : Type 0} (f : A → B) (g : ℕ → B) (k : ℕ) (xs : List A) → AtIndex (λ i x. f x ≡ g (k + i)) xs → map f xs ≡ map g (range_with_len k (length xs))
  map_at f g k [] all = refl
  map_at f g k (x ∷ xs) all =
      ap (λ y. y ∷ map f xs) (all 0 x (omega arith) ∙ ap g (omega arith))
      ∙ ap (λ ys. g k ∷ ys) (map_at f g (k + 1) xs (λ i d lt. all (suc i) d (omega arith) ∙ ap g (omega arith)))

  -- the same by the schedulers of as many names
  map_schedulers : {B N : Type 0} (f : A → B) (g : SchedId → B) (k : ℕ) (xs : List A) (names : List N) → length xs ≡ length names → AtIndex (λ i x. f x ≡ g (scheduler (k + i))) xs
      → map f xs ≡ map g (schedulers_from k names)
  map_schedulers f g k [] [] len all = refl
  map_schedulers f g k [] (n ∷ names) len all = absurd (omega (arith, len))
  map_schedulers f g k (x ∷ xs) [] len all = absurd (omega (arith, len))
  map_schedulers f g k (x ∷ xs) (n ∷ names) len all =
      ap (λ y. y ∷ map f xs) (all 0 x (omega arith) ∙ ap (λ i. g (scheduler i)) (omega arith))
      ∙ ap (λ ys. g (scheduler k) ∷ ys)
      (map_schedulers f g (k + 1) xs names (omega (arith, len)) (λ i d lt. all (suc i) d (omega arith) ∙ ap (λ j. g (scheduler j)) (omega arith)))

  pub map_all : {B : Type 0} (f : A → B) (g : ℕ → B) (xs : List A) → AtIndex (λ i x. f x ≡ g i) xs → map f xs ≡ map g (range_with_len 0 (length xs))
  map_all f g xs all = map_at f g 0 xs (λ i d lt. all i d lt ∙ ap g (omega arith))

  pub map_all_schedulers : {B N : Type 0} (f : A → B) (g : SchedId → B) (xs : List A) (names : List N) → length xs ≡ length names → AtIndex (λ i x. f x ≡ g (scheduler i)) xs → map f xs ≡ map g (schedulers_from 0 names)
  map_all_schedulers f g xs names len all = map_schedulers f g 0 xs names len (λ i d lt. all i d lt ∙ ap (λ j. g (scheduler j)) (omega arith))

  -- ---- prefixes

  prefix_of_both : (a b r s : List A) → a ++ r ≡ b ++ s → length a ≤ length b → IsPrefix a b
  prefix_of_both [] b r s e le = (b, refl)
  prefix_of_both (x ∷ a) [] r s e le = absurd (omega arith)
  prefix_of_both (x ∷ a) (y ∷ b) r s e le =
      let head : x ≡ y = cc in
      let rest : a ++ r ≡ b ++ s = cc in
      let p = prefix_of_both a b r s rest (omega arith) in
      (p.0, λ i. head i ∷ p.1 i)

  -- of two prefixes of one list the shorter is a prefix of the longer
  pub prefix_of_longer : (a b h : List A) → IsPrefix a h → IsPrefix b h → length a ≤ length b → IsPrefix a b
  prefix_of_longer a b h p q le = prefix_of_both a b p.0 q.0 (p.1 ∙ sym q.1) le

  pub none_of_length : (xs : List A) → length xs ≡ 0 → xs ≡ []
  none_of_length [] e = refl
  none_of_length (x ∷ xs) e = absurd (omega arith)
