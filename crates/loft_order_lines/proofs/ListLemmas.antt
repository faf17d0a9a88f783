-- Items that are read one after the other.
use Rattle.std.proofs.Common.{◌≡◌, ℕ, ◌+◌, ◌<◌, List, [], ◌∷◌, ◌++◌, length, refl, sym, ap, subst, ◌∙◌, append-nil, append_assoc, arith}
use Rattle.std.proofs.lemmas.List.{length-append}
use Rattle.std.specs.List.{flat_map}
use Rattle.loft_tree.specs.Fits.{Each}
use Rattle.loft_orders.specs.Text.{separated_by}
use Rattle.loft_order_lines.specs.Cut.{Lacks, IsCut}
use Rattle.loft_order_lines.proofs.Cuts.{cut_found, cut_none}

-- these items were read of all, and what is left are the texts of the others
pub record Left {A : Type 0} (between : ℕ) (text : A → List ℕ) (P : A → Type 0) (xs items : List A) (left : List ℕ) : Type 0 where
  pub ys : List A
  pub all : xs ≡ items ++ ys
  pub each : Each P ys
  pub rest : left ≡ separated_by (between ∷ []) text ys

-- no text is empty, and the byte between two is in none
abbrev pub Apart : {A : Type 0} → ℕ → (A → List ℕ) → (A → Type 0) → Type 0
Apart {A} between text P = (x : A) → P x → (0 < length (text x)) × Lacks between (text x)

-- the first of those that are left
pub record First {A : Type 0} (between : ℕ) (text : A → List ℕ) (P : A → Type 0) (xs items : List A) (front rest : List ℕ) : Type 0 where
  pub y : A
  pub has : P y
  pub is : front ≡ text y
  pub goes : (item : A) → item ≡ y → Left between text P xs (items ++ item ∷ []) rest

pub left_first : {A : Type 0} (between : ℕ) (text : A → List ℕ) (P : A → Type 0) (xs items : List A) (left front rest : List ℕ) → Apart between text P
    → Left between text P xs items left → 0 < length left → IsCut between left front rest → First between text P xs items front rest
left_first {A} between text P xs items left front rest apart l some cut = go l.ys l.all l.each l.rest
  where
    moved : (y : A) (zs : List A) → xs ≡ items ++ y ∷ zs → Each P zs → rest ≡ separated_by (between ∷ []) text zs → (item : A) → item ≡ y → Left between text P xs (items ++ item ∷ []) rest
    moved y zs all each is item same = record { ys = zs; all = all ∙ sym (append_assoc items (y ∷ []) zs) ∙ ap (λ z. (items ++ z ∷ []) ++ zs) (sym same); each = each; rest = is }

    go : (ys : List A) → xs ≡ items ++ ys → Each P ys → left ≡ separated_by (between ∷ []) text ys → First between text P xs items front rest
    go [] all each is = absurd (let none : length left ≡ 0 = ap length is in omega (arith, none, some))
    go (y ∷ []) all each is =
        let one : left ≡ text y = is ∙ append-nil (text y) in
        let lack : Lacks between left = subst (Lacks between) (sym one) (apart y each.0).1 in
        let parts = cut_none between left front rest cut lack in
        record { y = y; has = each.0; is = parts.0 ∙ one; goes = moved y [] all tt parts.1 }
    go (y ∷ z ∷ zs) all each is =
        let parts = cut_found between left front rest (text y) (separated_by (between ∷ []) text (z ∷ zs)) cut (apart y each.0).1 is in
        record { y = y; has = each.0; is = parts.0; goes = moved y (z ∷ zs) all each.1 parts.1 }

-- where nothing is left, all were read
pub left_done : {A : Type 0} (between : ℕ) (text : A → List ℕ) (P : A → Type 0) (xs items : List A) (left : List ℕ) → Apart between text P → Left between text P xs items left → length left ≡ 0 → xs ≡ items
left_done {A} between text P xs items left apart l none = go l.ys l.all l.each l.rest
  where
    go : (ys : List A) → xs ≡ items ++ ys → Each P ys → left ≡ separated_by (between ∷ []) text ys → xs ≡ items
    go [] all each is = all ∙ append-nil items
    go (y ∷ ys) all each is =
        absurd (let long : length left ≡ length (text y) + length (flat_map (λ z. (between ∷ []) ++ text z) ys) = ap length is ∙ length-append (text y) (flat_map (λ z. (between ∷ []) ++ text z) ys) in omega (arith, long, none, (apart y each.0).0))

-- none was read
pub left_all : {A : Type 0} (between : ℕ) (text : A → List ℕ) (P : A → Type 0) (xs : List A) (left : List ℕ) → Each P xs → left ≡ separated_by (between ∷ []) text xs → Left between text P xs [] left
left_all between text P xs left each is = record { ys = xs; all = refl; each = each; rest = is }
