-- What holds at each entry of a list, of a longer list and of a prefix.
use Rattle.std.proofs.Common.{◌≡◌, List, [], ◌∷◌, ◌++◌, refl, ap, ◌∙◌, subst, append_assoc}
use Rattle.loft_orders.specs.declared.entry.Entry.{Entry}
use Rattle.loft_history.specs.Legal.{AtEach}

same_head : {a b : Entry} {xs ys : List Entry} → a ∷ xs ≡ b ∷ ys → a ≡ b
same_head e = cc

same_rest : {a b : Entry} {xs ys : List Entry} → a ∷ xs ≡ b ∷ ys → xs ≡ ys
same_rest e = cc

none_inside : {Q : Type 0} (before : List Entry) (e : Entry) (after : List Entry) → [] ≡ before ++ e ∷ after → Q
none_inside [] e after q = cc
none_inside (b ∷ before) e after q = cc

-- what holds at each entry holds so after one more entry, where it holds at that
pub at_each-append : (P : List Entry → Entry → Type 0) (h : List Entry) (e : Entry) → AtEach P h → P h e → AtEach P (h ++ e ∷ [])
at_each-append P [] e each now [] f after q = subst (P []) (same_head q) now
at_each-append P [] e each now (b ∷ before) f after q = none_inside before f after (same_rest q)
at_each-append P (d ∷ h) e each now [] f after q = subst (P []) (same_head q) (each [] d h refl)
at_each-append P (d ∷ h) e each now (b ∷ before) f after q =
    subst (λ (c : Entry). P (c ∷ before) f) (same_head q)
    (at_each-append (λ (l : List Entry). P (d ∷ l)) h e (λ l g k r. each (d ∷ l) g k (ap (λ (m : List Entry). d ∷ m) r)) now before f after (same_rest q))

-- nothing holds of no entry
pub at_each_none : (P : List Entry → Entry → Type 0) → AtEach P []
at_each_none P before e after q = none_inside before e after q

-- what holds at each entry does so in a prefix of the history
pub at_each_before : (P : List Entry → Entry → Type 0) (before after : List Entry) → AtEach P (before ++ after) → AtEach P before
at_each_before P before after each b e a same = each b e (a ++ after) (ap (λ (l : List Entry). l ++ after) same ∙ append_assoc b (e ∷ a) after)
