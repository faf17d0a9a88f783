-- Lists that are the same seen by a function.
use Rattle.std.proofs.Common.{◌≡◌, Bool, true, false, if◌then◌else◌, List, [], ◌∷◌, ◌++◌, map, refl, sym, ◌∙◌}
use Rattle.std.proofs.lemmas.List.{map-append}

-- the two lists are the same seen by f
pub record Alike {A B : Type 0} (f : A → B) (xs ys : List A) : Type 0 where
  pub same : map f xs ≡ map f ys

module _ {A B : Type 0} {f : A → B} where
  pub none : Alike f [] []
  none = record { same = refl }

  pub both : {zs bs cs ds : List A} → Alike f zs cs → Alike f bs ds → Alike f (zs ++ bs) (cs ++ ds)
  both {zs} {bs} {cs} {ds} p q = record { same = map-append f zs bs ∙ (λ i. p.same i ++ q.same i) ∙ sym (map-append f cs ds) }

  pub more : {x y : A} {zs bs : List A} → f x ≡ f y → Alike f zs bs → Alike f (x ∷ zs) (y ∷ bs)
  more p q = record { same = λ i. p i ∷ q.same i }

  pub flipped : {zs bs : List A} → Alike f zs bs → Alike f bs zs
  flipped p = record { same = sym p.same }

  pub chosen : (c : Bool) {zs bs cs ds : List A} → Alike f zs cs → Alike f bs ds → Alike f (if c then zs else bs) (if c then cs else ds)
  chosen true p q = p
  chosen false p q = q

  -- a list like an empty one is empty
  pub emptied : (xs : List A) → Alike f [] xs → xs ≡ []
  emptied [] p = refl
  emptied (x ∷ xs) p = let h : [] ≡ f x ∷ map f xs = p.same in absurd cc
