-- The last element of a list.
use Rattle.std.specs.Prelude.{List, [], ◌∷◌}

-- the list with this of its last element
unfoldable pub on_last : {A : Type 0} → (A → A) → List A → List A
on_last f [] = []
on_last f (x ∷ []) = f x ∷ []
on_last f (x ∷ y ∷ ys) = x ∷ on_last f (y ∷ ys)
