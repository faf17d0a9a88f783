-- The last element of a list is what was appended last.
use Rattle.std.proofs.Common.{◌≡◌, List, [], ◌∷◌, ◌++◌, length, refl, sym, ap, ◌∙◌, arith}
use Rattle.loft_report_shape.specs.Last.{on_last}

pub on_last_push : {A : Type 0} (f : A → A) (xs : List A) (x : A) → on_last f (xs ++ x ∷ []) ≡ xs ++ f x ∷ []
unfolding on_last
on_last_push f [] x = refl
on_last_push f (y ∷ []) x = refl
on_last_push f (y ∷ z ∷ zs) x = ap (λ (t : List _). y ∷ t) (on_last_push f (z ∷ zs) x)

pub on_last_none : {A : Type 0} (f : A → A) → on_last f [] ≡ []
unfolding on_last
on_last_none f = refl

nothing : {A : Type 0} (xs : List A) → length xs ≡ 0 → xs ≡ []
nothing [] h = refl
nothing (x ∷ xs) h = absurd (omega arith)

-- an empty list has no last element
pub none_left : {A : Type 0} (f : A → A) (old new now : List A) → length old ≡ 0 → length new ≡ 0 → old ≡ now → new ≡ on_last f now
unfolding on_last
none_left f old new now h k e = nothing new k ∙ ap (on_last f) (sym (nothing old h) ∙ e)
