-- Lists: what holds of each element, and how many pass a test.
use Rattle.std.proofs.Common.{◌≡◌, ℕ, ◌+◌, Bool, cond, List, [], ◌∷◌, ◌++◌, map, count_by, Option, Some, None, refl, ap, ◌∙◌}
use Rattle.std.specs.Option.{option_map}
use Rattle.std.proofs.lemmas.List.Sums.{sum_by_push}
use Rattle.loft_tree.specs.Fits.{Each, IfThere}

pub each_map : {A B : Type 0} (P : B → Type 0) (Q : A → Type 0) (f : A → B) → ((x : A) → Q x → P (f x)) → (xs : List A) → Each Q xs → Each P (map f xs)
each_map P Q f so [] all = tt
each_map P Q f so (x ∷ xs) all = (so x all.0, each_map P Q f so xs all.1)

pub each_append : {A : Type 0} (P : A → Type 0) (xs ys : List A) → Each P xs → Each P ys → Each P (xs ++ ys)
each_append P [] ys first rest = rest
each_append P (x ∷ xs) ys first rest = (first.0, each_append P xs ys first.1 rest)

pub each_left : {A : Type 0} (P : A → Type 0) (xs ys : List A) → Each P (xs ++ ys) → Each P xs
each_left P [] ys all = tt
each_left P (x ∷ xs) ys all = (all.0, each_left P xs ys all.1)

pub each_right : {A : Type 0} (P : A → Type 0) (xs ys : List A) → Each P (xs ++ ys) → Each P ys
each_right P [] ys all = all
each_right P (x ∷ xs) ys all = each_right P xs ys all.1

pub each_so : {A : Type 0} (P Q : A → Type 0) → ((x : A) → Q x → P x) → (xs : List A) → Each Q xs → Each P xs
each_so P Q so [] all = tt
each_so P Q so (x ∷ xs) all = (so x all.0, each_so P Q so xs all.1)

pub there_map : {A B : Type 0} (P : B → Type 0) (Q : A → Type 0) (f : A → B) → ((x : A) → Q x → P (f x)) → (x : Option A) → IfThere Q x → IfThere P (option_map f x)
there_map P Q f so None is = tt
there_map P Q f so (Some x) is = so x is

pub map_twice : {A : Type 0} (f g h : A → A) → ((x : A) → f (g x) ≡ h x) → (xs : List A) → map f (map g xs) ≡ map h xs
map_twice f g h same [] = refl
map_twice f g h same (x ∷ xs) = ap (λ y. y ∷ map f (map g xs)) (same x) ∙ ap (λ ys. h x ∷ ys) (map_twice f g h same xs)

pub option_twice : {A : Type 0} (f g h : A → A) → ((x : A) → f (g x) ≡ h x) → (x : Option A) → option_map f (option_map g x) ≡ option_map h x
option_twice f g h same None = refl
option_twice f g h same (Some x) = ap Some (same x)

pub map_same : {A : Type 0} (f g : A → A) → ((x : A) → f x ≡ g x) → (xs : List A) → map f xs ≡ map g xs
map_same f g same [] = refl
map_same f g same (x ∷ xs) = ap (λ y. y ∷ map f xs) (same x) ∙ ap (λ ys. g x ∷ ys) (map_same f g same xs)

pub option_same : {A : Type 0} (f g : A → A) → ((x : A) → f x ≡ g x) → (x : Option A) → option_map f x ≡ option_map g x
option_same f g same None = refl
option_same f g same (Some x) = ap Some (same x)

-- how many pass, of one
abbrev pub one : Bool → ℕ
one b = cond b 1 0

pub count_end : {A : Type 0} (p : A → Bool) (xs : List A) (x : A) → count_by p (xs ++ x ∷ []) ≡ count_by p xs + one (p x)
count_end p xs x = sum_by_push (λ y. one (p y)) xs x
