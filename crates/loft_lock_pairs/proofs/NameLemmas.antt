-- Names of locks in memory: whether one is among them.
use Rattle.std.proofs.Common.{◌≡◌, ℕ, Bool, true, false, ◌||◌, List, [], ◌∷◌, ◌++◌, refl, ap, sym, subst, ◌∙◌}
use Rattle.std.specs.Borrow.{Bor}
use Rattle.std.specs.List.{list_any}
use Rattle.std.specs.Str.{bytes_eq}
use Rattle.loft_lock_forms.specs.Seen.{names_seen}
use Rattle.loft_locks.specs.Outline.{has}

pub has_seen : (l : List ℕ) (ks : List (Bor (List ℕ))) → list_any (λ k. bytes_eq l k.now) ks ≡ has l (names_seen ks)
has_seen l [] = refl
has_seen l (k ∷ ks) = ap (λ (b : Bool). bytes_eq l k.now || b) (has_seen l ks)

-- the same of a call that looks for it
pub has_is : (l : List ℕ) (ks js : List (Bor (List ℕ))) (r b : Bool) → ks ≡ js → r ≡ list_any (λ k. bytes_eq l k.now) ks → r ≡ b → has l (names_seen js) ≡ b
has_is l ks js r b same is e = subst (λ (ls : List (Bor (List ℕ))). has l (names_seen ls) ≡ b) same (sym (has_seen l ks) ∙ (sym is ∙ e))

or_again : (a b c : Bool) → (a || (b || c)) ≡ ((a || b) || c)
or_again true b c = refl
or_again false b c = refl

pub has_both : (l : List ℕ) (xs ys : List (List ℕ)) → has l (xs ++ ys) ≡ (has l xs || has l ys)
has_both l [] ys = refl
has_both l (x ∷ xs) ys = rw (has_both l xs ys) (or_again (bytes_eq l x) (has l xs) (has l ys))
