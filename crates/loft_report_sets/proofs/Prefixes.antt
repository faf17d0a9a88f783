-- What `starts_with` tests is whether bytes are a prefix.
use Rattle.std.proofs.Common.{◌≡◌, ℕ, nat_eq, Bool, ◌==◌, ◌&&◌, List, [], ◌∷◌, refl, ap}
use Rattle.std.specs.List.{starts_with}
use Rattle.loft_spelling.specs.Sets.{is_prefix}

pub prefix_is : (bytes word : List ℕ) → starts_with nat_eq word bytes ≡ is_prefix bytes word
unfolding is_prefix
prefix_is [] word = refl
prefix_is (b ∷ bytes) [] = refl
prefix_is (b ∷ bytes) (c ∷ word) = ap (λ (rest : Bool). b == c && rest) (prefix_is bytes word)
