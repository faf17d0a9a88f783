-- The two forms of an option.
use Rattle.std.proofs.Common.{◌≡◌, ℕ, ◌+◌, arith, length, drop, Bool, true, false, List, [], ◌∷◌, ◌++◌, refl, sym, ◌∙◌, ap}
use Rattle.std.specs.Prelude.{codes}
use Rattle.std.specs.List.{list_any, position_or_len}
use Rattle.std.specs.Str.{bytes_eq}
use Rattle.std.proofs.Math.Bool.{or-true}
use Rattle.std.proofs.Math.Seq.{drop-append-add}
use Rattle.std.proofs.lemmas.Grind.{common_steps}
use Rattle.std.proofs.lemmas.List.Folds.{list_any-append}
use Rattle.std.proofs.lemmas.Slice.Eq.{bytes_eq-Decides}
use Rattle.loft_arguments.specs.Words.{is_option, is_flag, is_equals_sign, has_value, name_in, value_in}
use Rattle.loft_arguments.specs.Arguments.{arguments}

-- the '=' after a name without one is the first
at_sign : (name value : List ℕ) → list_any is_equals_sign name ≡ false → position_or_len is_equals_sign (name ++ (61 ∷ value)) ≡ length name
at_sign [] value none = refl
at_sign (b ∷ bs) value none = go (is_equals_sign b) refl (at_sign bs value)
  where
    go : (sign : Bool) → is_equals_sign b ≡ sign → (list_any is_equals_sign bs ≡ false → position_or_len is_equals_sign (bs ++ (61 ∷ value)) ≡ length bs)
        → position_or_len is_equals_sign ((b ∷ bs) ++ (61 ∷ value)) ≡ length (b ∷ bs)
    go true is rest = grind (arith, common_steps)
    go false is rest = grind (arith, common_steps)

name_of : (name value : List ℕ) → list_any is_equals_sign name ≡ false → name_in (name ++ (61 ∷ value)) ≡ name
name_of name value none = grind (arith, common_steps, at_sign name value none)

value_of : (name value : List ℕ) → list_any is_equals_sign name ≡ false → value_in (name ++ (61 ∷ value)) ≡ value
value_of name value none = ap (λ (n : ℕ). drop (n + 1) (name ++ (61 ∷ value))) (at_sign name value none) ∙ drop-append-add name (61 ∷ value) 1

has_sign : (name value : List ℕ) → has_value (name ++ (61 ∷ value)) ≡ true
has_sign name value = list_any-append is_equals_sign name (61 ∷ value) ∙ or-true (list_any is_equals_sign name)

no_end : (name value : List ℕ) → bytes_eq (name ++ (61 ∷ value)) (codes "--") ≡ false
no_end name value = go (bytes_eq (name ++ (61 ∷ value)) (codes "--")) refl
  where
    go : (b : Bool) → bytes_eq (name ++ (61 ∷ value)) (codes "--") ≡ b → b ≡ false
    go false is = refl
    go true is =
        let same : name ++ (61 ∷ value) ≡ codes "--" = (bytes_eq-Decides (name ++ (61 ∷ value)) (codes "--")).0 is in
        let none : true ≡ false = sym (has_sign name value) ∙ ap (λ (l : List ℕ). has_value l) same in
        absurd cc

is_option_still : (name value : List ℕ) → is_option name ≡ true → is_option (name ++ (61 ∷ value)) ≡ true
is_option_still [] value is = absurd cc
is_option_still (b ∷ bs) value is = is

pub two_forms : (name value : List ℕ) (words : List (List ℕ)) → is_option name ≡ true → bytes_eq name (codes "--") ≡ false → has_value name ≡ false → is_flag name ≡ false → is_option value ≡ false
    → arguments ((name ++ (61 ∷ value)) ∷ words) ≡ arguments (name ∷ value ∷ words)
two_forms name value words option end none valued plain =
    rw (no_end name value, is_option_still name value option, has_sign name value, name_of name value none, value_of name value none, end, option, none, valued, plain) refl
