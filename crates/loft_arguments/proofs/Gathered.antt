-- What was gathered, one argument after the other.
use Rattle.std.proofs.Common.{◌≡◌, ℕ, List, ◌∷◌, Option, Some, None, true, map, refl, ap, ◌∙◌}
use Rattle.std.specs.Prelude.{codes, option_and_then}
use Rattle.std.specs.Str.{bytes_eq}
use Rattle.loft_arguments.specs.Arguments.{Argument, Plain, arguments, one_more}
use Rattle.loft_arguments.specs.Parts.{Parts, with_argument, with_arguments, with_words}

module _ (p : Parts) (words rest : List (List ℕ)) (argument : Argument) (first : arguments words ≡ one_more argument (arguments rest)) where
  after_first : (more : Option (List Argument)) (found : Option Parts) → with_argument argument p ≡ found
      → option_and_then (with_arguments p) (one_more argument more) ≡ option_and_then (λ q. option_and_then (with_arguments q) more) found
  after_first None None is = refl
  after_first None (Some q) is = refl
  after_first (Some more) found is = ap (option_and_then (λ q. with_arguments q more)) is

  -- the first argument is refused
  pub refused_first : with_argument argument p ≡ None → with_words p words ≡ None
  refused_first is = ap (option_and_then (with_arguments p)) first ∙ after_first (arguments rest) None is

  -- the first argument is taken
  pub taken_first : {q : Parts} → with_argument argument p ≡ Some q → with_words p words ≡ with_words q rest
  taken_first {q} is = ap (option_and_then (with_arguments p)) first ∙ after_first (arguments rest) (Some q) is

-- after `--` no word is an option
pub after_dashes : (p : Parts) (word : List ℕ) (words : List (List ℕ)) → bytes_eq word (codes "--") ≡ true → with_words p (word ∷ words) ≡ with_arguments p (map Plain words)
after_dashes p word words is = rw is refl
