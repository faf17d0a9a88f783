-- The texts of declarations.
use Rattle.std.proofs.Common.{◌≡◌, ℕ, ◌+◌, ℤ, pos, negsuc, map, List, ◌∷◌, ◌++◌, ap, ◌∙◌, append_assoc, append-nil, add-one}
use Rattle.std.specs.Fmt.{decimal, signed_decimal}
use Rattle.loft_tree.specs.declared.program.Variable.{Variable}
use Rattle.loft_tree.specs.declared.program.Argument.{Argument}
use Rattle.loft_tree.specs.View.{named_of, argument_of}
use Rattle.loft_show.specs.Canon.{argument_pieces, list_pieces, named_pieces, pieces_text, signed_pieces}
use Rattle.loft_show.proofs.Texts.{lines_text-append, list_pieces-map, pieces_text-append}

-- a number with its sign is written as a program prints it
pub signed_text : (z : ℤ) (gap : List ℕ) → pieces_text (signed_pieces z gap) ≡ gap ++ signed_decimal z
signed_text (pos n) gap = ap (λ t. gap ++ t) (append-nil (decimal n))
signed_text (negsuc n) gap = ap (λ t. gap ++ (45 ∷ t)) (append-nil (decimal (n + 1))) ∙ ap (λ m. gap ++ (45 ∷ decimal m)) (add-one n)

-- the parameters of a module
pub parameters_pieces : (vs : List Variable) → list_pieces named_pieces (map named_of vs) ≡ list_pieces (λ v. named_pieces (named_of v)) vs
parameters_pieces vs = list_pieces-map named_pieces named_of vs

-- the arguments of a start or of an order
pub outer_arguments_pieces : (xs : List Argument) → list_pieces argument_pieces (map argument_of xs) ≡ list_pieces (λ x. argument_pieces (argument_of x)) xs
outer_arguments_pieces xs = list_pieces-map argument_pieces argument_of xs

pub ruleset items = (pieces_text-append, lines_text-append, append_assoc, append-nil, signed_text, parameters_pieces, outer_arguments_pieces)
