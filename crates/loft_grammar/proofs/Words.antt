-- Words are told apart by their numbers.
use Rattle.std.proofs.Common.{◌≡◌, refl, arith}
use Rattle.std.specs.Prelude.{◌==◌}
use denote.Enum.Declared.{tag_of}
use denote.Enum.Bare.{sameb}
use Rattle.loft_lex.specs.contracts.word.Word.{the_type}
use Rattle.loft_lex.specs.declared.word.Word.{Word}
use Rattle.loft_grammar.specs.Language.{word_number}

tag_is : (v : Word) → tag_of the_type v ≡ word_number v
tag_is v = grind arith

pub same_word : (v w : Word) → sameb the_type v w ≡ (word_number v == word_number w)
same_word v w = rw (tag_is v, tag_is w) refl
