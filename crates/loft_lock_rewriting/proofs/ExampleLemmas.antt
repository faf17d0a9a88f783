-- What is written for two texts.
use Rattle.std.proofs.Common.{◌≡◌, refl}
use Rattle.loft_lex.specs.Front.{name_front, number_front, text_end, text_front, sign_of_one, sign_front, front}
use Rattle.loft_lex.specs.Word.{word_of}
use Rattle.loft_lex.specs.Sign.{sign_of}
use Rattle.loft_lex.specs.Tokens.{tokens_past}
use Rattle.loft_lock_rewriting.specs.Example.{expanded, marked, source, plain, plain_marks, crowded, crowded_plain}

pub example_is : expanded source ≡ plain
unfolding name_front number_front text_end text_front sign_of_one sign_front front word_of sign_of tokens_past
example_is = refl

pub crowded_is : expanded crowded ≡ crowded_plain
unfolding name_front number_front text_end text_front sign_of_one sign_front front word_of sign_of tokens_past
crowded_is = refl

pub marks_are : marked source ≡ plain_marks
unfolding name_front number_front text_end text_front sign_of_one sign_front front word_of sign_of tokens_past
marks_are = refl
