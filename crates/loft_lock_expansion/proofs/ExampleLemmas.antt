-- Where names are reserved or too long, in three texts.
use Rattle.std.proofs.Common.{◌≡◌, Some, refl}
use Rattle.loft_lex.specs.Front.{name_front, number_front, text_end, text_front, sign_of_one, sign_front, front}
use Rattle.loft_lex.specs.Word.{word_of}
use Rattle.loft_lex.specs.Sign.{sign_of}
use Rattle.loft_lex.specs.Tokens.{tokens, tokens_past}
use Rattle.loft_lock_expansion.specs.Example.{long_in, reserved_in, own_variable, own_module, long}

pub variable_is : reserved_in own_variable (tokens own_variable) ≡ Some 19
unfolding name_front number_front text_end text_front sign_of_one sign_front front word_of sign_of tokens_past
variable_is = refl

pub module_is : reserved_in own_module (tokens own_module) ≡ Some 29
unfolding name_front number_front text_end text_front sign_of_one sign_front front word_of sign_of tokens_past
module_is = refl

pub long_is : long_in long (tokens long) ≡ Some 24
unfolding name_front number_front text_end text_front sign_of_one sign_front front word_of sign_of tokens_past
long_is = refl
