-- Each sign is found by its spelling.
use Rattle.std.proofs.Common.{◌≡◌, Some, refl}
use Rattle.loft_lex.specs.Sign.{spelling, sign_of}
use Rattle.loft_lex.specs.declared.sign.Sign.{Sign}
use Rattle.loft_lex.specs.declared.sign.Sign.TheVariants as sign

pub sign_of-spelling : (sign : Sign) → sign_of (spelling sign) ≡ Some sign
unfolding sign_of
sign_of-spelling sign.Semicolon = refl
sign_of-spelling sign.Comma = refl
sign_of-spelling sign.Dot = refl
sign_of-spelling sign.Open = refl
sign_of-spelling sign.Close = refl
sign_of-spelling sign.OpenBrace = refl
sign_of-spelling sign.CloseBrace = refl
sign_of-spelling sign.Equals = refl
sign_of-spelling sign.Plus = refl
sign_of-spelling sign.Minus = refl
sign_of-spelling sign.Star = refl
sign_of-spelling sign.Slash = refl
sign_of-spelling sign.Percent = refl
sign_of-spelling sign.Not = refl
sign_of-spelling sign.Same = refl
sign_of-spelling sign.Differs = refl
sign_of-spelling sign.Less = refl
sign_of-spelling sign.LessOrSame = refl
sign_of-spelling sign.Greater = refl
sign_of-spelling sign.GreaterOrSame = refl
sign_of-spelling sign.And = refl
sign_of-spelling sign.Or = refl
