-- How each sign of the language is spelled (docs/LANGUAGE.md, "Signs").
use Rattle.std.specs.Prelude.{ℕ, Bool, Option, is_some, List, [], ◌∷◌, codes}
use Rattle.std.specs.List.{find}
use Rattle.std.specs.Str.{bytes_eq}
use Rattle.loft_lex.specs.declared.sign.Sign.{Sign}
use Rattle.loft_lex.specs.declared.sign.Sign.TheVariants as sign

-- the bytes of a sign
abbrev pub spelling : Sign → List ℕ
spelling sign.Semicolon = codes ";"
spelling sign.Comma = codes ","
spelling sign.Dot = codes "."
spelling sign.Open = codes "("
spelling sign.Close = codes ")"
spelling sign.OpenBrace = codes "{"
spelling sign.CloseBrace = codes "}"
spelling sign.Equals = codes "="
spelling sign.Plus = codes "+"
spelling sign.Minus = codes "-"
spelling sign.Star = codes "*"
spelling sign.Slash = codes "/"
spelling sign.Percent = codes "%"
spelling sign.Not = codes "!"
spelling sign.Same = codes "=="
spelling sign.Differs = codes "!="
spelling sign.Less = codes "<"
spelling sign.LessOrSame = codes "<="
spelling sign.Greater = codes ">"
spelling sign.GreaterOrSame = codes ">="
spelling sign.And = codes "&&"
spelling sign.Or = codes "||"

-- every sign of the language
abbrev pub signs : List Sign
signs =
    sign.Semicolon ∷ sign.Comma ∷ sign.Dot ∷ sign.Open ∷ sign.Close ∷ sign.OpenBrace ∷
    sign.CloseBrace ∷ sign.Equals ∷ sign.Plus ∷ sign.Minus ∷ sign.Star ∷ sign.Slash ∷
    sign.Percent ∷ sign.Not ∷ sign.Same ∷ sign.Differs ∷ sign.Less ∷ sign.LessOrSame ∷
    sign.Greater ∷ sign.GreaterOrSame ∷ sign.And ∷ sign.Or ∷ []

-- the sign that the bytes spell, if they spell one
unfoldable pub sign_of : List ℕ → Option Sign
sign_of bytes = find (λ one. bytes_eq (spelling one) bytes) signs

-- the bytes spell a sign
abbrev pub is_sign : List ℕ → Bool
is_sign bytes = is_some (sign_of bytes)
