-- The names, texts and numbers of a text's tokens keep the limits.
use Rattle.std.proofs.Common.{◌≡◌, ℕ, suc, List, [], ◌∷◌, ◌++◌, true, IsTrue, All, Option, Some, None, Ok, arith}
use Rattle.loft_lex.specs.Fits.{Fits, is_name, is_text, IsOfKind}
use Rattle.loft_lex.specs.Sign.{sign_of}
use Rattle.loft_lex.specs.Symbol.{What, Symbol, Named, Keyword, Numeral, Quoted, Mark, Unreadable, keyword, mark, what_of, symbols}
use Rattle.loft_lex.specs.Tokens.{tokens}
use Rattle.loft_lex.specs.Word.{word_of}
use Rattle.loft_lex.specs.declared.sign.Sign.{Sign as LanguageSign}
use Rattle.loft_lex.specs.declared.token.Token.{Token}
use Rattle.loft_lex.specs.declared.token.TokenKind.{TokenKind}
use Rattle.loft_lex.specs.declared.token.TokenKind.TheVariants.{Name, Word, Number, Text, Sign}
use Rattle.loft_lex.specs.declared.word.Word.{Word as LanguageWord}
use Rattle.loft_lex.proofs.Spans.{all_fit}
use Rattle.loft_tree.specs.Fits.{Each, NumberFits}
use Rattle.loft_grammar.specs.Language as language
use Rattle.loft_grammar.specs.Symbols.{bytes_of, value_of}

-- what a symbol says keeps the limits
abbrev pub WhatFits : What → Type 0
WhatFits (Named bytes) = IsTrue (is_name bytes)
WhatFits (Keyword word) = Unit {0}
WhatFits (Numeral value) = NumberFits value
WhatFits (Quoted bytes) = IsTrue (is_text bytes)
WhatFits (Mark sign) = Unit {0}
WhatFits Unreadable = Unit {0}

-- the same of a symbol
abbrev pub SymbolFits : Symbol → Type 0
SymbolFits s = WhatFits s.what

keyword_fits : (word : Option LanguageWord) → WhatFits (keyword word)
keyword_fits None = tt
keyword_fits (Some word) = tt

mark_fits : (sign : Option LanguageSign) → WhatFits (mark sign)
mark_fits None = tt
mark_fits (Some sign) = tt

what_fits : (kind : TokenKind) (bytes : List ℕ) → IsOfKind kind bytes → WhatFits (what_of kind bytes)
what_fits Name bytes h = h
what_fits Word bytes h = keyword_fits (word_of bytes)
what_fits (Number value) bytes h = (_, h.small, h.spelled)
what_fits Text bytes h = h.inside
what_fits Sign bytes h = mark_fits (sign_of bytes)

each_symbol : (text : List ℕ) (ts : List Token) → All (Fits text) ts → Each SymbolFits (symbols text ts)
each_symbol text [] h = tt
each_symbol text (t ∷ ts) h = (what_fits t.kind _ (h 0 t (omega arith)).kind, each_symbol text ts (λ k d inside. h (suc k) d (omega arith)))

-- The symbols of a text keep the limits.
pub symbols_fit : (text : List ℕ) (ts : List Token) → tokens text ≡ Ok ts → Each SymbolFits (symbols text ts)
symbols_fit text ts found = each_symbol text ts (all_fit text ts found)

pub each_front : {A : Type 0} (P : A → Type 0) (xs ys : List A) → Each P (xs ++ ys) → Each P xs
each_front P [] ys h = tt
each_front P (x ∷ xs) ys h = (h.0, each_front P xs ys h.1)

pub each_back : {A : Type 0} (P : A → Type 0) (xs ys : List A) → Each P (xs ++ ys) → Each P ys
each_back P [] ys h = h
each_back P (x ∷ xs) ys h = each_back P xs ys h.1

pub name_of_fits : (what : What) → language.is_name (language.kind_of what) ≡ true → WhatFits what → IsTrue (is_name (bytes_of what))
name_of_fits (Named bytes) is h = h
name_of_fits (Keyword word) is h = absurd cc
name_of_fits (Numeral value) is h = absurd cc
name_of_fits (Quoted bytes) is h = absurd cc
name_of_fits (Mark sign) is h = absurd cc
name_of_fits Unreadable is h = absurd cc

pub text_of_fits : (what : What) → language.is_text (language.kind_of what) ≡ true → WhatFits what → IsTrue (is_text (bytes_of what))
text_of_fits (Named bytes) is h = absurd cc
text_of_fits (Keyword word) is h = absurd cc
text_of_fits (Numeral value) is h = absurd cc
text_of_fits (Quoted bytes) is h = h
text_of_fits (Mark sign) is h = absurd cc
text_of_fits Unreadable is h = absurd cc

pub value_of_fits : (what : What) → language.is_number (language.kind_of what) ≡ true → WhatFits what → NumberFits (value_of what)
value_of_fits (Named bytes) is h = absurd cc
value_of_fits (Keyword word) is h = absurd cc
value_of_fits (Numeral value) is h = h
value_of_fits (Quoted bytes) is h = absurd cc
value_of_fits (Mark sign) is h = absurd cc
value_of_fits Unreadable is h = absurd cc
