-- Single symbols, and what they stand for (docs/LANGUAGE.md, "Grammar").
use Rattle.std.specs.Prelude.{ℕ, ℤ, pos, false, true, List, [], Option, Some, None}
use Rattle.loft_lex.specs.declared.word.Word.{Word}
use Rattle.loft_lex.specs.declared.sign.Sign.{Sign}
use Rattle.loft_lex.specs.Symbol.{Symbol, What, Named as NamedWhat, Keyword, Numeral, Quoted, Mark, Unreadable}
use Rattle.loft_tree.specs.Source.{Ident}
use Rattle.loft_form.specs.Form.{Form as FormOf, leaf, counted}
use Rattle.loft_grammar.specs.declared.counts.Counted.{Counted}
use Rattle.loft_grammar.specs.Language.{Language, is_word, is_sign, is_name, is_text, is_number}

abbrev pub Form : Type 0 → Type 1
Form A = FormOf Language A

abbrev pub word : Word → Form (Unit {0})
word v = leaf (is_word v) (λ _. tt) false

abbrev pub sign : Sign → Form (Unit {0})
sign v = leaf (is_sign v) (λ _. tt) false

-- the place of a word or a sign
abbrev pub word_place : Word → Form ℕ
word_place v = leaf (is_word v) (λ x. x.at) false

abbrev pub sign_place : Sign → Form ℕ
sign_place v = leaf (is_sign v) (λ x. x.at) false

-- the place of a word or a sign that opens a nesting
abbrev pub opening_word : Word → Form ℕ
opening_word v = leaf (is_word v) (λ x. x.at) true

abbrev pub opening_sign : Sign → Form ℕ
opening_sign v = leaf (is_sign v) (λ x. x.at) true

-- the bytes of a name or a text
abbrev pub bytes_of : What → List ℕ
bytes_of (NamedWhat bytes) = bytes
bytes_of (Keyword v) = []
bytes_of (Numeral n) = []
bytes_of (Quoted bytes) = bytes
bytes_of (Mark v) = []
bytes_of Unreadable = []

-- the value of a number
abbrev pub value_of : What → ℤ
value_of (NamedWhat bytes) = pos 0
value_of (Keyword v) = pos 0
value_of (Numeral n) = n
value_of (Quoted bytes) = pos 0
value_of (Mark v) = pos 0
value_of Unreadable = pos 0

abbrev pub ident_of : Symbol → Ident
ident_of x = record { text = bytes_of x.what; at = x.at }

abbrev pub name : Form Ident
name = leaf is_name ident_of false

abbrev pub text : Form (List ℕ)
text = leaf is_text (λ x. bytes_of x.what) false

-- a number, with its place
abbrev pub numeral : Form (ℕ × ℤ)
numeral = leaf is_number (λ x. (x.at, value_of x.what)) false

-- a form whose first symbol counts as one more, if that is so
abbrev pub counting : {A : Type 0} → Option Counted → Form A → Form A
counting None f = f
counting (Some what) f = counted what f

-- the word that begins one more of these
abbrev pub first_word : Counted → Word → Form ℕ
first_word what v = counted what (word_place v)
