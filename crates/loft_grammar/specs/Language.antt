-- What the grammar of sources is over: symbols, told apart by kind.
use Rattle.std.specs.Prelude.{ℕ, ◌+◌, Bool, true, false, ◌==◌, List, Option}
use Rattle.loft_lex.specs.declared.word.Word.{Word}
use Rattle.loft_lex.specs.declared.word.Word.TheVariants as word
use Rattle.loft_lex.specs.declared.sign.Sign.{Sign}
use Rattle.loft_lex.specs.declared.sign.Sign.TheVariants as sign
use Rattle.loft_lex.specs.Symbol.{Symbol, What, Named, Keyword, Numeral, Quoted, Mark, Unreadable}
use Rattle.loft_form.specs.Form.{Language as Language'}
use Rattle.loft_tree.specs.Source.{Expression, Statement}
use Rattle.loft_grammar.specs.declared.counts.Counted.{Counted}
use Rattle.loft_grammar.specs.declared.counts.Counts.{Counts}
use Rattle.loft_grammar.specs.Counts.{number, put}

-- a symbol without what it says
pub data Kind : Type 0 where
  AName : Kind
  AWord : Word → Kind
  ANumber : Kind
  AText : Kind
  ASign : Sign → Kind
  Other : Kind

abbrev pub kind_of : What → Kind
kind_of (Named bytes) = AName
kind_of (Keyword w) = AWord w
kind_of (Numeral n) = ANumber
kind_of (Quoted bytes) = AText
kind_of (Mark s) = ASign s
kind_of Unreadable = Other

-- the number of a word, by which it is told apart
abbrev pub word_number : Word → ℕ
word_number word.Scheduler = 0
word_number word.Event = 1
word_number word.In = 2
word_number word.Shared = 3
word_number word.Module = 4
word_number word.To = 5
word_number word.Local = 6
word_number word.Int = 7
word_number word.Thread = 8
word_number word.Start = 9
word_number word.As = 10
word_number word.Outside = 11
word_number word.End = 12
word_number word.Print = 13
word_number word.Cooperate = 14
word_number word.Generate = 15
word_number word.Await = 16
word_number word.For = 17
word_number word.Select = 18
word_number word.Get = 19
word_number word.At = 20
word_number word.Into = 21
word_number word.Join = 22
word_number word.Create = 23
word_number word.Stop = 24
word_number word.Suspend = 25
word_number word.Resume = 26
word_number word.Broadcast = 27
word_number word.Link = 28
word_number word.Unlink = 29
word_number word.If = 30
word_number word.Then = 31
word_number word.Else = 32
word_number word.While = 33
word_number word.Do = 34
word_number word.Repeat = 35
word_number word.Run = 36
word_number word.Halt = 37
word_number word.SelfWord = 38
word_number word.Code = 39
word_number word.Mask = 40
word_number word.Unlinked = 41

-- the number of a sign
abbrev pub sign_number : Sign → ℕ
sign_number sign.Semicolon = 0
sign_number sign.Comma = 1
sign_number sign.Dot = 2
sign_number sign.Open = 3
sign_number sign.Close = 4
sign_number sign.OpenBrace = 5
sign_number sign.CloseBrace = 6
sign_number sign.Equals = 7
sign_number sign.Plus = 8
sign_number sign.Minus = 9
sign_number sign.Star = 10
sign_number sign.Slash = 11
sign_number sign.Percent = 12
sign_number sign.Not = 13
sign_number sign.Same = 14
sign_number sign.Differs = 15
sign_number sign.Less = 16
sign_number sign.LessOrSame = 17
sign_number sign.Greater = 18
sign_number sign.GreaterOrSame = 19
sign_number sign.And = 20
sign_number sign.Or = 21

-- the kind is this word
abbrev pub is_word : Word → Kind → Bool
is_word w AName = false
is_word w (AWord v) = word_number v == word_number w
is_word w ANumber = false
is_word w AText = false
is_word w (ASign s) = false
is_word w Other = false

-- the kind is this sign
abbrev pub is_sign : Sign → Kind → Bool
is_sign s AName = false
is_sign s (AWord w) = false
is_sign s ANumber = false
is_sign s AText = false
is_sign s (ASign r) = sign_number r == sign_number s
is_sign s Other = false

abbrev pub is_name : Kind → Bool
is_name AName = true
is_name (AWord w) = false
is_name ANumber = false
is_name AText = false
is_name (ASign s) = false
is_name Other = false

abbrev pub is_text : Kind → Bool
is_text AName = false
is_text (AWord w) = false
is_text ANumber = false
is_text AText = true
is_text (ASign s) = false
is_text Other = false

abbrev pub is_number : Kind → Bool
is_number AName = false
is_number (AWord w) = false
is_number ANumber = true
is_number AText = false
is_number (ASign s) = false
is_number Other = false

-- The rules that stand inside themselves, each one nesting deeper: what brackets hold, what a sign stands before, and
-- what an `if` and a loop hold.
pub data Rule : Type 0 where
  Bracketed : Rule
  Signed : Rule
  Conditional : Rule
  Looped : Rule

abbrev pub Meaning : Rule → Type 0
Meaning Bracketed = Expression
Meaning Signed = Expression
Meaning Conditional = Expression × (List Statement × Option (List Statement))
Meaning Looped = Expression × List Statement

abbrev pub Language : Language'
Language = record {
  Symbol = Symbol;
  Kind = Kind;
  kind = λ s. kind_of s.what;
  Rule = Rule;
  Meaning = Meaning;
  Counted = Counted;
  Counts = Counts;
  number = number;
  more = λ w c. put w (number w c + 1) c;
  anew = λ w c. put w 0 c;
}
