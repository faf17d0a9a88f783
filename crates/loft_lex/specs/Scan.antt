-- What the code finds at the front, as the definitions say it.
use Rattle.std.specs.Prelude.{◌≡◌, ℕ, ◌+◌, Bool, List, take}
use Rattle.loft_lex.specs.Fits.{between_quotes}
use Rattle.loft_lex.specs.Symbol.{What, Named, Keyword, Numeral, Quoted, Mark, what_of}
use Rattle.loft_lex.specs.declared.token.TokenKind.{TokenKind}
use Rattle.loft_lex.specs.declared.token.TokenKind.TheVariants as kind
use Rattle.loft_lex.specs.declared.piece.Piece.{Piece as PieceInMemory}
use Rattle.loft_lex.specs.declared.piece.Piece.TheVariants as piece
use Rattle.loft_lex.specs.Bytes.{is_digit, is_name_byte, is_comment_byte, is_text_byte}
use Rattle.loft_lex.specs.Front.{Front, Gap, Piece, Fault}
use Rattle.loft_lex.specs.declared.token.LexError.{LexError}
use Rattle.loft_lex.specs.declared.token.LexError.TheVariants.{BadByte, OpenText, LongName, LongText, BadNumber, NoMemory}
use Rattle.loft_lex.specs.declared.front.Class.{Class}
use Rattle.loft_lex.specs.declared.front.Class.TheVariants as class
use Rattle.loft_lex.specs.declared.front.Step.{Step}
use Rattle.loft_lex.specs.declared.front.Step.TheVariants as step

-- which bytes go on with what stands before them
abbrev pub belongs : Class → ℕ → Bool
belongs class.Digit b = is_digit b
belongs class.Name b = is_name_byte b
belongs class.Comment b = is_comment_byte b
belongs class.Text b = is_text_byte b

-- the kind of what the code finds
abbrev pub kind_seen : PieceInMemory → TokenKind
kind_seen piece.Name = kind.Name
kind_seen (piece.Word word) = kind.Word
kind_seen (piece.Number value) = kind.Number value
kind_seen piece.Text = kind.Text
kind_seen (piece.Sign sign) = kind.Sign

-- what it is to a grammar, where these are its bytes
abbrev pub says : PieceInMemory → List ℕ → What
says piece.Name bytes = Named bytes
says (piece.Word word) bytes = Keyword word
says (piece.Number value) bytes = Numeral value
says piece.Text bytes = Quoted (between_quotes bytes)
says (piece.Sign sign) bytes = Mark sign

-- a step of the code, as the definitions call it
abbrev pub front_seen : Step → Front
front_seen (step.Gap more) = Gap more
front_seen (step.Token piece more) = Piece (kind_seen piece) more
front_seen (step.Fault e) = Fault e

-- where a fault lies
abbrev pub fault_place : LexError → ℕ
fault_place (BadByte at) = at
fault_place (OpenText at) = at
fault_place (LongName at) = at
fault_place (LongText at) = at
fault_place (BadNumber at) = at
fault_place NoMemory = 0

-- how many bytes a step takes, or where its fault lies
abbrev pub step_len : Step → ℕ
step_len (step.Gap more) = more + 1
step_len (step.Token piece more) = more + 1
step_len (step.Fault e) = fault_place e

-- a token at the front of these bytes is to a grammar what its kind and its bytes say
abbrev pub IsReadable : List ℕ → Step → Type 0
IsReadable bytes (step.Gap more) = Unit {0}
IsReadable bytes (step.Token piece more) = what_of (kind_seen piece) (take (more + 1) bytes) ≡ says piece (take (more + 1) bytes)
IsReadable bytes (step.Fault e) = Unit {0}
