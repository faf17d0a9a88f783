-- Why a text with locks stands for no program: the reasons in their order (docs/LOCKS.md, "What is refused").
use Rattle.std.specs.Prelude.{◌≡◌, ◌⊎◌, ℕ, ◌<◌, ◌≤◌, Bool, List, length, Some, None, Result, Ok, Err}
use Rattle.loft_base.specs.declared.ids.ModuleId.{ModuleId}
use Rattle.loft_lex.specs.declared.token.Token.{Token}
use Rattle.loft_lex.specs.declared.token.LexError.{LexError}
use Rattle.loft_lex.specs.declared.TheConstants.{MAX_TEXT_LEN}
use Rattle.loft_lex.specs.Cut.{Cut}
use Rattle.loft_tree.specs.Source.{Source}
use Rattle.loft_parse.specs.declared.error.ParseError.{ParseError}
use Rattle.loft_parse.specs.Faults.{SourceFault}
use Rattle.loft_grammar.specs.Texts.{Reads}
use Rattle.loft_scopes.specs.declared.error.NameError.{NameError}
use Rattle.loft_scopes.specs.Faults.{NameFault}
use Rattle.loft_numbers.specs.Numbers.{numbered}
use Rattle.loft_place.specs.declared.error.PlaceError.{PlaceError}
use Rattle.loft_place.specs.Links.{IsPlaced, PlaceFault}
use Rattle.loft_lock_forms.specs.Rewriting.{all_say, written, forms}
use Rattle.loft_lock_forms.specs.Marks.{text_marks}
use Rattle.loft_lock_forms.specs.Names.{long_name, reserved_name}
use Rattle.loft_lock_expansion.specs.Expansion.{first_unpaired, first_leaving, TellsLeaving, IsWritten, IsRewritten, IsNamed, IsPaired, IsExpansion}

-- the reasons; a name is told by its offset, and a lock by its name
pub data Refusal : Type 0 where
  TooLong : Refusal
  Lex : (fault : LexError) → Refusal
  LongName : (at : ℕ) → Refusal
  Reserved : (at : ℕ) → Refusal
  Parse : (fault : ParseError) → Refusal
  Names : (fault : NameError) → Refusal
  Place : (fault : PlaceError) → Refusal
  Pair : («module» : ModuleId) (lock : List ℕ) → Refusal
  Leaves : («module» : ModuleId) (lock : List ℕ) → Refusal

-- The text is refused for this reason: it applies, and none before it does.
abbrev pub IsRefused : List ℕ → Refusal → Type 0
IsRefused text TooLong = (MAX_TEXT_LEN < length text) ⊎ ((ts : List Token) × Cut text (Ok ts) × (MAX_TEXT_LEN < length (written text 0 0 ts)))
IsRefused text (Lex fault) = (length text ≤ MAX_TEXT_LEN) × Cut text (Err fault)
IsRefused text (LongName at) = (ts : List Token) × IsWritten text ts × (long_name text 0 ts ≡ Some at)
IsRefused text (Reserved at) = (ts : List Token) × IsWritten text ts × (long_name text 0 ts ≡ None) × (reserved_name text (forms 0 (all_say text ts)) ts ≡ Some at)
IsRefused text (Parse fault) = (ts : List Token) × IsRewritten text ts × SourceFault (written text 0 0 ts) fault
IsRefused text (Names fault) = (ts : List Token) × (s : Source) × IsRewritten text ts × Reads (written text 0 0 ts) s × NameFault s fault
IsRefused text (Place fault) = (ts : List Token) × (s : Source) × IsNamed text ts s × PlaceFault (numbered s) fault
IsRefused text (Pair m l) =
    (ts : List Token) × (s : Source) × IsNamed text ts s × IsPlaced (numbered s) × (first_unpaired (text_marks text ts) (numbered s).modules ≡ Some (m, l))
IsRefused text (Leaves m l) =
    (ts : List Token) × (s : Source) × (away : (ModuleId → Bool)) × IsPaired text ts s × TellsLeaving s away
    × (first_leaving (text_marks text ts) away (numbered s).modules ≡ Some (m, l))

-- what the text comes to: the program that it stands for, or why it stands for none
abbrev pub Comes : List ℕ → Result Source Refusal → Type 0
Comes text (Ok s) = IsExpansion text s
Comes text (Err refusal) = IsRefused text refusal
