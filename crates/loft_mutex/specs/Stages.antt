-- What each step of `expand` finds (docs/LOCKS.md, "What is refused").
use Rattle.std.specs.Prelude.{◌≡◌, ℕ, Bool, List, Some, None}
use Rattle.loft_base.specs.declared.ids.ModuleId.{ModuleId}
use Rattle.loft_lex.specs.declared.token.Token.{Token}
use Rattle.loft_lex.specs.declared.token.LexError.{LexError}
use Rattle.loft_lex.specs.declared.token.LexError.TheVariants as lex
use Rattle.loft_tree.specs.Source.{Source}
use Rattle.loft_tree.specs.NamedTree.{NamedModule, NamedProgram}
use Rattle.loft_grammar.specs.Texts.{Reads}
use Rattle.loft_parse.specs.Faults.{SourceFault}
use Rattle.loft_parse.specs.declared.error.ParseError.{ParseError}
use Rattle.loft_parse.specs.declared.error.ParseError.TheVariants as parse
use Rattle.loft_scopes.specs.Faults.{NamesFit, NameFault}
use Rattle.loft_scopes.specs.declared.error.NameError.{NameError}
use Rattle.loft_scopes.specs.declared.error.NameError.TheVariants as name
use Rattle.loft_numbers.specs.Numbers.{numbered}
use Rattle.loft_place.specs.Links.{IsPlaced, PlaceFault}
use Rattle.loft_lock_forms.specs.Rewriting.{all_say, forms, written}
use Rattle.loft_lock_forms.specs.Names.{long_name, reserved_name}
use Rattle.loft_lock_forms.specs.Marks.{Mark, text_marks}
use Rattle.loft_lock_forms.specs.Seen.{marks_seen}
use Rattle.loft_lock_forms.specs.declared.rewriting.Written.{Written}
use Rattle.loft_lock_expansion.specs.Expansion.{IsRewritten, TellsLeaving, first_unpaired, first_leaving}
use Rattle.loft_mutex.specs.declared.error.MutexError.{MutexError}
use Rattle.loft_mutex.specs.declared.error.MutexError.TheVariants as error
use Rattle.loft_mutex.specs.Refusing.{module_names}

-- ---- errors of what is called

abbrev pub of_lex : LexError → MutexError
of_lex lex.NoMemory = error.NoMemory
of_lex (lex.BadByte at) = error.Lex (lex.BadByte at)
of_lex (lex.OpenText at) = error.Lex (lex.OpenText at)
of_lex (lex.LongName at) = error.Lex (lex.LongName at)
of_lex (lex.LongText at) = error.Lex (lex.LongText at)
of_lex (lex.BadNumber at) = error.Lex (lex.BadNumber at)

abbrev pub of_parse : ParseError → MutexError
of_parse parse.NoMemory = error.NoMemory
of_parse (parse.Lex e) = error.Parse (parse.Lex e)
of_parse (parse.Expected at) = error.Parse (parse.Expected at)
of_parse (parse.TooDeep at) = error.Parse (parse.TooDeep at)
of_parse (parse.TooMany at limit) = error.Parse (parse.TooMany at limit)
of_parse parse.TooLong = error.Parse parse.TooLong

abbrev pub of_names : NameError → MutexError
of_names name.NoMemory = error.NoMemory
of_names name.NoScheduler = error.Names name.NoScheduler
of_names (name.Unknown at) = error.Names (name.Unknown at)
of_names (name.Twice at first) = error.Names (name.Twice at first)
of_names (name.Arity at) = error.Names (name.Arity at)
of_names (name.Kind at) = error.Names (name.Kind at)

-- ---- the names of locks

-- none is too long, and none is reserved
pub record AreNamesFree (text : List ℕ) (ts : List Token) : Type 0 where
  pub short : long_name text 0 ts ≡ None
  pub free : reserved_name text (forms 0 (all_say text ts)) ts ≡ None

-- one is
abbrev pub IsNameFault : List ℕ → List Token → MutexError → Type 0
IsNameFault text ts (error.LongLock at) = long_name text 0 ts ≡ Some at
IsNameFault text ts (error.Reserved at) = (long_name text 0 ts ≡ None) × (reserved_name text (forms 0 (all_say text ts)) ts ≡ Some at)
IsNameFault text ts error.NoMemory = Unit {0}
IsNameFault text ts other = ⊥

-- a text without a fault so far, and what is written for it in memory
pub record IsWrittenFor (text : List ℕ) (w : Written) : Type 0 where
  pub tokens : List Token
  pub rewritten : IsRewritten text tokens
  pub says : w.text.items ≡ written text 0 0 tokens
  pub marks : marks_seen w.marks.items ≡ text_marks text tokens

-- ---- the written text

-- it is that of a program with correct names, which has these numbers
pub record IsProgramOf (text : List ℕ) (n : NamedProgram) : Type 0 where
  pub source : Source
  pub reads : Reads text source
  pub names : NamesFit source
  pub numbers : n ≡ numbered source

-- it isn't
abbrev pub IsTextFault : List ℕ → MutexError → Type 0
IsTextFault text (error.Parse e) = SourceFault text e
IsTextFault text (error.Names e) = (s : Source) × Reads text s × NameFault s e
IsTextFault text error.NoMemory = Unit {0}
IsTextFault text other = ⊥

-- it isn't, or its links are refused, and its schedulers have these names
abbrev pub IsPlaceFault : List ℕ → List (List ℕ) → MutexError → Type 0
IsPlaceFault text names (error.Parse e) = SourceFault text e
IsPlaceFault text names (error.Names e) = (s : Source) × Reads text s × NameFault s e
IsPlaceFault text names (error.Place e) = (s : Source) × Reads text s × NamesFit s × PlaceFault (numbered s) e × (names ≡ (numbered s).heads.schedulers)
IsPlaceFault text names error.NoMemory = Unit {0}
IsPlaceFault text names other = ⊥

-- ---- the pairs of its modules, by the marks of the forms

-- this module breaks a rule
abbrev pub IsUnpaired : List Mark → List NamedModule → MutexError → Type 0
IsUnpaired marks ms (error.Pair m lock) = first_unpaired marks ms ≡ Some (m, lock)
IsUnpaired marks ms error.NoMemory = Unit {0}
IsUnpaired marks ms other = ⊥

-- nothing leaves a pair
pub record Stays (marks : List Mark) (ms : List NamedModule) : Type 0 where
  pub away : ModuleId → Bool
  pub tells : (s : Source) → (numbered s).modules ≡ ms → TellsLeaving s away
  pub stays : first_leaving marks away ms ≡ None

-- in this module something does
pub record IsLeft (marks : List Mark) (ms : List NamedModule) (m : ModuleId) (lock : List ℕ) : Type 0 where
  pub away : ModuleId → Bool
  pub tells : (s : Source) → (numbered s).modules ≡ ms → TellsLeaving s away
  pub leaves : first_leaving marks away ms ≡ Some (m, lock)

abbrev pub IsLeaving : List Mark → List NamedModule → MutexError → Type 0
IsLeaving marks ms (error.Leaves m lock) = IsLeft marks ms m lock
IsLeaving marks ms error.NoMemory = Unit {0}
IsLeaving marks ms other = ⊥

-- ---- all of that

-- it is a program without a fault
pub record IsChecked (text : List ℕ) (marks : List Mark) : Type 0 where
  pub source : Source
  pub reads : Reads text source
  pub names : NamesFit source
  pub placed : IsPlaced (numbered source)
  pub paired : first_unpaired marks (numbered source).modules ≡ None
  pub stays : Stays marks (numbered source).modules

-- it has a fault, and what it tells by number has these names
abbrev pub IsCheckFault : List ℕ → List Mark → List (List ℕ) → MutexError → Type 0
IsCheckFault text marks names (error.Parse e) = SourceFault text e
IsCheckFault text marks names (error.Names e) = (s : Source) × Reads text s × NameFault s e
IsCheckFault text marks names (error.Place e) = (s : Source) × Reads text s × NamesFit s × PlaceFault (numbered s) e × (names ≡ (numbered s).heads.schedulers)
IsCheckFault text marks names (error.Pair m lock) =
    (s : Source) × Reads text s × NamesFit s × IsPlaced (numbered s) × (first_unpaired marks (numbered s).modules ≡ Some (m, lock)) × (names ≡ module_names (numbered s).heads)
IsCheckFault text marks names (error.Leaves m lock) =
    (s : Source) × Reads text s × NamesFit s × IsPlaced (numbered s) × (first_unpaired marks (numbered s).modules ≡ None) × IsLeft marks (numbered s).modules m lock × (names ≡ module_names (numbered s).heads)
IsCheckFault text marks names error.NoMemory = Unit {0}
IsCheckFault text marks names other = ⊥
