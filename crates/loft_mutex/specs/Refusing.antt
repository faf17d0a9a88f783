-- What an error of `expand` says of the text (docs/LOCKS.md, "What is refused").
use Rattle.std.specs.Prelude.{◌≡◌, ℕ, List, map, Option, Some, None, Ok}
use Rattle.loft_lex.specs.declared.token.Token.{Token}
use Rattle.loft_lex.specs.Cut.{Cut}
use Rattle.loft_tree.specs.Source.{Source}
use Rattle.loft_tree.specs.declared.heads.Heads.{Heads}
use Rattle.loft_grammar.specs.Texts.{Reads}
use Rattle.loft_numbers.specs.Numbers.{numbered}
use Rattle.loft_lock_forms.specs.Rewriting.{written}
use Rattle.loft_lock_expansion.specs.Refusals.{Refusal, IsRefused, TooLong, Lex, LongName, Reserved, Parse, Names, Place, Pair, Leaves}
use Rattle.loft_mutex.specs.declared.error.MutexError.{MutexError}
use Rattle.loft_mutex.specs.declared.error.MutexError.TheVariants as error

-- the reason that an error tells; out of memory tells none
abbrev pub refusal_of : MutexError → Option Refusal
refusal_of error.TooLong = Some TooLong
refusal_of (error.Lex e) = Some (Lex e)
refusal_of (error.LongLock at) = Some (LongName at)
refusal_of (error.Reserved at) = Some (Reserved at)
refusal_of (error.Parse e) = Some (Parse e)
refusal_of (error.Names e) = Some (Names e)
refusal_of (error.Place e) = Some (Place e)
refusal_of (error.Pair m lock) = Some (Pair m lock)
refusal_of (error.Leaves m lock) = Some (Leaves m lock)
refusal_of error.NoMemory = None

-- the error tells why the text is refused
abbrev pub IsErrorOf : List ℕ → MutexError → Type 0
IsErrorOf text e = (r : Refusal) × (refusal_of e ≡ Some r) × IsRefused text r

-- ---- names

-- the text that is read in place of this one is that of the program
pub record IsReadFor (text : List ℕ) (s : Source) : Type 0 where
  pub tokens : List Token
  pub cut : Cut text (Ok tokens)
  pub reads : Reads (written text 0 0 tokens) s

abbrev pub module_names : Heads → List (List ℕ)
module_names h = map (λ m. m.name) h.modules

-- these are the names of what the error tells by number, in the program that is read: schedulers, or modules
abbrev pub AreNamesFor : List ℕ → List (List ℕ) → MutexError → Type 0
AreNamesFor text names (error.Place e) = (s : Source) × IsReadFor text s × (names ≡ (numbered s).heads.schedulers)
AreNamesFor text names (error.Pair m lock) = (s : Source) × IsReadFor text s × (names ≡ module_names (numbered s).heads)
AreNamesFor text names (error.Leaves m lock) = (s : Source) × IsReadFor text s × (names ≡ module_names (numbered s).heads)
AreNamesFor text names other = Unit {0}
