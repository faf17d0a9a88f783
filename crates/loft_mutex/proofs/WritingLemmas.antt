-- What the errors of writing say of a text with locks.
use Rattle.std.proofs.Common.{◌≡◌, ℕ, ◌≤◌, ◌<◌, List, length, Err, Ok, inr, subst}
use Rattle.std.specs.Prelude.{◌↔◌, IfSome}
use Rattle.loft_lex.specs.declared.token.Token.{Token}
use Rattle.loft_lex.specs.declared.token.LexError.{LexError}
use Rattle.loft_lex.specs.declared.token.LexError.TheVariants as lex
use Rattle.loft_lex.specs.declared.TheConstants.{MAX_TEXT_LEN}
use Rattle.loft_lex.specs.Tokens.{Found, tokens, IsFirstFault}
use Rattle.loft_lex.specs.Cut.{Cut}
use Rattle.loft_lock_forms.specs.Rewriting.{written}
use Rattle.loft_lock_expansion.specs.Expansion.{IsWritten}
use Rattle.loft_lock_expansion.specs.Refusals.{IsRefused, TooLong}
use Rattle.loft_mutex.specs.declared.error.MutexError.{MutexError}
use Rattle.loft_mutex.specs.declared.error.MutexError.TheVariants as error
use Rattle.loft_mutex.specs.Refusing.{refusal_of, AreNamesFor}
use Rattle.loft_mutex.specs.Stages.{of_lex, IsNameFault}

-- what is found in a text is the way to cut it
abbrev pub TellsCut : List ℕ → Type 0
TellsCut text = (found : Found) → (tokens text ≡ found) ↔ Cut text found

pub lex_refused : (text : List ℕ) (e : LexError) → TellsCut text → length text ≤ MAX_TEXT_LEN → IsFirstFault text e → IfSome (refusal_of (of_lex e)) (IsRefused text)
lex_refused text (lex.BadByte at) cut fits f = (fits, (cut (Err (lex.BadByte at))).0 f)
lex_refused text (lex.OpenText at) cut fits f = (fits, (cut (Err (lex.OpenText at))).0 f)
lex_refused text (lex.LongName at) cut fits f = (fits, (cut (Err (lex.LongName at))).0 f)
lex_refused text (lex.LongText at) cut fits f = (fits, (cut (Err (lex.LongText at))).0 f)
lex_refused text (lex.BadNumber at) cut fits f = (fits, (cut (Err (lex.BadNumber at))).0 f)
lex_refused text lex.NoMemory cut fits f = tt

pub too_long : (text : List ℕ) (ts : List Token) → TellsCut text → tokens text ≡ Ok ts → MAX_TEXT_LEN < length (written text 0 0 ts) → IsRefused text TooLong
too_long text ts cut e long = inr (ts, (cut (Ok ts)).0 e, long)

pub is_written : (text : List ℕ) (ts : List Token) (items : List ℕ) → TellsCut text → length text ≤ MAX_TEXT_LEN → tokens text ≡ Ok ts → items ≡ written text 0 0 ts → length items ≤ MAX_TEXT_LEN → IsWritten text ts
is_written text ts items cut fits e is small = record { fits = fits; cut = (cut (Ok ts)).0 e; written_fits = subst (λ (l : List ℕ). length l ≤ MAX_TEXT_LEN) is small }

pub name_refused : (text : List ℕ) (ts : List Token) (e : MutexError) → IsWritten text ts → IsNameFault text ts e → IfSome (refusal_of e) (IsRefused text)
name_refused text ts (error.LongLock at) w f = (ts, w, f)
name_refused text ts (error.Reserved at) w f = (ts, w, f.0, f.1)
name_refused text ts error.NoMemory w f = tt
name_refused text ts error.TooLong w f = absurd f
name_refused text ts (error.Lex e) w f = absurd f
name_refused text ts (error.Parse e) w f = absurd f
name_refused text ts (error.Names e) w f = absurd f
name_refused text ts (error.Place e) w f = absurd f
name_refused text ts (error.Pair m lock) w f = absurd f
name_refused text ts (error.Leaves m lock) w f = absurd f

-- ---- nothing of that is told by number

pub lex_named : (text : List ℕ) (names : List (List ℕ)) (e : LexError) → AreNamesFor text names (of_lex e)
lex_named text names (lex.BadByte at) = tt
lex_named text names (lex.OpenText at) = tt
lex_named text names (lex.LongName at) = tt
lex_named text names (lex.LongText at) = tt
lex_named text names (lex.BadNumber at) = tt
lex_named text names lex.NoMemory = tt

pub name_named : (text : List ℕ) (names : List (List ℕ)) (ts : List Token) (e : MutexError) → IsNameFault text ts e → AreNamesFor text names e
name_named text names ts (error.LongLock at) f = tt
name_named text names ts (error.Reserved at) f = tt
name_named text names ts error.NoMemory f = tt
name_named text names ts error.TooLong f = tt
name_named text names ts (error.Lex e) f = tt
name_named text names ts (error.Parse e) f = tt
name_named text names ts (error.Names e) f = tt
name_named text names ts (error.Place e) f = absurd f
name_named text names ts (error.Pair m lock) f = absurd f
name_named text names ts (error.Leaves m lock) f = absurd f
