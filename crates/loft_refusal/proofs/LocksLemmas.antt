-- What an error of `expand` says of the contents of a file.
use Rattle.std.proofs.Common.{◌≡◌, ℕ, ◌<◌, List, length, inl, refl}
use Rattle.std.specs.Prelude.{IfSome}
use Rattle.loft_base.specs.declared.errors.FileError.{FileError}
use Rattle.loft_base.specs.declared.errors.FileError.TheVariants as file
use Rattle.loft_lex.specs.declared.TheConstants.{MAX_TEXT_LEN}
use Rattle.loft_lock_expansion.specs.Refusals.{IsRefused, TooLong, Lex, LongName, Reserved, Parse, Names, Place, Pair, Leaves}
use Rattle.loft_mutex.specs.declared.error.MutexError.{MutexError}
use Rattle.loft_mutex.specs.declared.error.MutexError.TheVariants as locks
use Rattle.loft_mutex.specs.Refusing.{refusal_of, AreNamesFor}
use Rattle.loft_refusal.specs.declared.refusal.Stopped.TheVariants.{FileFault}
use Rattle.loft_refusal.specs.Found.{IsUnexpanded}
use Rattle.loft_refusal.specs.Stops.{stop_of_locks, stop_of_locks_file}

pub unexpanded : (contents : List ℕ) (names : List (List ℕ)) (e : MutexError) → IfSome (refusal_of e) (IsRefused contents) → AreNamesFor contents names e → IsUnexpanded contents (stop_of_locks e names)
unexpanded contents names locks.TooLong f named = ((TooLong, refl, f), named)
unexpanded contents names (locks.Lex e) f named = ((Lex e, refl, f), named)
unexpanded contents names (locks.LongLock at) f named = ((LongName at, refl, f), named)
unexpanded contents names (locks.Reserved at) f named = ((Reserved at, refl, f), named)
unexpanded contents names (locks.Parse e) f named = ((Parse e, refl, f), named)
unexpanded contents names (locks.Names e) f named = ((Names e, refl, f), named)
unexpanded contents names (locks.Place e) f named = ((Place e, refl, f), named)
unexpanded contents names (locks.Pair m lock) f named = ((Pair m lock, refl, f), named)
unexpanded contents names (locks.Leaves m lock) f named = ((Leaves m lock, refl, f), named)
unexpanded contents names locks.NoMemory f named = tt

pub no_file_fault : (e : MutexError) (names : List (List ℕ)) → stop_of_locks e names ≡ FileFault → ⊥
no_file_fault locks.TooLong names is = cc
no_file_fault (locks.Lex e) names is = cc
no_file_fault (locks.LongLock at) names is = cc
no_file_fault (locks.Reserved at) names is = cc
no_file_fault (locks.Parse e) names is = cc
no_file_fault (locks.Names e) names is = cc
no_file_fault (locks.Place e) names is = cc
no_file_fault (locks.Pair m lock) names is = cc
no_file_fault (locks.Leaves m lock) names is = cc
no_file_fault locks.NoMemory names is = cc

pub file_fault : (contents : List ℕ) (e : FileError) → (e ≡ file.TooLong → MAX_TEXT_LEN < length contents) → IsUnexpanded contents (stop_of_locks_file e)
file_fault contents file.Failed long = tt
file_fault contents file.TooLong long = ((TooLong, refl, inl (long refl)), tt)
file_fault contents file.NoMemory long = tt
