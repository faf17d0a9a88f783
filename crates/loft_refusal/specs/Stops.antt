-- What stops a command, by what a part of it answered.
use Rattle.std.specs.Prelude.{ℕ, List, []}
use Rattle.loft_base.specs.declared.errors.FileError.{FileError}
use Rattle.loft_base.specs.declared.errors.FileError.TheVariants as file
use Rattle.loft_base.specs.declared.writing.WriteError.{WriteError}
use Rattle.loft_base.specs.declared.writing.WriteError.TheVariants as write
use Rattle.loft_parse.specs.declared.error.ParseError.{ParseError}
use Rattle.loft_parse.specs.declared.error.ParseError.TheVariants as text
use Rattle.loft_scopes.specs.declared.error.NameError.{NameError}
use Rattle.loft_scopes.specs.declared.error.NameError.TheVariants as name
use Rattle.loft_listing_reader.specs.declared.error.ListError.{ListError}
use Rattle.loft_listing_reader.specs.declared.error.ListError.TheVariants as list
use Rattle.loft_mutex.specs.declared.error.MutexError.{MutexError}
use Rattle.loft_mutex.specs.declared.error.MutexError.TheVariants as locks
use Rattle.loft_refusal.specs.declared.refusal.Refusal.TheVariants.{Text, Names, Listing, Locks}
use Rattle.loft_refusal.specs.declared.refusal.Stopped.{Stopped}
use Rattle.loft_refusal.specs.declared.refusal.Stopped.TheVariants.{Refused, FileFault, SinkFault, NoMemory}

abbrev pub stop_of_file : FileError → Stopped
stop_of_file file.Failed = FileFault
stop_of_file file.TooLong = Refused (Text text.TooLong)
stop_of_file file.NoMemory = NoMemory

abbrev pub stop_of_text : ParseError → Stopped
stop_of_text (text.Lex e) = Refused (Text (text.Lex e))
stop_of_text (text.Expected at) = Refused (Text (text.Expected at))
stop_of_text (text.TooDeep at) = Refused (Text (text.TooDeep at))
stop_of_text (text.TooMany at limit) = Refused (Text (text.TooMany at limit))
stop_of_text text.TooLong = Refused (Text text.TooLong)
stop_of_text text.NoMemory = NoMemory

abbrev pub stop_of_names : NameError → Stopped
stop_of_names name.NoScheduler = Refused (Names name.NoScheduler)
stop_of_names (name.Unknown at) = Refused (Names (name.Unknown at))
stop_of_names (name.Twice at first) = Refused (Names (name.Twice at first))
stop_of_names (name.Arity at) = Refused (Names (name.Arity at))
stop_of_names (name.Kind at) = Refused (Names (name.Kind at))
stop_of_names name.NoMemory = NoMemory

abbrev pub stop_of_list : ListError → Stopped
stop_of_list (list.Line n) = Refused (Listing (list.Line n))
stop_of_list list.TooLong = Refused (Listing list.TooLong)
stop_of_list list.NoMemory = NoMemory

-- of a file that is to be a listing
abbrev pub stop_of_listing_file : FileError → Stopped
stop_of_listing_file file.Failed = FileFault
stop_of_listing_file file.TooLong = Refused (Listing list.TooLong)
stop_of_listing_file file.NoMemory = NoMemory

-- of a text with locks, with the names of what the fault tells by number
abbrev pub stop_of_locks : MutexError → List (List ℕ) → Stopped
stop_of_locks locks.TooLong names = Refused (Locks locks.TooLong names)
stop_of_locks (locks.Lex e) names = Refused (Locks (locks.Lex e) names)
stop_of_locks (locks.LongLock at) names = Refused (Locks (locks.LongLock at) names)
stop_of_locks (locks.Reserved at) names = Refused (Locks (locks.Reserved at) names)
stop_of_locks (locks.Parse e) names = Refused (Locks (locks.Parse e) names)
stop_of_locks (locks.Names e) names = Refused (Locks (locks.Names e) names)
stop_of_locks (locks.Place e) names = Refused (Locks (locks.Place e) names)
stop_of_locks (locks.Pair m lock) names = Refused (Locks (locks.Pair m lock) names)
stop_of_locks (locks.Leaves m lock) names = Refused (Locks (locks.Leaves m lock) names)
stop_of_locks locks.NoMemory names = NoMemory

-- of a file that is to be one
abbrev pub stop_of_locks_file : FileError → Stopped
stop_of_locks_file file.Failed = FileFault
stop_of_locks_file file.TooLong = Refused (Locks locks.TooLong [])
stop_of_locks_file file.NoMemory = NoMemory

abbrev pub stop_of_write : WriteError → Stopped
stop_of_write write.Sink = SinkFault
stop_of_write write.NoMemory = NoMemory
