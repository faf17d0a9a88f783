-- What stops the reading and the placing of a program, and the reading of a listing.
use Rattle.std.specs.Prelude.{ℕ, List}
use Rattle.loft_tree.specs.Source.{Source}
use Rattle.loft_refusal.specs.declared.refusal.Refusal.TheVariants as refusal
use Rattle.loft_refusal.specs.declared.refusal.Stopped.{Stopped}
use Rattle.loft_refusal.specs.declared.refusal.Stopped.TheVariants.{Refused, FileFault, SinkFault, NoMemory}
use Rattle.loft_code.specs.Operations.{Automata}
use Rattle.loft_refusal.specs.Refusals.{ContentsFault, ListingFault, LocksFault, IsListingOf, IsUnwell, IsInvalid}

-- there is no program in a file with these contents: they have the fault; out of memory says nothing of them
abbrev pub IsFault : List ℕ → Stopped → Type 0
IsFault contents (Refused (refusal.Text e)) = ContentsFault contents e
IsFault contents (Refused (refusal.Names e)) = ⊥
IsFault contents (Refused (refusal.Links e schedulers)) = ⊥
IsFault contents (Refused (refusal.Listing e)) = ⊥
IsFault contents (Refused (refusal.Code e modules)) = ⊥
IsFault contents (Refused (refusal.Locks e names)) = ⊥
IsFault contents FileFault = Unit {0}
IsFault contents SinkFault = ⊥
IsFault contents NoMemory = Unit {0}

-- the program's names or links are refused; out of memory says nothing of them
abbrev pub IsUnfit : Source → Stopped → Type 0
IsUnfit p (Refused (refusal.Text e)) = ⊥
IsUnfit p (Refused (refusal.Names e)) = IsUnwell p (refusal.Names e)
IsUnfit p (Refused (refusal.Links e schedulers)) = IsUnwell p (refusal.Links e schedulers)
IsUnfit p (Refused (refusal.Listing e)) = ⊥
IsUnfit p (Refused (refusal.Code e modules)) = ⊥
IsUnfit p (Refused (refusal.Locks e names)) = ⊥
IsUnfit p FileFault = ⊥
IsUnfit p SinkFault = ⊥
IsUnfit p NoMemory = Unit {0}

-- the contents are no listing, or one of code that isn't valid; out of memory says nothing of them
abbrev pub IsUnlisted : List ℕ → Stopped → Type 0
IsUnlisted contents (Refused (refusal.Text e)) = ⊥
IsUnlisted contents (Refused (refusal.Names e)) = ⊥
IsUnlisted contents (Refused (refusal.Links e schedulers)) = ⊥
IsUnlisted contents (Refused (refusal.Listing e)) = ListingFault contents e
IsUnlisted contents (Refused (refusal.Code e modules)) = (c : Automata) × IsListingOf contents c × IsInvalid c (refusal.Code e modules)
IsUnlisted contents (Refused (refusal.Locks e names)) = ⊥
IsUnlisted contents FileFault = Unit {0}
IsUnlisted contents SinkFault = ⊥
IsUnlisted contents NoMemory = Unit {0}

-- the contents are a text with locks that stands for no program; out of memory says nothing of them
abbrev pub IsUnexpanded : List ℕ → Stopped → Type 0
IsUnexpanded contents (Refused (refusal.Text e)) = ⊥
IsUnexpanded contents (Refused (refusal.Names e)) = ⊥
IsUnexpanded contents (Refused (refusal.Links e schedulers)) = ⊥
IsUnexpanded contents (Refused (refusal.Listing e)) = ⊥
IsUnexpanded contents (Refused (refusal.Code e modules)) = ⊥
IsUnexpanded contents (Refused (refusal.Locks e names)) = LocksFault contents e names
IsUnexpanded contents FileFault = Unit {0}
IsUnexpanded contents SinkFault = ⊥
IsUnexpanded contents NoMemory = Unit {0}
