-- What a command asks of the contents of its file, and by which line it refuses them (docs/COMMANDS.md, "Fault lines").
use Rattle.std.specs.Prelude.{◌≡◌, ℕ, List}
use Rattle.loft_code.specs.Valid.{Valid}
use Rattle.loft_refusal.specs.declared.refusal.Refusal.{Refusal}
use Rattle.loft_refusal.specs.declared.refusal.Refusal.TheVariants as refusal
use Rattle.loft_refusal.specs.Input.{Input, ASource, AListing, AnExpansion}
use Rattle.loft_refusal.specs.Refusals.{Well, IsCause, line_of}
use Rattle.loft_arguments.specs.Command.{FileCommand, Run, Exec, Show, Check, Compile, Bound, Expand}

-- what is asked of a source, of one whose names and links have to be correct, of a listing, and of a text with locks
abbrev pub asks_source : Refusal → Type 0
asks_source (refusal.Text e) = Unit {0}
asks_source (refusal.Names e) = ⊥
asks_source (refusal.Links e schedulers) = ⊥
asks_source (refusal.Listing e) = ⊥
asks_source (refusal.Code e modules) = ⊥
asks_source (refusal.Locks e names) = ⊥

abbrev pub asks_well : Refusal → Type 0
asks_well (refusal.Text e) = Unit {0}
asks_well (refusal.Names e) = Unit {0}
asks_well (refusal.Links e schedulers) = Unit {0}
asks_well (refusal.Listing e) = ⊥
asks_well (refusal.Code e modules) = ⊥
asks_well (refusal.Locks e names) = ⊥

abbrev pub asks_listing : Refusal → Type 0
asks_listing (refusal.Text e) = ⊥
asks_listing (refusal.Names e) = ⊥
asks_listing (refusal.Links e schedulers) = ⊥
asks_listing (refusal.Listing e) = Unit {0}
asks_listing (refusal.Code e modules) = Unit {0}
asks_listing (refusal.Locks e names) = ⊥

abbrev pub asks_locks : Refusal → Type 0
asks_locks (refusal.Text e) = ⊥
asks_locks (refusal.Names e) = ⊥
asks_locks (refusal.Links e schedulers) = ⊥
asks_locks (refusal.Listing e) = ⊥
asks_locks (refusal.Code e modules) = ⊥
asks_locks (refusal.Locks e names) = Unit {0}

-- what a command asks for: `show` a source, `exec` a listing, `expand` a text with locks, the others a source whose names and
-- links are correct
abbrev pub Asks : FileCommand → Refusal → Type 0
Asks (Run file o) r = asks_well r
Asks (Exec file o) r = asks_listing r
Asks (Show file) r = asks_source r
Asks (Check file) r = asks_well r
Asks (Compile file) r = asks_well r
Asks (Bound file) r = asks_well r
Asks (Expand file) r = asks_locks r

-- a command refuses contents by this line
abbrev pub RefusesFile : FileCommand → List ℕ → List ℕ → Type 0
RefusesFile c contents line = (r : Refusal) × Asks c r × IsCause contents r × (line ≡ line_of r)

-- a source whose names and links are correct, any source, a listing of valid code, and a text with locks that stands for a
-- program
abbrev pub IsWellSource : Input → Type 0
IsWellSource (ASource p) = Well p
IsWellSource (AListing c) = ⊥
IsWellSource (AnExpansion p) = ⊥

abbrev pub IsAnySource : Input → Type 0
IsAnySource (ASource p) = Unit {0}
IsAnySource (AListing c) = ⊥
IsAnySource (AnExpansion p) = ⊥

abbrev pub IsValidListing : Input → Type 0
IsValidListing (ASource p) = ⊥
IsValidListing (AListing c) = Valid c
IsValidListing (AnExpansion p) = ⊥

abbrev pub IsAnyExpansion : Input → Type 0
IsAnyExpansion (ASource p) = ⊥
IsAnyExpansion (AListing c) = ⊥
IsAnyExpansion (AnExpansion p) = Unit {0}

-- the command can be done: each source can be shown, and well ones pass the check, are compiled and run, and their step
-- bounds are told; a listing of valid code is run, and a text with locks is expanded
abbrev pub Takes : FileCommand → Input → Type 0
Takes (Run file o) x = IsWellSource x
Takes (Exec file o) x = IsValidListing x
Takes (Show file) x = IsAnySource x
Takes (Check file) x = IsWellSource x
Takes (Compile file) x = IsWellSource x
Takes (Bound file) x = IsWellSource x
Takes (Expand file) x = IsAnyExpansion x
