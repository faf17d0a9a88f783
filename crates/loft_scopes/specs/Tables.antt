-- What a table of declarations is as a plain value.
use Rattle.std.specs.Prelude.{◌≡◌, ℕ, Bool, true, false, ◌&&◌, ◌==◌, if◌then◌else◌, List, ◌++◌, map, position, Option, Some, None}
use Rattle.std.specs.Option.{option_or}
use Rattle.std.specs.Str.{bytes_eq}
use Rattle.std.specs.Borrow.{Bor}
use Rattle.indexmap.specs.IndexMap.{IndexMap, get}
use Rattle.loft_tree.specs.View.{named_of}
use Rattle.loft_scopes.specs.Scopes.{Scope, Everywhere, Within, Sort as PlainSort, Declared, AScheduler, AnEvent, AShared, AModule, AStart, AClient, AVariable, kinds_of}
use Rattle.loft_scopes.specs.Faults.{twice_from}
use Rattle.loft_scopes.specs.FirstFault.{least_of}
use Rattle.loft_scopes.specs.declared.error.NameError.{NameError}
use Rattle.loft_scopes.specs.declared.table.Sort.{Sort}
use Rattle.loft_scopes.specs.declared.table.Sort.TheVariants as sort
use Rattle.loft_scopes.specs.declared.table.Entry.{Entry}
use Rattle.loft_scopes.specs.declared.table.Reach.{Reach}
use Rattle.loft_scopes.specs.declared.table.Reach.TheVariants.{Anywhere, In}

abbrev pub sort_of : Sort → PlainSort
sort_of sort.Scheduler = AScheduler
sort_of sort.Event = AnEvent
sort_of sort.Shared = AShared
sort_of (sort.Module parameters) = AModule (kinds_of (map named_of parameters.now))
sort_of sort.Start = AStart
sort_of sort.Client = AClient
sort_of (sort.Variable kind) = AVariable kind

-- a declaration in memory as a plain value
abbrev pub declared_of : Entry → Declared
declared_of e = record { name = e.name.now; scope = e.scope; sort = sort_of e.sort; number = e.number }

-- which declarations are looked for, and their name
abbrev pub Key : Type 0
Key = Reach × Bor (List ℕ)

abbrev pub same_scope : Scope → Scope → Bool
same_scope Everywhere Everywhere = true
same_scope Everywhere (Within n) = false
same_scope (Within m) Everywhere = false
same_scope (Within m) (Within n) = m == n

abbrev pub same_reach : Reach → Reach → Bool
same_reach Anywhere Anywhere = true
same_reach Anywhere (In scope) = false
same_reach (In scope) Anywhere = false
same_reach (In scope) (In other) = same_scope scope other

-- two keys look for the same
abbrev pub same_key : Key → Key → Bool
same_key q k = same_reach q.0 k.0 && bytes_eq q.1.now k.1.now

-- what is declared there is within reach
abbrev pub is_reached : Reach → Scope → Bool
is_reached Anywhere scope = true
is_reached (In there) scope = same_scope there scope

-- a declaration is one that is looked for
abbrev pub is_sought : Reach → List ℕ → Declared → Bool
is_sought reach name d = is_reached reach d.scope && bytes_eq d.name.text name

-- the map has the index of the first declaration that is looked for, for each key
abbrev pub IndexesFirsts : {S : Type 0} → IndexMap Key ℕ S → List Declared → Type 0
IndexesFirsts firsts ds = (q : Key) → get same_key firsts q ≡ position (is_sought q.0 q.1.now) ds

-- these declarations were added to the table, and the first fault is kept, with those that were declared before
pub record Declares (old new : List Declared) (first last : Option NameError) (ds : List Declared) : Type 0 where
  pub table : new ≡ old ++ ds
  pub faults : last ≡ least_of first (twice_from old ds)

-- the map has this index for the key now, unless it had one
abbrev pub NotesFirst : {S : Type 0} → IndexMap Key ℕ S → IndexMap Key ℕ S → Key → ℕ → Type 0
NotesFirst old new key place = (q : Key) → get same_key new q ≡ option_or (get same_key old q) (if same_key q key then Some place else None)
