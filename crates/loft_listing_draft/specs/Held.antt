-- What is held in memory of a listing while it is taken line by line.
use Rattle.std.specs.Prelude.{◌≡◌, ℕ, ◌+◌, List, [], ◌++◌, map, length, ◌<◌, Option, Some, None}
use Rattle.std.specs.List.{count_by}
use Rattle.loft_tree.specs.Source.{Source}
use Rattle.loft_tree.specs.View.{named_of, head_of, order_of}
use Rattle.loft_tree.specs.declared.limits.TheConstants.{MAX_MODULES, MAX_CLIENTS}
use Rattle.loft_tree.specs.Fits.{Each, is_scheduler, is_event, is_shared, is_module, is_start, is_outside}
use Rattle.loft_listing_line.specs.Rows.{ListingLine, line_text}
use Rattle.loft_listing_line.specs.RowsFit.{ListingLineFits}
use Rattle.loft_listing_line.specs.declared.row.Row.{Row}
use Rattle.loft_listing_line.specs.declared.row.Row.TheVariants as row
use Rattle.loft_listing_draft.specs.declared.draft.OperationLine.{OperationLine}
use Rattle.loft_listing_draft.specs.declared.counts.Counts.{Counts}
use Rattle.loft_listing_draft.specs.declared.closed.Closed.{Closed}
use Rattle.loft_listing_draft.specs.declared.sofar.Open.{Open}
use Rattle.loft_listing_draft.specs.declared.sofar.Open.TheVariants as begun
use Rattle.loft_listing_draft.specs.declared.sofar.OpenModule.{OpenModule}
use Rattle.loft_listing_draft.specs.declared.sofar.SoFar.{SoFar as SoFarInMemory}
use Rattle.loft_listing_draft.specs.declared.take.Taken.{Taken}
use Rattle.loft_listing_draft.specs.declared.take.Taken.TheVariants as taken
use Rattle.loft_listing_draft.specs.declared.read.Next.{Next}
use Rattle.loft_listing_draft.specs.declared.read.Next.TheVariants as next
use Rattle.loft_listing_draft.specs.Drafts.{Draft, DraftOperation, after_locals, lines_text, operation_lines, operations_at, source_of}
use Rattle.loft_listing_draft.specs.InMemory.{IsInMemory, HeldFits, held_operation}
use Rattle.loft_listing_draft.specs.Lined.{line_at}
use Rattle.loft_listing_draft.specs.Taking.{Begun, Nothing, InModule, InClient, SoFar, MayStand, with_line}

-- the line isn't that of an operation
abbrev pub IsNoOperation : Row → Type 0
IsNoOperation (row.Operation operation) = ⊥
IsNoOperation r = Unit {0}

-- how many declarations of each sort there are
pub record AreCounts (n : Counts) (p : Source) : Type 0 where
  pub schedulers : n.schedulers ≡ count_by is_scheduler p
  pub events : n.events ≡ count_by is_event p
  pub shared : n.shared ≡ count_by is_shared p
  pub modules : n.modules ≡ count_by is_module p
  pub starts : n.starts ≡ count_by is_start p
  pub clients : n.clients ≡ count_by is_outside p

pub record HoldsClosed (m : Closed) (d : Draft) : Type 0 where
  pub draft : IsInMemory m.draft d
  pub counts : AreCounts m.counts (source_of d)

-- operations of which the first stands at one offset, before a line that stands at the other
pub record HoldsOperations (held : List OperationLine) (first at : ℕ) (os : List DraftOperation) : Type 0 where
  pub said : map held_operation held ≡ operations_at first 0 os
  pub fit : Each HeldFits held
  pub here : at ≡ first + length (lines_text (operation_lines 0 os))

abbrev pub HoldsModule : OpenModule → ℕ → List DraftOperation → Type 0
HoldsModule m at os = HoldsOperations m.operations.items (after_locals (head_of m.head) (map named_of m.locals.items)) at os

-- a declaration that isn't closed, before a line that stands at this offset
abbrev pub HoldsOpen : Open → ℕ → Begun → Type 0
HoldsOpen begun.Nothing at b = b ≡ Nothing
HoldsOpen (begun.Module m) at b =
    (os : List DraftOperation) × (b ≡ InModule (head_of m.head) (map named_of m.locals.items) os) × HoldsModule m at os
HoldsOpen (begun.Client c) at b = b ≡ InClient c.name (map order_of c.orders.items)

-- there is room for what isn't closed yet
abbrev pub MayClose : Source → Begun → Type 0
MayClose p Nothing = Unit {0}
MayClose p (InModule head locals os) = count_by is_module p < MAX_MODULES
MayClose p (InClient name orders) = count_by is_outside p < MAX_CLIENTS

pub record Holds (m : SoFarInMemory) (at : ℕ) (s : SoFar) : Type 0 where
  pub done : HoldsClosed m.done s.done
  pub room : MayClose (source_of s.done) s.begun
  pub begun : HoldsOpen m.begun at s.begun

-- what comes of a line at this offset
abbrev pub Takes : SoFarInMemory → ℕ → ListingLine → Taken → Type 0
Takes m at l (taken.More n) = (s : SoFar) → Holds m at s → MayStand s l × Holds n (at + length (line_text l)) (with_line s l)
Takes m at l (taken.Stop n) = (n ≡ m) × ((s : SoFar) → Holds m at s → MayStand s l → ⊥)

abbrev pub TakesIn : Closed → Open → ℕ → ListingLine → Taken → Type 0
TakesIn m begun at l t = Takes (record { done = m; begun = begun }) at l t

-- the text begins with this fitting line, which stands at this offset
pub record StandsAt (at : ℕ) (text after : List ℕ) (l : ListingLine) : Type 0 where
  pub fits : ListingLineFits l
  pub lined : line_at at l ≡ l
  pub written : text ≡ line_text l ++ after

-- the line at this offset is taken
pub record GoesOn (m : SoFarInMemory) (at : ℕ) (text : List ℕ) (more : SoFarInMemory) (after : List ℕ) (l : ListingLine) : Type 0 where
  pub stands : StandsAt at text after l
  pub only : (k : ListingLine) (rest : List ℕ) → StandsAt at text rest k → (k ≡ l) × (rest ≡ after)
  pub takes : (s : SoFar) → Holds m at s → MayStand s l × Holds more (at + length (line_text l)) (with_line s l)
  pub shorter : length after < length text

-- what comes of the line at this offset, with which the text begins, if there is one
abbrev pub Follows : SoFarInMemory → ℕ → List ℕ → Next → Type 0
Follows m at text (next.More more after) = (l : ListingLine) × GoesOn m at text more after.now l
Follows m at text (next.Stop same) =
    (same ≡ m) × ((s : SoFar) (l : ListingLine) (after : List ℕ) → Holds m at s → StandsAt at text after l → MayStand s l → ⊥)

-- the offset at which the text stops; none where nothing is open and nothing is left
abbrev pub EndsAt : Begun → List ℕ → ℕ → Option ℕ → Type 0
EndsAt b rest at None = (b ≡ Nothing) × (rest ≡ [])
EndsAt b rest at (Some stop) = (stop ≡ at) × (b ≡ Nothing → rest ≡ [] → ⊥)
