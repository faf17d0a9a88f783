-- The lines of code are lines that a listing can have.
use Rattle.std.proofs.Common.{ℕ, ◌+◌, ◌≤◌, List, [], ◌∷◌, ◌++◌, length, map, arith}
use Rattle.std.specs.List.{flat_map}
use Rattle.std.proofs.lemmas.Bool.{and_parts}
use Rattle.loft_tree.specs.declared.heads.Signature.{Signature}
use Rattle.loft_tree.specs.declared.heads.Heads.{Heads}
use Rattle.loft_tree.specs.Source as src
use Rattle.loft_tree.specs.declared.heads.SlotHead.{SlotHead}
use Rattle.loft_tree.specs.Fits.{Each, OrderFits}
use Rattle.loft_tree.specs.NamedFits.{SignatureHolds, SlotHolds, slots_of}
use Rattle.loft_names.proofs.HeadsLists.{each-append}
use Rattle.loft_code.specs.declared.limits.TheConstants.{MAX_OPERATIONS}
use Rattle.loft_code.specs.Fits as code
use Rattle.loft_code.specs.Fits.{HeadsKeep}
use Rattle.loft_code.specs.Names.{has_place, operation_has}
use Rattle.loft_code.specs.Operations.{Line}
use Rattle.loft_listing_line.specs.Rows.{End, Close, Local, Order}
use Rattle.loft_listing_line.specs.RowsFit.{ListingLineFits}
use Rattle.loft_listing.specs.Called.{called_order, called_variable}
use Rattle.loft_listing.specs.Lines.{operation_lines}
use Rattle.loft_listing_roundtrip.proofs.Parts.{Part, SchedulerPart, EventPart, SharedPart, ModulePart, StartPart, ClientPart}
use Rattle.loft_listing_roundtrip.proofs.Saying.{part_lines}
use Rattle.loft_listing_roundtrip.proofs.Passing.{LinePasses}
use Rattle.loft_listing_roundtrip.proofs.PartsHold.{PartKeeps}
use Rattle.loft_listing_roundtrip.proofs.DeclarationsFit.{head_fits, orders_fit, scheduler_fits, start_fits}
use Rattle.loft_listing_roundtrip.proofs.OperationsFit.{instruction_fits, written_place_fits}

local_lines_fit : (vs : List SlotHead) → Each SlotHolds vs → Each ListingLineFits (map (λ v. Local (called_variable v)) vs)
local_lines_fit [] hold = tt
local_lines_fit (v ∷ vs) hold = (hold.0, local_lines_fit vs hold.1)

order_lines_fit : (xs : List src.Order) → Each OrderFits xs → Each ListingLineFits (map Order xs)
order_lines_fit [] fit = tt
order_lines_fit (x ∷ xs) fit = (fit.0, order_lines_fit xs fit.1)

module _ (h : Heads) (keeps : HeadsKeep h) where
  operation_lines_fit : (m : Signature) → SignatureHolds h m → (number : ℕ) (lines : List Line) → number + length lines ≤ MAX_OPERATIONS → Each code.LineFits lines → Each (LinePasses h m) lines
      → Each ListingLineFits (operation_lines h m number lines)
  operation_lines_fit m holds number [] few fit pass = tt
  operation_lines_fit m holds number (l ∷ lines) few fit pass =
      let parts = and_parts (has_place h l.place) (operation_has h (slots_of m) l.operation) pass.0.named in (
        (omega arith, written_place_fits h keeps m holds l.place parts.0, omega (arith, pass.0.depth), instruction_fits h keeps m holds l.operation parts.1 fit.0 pass.0.numbers),
        operation_lines_fit m holds (number + 1) lines (omega arith) fit.1 pass.1,
      )

  part_lines_fit : (p : Part) → PartKeeps h p → Each ListingLineFits (part_lines h p)
  part_lines_fit (SchedulerPart name) keep = ((tt, keep), tt)
  part_lines_fit (EventPart x) keep = ((tt, (keep.name, scheduler_fits h keeps x.scheduler keep.scheduler)), tt)
  part_lines_fit (SharedPart x) keep = ((tt, (keep.name, scheduler_fits h keeps x.scheduler keep.scheduler, keep.value)), tt)
  part_lines_fit (ModulePart m lines) keep =
      let operations = operation_lines_fit m keep.0 0 lines (omega (arith, keep.1.few)) keep.1.each keep.2 in (
        head_fits h keeps m keep.0,
        each-append ListingLineFits (map (λ v. Local (called_variable v)) m.locals) (operation_lines h m 0 lines ++ End ∷ []) (local_lines_fit m.locals keep.0.locals)
            (each-append ListingLineFits (operation_lines h m 0 lines) (End ∷ []) operations (tt, tt)),
      )
  part_lines_fit (StartPart t) keep = ((tt, start_fits h keeps t keep), tt)
  part_lines_fit (ClientPart c) keep =
      let orders : List src.Order = map (called_order h) c.orders in
      (keep.holds.name, each-append ListingLineFits (map Order orders) (Close ∷ []) (order_lines_fit orders (orders_fit h keeps c.orders keep.holds.orders keep.named)) (tt, tt))

  pub lines_fit : (ps : List Part) → Each (PartKeeps h) ps → Each ListingLineFits (flat_map (part_lines h) ps)
  lines_fit [] keep = tt
  lines_fit (p ∷ ps) keep = each-append ListingLineFits (part_lines h p) (flat_map (part_lines h) ps) (part_lines_fit p keep.0) (lines_fit ps keep.1)
