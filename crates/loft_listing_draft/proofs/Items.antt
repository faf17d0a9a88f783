-- A draft with one declaration more keeps the limits where that declaration keeps them.
use Rattle.std.proofs.Common.{◌≡◌, ℕ, ◌+◌, ◌<◌, ◌≤◌, Bool, true, false, [], ◌∷◌, ◌++◌, count_by, refl, sym, ap, subst, ◌∙◌, append-nil, arith}
use Rattle.std.specs.List.{flat_map}
use Rattle.std.proofs.lemmas.List.{map-append}
use Rattle.std.proofs.lemmas.List.Sums.{sum_by-append}
use Rattle.std.proofs.lemmas.Grind.{flat_map-append}
use Rattle.loft_tree.specs.declared.limits.TheConstants.{MAX_SCHEDULERS, MAX_EVENTS, MAX_SHARED, MAX_MODULES, MAX_STARTS, MAX_CLIENTS}
use Rattle.loft_tree.specs.Source.{Declaration, Scheduler, Event, Shared, Module, Start, Outside, Source}
use Rattle.loft_tree.specs.Fits.{Each, DeclarationFits, SourceFits, is_scheduler, is_event, is_shared, is_module, is_start, is_outside}
use Rattle.loft_listing_line.specs.Rows.{Title}
use Rattle.loft_listing_draft.specs.Drafts.{Draft, DraftItem, source_of, item_lines, draft_lines, ItemHolds, DraftFits}
use Rattle.loft_listing_line.specs.RowsFit.{ListingLineFits}
use Rattle.loft_listing_draft.specs.Taking.{HasRoom}
use Rattle.loft_listing_draft.proofs.Lists.{each_append, each_left, each_right, one, count_end}

-- ---- counts

module _ (test : Declaration → Bool) (p : Source) (x : Declaration) (most : ℕ) where
  one_more : test x ≡ true → count_by test p < most → count_by test (p ++ x ∷ []) ≤ most
  one_more passed room = let y : one (test x) ≡ 1 = ap one passed in omega (arith, count_end test p x, y)

  none_more : test x ≡ false → count_by test p ≤ most → count_by test (p ++ x ∷ []) ≤ most
  none_more failed room = let y : one (test x) ≡ 0 = ap one failed in omega (arith, count_end test p x, y)

  one_fewer : test x ≡ true → count_by test (p ++ x ∷ []) ≤ most → count_by test p < most
  one_fewer passed room = let y : one (test x) ≡ 1 = ap one passed in omega (arith, count_end test p x, y)

source_join : (p : Source) (x : Declaration) → SourceFits p → DeclarationFits x → HasRoom p x → SourceFits (p ++ x ∷ [])
source_join p (Scheduler n) fits last room = record {
  each = each_append DeclarationFits p (Scheduler n ∷ []) fits.each (last, tt);
  schedulers = one_more is_scheduler p (Scheduler n) MAX_SCHEDULERS refl room;
  events = none_more is_event p (Scheduler n) MAX_EVENTS refl fits.events;
  shared = none_more is_shared p (Scheduler n) MAX_SHARED refl fits.shared;
  modules = none_more is_module p (Scheduler n) MAX_MODULES refl fits.modules;
  starts = none_more is_start p (Scheduler n) MAX_STARTS refl fits.starts;
  clients = none_more is_outside p (Scheduler n) MAX_CLIENTS refl fits.clients;
}
source_join p (Event n s) fits last room = record {
  each = each_append DeclarationFits p (Event n s ∷ []) fits.each (last, tt);
  schedulers = none_more is_scheduler p (Event n s) MAX_SCHEDULERS refl fits.schedulers;
  events = one_more is_event p (Event n s) MAX_EVENTS refl room;
  shared = none_more is_shared p (Event n s) MAX_SHARED refl fits.shared;
  modules = none_more is_module p (Event n s) MAX_MODULES refl fits.modules;
  starts = none_more is_start p (Event n s) MAX_STARTS refl fits.starts;
  clients = none_more is_outside p (Event n s) MAX_CLIENTS refl fits.clients;
}
source_join p (Shared n s v) fits last room = record {
  each = each_append DeclarationFits p (Shared n s v ∷ []) fits.each (last, tt);
  schedulers = none_more is_scheduler p (Shared n s v) MAX_SCHEDULERS refl fits.schedulers;
  events = none_more is_event p (Shared n s v) MAX_EVENTS refl fits.events;
  shared = one_more is_shared p (Shared n s v) MAX_SHARED refl room;
  modules = none_more is_module p (Shared n s v) MAX_MODULES refl fits.modules;
  starts = none_more is_start p (Shared n s v) MAX_STARTS refl fits.starts;
  clients = none_more is_outside p (Shared n s v) MAX_CLIENTS refl fits.clients;
}
source_join p (Module h ls b) fits last room = record {
  each = each_append DeclarationFits p (Module h ls b ∷ []) fits.each (last, tt);
  schedulers = none_more is_scheduler p (Module h ls b) MAX_SCHEDULERS refl fits.schedulers;
  events = none_more is_event p (Module h ls b) MAX_EVENTS refl fits.events;
  shared = none_more is_shared p (Module h ls b) MAX_SHARED refl fits.shared;
  modules = one_more is_module p (Module h ls b) MAX_MODULES refl room;
  starts = none_more is_start p (Module h ls b) MAX_STARTS refl fits.starts;
  clients = none_more is_outside p (Module h ls b) MAX_CLIENTS refl fits.clients;
}
source_join p (Start s c args n) fits last room = record {
  each = each_append DeclarationFits p (Start s c args n ∷ []) fits.each (last, tt);
  schedulers = none_more is_scheduler p (Start s c args n) MAX_SCHEDULERS refl fits.schedulers;
  events = none_more is_event p (Start s c args n) MAX_EVENTS refl fits.events;
  shared = none_more is_shared p (Start s c args n) MAX_SHARED refl fits.shared;
  modules = none_more is_module p (Start s c args n) MAX_MODULES refl fits.modules;
  starts = one_more is_start p (Start s c args n) MAX_STARTS refl room;
  clients = none_more is_outside p (Start s c args n) MAX_CLIENTS refl fits.clients;
}
source_join p (Outside n xs) fits last room = record {
  each = each_append DeclarationFits p (Outside n xs ∷ []) fits.each (last, tt);
  schedulers = none_more is_scheduler p (Outside n xs) MAX_SCHEDULERS refl fits.schedulers;
  events = none_more is_event p (Outside n xs) MAX_EVENTS refl fits.events;
  shared = none_more is_shared p (Outside n xs) MAX_SHARED refl fits.shared;
  modules = none_more is_module p (Outside n xs) MAX_MODULES refl fits.modules;
  starts = none_more is_start p (Outside n xs) MAX_STARTS refl fits.starts;
  clients = one_more is_outside p (Outside n xs) MAX_CLIENTS refl room;
}

pub source_room : (p : Source) (x : Declaration) → SourceFits (p ++ x ∷ []) → HasRoom p x
source_room p (Scheduler n) fits = one_fewer is_scheduler p (Scheduler n) MAX_SCHEDULERS refl fits.schedulers
source_room p (Event n s) fits = one_fewer is_event p (Event n s) MAX_EVENTS refl fits.events
source_room p (Shared n s v) fits = one_fewer is_shared p (Shared n s v) MAX_SHARED refl fits.shared
source_room p (Module h ls b) fits = one_fewer is_module p (Module h ls b) MAX_MODULES refl fits.modules
source_room p (Start s c args n) fits = one_fewer is_start p (Start s c args n) MAX_STARTS refl fits.starts
source_room p (Outside n xs) fits = one_fewer is_outside p (Outside n xs) MAX_CLIENTS refl fits.clients

module _ (test : Declaration → Bool) (p q : Source) (most : ℕ) where
  fewer : count_by test (p ++ q) ≤ most → count_by test p ≤ most
  fewer few = let sum : count_by test (p ++ q) ≡ count_by test p + count_by test q = sum_by-append (λ y. one (test y)) p q in omega (arith, sum)

pub source_left : (p q : Source) → SourceFits (p ++ q) → SourceFits p
source_left p q fits = record {
  each = each_left DeclarationFits p q fits.each;
  schedulers = fewer is_scheduler p q MAX_SCHEDULERS fits.schedulers;
  events = fewer is_event p q MAX_EVENTS fits.events;
  shared = fewer is_shared p q MAX_SHARED fits.shared;
  modules = fewer is_module p q MAX_MODULES fits.modules;
  starts = fewer is_start p q MAX_STARTS fits.starts;
  clients = fewer is_outside p q MAX_CLIENTS fits.clients;
}

-- ---- lines

pub source_end : (d : Draft) (i : DraftItem) → source_of (d ++ i ∷ []) ≡ source_of d ++ i.declaration ∷ []
source_end d i = map-append (λ j. j.declaration) d (i ∷ [])

lines_after : (d : Draft) (i : DraftItem) → flat_map item_lines (d ++ i ∷ []) ≡ flat_map item_lines d ++ item_lines i
lines_after d i = flat_map-append item_lines d (i ∷ []) ∙ ap (λ ls. flat_map item_lines d ++ ls) (append-nil (item_lines i))

pub lines_end : (d : Draft) (i : DraftItem) → draft_lines (d ++ i ∷ []) ≡ draft_lines d ++ item_lines i
lines_end d i = ap (λ ls. Title ∷ ls) (lines_after d i)

-- ---- one declaration

-- a declaration that keeps the limits, and so do its lines
pub record ItemKeeps (i : DraftItem) : Type 0 where
  pub declaration : DeclarationFits i.declaration
  pub holds : ItemHolds i
  pub lines : Each ListingLineFits (item_lines i)

-- a draft that keeps the limits
pub record Keeps (d : Draft) : Type 0 where
  pub source : SourceFits (source_of d)
  pub items : Each ItemHolds d
  pub lines : Each ListingLineFits (draft_lines d)

pub keeps : (d : Draft) → DraftFits d → Keeps d
keeps d fits = record { source = fits.source; items = fits.items; lines = fits.lines }

pub joined : (d : Draft) (i : DraftItem) → Keeps d → HasRoom (source_of d) i.declaration → ItemKeeps i → Keeps (d ++ i ∷ [])
joined d i fits room keeps = record {
  source = subst SourceFits (sym (source_end d i)) (source_join (source_of d) i.declaration fits.source keeps.declaration room);
  items = each_append ItemHolds d (i ∷ []) fits.items (keeps.holds, tt);
  lines = subst (Each ListingLineFits) (sym (lines_end d i)) (each_append ListingLineFits (draft_lines d) (item_lines i) fits.lines keeps.lines);
}

pub front : (d : Draft) (i : DraftItem) → Keeps (d ++ i ∷ []) → Keeps d
front d i fits = record {
  source = source_left (source_of d) (i.declaration ∷ []) (subst SourceFits (source_end d i) fits.source);
  items = each_left ItemHolds d (i ∷ []) fits.items;
  lines = each_left ListingLineFits (draft_lines d) (item_lines i) (subst (Each ListingLineFits) (lines_end d i) fits.lines);
}

pub room : (d : Draft) (i : DraftItem) → Keeps (d ++ i ∷ []) → HasRoom (source_of d) i.declaration
room d i fits = source_room (source_of d) i.declaration (subst SourceFits (source_end d i) fits.source)

pub last : (d : Draft) (i : DraftItem) → Keeps (d ++ i ∷ []) → ItemKeeps i
last d i fits =
    let source = subst SourceFits (source_end d i) fits.source in
    record {
      declaration = (each_right DeclarationFits (source_of d) (i.declaration ∷ []) source.each).0;
      holds = (each_right ItemHolds d (i ∷ []) fits.items).0;
      lines = each_right ListingLineFits (draft_lines d) (item_lines i) (subst (Each ListingLineFits) (lines_end d i) fits.lines);
    }
