-- The lines of a draft within the limits may stand one after the other, and they say that draft.
use Rattle.std.proofs.Common.{◌≡◌, ℕ, ◌+◌, ◌≤◌, List, [], ◌∷◌, ◌++◌, map, length, refl, sym, ap, subst, ◌∙◌, append-nil, append_assoc, zero-add, length-append, arith}
use Rattle.std.specs.List.{flat_map}
use Rattle.std.proofs.lemmas.List.{map-append}
use Rattle.loft_tree.specs.declared.limits.TheConstants.{MAX_LOCALS, MAX_ORDERS}
use Rattle.loft_tree.specs.Source as src
use Rattle.loft_tree.specs.Source.{Ident, Named, ModuleHead, Declaration, Scheduler, Event, Shared, Module, Start, Outside, Statements, Done}
use Rattle.loft_tree.specs.Fits.{Each, DeclarationFits, SourceFits}
use Rattle.loft_code.specs.declared.limits.TheConstants.{MAX_OPERATIONS}
use Rattle.loft_listing_line.specs.Rows.{ListingLine, Title, Item, Head, Local, End, Client, Order, Close}
use Rattle.loft_listing_draft.specs.Drafts.{Draft, DraftItem, DraftOperation, DraftFits, HasOperations, ItemHolds, source_of, operation_lines, declaration_lines, item_lines, lines_text}
use Rattle.loft_listing_draft.specs.Lined.{line_at, lines_at}
use Rattle.loft_listing_draft.specs.Taking.{Begun, Nothing, InModule, InClient, SoFar, HasRoom, MayStand, with_line}
use Rattle.loft_listing_draft.proofs.Items.{source_left, source_room, source_end}
use Rattle.loft_listing_draft.proofs.LinedLines.{lined_next}

-- ---- lines one after the other

abbrev pub AllStand : SoFar → List ListingLine → Type 0
AllStand s [] = Unit {0}
AllStand s (l ∷ ls) = MayStand s l × AllStand (with_line s l) ls

abbrev pub with_lines : SoFar → List ListingLine → SoFar
with_lines s [] = s
with_lines s (l ∷ ls) = with_lines (with_line s l) ls

abbrev pub so_far : Draft → Begun → SoFar
so_far done b = record { done = done; begun = b }

-- nothing was said
abbrev pub start : SoFar
start = so_far [] Nothing

pub record Walks (s : SoFar) (ls : List ListingLine) (t : SoFar) : Type 0 where
  pub stands : AllStand s ls
  pub comes : with_lines s ls ≡ t

pub with_lines-append : (s : SoFar) (ls ks : List ListingLine) → with_lines s (ls ++ ks) ≡ with_lines (with_lines s ls) ks
with_lines-append s [] ks = refl
with_lines-append s (l ∷ ls) ks = with_lines-append (with_line s l) ls ks

stands_on : (s : SoFar) (ls ks : List ListingLine) → AllStand s ls → AllStand (with_lines s ls) ks → AllStand s (ls ++ ks)
stands_on s [] ks first rest = rest
stands_on s (l ∷ ls) ks first rest = (first.0, stands_on (with_line s l) ls ks first.1 rest)

walks_on : (s t u : SoFar) (ls ks : List ListingLine) → Walks s ls t → Walks t ks u → Walks s (ls ++ ks) u
walks_on s t u ls ks first rest = record {
  stands = stands_on s ls ks first.stands (subst (λ v. AllStand v ks) (sym first.comes) rest.stands);
  comes = with_lines-append s ls ks ∙ ap (λ v. with_lines v ks) first.comes ∙ rest.comes;
}

walks_one : (s t u : SoFar) (l : ListingLine) (ls : List ListingLine) → MayStand s l → with_line s l ≡ t → Walks t ls u → Walks s (l ∷ ls) u
walks_one s t u l ls may is rest = record {
  stands = (may, subst (λ v. AllStand v ls) (sym is) rest.stands);
  comes = ap (λ v. with_lines v ls) is ∙ rest.comes;
}

-- the line that stands after others
pub stands_next : (s : SoFar) (ls : List ListingLine) (l : ListingLine) (more : List ListingLine) → AllStand s (ls ++ l ∷ more) → MayStand (with_lines s ls) l
stands_next s [] l more all = all.0
stands_next s (k ∷ ks) l more all = stands_next (with_line s k) ks l more all.1

-- the lines that stand after others
pub stands_after : (s : SoFar) (ls ks : List ListingLine) → AllStand s (ls ++ ks) → AllStand (with_lines s ls) ks
stands_after s [] ks all = all
stands_after s (l ∷ ls) ks all = stands_after (with_line s l) ls ks all.1

-- ---- a declaration

walk_locals : (done : Draft) (h : ModuleHead) (before ls : List Named) → length before + length ls ≤ MAX_LOCALS
    → Walks (so_far done (InModule h before [])) (map Local ls) (so_far done (InModule h (before ++ ls) []))
walk_locals done h before [] few = record { stands = tt; comes = ap (λ vs. so_far done (InModule h vs [])) (sym (append-nil before)) }
walk_locals done h before (v ∷ vs) few =
    let less : length (before ++ v ∷ []) + length vs ≤ MAX_LOCALS = omega (arith, length-append before (v ∷ [])) in
    let rest = walk_locals done h (before ++ v ∷ []) vs less in
    record { stands = ((refl, omega arith), rest.stands); comes = rest.comes ∙ ap (λ xs. so_far done (InModule h xs [])) (append_assoc before (v ∷ []) vs) }

walk_operations : (done : Draft) (h : ModuleHead) (ls : List Named) (before os : List DraftOperation) (n : ℕ) → n ≡ length before → length before + length os ≤ MAX_OPERATIONS
    → Walks (so_far done (InModule h ls before)) (operation_lines n os) (so_far done (InModule h ls (before ++ os)))
walk_operations done h ls before [] n is few = record { stands = tt; comes = ap (λ xs. so_far done (InModule h ls xs)) (sym (append-nil before)) }
walk_operations done h ls before (o ∷ os) n is few =
    let less : length (before ++ o ∷ []) + length os ≤ MAX_OPERATIONS = omega (arith, length-append before (o ∷ [])) in
    let next : n + 1 ≡ length (before ++ o ∷ []) = omega (arith, length-append before (o ∷ [])) in
    let rest = walk_operations done h ls (before ++ o ∷ []) os (n + 1) next less in
    record { stands = ((is, omega arith), rest.stands); comes = rest.comes ∙ ap (λ xs. so_far done (InModule h ls xs)) (append_assoc before (o ∷ []) os) }

walk_orders : (done : Draft) (name : Ident) (before xs : List src.Order) → length before + length xs ≤ MAX_ORDERS
    → Walks (so_far done (InClient name before)) (map Order xs) (so_far done (InClient name (before ++ xs)))
walk_orders done name before [] few = record { stands = tt; comes = ap (λ ys. so_far done (InClient name ys)) (sym (append-nil before)) }
walk_orders done name before (x ∷ xs) few =
    let less : length (before ++ x ∷ []) + length xs ≤ MAX_ORDERS = omega (arith, length-append before (x ∷ [])) in
    let rest = walk_orders done name (before ++ x ∷ []) xs less in
    record { stands = (omega arith, rest.stands); comes = rest.comes ∙ ap (λ ys. so_far done (InClient name ys)) (append_assoc before (x ∷ []) xs) }

abbrev item_of : Declaration → List DraftOperation → DraftItem
item_of d os = record { declaration = d; operations = os }

walk_simple : (done : Draft) (d : Declaration) (os : List DraftOperation) → HasRoom (source_of done) d → os ≡ []
    → Walks (so_far done Nothing) (Item d ∷ []) (so_far (done ++ item_of d os ∷ []) Nothing)
walk_simple done d os room none = record { stands = (room, tt); comes = ap (λ xs. so_far (done ++ item_of d xs ∷ []) Nothing) (sym none) }

walk_end : (done : Draft) (h : ModuleHead) (ls : List Named) (body : Statements) (os : List DraftOperation) → body ≡ Done
    → Walks (so_far done (InModule h ls os)) (End ∷ []) (so_far (done ++ item_of (Module h ls body) os ∷ []) Nothing)
walk_end done h ls body os is = record { stands = (tt, tt); comes = ap (λ b. so_far (done ++ item_of (Module h ls b) os ∷ []) Nothing) (sym is) }

walk_module : (done : Draft) (h : ModuleHead) (ls : List Named) (body : Statements) (os : List DraftOperation) → HasRoom (source_of done) (Module h ls body) → length ls ≤ MAX_LOCALS
    → HasOperations (Module h ls body) os → Walks (so_far done Nothing) (item_lines (item_of (Module h ls body) os)) (so_far (done ++ item_of (Module h ls body) os ∷ []) Nothing)
walk_module done h ls body os room few holds =
    let whole = so_far (done ++ item_of (Module h ls body) os ∷ []) Nothing in
    let operations = walk_operations done h ls [] os 0 refl (omega (arith, holds.1)) in
    let ended = walks_on (so_far done (InModule h ls [])) (so_far done (InModule h ls os)) whole (operation_lines 0 os) (End ∷ []) operations (walk_end done h ls body os holds.0) in
    walks_one (so_far done Nothing) (so_far done (InModule h [] [])) whole (Head h) (map Local ls ++ (operation_lines 0 os ++ End ∷ [])) room refl
    (walks_on (so_far done (InModule h [] [])) (so_far done (InModule h ls [])) whole (map Local ls) (operation_lines 0 os ++ End ∷ []) (walk_locals done h [] ls (omega arith)) ended)

walk_client : (done : Draft) (name : Ident) (xs : List src.Order) (os : List DraftOperation) → HasRoom (source_of done) (Outside name xs) → length xs ≤ MAX_ORDERS → os ≡ []
    → Walks (so_far done Nothing) (item_lines (item_of (Outside name xs) os)) (so_far (done ++ item_of (Outside name xs) os ∷ []) Nothing)
walk_client done name xs os room few none =
    let whole = so_far (done ++ item_of (Outside name xs) os ∷ []) Nothing in
    let closes : Walks (so_far done (InClient name xs)) (Close ∷ []) whole =
    record { stands = (tt, tt); comes = ap (λ ys. so_far (done ++ item_of (Outside name xs) ys ∷ []) Nothing) (sym none) } in
    walks_one (so_far done Nothing) (so_far done (InClient name [])) whole (Client name) (map Order xs ++ Close ∷ []) room refl
    (walks_on (so_far done (InClient name [])) (so_far done (InClient name xs)) whole (map Order xs) (Close ∷ []) (walk_orders done name [] xs (omega arith)) closes)

walk_item : (done : Draft) (d : Declaration) (os : List DraftOperation) → HasRoom (source_of done) d → DeclarationFits d → HasOperations d os
    → Walks (so_far done Nothing) (declaration_lines d os) (so_far (done ++ item_of d os ∷ []) Nothing)
walk_item done (Scheduler n) os room fits holds = walk_simple done (Scheduler n) os room holds
walk_item done (Event n s) os room fits holds = walk_simple done (Event n s) os room holds
walk_item done (Shared n s v) os room fits holds = walk_simple done (Shared n s v) os room holds
walk_item done (Module h ls body) os room fits holds = walk_module done h ls body os room fits.few_locals holds
walk_item done (Start s c args n) os room fits holds = walk_simple done (Start s c args n) os room holds
walk_item done (Outside n xs) os room fits holds = walk_client done n xs os room fits.2 holds

-- ---- a draft

each_at : {A : Type 0} (P : A → Type 0) (xs : List A) (x : A) → Each P (xs ++ x ∷ []) → P x
each_at P [] x all = all.0
each_at P (y ∷ ys) x all = each_at P ys x all.1

walk_draft : (done rest : Draft) → SourceFits (source_of (done ++ rest)) → Each ItemHolds rest → Walks (so_far done Nothing) (flat_map item_lines rest) (so_far (done ++ rest) Nothing)
walk_draft done [] fits holds = record { stands = tt; comes = ap (λ d. so_far d Nothing) (sym (append-nil done)) }
walk_draft done (i ∷ is) fits holds =
    let again : SourceFits (source_of ((done ++ i ∷ []) ++ is)) = subst (λ d. SourceFits (source_of d)) (sym (append_assoc done (i ∷ []) is)) fits in
    let upto = source_left (source_of (done ++ i ∷ [])) (source_of is) (subst SourceFits (map-append (λ j. j.declaration) (done ++ i ∷ []) is) again) in
    let front = subst SourceFits (source_end done i) upto in
    let item = walk_item done i.declaration i.operations (source_room (source_of done) i.declaration front) (each_at DeclarationFits (source_of done) i.declaration front.each) holds.0 in
    let more = walk_draft (done ++ i ∷ []) is again holds.1 in
    let whole = walks_on (so_far done Nothing) (so_far (done ++ i ∷ []) Nothing) (so_far ((done ++ i ∷ []) ++ is) Nothing) (item_lines i) (flat_map item_lines is) item more in
    record { stands = whole.stands; comes = whole.comes ∙ ap (λ d. so_far d Nothing) (append_assoc done (i ∷ []) is) }

pub walks : (d : Draft) → DraftFits d → Walks start (flat_map item_lines d) (so_far d Nothing)
walks d fits = walk_draft [] d fits.source fits.items

-- ---- offsets

-- the offset after the first line and these
abbrev pub after_lines : List ListingLine → ℕ
after_lines ls = length (lines_text (Title ∷ ls))

-- a line of a draft stands at its offset
pub lined_at : (d : Draft) (ls : List ListingLine) (l : ListingLine) (more : List ListingLine) → DraftFits d → flat_map item_lines d ≡ ls ++ l ∷ more → line_at (after_lines ls) l ≡ l
lined_at d ls l more fits is =
    let all = subst (λ xs. lines_at 0 (Title ∷ xs) ≡ Title ∷ xs) is fits.lined in
    subst (λ n. line_at n l ≡ l) (zero-add (after_lines ls)) (lined_next 0 (Title ∷ ls) l more all)
