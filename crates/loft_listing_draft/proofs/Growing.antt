-- What the lines so far say, line by line: it stays within the limits, and it has these lines.
use Rattle.std.proofs.Common.{◌≡◌, ℕ, ◌+◌, List, [], ◌∷◌, ◌++◌, map, length, refl, sym, ap, subst, ◌∙◌, append-nil, append_assoc, zero-add, arith}
use Rattle.std.proofs.lemmas.List.{map-append}
use Rattle.loft_tree.specs.Source as src
use Rattle.loft_tree.specs.Source.{Ident, Named, ModuleHead, Declaration, Scheduler, Event, Shared, Module, Start, Outside}
use Rattle.loft_listing_line.specs.Rows.{ListingLine, Title, Item, Head, Local, Operation, End, Client, Order, Close, line_text}
use Rattle.loft_listing_line.specs.RowsFit.{ListingLineFits}
use Rattle.loft_listing_draft.specs.Drafts.{Draft, DraftOperation, DraftFits, source_of, operation_line, operation_lines, draft_lines, lines_text}
use Rattle.loft_listing_draft.specs.Lined.{line_at, lines_at}
use Rattle.loft_listing_draft.specs.Taking.{Begun, Nothing, InModule, InClient, SoFar, MayBegin, MayStandInModule, MayStandInClient, MayFollow, MayStand, begin_with, in_module_with, in_client_with, going_on, with_line, module_item, simple_item, closed_as, closed, closing}
use Rattle.loft_listing_draft.proofs.Items.{Keeps, keeps, joined, front, room, last, lines_end}
use Rattle.loft_listing_draft.proofs.LinedLines.{lined_append, lined_left}
use Rattle.loft_listing_draft.proofs.Parts.{operations_end, one_line, module_begins, module_local, module_operation, client_begins, client_order}

-- ---- the lines that were said

abbrev pub said_as : Draft → Begun → List ListingLine
said_as done Nothing = draft_lines done
said_as done (InModule h ls os) = draft_lines done ++ Head h ∷ (map Local ls ++ operation_lines 0 os)
said_as done (InClient n xs) = draft_lines done ++ Client n ∷ map Order xs

abbrev pub said : SoFar → List ListingLine
said s = said_as s.done s.begun

pub closed_says : (done : Draft) (b : Begun) → draft_lines (closed_as done b) ≡ said_as done b ++ closing b
closed_says done Nothing = sym (append-nil (draft_lines done))
closed_says done (InModule h ls os) =
    lines_end done (module_item h ls os) ∙ ap (λ xs. draft_lines done ++ Head h ∷ xs) (sym (append_assoc (map Local ls) (operation_lines 0 os) (End ∷ [])))
    ∙ sym (append_assoc (draft_lines done) (Head h ∷ (map Local ls ++ operation_lines 0 os)) (End ∷ []))
closed_says done (InClient n xs) =
    lines_end done (simple_item (Outside n xs)) ∙ sym (append_assoc (draft_lines done) (Client n ∷ map Order xs) (Close ∷ []))

item_says : (done : Draft) (d : Declaration) → ListingLineFits (Item d) → draft_lines (done ++ simple_item d ∷ []) ≡ draft_lines done ++ Item d ∷ []
item_says done (Scheduler n) fits = lines_end done (simple_item (Scheduler n))
item_says done (Event n s) fits = lines_end done (simple_item (Event n s))
item_says done (Shared n s v) fits = lines_end done (simple_item (Shared n s v))
item_says done (Module h ls b) fits = absurd fits.0
item_says done (Start s c args n) fits = lines_end done (simple_item (Start s c args n))
item_says done (Outside n xs) fits = absurd fits.0

says_nothing : (done : Draft) (l : ListingLine) → ListingLineFits l → MayBegin (source_of done) l → said (begin_with done l) ≡ draft_lines done ++ l ∷ []
says_nothing done Title fits may = absurd may
says_nothing done (Item d) fits may = item_says done d fits
says_nothing done (Head h) fits may = refl
says_nothing done (Local v) fits may = absurd may
says_nothing done (Operation k p d i) fits may = absurd may
says_nothing done End fits may = absurd may
says_nothing done (Client n) fits may = refl
says_nothing done (Order x) fits may = absurd may
says_nothing done Close fits may = absurd may

local_says : (xs : List ListingLine) (h : ModuleHead) (ls : List Named) (os : List DraftOperation) (v : Named) → length os ≡ 0
    → xs ++ Head h ∷ (map Local (ls ++ v ∷ []) ++ operation_lines 0 os) ≡ (xs ++ Head h ∷ (map Local ls ++ operation_lines 0 os)) ++ Local v ∷ []
local_says xs h ls [] v none =
    ap (λ ys. xs ++ Head h ∷ ys) (append-nil (map Local (ls ++ v ∷ [])) ∙ map-append Local ls (v ∷ []) ∙ ap (λ ys. ys ++ Local v ∷ []) (sym (append-nil (map Local ls))))
    ∙ sym (append_assoc xs (Head h ∷ (map Local ls ++ [])) (Local v ∷ []))
local_says xs h ls (o ∷ os) v none = absurd (omega arith)

operation_says : (xs : List ListingLine) (h : ModuleHead) (ls : List Named) (os : List DraftOperation) (o : DraftOperation) (k : ℕ) → k ≡ length os
    → xs ++ Head h ∷ (map Local ls ++ operation_lines 0 (os ++ o ∷ [])) ≡ (xs ++ Head h ∷ (map Local ls ++ operation_lines 0 os)) ++ operation_line k o ∷ []
operation_says xs h ls os o k is =
    ap (λ ys. xs ++ Head h ∷ (map Local ls ++ ys)) (operations_end 0 os o ∙ ap (λ n. operation_lines 0 os ++ operation_line n o ∷ []) (zero-add (length os) ∙ sym is))
    ∙ ap (λ ys. xs ++ Head h ∷ ys) (sym (append_assoc (map Local ls) (operation_lines 0 os) (operation_line k o ∷ [])))
    ∙ sym (append_assoc xs (Head h ∷ (map Local ls ++ operation_lines 0 os)) (operation_line k o ∷ []))

says_module : (done : Draft) (h : ModuleHead) (ls : List Named) (os : List DraftOperation) (l : ListingLine) → MayStandInModule (length ls) (length os) l
    → said (in_module_with done h ls os l) ≡ said_as done (InModule h ls os) ++ l ∷ []
says_module done h ls os Title may = absurd may
says_module done h ls os (Item d) may = absurd may
says_module done h ls os (Head g) may = absurd may
says_module done h ls os (Local v) may = local_says (draft_lines done) h ls os v may.0
says_module done h ls os (Operation k p d i) may = operation_says (draft_lines done) h ls os (record { place = p; depth = d; instruction = i }) k may.0
says_module done h ls os End may = closed_says done (InModule h ls os)
says_module done h ls os (Client n) may = absurd may
says_module done h ls os (Order x) may = absurd may
says_module done h ls os Close may = absurd may

says_client : (done : Draft) (n : Ident) (xs : List src.Order) (l : ListingLine) → MayStandInClient (length xs) l
    → said (in_client_with done n xs l) ≡ said_as done (InClient n xs) ++ l ∷ []
says_client done n xs Title may = absurd may
says_client done n xs (Item d) may = absurd may
says_client done n xs (Head h) may = absurd may
says_client done n xs (Local v) may = absurd may
says_client done n xs (Operation k p d i) may = absurd may
says_client done n xs End may = absurd may
says_client done n xs (Client m) may = absurd may
says_client done n xs (Order x) may =
    ap (λ ys. draft_lines done ++ Client n ∷ ys) (map-append Order xs (x ∷ [])) ∙ sym (append_assoc (draft_lines done) (Client n ∷ map Order xs) (Order x ∷ []))
says_client done n xs Close may = closed_says done (InClient n xs)

says_more : (done : Draft) (b : Begun) (l : ListingLine) → ListingLineFits l → MayFollow (source_of done) b l → said (going_on done b l) ≡ said_as done b ++ l ∷ []
says_more done Nothing l fits may = says_nothing done l fits may
says_more done (InModule h ls os) l fits may = says_module done h ls os l may
says_more done (InClient n xs) l fits may = says_client done n xs l may

-- with one line more, that line more is said
pub says : (s : SoFar) (l : ListingLine) → ListingLineFits l → MayStand s l → said (with_line s l) ≡ said s ++ l ∷ []
says s l fits may = says_more s.done s.begun l fits may

-- ---- limits

keeps_nothing : (done : Draft) (l : ListingLine) → Keeps done → MayBegin (source_of done) l → ListingLineFits l → Keeps (closed (begin_with done l))
keeps_nothing done Title fits may kept = absurd may
keeps_nothing done (Item d) fits may kept = joined done (simple_item d) fits may (one_line d kept)
keeps_nothing done (Head h) fits may kept = joined done (module_item h [] []) fits may (module_begins h kept)
keeps_nothing done (Local v) fits may kept = absurd may
keeps_nothing done (Operation k p d i) fits may kept = absurd may
keeps_nothing done End fits may kept = absurd may
keeps_nothing done (Client n) fits may kept = joined done (simple_item (Outside n [])) fits may (client_begins n kept)
keeps_nothing done (Order x) fits may kept = absurd may
keeps_nothing done Close fits may kept = absurd may

keeps_local : (done : Draft) (h : ModuleHead) (ls : List Named) (os : List DraftOperation) (v : Named) → Keeps (done ++ module_item h ls os ∷ [])
    → MayStandInModule (length ls) (length os) (Local v) → ListingLineFits (Local v) → Keeps (done ++ module_item h (ls ++ v ∷ []) os ∷ [])
keeps_local done h ls [] v fits may kept =
    joined done (module_item h (ls ++ v ∷ []) []) (front done (module_item h ls []) fits) (room done (module_item h ls []) fits)
    (module_local h ls v (last done (module_item h ls []) fits) kept may.1)
keeps_local done h ls (o ∷ os) v fits may kept = absurd (omega (arith, may.0))

keeps_operation : (done : Draft) (h : ModuleHead) (ls : List Named) (os : List DraftOperation) (o : DraftOperation) (k : ℕ)
    → Keeps (done ++ module_item h ls os ∷ []) → MayStandInModule (length ls) (length os) (operation_line k o) → ListingLineFits (operation_line k o)
    → Keeps (done ++ module_item h ls (os ++ o ∷ []) ∷ [])
keeps_operation done h ls os o k fits may kept =
    joined done (module_item h ls (os ++ o ∷ [])) (front done (module_item h ls os) fits) (room done (module_item h ls os) fits)
    (module_operation h ls os o (last done (module_item h ls os) fits) (subst (λ j. ListingLineFits (operation_line j o)) may.0 kept) may.1)

keeps_order : (done : Draft) (n : Ident) (xs : List src.Order) (x : src.Order) → Keeps (done ++ simple_item (Outside n xs) ∷ [])
    → MayStandInClient (length xs) (Order x) → ListingLineFits (Order x) → Keeps (done ++ simple_item (Outside n (xs ++ x ∷ [])) ∷ [])
keeps_order done n xs x fits may kept =
    joined done (simple_item (Outside n (xs ++ x ∷ []))) (front done (simple_item (Outside n xs)) fits) (room done (simple_item (Outside n xs)) fits)
    (client_order n xs x (last done (simple_item (Outside n xs)) fits) kept may)

keeps_module : (done : Draft) (h : ModuleHead) (ls : List Named) (os : List DraftOperation) (l : ListingLine) → Keeps (done ++ module_item h ls os ∷ [])
    → MayStandInModule (length ls) (length os) l → ListingLineFits l → Keeps (closed (in_module_with done h ls os l))
keeps_module done h ls os Title fits may kept = absurd may
keeps_module done h ls os (Item d) fits may kept = absurd may
keeps_module done h ls os (Head g) fits may kept = absurd may
keeps_module done h ls os (Local v) fits may kept = keeps_local done h ls os v fits may kept
keeps_module done h ls os (Operation k p d i) fits may kept = keeps_operation done h ls os (record { place = p; depth = d; instruction = i }) k fits may kept
keeps_module done h ls os End fits may kept = fits
keeps_module done h ls os (Client n) fits may kept = absurd may
keeps_module done h ls os (Order x) fits may kept = absurd may
keeps_module done h ls os Close fits may kept = absurd may

keeps_client : (done : Draft) (n : Ident) (xs : List src.Order) (l : ListingLine) → Keeps (done ++ simple_item (Outside n xs) ∷ [])
    → MayStandInClient (length xs) l → ListingLineFits l → Keeps (closed (in_client_with done n xs l))
keeps_client done n xs Title fits may kept = absurd may
keeps_client done n xs (Item d) fits may kept = absurd may
keeps_client done n xs (Head h) fits may kept = absurd may
keeps_client done n xs (Local v) fits may kept = absurd may
keeps_client done n xs (Operation k p d i) fits may kept = absurd may
keeps_client done n xs End fits may kept = absurd may
keeps_client done n xs (Client m) fits may kept = absurd may
keeps_client done n xs (Order x) fits may kept = keeps_order done n xs x fits may kept
keeps_client done n xs Close fits may kept = fits

keeps_as : (done : Draft) (b : Begun) (l : ListingLine) → Keeps (closed_as done b) → MayFollow (source_of done) b l → ListingLineFits l
    → Keeps (closed (going_on done b l))
keeps_as done Nothing l fits may kept = keeps_nothing done l fits may kept
keeps_as done (InModule h ls os) l fits may kept = keeps_module done h ls os l fits may kept
keeps_as done (InClient n xs) l fits may kept = keeps_client done n xs l fits may kept

-- ---- offsets

closing_lined : (n : ℕ) (b : Begun) → lines_at n (closing b) ≡ closing b
closing_lined n Nothing = refl
closing_lined n (InModule h ls os) = refl
closing_lined n (InClient m xs) = refl

-- where a line more stands at its offset, so does each line
lined_more : (s : SoFar) (l : ListingLine) → DraftFits (closed s) → MayStand s l → ListingLineFits l → line_at (length (lines_text (said s))) l ≡ l
    → lines_at 0 (draft_lines (closed (with_line s l))) ≡ draft_lines (closed (with_line s l))
lined_more s l fits may kept lined =
    let t = with_line s l in
    let n = length (lines_text (said s)) in
    let whole : draft_lines (closed t) ≡ said s ++ l ∷ closing t.begun =
    closed_says t.done t.begun ∙ ap (λ xs. xs ++ closing t.begun) (says s l kept may) ∙ append_assoc (said s) (l ∷ []) (closing t.begun) in
    let before : lines_at 0 (said s) ≡ said s = lined_left 0 (said s) (closing s.begun) (subst (λ xs. lines_at 0 xs ≡ xs) (closed_says s.done s.begun) fits.lined) in
    let rest : lines_at n (l ∷ closing t.begun) ≡ l ∷ closing t.begun =
    ap (λ x. x ∷ lines_at (n + length (line_text l)) (closing t.begun)) lined ∙ ap (λ xs. l ∷ xs) (closing_lined (n + length (line_text l)) t.begun) in
    let all : lines_at 0 (said s ++ l ∷ closing t.begun) ≡ said s ++ l ∷ closing t.begun =
    lined_append 0 (said s) (l ∷ closing t.begun) ∙ ap (λ xs. xs ++ lines_at (0 + n) (l ∷ closing t.begun)) before
    ∙ ap (λ k. said s ++ lines_at k (l ∷ closing t.begun)) (zero-add n) ∙ ap (λ xs. said s ++ xs) rest in
    subst (λ xs. lines_at 0 xs ≡ xs) (sym whole) all

-- with one line more it stays within the limits
pub fits_more : (s : SoFar) (l : ListingLine) → DraftFits (closed s) → MayStand s l → ListingLineFits l → line_at (length (lines_text (said s))) l ≡ l → DraftFits (closed (with_line s l))
fits_more s l fits may kept lined =
    let grown = keeps_as s.done s.begun l (keeps (closed s) fits) may kept in
    record { source = grown.source; items = grown.items; lines = grown.lines; lined = lined_more s l fits may kept lined }
