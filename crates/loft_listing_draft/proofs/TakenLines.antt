-- What comes of one line.
use Rattle.std.proofs.Common.{◌≡◌, ℕ, suc, ◌+◌, ◌<◌, ◌≤◌, List, [], ◌∷◌, ◌++◌, length, Option, Some, None, IfSome, map, refl, sym, ap, subst, ◌∙◌, zero-add, length-append, arith}
use Rattle.std.specs.Option.{option_map}
use Rattle.std.proofs.lemmas.List.{length-map, map-append}
use Rattle.loft_lex.specs.declared.TheConstants.{MAX_OFFSET}
use Rattle.loft_tree.specs.Source as src
use Rattle.loft_tree.specs.Source.{Declaration, ModuleHead, Named, Scheduler, Event, Shared, Module, Start, Outside, Source, Done}
use Rattle.loft_tree.specs.Fits.{Each}
use Rattle.loft_tree.specs.View.{head_of, named_of, order_of}
use Rattle.loft_tree.specs.declared.limits.TheConstants.{MAX_LOCALS, MAX_ORDERS}
use Rattle.loft_code.specs.declared.limits.TheConstants.{MAX_OPERATIONS}
use Rattle.loft_listing_line.specs.declared.row.Row.{Row}
use Rattle.loft_listing_line.specs.Rows.{ListingLine, Head, Item, Local, Order, End, Close, line_text, bare_line}
use Rattle.loft_listing_line.specs.RowsFit.{IsLine}
use Rattle.loft_listing_line.specs.RowView.{row_of}
use Rattle.loft_listing_line.specs.Feeds.{EndsAtItsFeed}
use Rattle.loft_listing_line.proofs.Feeds.{line_ends_at_feed}
use Rattle.loft_listing_draft.specs.declared.draft.TheConstants.{MAX_LISTING_LEN}
use Rattle.loft_listing_draft.specs.declared.draft.OperationLine.{OperationLine}
use Rattle.loft_listing_draft.specs.declared.closed.Closed.{Closed}
use Rattle.loft_listing_draft.specs.declared.sofar.Open.TheVariants as begun
use Rattle.loft_listing_draft.specs.declared.sofar.OpenClient.{OpenClient}
use Rattle.loft_listing_draft.specs.declared.sofar.OpenModule.{OpenModule}
use Rattle.loft_listing_draft.specs.declared.sofar.SoFar.{SoFar as SoFarInMemory}
use Rattle.loft_listing_draft.specs.declared.take.Taken.{Taken}
use Rattle.loft_listing_draft.specs.declared.take.Taken.TheVariants as taken
use Rattle.loft_listing_draft.specs.Drafts.{Draft, DraftItem, DraftOperation, after_locals, lines_text, operation_line, operation_lines, operations_at, operations_in, operations_of, source_of}
use Rattle.loft_listing_draft.specs.Held.{AreCounts, HoldsClosed, HoldsModule, HoldsOperations, MayClose, Holds, Takes, StandsAt, GoesOn}
use Rattle.loft_listing_draft.specs.InMemory.{HeldFits, held_operation}
use Rattle.loft_listing_draft.specs.Lined.{item_at, line_at}
use Rattle.loft_listing_draft.specs.Taking.{Begun, InModule, InClient, SoFar, HasRoom, MayFollow, MayStand, going_on, with_line, module_item, simple_item}
use Rattle.loft_listing_draft.proofs.Offsets.{line_at_fits, line_at_text, line_twice, same_lined}
use Rattle.loft_listing_draft.proofs.Parts.{operations_end, operations_at_end}
use Rattle.loft_listing_draft.proofs.Following.{lines_text_end}
use Rattle.loft_listing_draft.proofs.Lists.{each_append}

-- ---- whether the line is taken

pub take_more : (m n : SoFarInMemory) (at : ℕ) (l : ListingLine) (t : Taken) → t ≡ taken.More n
    → ((s : SoFar) → Holds m at s → MayStand s l × Holds n (at + length (line_text l)) (with_line s l)) → Takes m at l t
take_more m n at l t is so = let P : Taken → Type 0 = λ v. Takes m at l v in subst P (sym is) so

pub take_stop : (m : SoFarInMemory) (at : ℕ) (l : ListingLine) (t : Taken) → t ≡ taken.Stop m
    → ((s : SoFar) → Holds m at s → MayStand s l → ⊥) → Takes m at l t
take_stop m at l t is never = let P : Taken → Type 0 = λ v. Takes m at l v in subst P (sym is) (refl, never)

-- ---- declarations of one line

pub room_to : (at : ℕ) (p : Source) (d : Declaration) → HasRoom p d → HasRoom p (item_at at d)
room_to at p (Scheduler n) room = room
room_to at p (Event n s) room = room
room_to at p (Shared n s v) room = room
room_to at p (Module h ls b) room = room
room_to at p (Start s c args n) room = room
room_to at p (Outside n xs) room = room

pub room_from : (at : ℕ) (p : Source) (d : Declaration) → HasRoom p (item_at at d) → HasRoom p d
room_from at p (Scheduler n) room = room
room_from at p (Event n s) room = room
room_from at p (Shared n s v) room = room
room_from at p (Module h ls b) room = room
room_from at p (Start s c args n) room = room
room_from at p (Outside n xs) room = room

abbrev pub with_nothing : Closed → SoFarInMemory
with_nothing m = record { done = m; begun = begun.Nothing }

pub item_stays : (m : Closed) (at : ℕ) (d : Declaration) → ((p : Source) → AreCounts m.counts p → HasRoom p d → ⊥)
    → (s : SoFar) → Holds (with_nothing m) at s → MayStand s (Item d) → ⊥
item_stays m at d never s holds may =
    let P : Begun → Type 0 = λ b. MayFollow (source_of s.done) b (Item d) in never (source_of s.done) holds.done.counts (subst P holds.begun may)

pub item_goes : (m n : Closed) (at later : ℕ) (d : Declaration) → ((p : Source) → AreCounts m.counts p → HasRoom p d)
    → ((e : Draft) → HoldsClosed m e → HasRoom (source_of e) d → HoldsClosed n (e ++ simple_item d ∷ []))
    → (s : SoFar) → Holds (with_nothing m) at s → MayStand s (Item d) × Holds (with_nothing n) later (with_line s (Item d))
item_goes m n at later d room grows s holds =
    let there = room (source_of s.done) holds.done.counts in
    let P : Begun → Type 0 = λ b. MayFollow (source_of s.done) b (Item d) in
    let Q : Begun → Type 0 = λ b. Holds (with_nothing n) later (going_on s.done b (Item d)) in
    (subst P (sym holds.begun) there, subst Q (sym holds.begun) (record { done = grows s.done holds.done there; room = tt; begun = refl }))

-- none but a module has operations
pub simple_operations : (d : Declaration) → operations_in d [] ≡ []
simple_operations (Scheduler n) = refl
simple_operations (Event n s) = refl
simple_operations (Shared n s v) = refl
simple_operations (Module h ls b) = refl
simple_operations (Start s c args n) = refl
simple_operations (Outside n xs) = refl

-- ---- local variables

abbrev pub with_module : Closed → OpenModule → SoFarInMemory
with_module m o = record { done = m; begun = begun.Module o }

none_held : {A : Type 0} (xs : List A) → length xs ≡ 0 → xs ≡ []
none_held [] none = refl
none_held (x ∷ xs) none = absurd (omega arith)

-- nothing is held of no operations
no_operations : (held : List OperationLine) (first at : ℕ) (os : List DraftOperation) → HoldsOperations held first at os → length held ≡ 0 → os ≡ []
no_operations held first at [] holds none = refl
no_operations held first at (o ∷ os) holds none =
    absurd (omega (arith, none, length-map held held_operation, ap length holds.said))

longer_locals : (h : ModuleHead) (ls : List Named) (v : Named) → after_locals h (ls ++ v ∷ []) ≡ after_locals h ls + length (line_text (Local v))
longer_locals h ls v =
    let lines : map Local (ls ++ v ∷ []) ≡ map Local ls ++ Local v ∷ [] = map-append Local ls (v ∷ []) in
    let text : lines_text (Head h ∷ map Local (ls ++ v ∷ [])) ≡ lines_text (Head h ∷ map Local ls) ++ line_text (Local v) =
    ap (λ xs. lines_text (Head h ∷ xs)) lines ∙ lines_text_end (Head h ∷ map Local ls) (Local v) in
    omega (arith, ap length text, length-append (lines_text (Head h ∷ map Local ls)) (line_text (Local v)))

-- before the first operation
pub first_held : (at : ℕ) (h : ModuleHead) (ls : List Named) → at ≡ after_locals h ls → HoldsOperations [] (after_locals h ls) at []
first_held at h ls here = record { said = refl; fit = tt; here = omega (arith, here) }

pub local_goes : (m : Closed) (o n : OpenModule) (at : ℕ) (v : Named) → length o.operations.items ≡ 0 → length o.locals.items < MAX_LOCALS
    → n.head ≡ o.head → map named_of n.locals.items ≡ map named_of o.locals.items ++ v ∷ [] → n.operations ≡ o.operations
    → (s : SoFar) → Holds (with_module m o) at s → MayStand s (Local v) × Holds (with_module m n) (at + length (line_text (Local v))) (with_line s (Local v))
local_goes m o n at v first few head locals operations s holds =
    let (os, is, held) = holds.begun in
    let h = head_of o.head in
    let ls = map named_of o.locals.items in
    let later = at + length (line_text (Local v)) in
    let P : Begun → Type 0 = λ b. MayFollow (source_of s.done) b (Local v) in
    let Q : Begun → Type 0 = λ b. Holds (with_module m n) later (going_on s.done b (Local v)) in
    let none : os ≡ [] = no_operations o.operations.items (after_locals h ls) at os held first in
    let less : length ls < MAX_LOCALS = omega (arith, few, length-map o.locals.items named_of) in
    let same : InModule h (ls ++ v ∷ []) os ≡ InModule (head_of n.head) (map named_of n.locals.items) [] = cc in
    let empty : n.operations.items ≡ [] = ap (λ xs. xs.items) operations ∙ none_held o.operations.items first in
    let start : HoldsOperations [] (after_locals h (ls ++ v ∷ [])) later [] =
    first_held later h (ls ++ v ∷ []) (omega (arith, longer_locals h ls v, held.here, ap (λ xs. length (lines_text (operation_lines 0 xs))) none)) in
    let R : ModuleHead → List Named → List OperationLine → Type 0 = λ g vs xs. HoldsOperations xs (after_locals g vs) later [] in
    let begins : HoldsModule n later [] =
    subst (λ g. R g (map named_of n.locals.items) n.operations.items) (ap head_of (sym head))
    (subst (λ vs. R h vs n.operations.items) (sym locals) (subst (λ xs. R h (ls ++ v ∷ []) xs) (sym empty) start)) in (
      subst P (sym is) (ap length none, less),
      subst Q (sym is) (record { done = holds.done; room = subst (MayClose (source_of s.done)) is holds.room; begun = ([], same, begins) }),
    )

-- ---- orders

abbrev pub with_client : Closed → OpenClient → SoFarInMemory
with_client m o = record { done = m; begun = begun.Client o }

pub order_goes : (m : Closed) (o n : OpenClient) (at later : ℕ) (x : src.Order) → length o.orders.items < MAX_ORDERS
    → n.name ≡ o.name → map order_of n.orders.items ≡ map order_of o.orders.items ++ x ∷ []
    → (s : SoFar) → Holds (with_client m o) at s → MayStand s (Order x) × Holds (with_client m n) later (with_line s (Order x))
order_goes m o n at later x few name orders s holds =
    let P : Begun → Type 0 = λ b. MayFollow (source_of s.done) b (Order x) in
    let Q : Begun → Type 0 = λ b. Holds (with_client m n) later (going_on s.done b (Order x)) in
    let is = holds.begun in
    let less : length (map order_of o.orders.items) < MAX_ORDERS = omega (arith, few, length-map o.orders.items order_of) in
    let same : InClient o.name (map order_of o.orders.items ++ x ∷ []) ≡ InClient n.name (map order_of n.orders.items) = cc in (
      subst P (sym is) less,
      subst Q (sym is) (record { done = holds.done; room = subst (MayClose (source_of s.done)) is holds.room; begun = same }),
    )

-- where the client is closed
pub client_closes : (m n : Closed) (o : OpenClient) (at later : ℕ)
    → ((e : Draft) → HoldsClosed m e → HasRoom (source_of e) (Outside o.name (map order_of o.orders.items)) → HoldsClosed n (e ++ simple_item (Outside o.name (map order_of o.orders.items)) ∷ []))
    → (s : SoFar) → Holds (with_client m o) at s → MayStand s Close × Holds (with_nothing n) later (with_line s Close)
client_closes m n o at later grows s holds =
    let P : Begun → Type 0 = λ b. MayFollow (source_of s.done) b Close in
    let Q : Begun → Type 0 = λ b. Holds (with_nothing n) later (going_on s.done b Close) in
    let is = holds.begun in
    let there = subst (MayClose (source_of s.done)) is holds.room in
    (subst P (sym is) tt, subst Q (sym is) (record { done = grows s.done holds.done there; room = tt; begun = refl }))

-- ---- operations

-- as many operations are held as were said
held_length : (held : List OperationLine) (first n at : ℕ) (os : List DraftOperation) → map held_operation held ≡ operations_at first n os → length held ≡ length os
held_length [] first n at [] same = refl
held_length [] first n at (o ∷ os) same = absurd cc
held_length (x ∷ xs) first n at [] same = absurd cc
held_length (x ∷ xs) first n at (o ∷ os) same =
    let rest : map held_operation xs ≡ operations_at (first + length (line_text (operation_line n o))) (n + 1) os = cc in
    ap suc (held_length xs (first + length (line_text (operation_line n o))) (n + 1) at os rest)

operations_text_end : (os : List DraftOperation) (o : DraftOperation) (k : ℕ) → k ≡ length os → lines_text (operation_lines 0 (os ++ o ∷ [])) ≡ lines_text (operation_lines 0 os) ++ line_text (operation_line k o)
operations_text_end os o k is =
    ap lines_text (operations_end 0 os o ∙ ap (λ n. operation_lines 0 os ++ operation_line n o ∷ []) (zero-add (length os) ∙ sym is)) ∙ lines_text_end (operation_lines 0 os) (operation_line k o)

pub operation_held : (held more : List OperationLine) (first at : ℕ) (os : List DraftOperation) (k : ℕ) (x : OperationLine) → HoldsOperations held first at os
    → more ≡ held ++ x ∷ [] → x.at ≡ at → HeldFits x → k ≡ length held
    → HoldsOperations more first (at + length (line_text (operation_line k (held_operation x).operation))) (os ++ (held_operation x).operation ∷ [])
operation_held held more first at os k x holds is here fits next =
    let op = (held_operation x).operation in
    let number : k ≡ length os = next ∙ held_length held first 0 at os holds.said in
    let place : first + length (lines_text (operation_lines 0 os)) ≡ x.at = sym holds.here ∙ sym here in
    let lines : lines_text (operation_lines 0 (os ++ op ∷ [])) ≡ lines_text (operation_lines 0 os) ++ line_text (operation_line k op) = operations_text_end os op k number in
    record {
      said = ap (map held_operation) is ∙ map-append held_operation held (x ∷ []) ∙ ap (λ ys. ys ++ held_operation x ∷ []) holds.said
          ∙ ap (λ n. operations_at first 0 os ++ record { at = n; operation = op } ∷ []) (sym place) ∙ sym (operations_at_end first 0 os op);
      fit = subst (Each HeldFits) (sym is) (each_append HeldFits held (x ∷ []) holds.fit (fits, tt));
      here = omega (arith, holds.here, ap length lines, length-append (lines_text (operation_lines 0 os)) (line_text (operation_line k op)));
    }

pub operation_goes : (m : Closed) (o n : OpenModule) (at k : ℕ) (x : OperationLine) → k ≡ length o.operations.items → length o.operations.items < MAX_OPERATIONS
    → n.head ≡ o.head → n.locals ≡ o.locals → n.operations.items ≡ o.operations.items ++ x ∷ [] → x.at ≡ at → HeldFits x
    → (s : SoFar) → Holds (with_module m o) at s
    → MayStand s (operation_line k (held_operation x).operation)
    × Holds (with_module m n) (at + length (line_text (operation_line k (held_operation x).operation))) (with_line s (operation_line k (held_operation x).operation))
operation_goes m o n at k x next few head locals operations here fits s holds =
    let (os, is, held) = holds.begun in
    let op = (held_operation x).operation in
    let first = after_locals (head_of o.head) (map named_of o.locals.items) in
    let later = at + length (line_text (operation_line k op)) in
    let P : Begun → Type 0 = λ b. MayFollow (source_of s.done) b (operation_line k op) in
    let Q : Begun → Type 0 = λ b. Holds (with_module m n) later (going_on s.done b (operation_line k op)) in
    let number : k ≡ length os = next ∙ held_length o.operations.items first 0 at os held.said in
    let less : length os < MAX_OPERATIONS = omega arith in
    let more = operation_held o.operations.items n.operations.items first at os k x held operations here fits next in
    let same : InModule (head_of o.head) (map named_of o.locals.items) (os ++ op ∷ []) ≡ InModule (head_of n.head) (map named_of n.locals.items) (os ++ op ∷ []) = cc in
    let place : first ≡ after_locals (head_of n.head) (map named_of n.locals.items) = cc in (
      subst P (sym is) (number, less),
      subst Q (sym is) (record {
        done = holds.done;
        room = subst (MayClose (source_of s.done)) is holds.room;
        begun = (os ++ op ∷ [], same, subst (λ f. HoldsOperations n.operations.items f later (os ++ op ∷ [])) place more);
      }),
    )

pub operation_stays : (m : Closed) (o : OpenModule) (at k : ℕ) (x : DraftOperation) → (k ≡ length o.operations.items → length o.operations.items < MAX_OPERATIONS → ⊥)
    → (s : SoFar) → Holds (with_module m o) at s → MayStand s (operation_line k x) → ⊥
operation_stays m o at k x never s holds may =
    let (os, is, held) = holds.begun in
    let P : Begun → Type 0 = λ b. MayFollow (source_of s.done) b (operation_line k x) in
    let there : (k ≡ length os) × (length os < MAX_OPERATIONS) = subst P is may in
    let many = held_length o.operations.items (after_locals (head_of o.head) (map named_of o.locals.items)) 0 at os held.said in
    never (there.0 ∙ sym many) (subst (λ n. n < MAX_OPERATIONS) (sym many) there.1)

-- where the module is closed
pub module_closes : (m n : Closed) (o : OpenModule) (at later : ℕ)
    → ((e : Draft) (i : DraftItem) → HoldsClosed m e → HasRoom (source_of e) i.declaration → i.declaration ≡ Module (head_of o.head) (map named_of o.locals.items) Done
    → map held_operation o.operations.items ≡ operations_of i → Each HeldFits o.operations.items → HoldsClosed n (e ++ i ∷ []))
    → (s : SoFar) → Holds (with_module m o) at s → MayStand s End × Holds (with_nothing n) later (with_line s End)
module_closes m n o at later grows s holds =
    let (os, is, held) = holds.begun in
    let P : Begun → Type 0 = λ b. MayFollow (source_of s.done) b End in
    let Q : Begun → Type 0 = λ b. Holds (with_nothing n) later (going_on s.done b End) in
    let there = subst (MayClose (source_of s.done)) is holds.room in
    let i = module_item (head_of o.head) (map named_of o.locals.items) os in
    (subst P (sym is) tt, subst Q (sym is) (record { done = grows s.done i holds.done there refl held.said held.fit; room = tt; begun = refl }))

-- ---- the line with which a text begins

pub line_short : (text written after : List ℕ) → length text ≤ MAX_LISTING_LEN → text ≡ written ++ after → length written ≤ MAX_OFFSET
line_short text written after short whole = omega (arith, short, ap length whole, length-append written after)

-- a text is cut so into its first line and what stands after it, and the line says this
pub record IsFirst (text written after : List ℕ) (row : Row) : Type 0 where
  pub feed : EndsAtItsFeed written
  pub whole : text ≡ written ++ after
  pub cut : (line rest : List ℕ) → EndsAtItsFeed line → text ≡ line ++ rest → (written ≡ line) × (after ≡ rest)
  pub says : IsLine written (row_of row)
  pub only : (l : ListingLine) → IsLine written l → bare_line (row_of row) ≡ bare_line l

pub row_stands : (n : ℕ) (text written after : List ℕ) (row : Row) → IsFirst text written after row → StandsAt n text after (line_at n (row_of row))
row_stands n text written after row is =
    let same = is.says.written ∙ sym (line_at_text n (row_of row) is.says.fits) in
    record {
      fits = line_at_fits n (row_of row) is.says.fits;
      lined = line_twice n n (row_of row) is.says.fits;
      written = is.whole ∙ ap (λ t. t ++ after) same;
    }

pub row_only : (n : ℕ) (text written after : List ℕ) (row : Row) → IsFirst text written after row → (k : ListingLine) (rest : List ℕ) → StandsAt n text rest k
    → (k ≡ line_at n (row_of row)) × (rest ≡ after)
row_only n text written after row is k rest stands =
    let parts = is.cut (line_text k) rest (line_ends_at_feed k stands.fits) stands.written in
    let same = is.only k (record { fits = stands.fits; written = parts.0 }) in
    (sym stands.lined ∙ sym (same_lined n (row_of row) k is.says.fits stands.fits same), sym parts.1)

shorter : (text written after : List ℕ) → EndsAtItsFeed written → text ≡ written ++ after → length after < length text
shorter text written after (front, ends, plain) whole =
    omega (arith, ap length whole, length-append written after, ap length ends, length-append front (10 ∷ []))

pub row_goes : (m more : SoFarInMemory) (n : ℕ) (text written after : List ℕ) (row : Row) → IsFirst text written after row
    → ((s : SoFar) → Holds m n s → MayStand s (line_at n (row_of row)) × Holds more (n + length (line_text (line_at n (row_of row)))) (with_line s (line_at n (row_of row))))
    → GoesOn m n text more after (line_at n (row_of row))
row_goes m more n text written after row is takes = record {
  stands = row_stands n text written after row is;
  only = row_only n text written after row is;
  takes = takes;
  shorter = shorter text written after is.feed is.whole;
}

pub row_stays : (m : SoFarInMemory) (n : ℕ) (text written after : List ℕ) (row : Row) → IsFirst text written after row
    → ((s : SoFar) → Holds m n s → MayStand s (line_at n (row_of row)) → ⊥)
    → (s : SoFar) (l : ListingLine) (rest : List ℕ) → Holds m n s → StandsAt n text rest l → MayStand s l → ⊥
row_stays m n text written after row is never s l rest holds stands may =
    never s holds (subst (MayStand s) (row_only n text written after row is l rest stands).0 may)

pub found_row : (found : Option Row) (row : Row) (l : ListingLine) → found ≡ Some row → option_map (λ r. bare_line (row_of r)) found ≡ Some (bare_line l) → bare_line (row_of row) ≡ bare_line l
found_row found row l is same =
    let both : Some (bare_line (row_of row)) ≡ Some (bare_line l) = sym (ap (option_map (λ r. bare_line (row_of r))) is) ∙ same in cc

pub found_none : (found : Option Row) (l : ListingLine) → found ≡ None → option_map (λ r. bare_line (row_of r)) found ≡ Some (bare_line l) → ⊥
found_none found l is same =
    let both : None ≡ Some (bare_line l) = sym (ap (option_map (λ r. bare_line (row_of r))) is) ∙ same in absurd cc

pub found_says : (found : Option Row) (row : Row) (written : List ℕ) → found ≡ Some row → IfSome found (λ r. IsLine written (row_of r)) → IsLine written (row_of row)
found_says found row written is says = let P : Option Row → Type 0 = λ f. IfSome f (λ r. IsLine written (row_of r)) in subst P is says
