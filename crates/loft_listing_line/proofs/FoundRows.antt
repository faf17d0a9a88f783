-- The rows that are found.
use Rattle.std.proofs.Common.{◌≡◌, ℕ, Bool, true, false, List, Option, Some, None, Result, Ok, Err, IsTrue, refl, sym, ap, subst, ◌∙◌}
use Rattle.std.specs.Prelude.{IfOk, IfSome, ◌↔◌}
use Rattle.std.specs.Option.{option_map}
use Rattle.loft_base.specs.declared.errors.NoMemory.{NoMemory}
use Rattle.loft_tree.specs.Source.{Declaration, Named, ModuleHead}
use Rattle.loft_tree.specs.Source as src
use Rattle.loft_tree.specs.View.{declaration_of, named_of, head_of, order_of}
use Rattle.loft_tree.specs.declared.ident.Ident.{Ident}
use Rattle.loft_tree.specs.declared.program.Item.{Item as ItemInMemory}
use Rattle.loft_tree.specs.declared.program.OutsideOrder.{OutsideOrder as OrderInMemory}
use Rattle.loft_tree.specs.declared.program.Variable.{Variable as VariableInMemory}
use Rattle.loft_tree.specs.declared.program.ModuleHead.{ModuleHead as ModuleHeadInMemory}
use Rattle.loft_show.specs.Places.{bare_declaration, bare_head, bare_name, bare_named, bare_order}
use Rattle.loft_listing_line.specs.Rows.{ListingLine, Title, Item, Head, Local, Operation, End, Client, Order, Close, bare_line, line_text}
use Rattle.loft_listing_line.specs.RowsFit.{ListingLineFits, IsLine}
use Rattle.loft_listing_line.specs.RowView.{row_of, operation_of}
use Rattle.loft_listing_line.specs.Sorts.{sort_of}
use Rattle.loft_listing_line.specs.declared.row.OperationRow.{OperationRow}
use Rattle.loft_listing_line.specs.declared.row.Row.{Row}
use Rattle.loft_listing_line.specs.declared.row.Row.TheVariants as row
use Rattle.loft_listing_line.specs.declared.sort.LineSort.TheVariants as sort
use Rattle.loft_listing_line.proofs.Bare.{same_line}

pub head_row : (found : Option ModuleHeadInMemory) (h : ModuleHead) → option_map (λ v. bare_head (head_of v)) found ≡ Some (bare_head h)
    → option_map (λ r. bare_line (row_of r)) (option_map row.Head found) ≡ Some (bare_line (Head h))
head_row None h is = absurd cc
head_row (Some v) h is = let e : bare_head (head_of v) ≡ bare_head h = cc in ap (λ w. Some (Head w)) e

pub local_row : (found : Option VariableInMemory) (v : Named) → option_map (λ x. bare_named (named_of x)) found ≡ Some (bare_named v)
    → option_map (λ r. bare_line (row_of r)) (option_map row.Local found) ≡ Some (bare_line (Local v))
local_row None v is = absurd cc
local_row (Some x) v is = let e : bare_named (named_of x) ≡ bare_named v = cc in ap (λ w. Some (Local w)) e

pub item_row : (found : Option ItemInMemory) (d : Declaration) → option_map (λ y. bare_declaration (declaration_of y)) found ≡ Some (bare_declaration d)
    → option_map (λ r. bare_line (row_of r)) (option_map row.Item found) ≡ Some (bare_line (Item d))
item_row None d is = absurd cc
item_row (Some y) d is = let e : bare_declaration (declaration_of y) ≡ bare_declaration d = cc in ap (λ w. Some (Item w)) e

pub operation_row : (found : Option OperationRow) → option_map (λ r. bare_line (row_of r)) (option_map row.Operation found) ≡ option_map (λ o. bare_line (operation_of o)) found
operation_row None = refl
operation_row (Some o) = refl

pub client_row : (found : Option Ident) (n : Ident) → option_map (λ y. bare_name y) found ≡ Some (bare_name n)
    → option_map (λ r. bare_line (row_of r)) (option_map row.Client found) ≡ Some (bare_line (Client n))
client_row None n is = absurd cc
client_row (Some y) n is = let e : bare_name y ≡ bare_name n = cc in ap (λ w. Some (Client w)) e

pub order_row : (found : Option OrderInMemory) (x : src.Order) → option_map (λ y. bare_order (order_of y)) found ≡ Some (bare_order x)
    → option_map (λ r. bare_line (row_of r)) (option_map row.Order found) ≡ Some (bare_line (Order x))
order_row None x is = absurd cc
order_row (Some y) x is = let e : bare_order (order_of y) ≡ bare_order x = cc in ap (λ w. Some (Order w)) e

pub by_item : (P : ListingLine → Type 0) (l : ListingLine) → sort.Item ≡ sort_of l → ((d : Declaration) → P (Item d)) → P l
by_item P Title of one = absurd cc
by_item P (Item d) of one = one d
by_item P (Head h) of one = absurd cc
by_item P (Local v) of one = absurd cc
by_item P (Operation number p depth i) of one = absurd cc
by_item P End of one = absurd cc
by_item P (Client n) of one = absurd cc
by_item P (Order x) of one = absurd cc
by_item P Close of one = absurd cc

pub by_client : (P : ListingLine → Type 0) (l : ListingLine) → sort.Client ≡ sort_of l → ((n : Ident) → P (Client n)) → P l
by_client P Title of one = absurd cc
by_client P (Item d) of one = absurd cc
by_client P (Head h) of one = absurd cc
by_client P (Local v) of one = absurd cc
by_client P (Operation number p depth i) of one = absurd cc
by_client P End of one = absurd cc
by_client P (Client n) of one = one n
by_client P (Order x) of one = absurd cc
by_client P Close of one = absurd cc

pub by_order : (P : ListingLine → Type 0) (l : ListingLine) → sort.Order ≡ sort_of l → ((x : src.Order) → P (Order x)) → P l
by_order P Title of one = absurd cc
by_order P (Item d) of one = absurd cc
by_order P (Head h) of one = absurd cc
by_order P (Local v) of one = absurd cc
by_order P (Operation number p depth i) of one = absurd cc
by_order P End of one = absurd cc
by_order P (Client n) of one = absurd cc
by_order P (Order x) of one = one x
by_order P Close of one = absurd cc

pub by_head : (P : ListingLine → Type 0) (l : ListingLine) → sort.Head ≡ sort_of l → ((h : ModuleHead) → P (Head h)) → P l
by_head P Title of one = absurd cc
by_head P (Item d) of one = absurd cc
by_head P (Head h) of one = one h
by_head P (Local v) of one = absurd cc
by_head P (Operation number p depth i) of one = absurd cc
by_head P End of one = absurd cc
by_head P (Client n) of one = absurd cc
by_head P (Order x) of one = absurd cc
by_head P Close of one = absurd cc

pub by_local : (P : ListingLine → Type 0) (l : ListingLine) → sort.Local ≡ sort_of l → ((v : Named) → P (Local v)) → P l
by_local P Title of one = absurd cc
by_local P (Item d) of one = absurd cc
by_local P (Head h) of one = absurd cc
by_local P (Local v) of one = one v
by_local P (Operation number p depth i) of one = absurd cc
by_local P End of one = absurd cc
by_local P (Client n) of one = absurd cc
by_local P (Order x) of one = absurd cc
by_local P Close of one = absurd cc

-- offsets aren't written: the row that was found has the text of the line
pub row_written : (found : Row) (l : ListingLine) (text : List ℕ) → ListingLineFits (row_of found) → IsLine text l → bare_line (row_of found) ≡ bare_line l → text ≡ line_text (row_of found)
row_written found l text fits is same = is.written ∙ sym (same_line l is.fits) ∙ ap line_text (sym same) ∙ same_line (row_of found) fits

pub row_fits : (found : Option Row) (r : Row) → found ≡ Some r → IfSome found (λ v. ListingLineFits (row_of v)) → ListingLineFits (row_of r)
row_fits found r is fits = let h : IfSome (Some r) (λ v. ListingLineFits (row_of v)) = subst (λ f. IfSome f (λ v. ListingLineFits (row_of v))) is fits in h

-- so it is kept
pub row_kept : (found : Row) (l : ListingLine) (text : List ℕ) (written : Result Bool NoMemory) (result : Result (Option Row) NoMemory)
    → bare_line (row_of found) ≡ bare_line l → text ≡ line_text (row_of found)
    → IfOk written (λ same. IsTrue same ↔ (text ≡ line_text (row_of found)))
    → IfOk result (λ kept. IfSome kept (λ v. (v ≡ found) × (written ≡ Ok true)))
    → IfOk result (λ kept. kept ≡ None → written ≡ Ok false)
    → IfOk result (λ kept. option_map (λ r. bare_line (row_of r)) kept ≡ Some (bare_line l))
row_kept found l text written (Ok (Some v)) same is tested kept gone = ap Some (ap (λ r. bare_line (row_of r)) kept.0 ∙ same)
row_kept found l text written (Ok None) same is tested kept gone =
    let h : IsTrue false ↔ (text ≡ line_text (row_of found)) = subst (λ w. IfOk w (λ t. IsTrue t ↔ (text ≡ line_text (row_of found)))) (gone refl) tested in
    let never : IsTrue false = h.1 is in absurd cc
row_kept found l text written (Err e) same is tested kept gone = tt
