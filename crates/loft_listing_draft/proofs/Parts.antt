-- A module and a client that grow line by line.
use Rattle.std.proofs.Common.{◌≡◌, ℕ, ◌+◌, ◌<◌, List, [], ◌∷◌, ◌++◌, map, length, refl, sym, ap, subst, ◌∙◌, add-zero, zero-add, length-append, arith, lit≤}
use Rattle.std.proofs.lemmas.List.{map-append}
use Rattle.loft_tree.specs.declared.limits.TheConstants.{MAX_LOCALS, MAX_ORDERS}
use Rattle.loft_tree.specs.Source as src
use Rattle.loft_tree.specs.Source.{Ident, Named, ModuleHead, Declaration, Scheduler, Event, Shared, Module, Start, Outside}
use Rattle.loft_tree.specs.Fits.{Each, NameFits, OrderFits}
use Rattle.loft_code.specs.declared.limits.TheConstants.{MAX_OPERATIONS}
use Rattle.loft_listing_line.specs.Rows.{Item, Head, Local, End, Client, Order, Close, line_text}
use Rattle.loft_listing_draft.specs.Drafts.{DraftOperation, lines_text, operation_line, operation_lines, operations_at}
use Rattle.loft_listing_line.specs.RowsFit.{ListingLineFits}
use Rattle.loft_listing_draft.specs.Taking.{module_item, simple_item}
use Rattle.loft_listing_draft.proofs.Lists.{each_append, each_left, each_right}
use Rattle.loft_listing_draft.proofs.Items.{ItemKeeps}

-- ---- one more of a list that others follow

between : {A : Type 0} (P : A → Type 0) (xs more ys : List A) → Each P (xs ++ ys) → Each P more → Each P ((xs ++ more) ++ ys)
between P xs more ys all add = each_append P (xs ++ more) ys (each_append P xs more (each_left P xs ys all) add) (each_right P xs ys all)

pub operations_end : (n : ℕ) (os : List DraftOperation) (o : DraftOperation) → operation_lines n (os ++ o ∷ []) ≡ operation_lines n os ++ operation_line (n + length os) o ∷ []
operations_end n [] o = ap (λ k. operation_line k o ∷ []) (sym (add-zero n))
operations_end n (x ∷ xs) o =
    let further : n + 1 + length xs ≡ n + length (x ∷ xs) = omega arith in
    ap (λ ls. operation_line n x ∷ ls) (operations_end (n + 1) xs o ∙ ap (λ k. operation_lines (n + 1) xs ++ operation_line k o ∷ []) further)

-- where one more operation stands
pub operations_at_end : (at n : ℕ) (os : List DraftOperation) (o : DraftOperation)
    → operations_at at n (os ++ o ∷ []) ≡ operations_at at n os ++ record { at = at + length (lines_text (operation_lines n os)); operation = o } ∷ []
operations_at_end at n [] o = ap (λ k. record { at = k; operation = o } ∷ []) (sym (add-zero at))
operations_at_end at n (x ∷ xs) o =
    let next = at + length (line_text (operation_line n x)) in
    let further : next + length (lines_text (operation_lines (n + 1) xs)) ≡ at + length (lines_text (operation_lines n (x ∷ xs))) =
    omega (arith, length-append (line_text (operation_line n x)) (lines_text (operation_lines (n + 1) xs))) in
    ap (λ ys. record { at = at; operation = x } ∷ ys)
    (operations_at_end next (n + 1) xs o ∙ ap (λ k. operations_at next (n + 1) xs ++ record { at = k; operation = o } ∷ []) further)

-- ---- declarations of one line

pub one_line : (d : Declaration) → ListingLineFits (Item d) → ItemKeeps (simple_item d)
one_line (Scheduler n) fits = record { declaration = fits.1; holds = refl; lines = (fits, tt) }
one_line (Event n s) fits = record { declaration = fits.1; holds = refl; lines = (fits, tt) }
one_line (Shared n s v) fits = record { declaration = fits.1; holds = refl; lines = (fits, tt) }
one_line (Module h ls b) fits = absurd fits.0
one_line (Start s c args n) fits = record { declaration = fits.1; holds = refl; lines = (fits, tt) }
one_line (Outside n xs) fits = absurd fits.0

-- ---- modules

pub module_begins : (h : ModuleHead) → ListingLineFits (Head h) → ItemKeeps (module_item h [] [])
module_begins h fits = record {
  declaration = record {
    name = fits.name;
    parameters = fits.parameters;
    few_parameters = fits.few_parameters;
    begin = fits.begin;
    end = fits.end;
    each_local = tt;
    few_locals = lit≤ tt;
    statements = tt;
    few_statements = lit≤ tt;
  };
  holds = (refl, lit≤ tt);
  lines = (fits, (tt, tt));
}

pub module_local : (h : ModuleHead) (ls : List Named) (v : Named) → ItemKeeps (module_item h ls []) → ListingLineFits (Local v)
    → length ls < MAX_LOCALS → ItemKeeps (module_item h (ls ++ v ∷ []) [])
module_local h ls v keeps fits few =
    record {
      declaration = record {
        name = keeps.declaration.name;
        parameters = keeps.declaration.parameters;
        few_parameters = keeps.declaration.few_parameters;
        begin = keeps.declaration.begin;
        end = keeps.declaration.end;
        each_local = each_append (λ x. NameFits x.name) ls (v ∷ []) keeps.declaration.each_local (fits, tt);
        few_locals = omega (arith, length-append ls (v ∷ []));
        statements = tt;
        few_statements = lit≤ tt;
      };
      holds = (refl, lit≤ tt);
      lines = (
        keeps.lines.0,
        subst (λ xs. Each ListingLineFits (xs ++ End ∷ [])) (sym (map-append Local ls (v ∷ []))) (between ListingLineFits (map Local ls) (Local v ∷ []) (End ∷ []) keeps.lines.1 (fits, tt)),
      );
    }

pub module_operation : (h : ModuleHead) (ls : List Named) (os : List DraftOperation) (o : DraftOperation) → ItemKeeps (module_item h ls os)
    → ListingLineFits (operation_line (length os) o) → length os < MAX_OPERATIONS → ItemKeeps (module_item h ls (os ++ o ∷ []))
module_operation h ls os o keeps fits few =
    let rest = each_right ListingLineFits (map Local ls) (operation_lines 0 os ++ End ∷ []) keeps.lines.1 in
    let fits0 : ListingLineFits (operation_line (0 + length os) o) = subst (λ k. ListingLineFits (operation_line k o)) (sym (zero-add (length os))) fits in
    let grown = subst (λ xs. Each ListingLineFits (xs ++ End ∷ [])) (sym (operations_end 0 os o)) (between ListingLineFits (operation_lines 0 os) (operation_line (0 + length os) o ∷ []) (End ∷ []) rest (fits0, tt)) in
    record {
      declaration = keeps.declaration;
      holds = (refl, omega (arith, length-append os (o ∷ [])));
      lines = (keeps.lines.0, each_append ListingLineFits (map Local ls) (operation_lines 0 (os ++ o ∷ []) ++ End ∷ []) (each_left ListingLineFits (map Local ls) (operation_lines 0 os ++ End ∷ []) keeps.lines.1) grown);
    }

-- ---- clients

pub client_begins : (n : Ident) → ListingLineFits (Client n) → ItemKeeps (simple_item (Outside n []))
client_begins n fits = record {
  declaration = (fits, tt, lit≤ tt);
  holds = refl;
  lines = (fits, (tt, tt));
}

pub client_order : (n : Ident) (xs : List src.Order) (x : src.Order) → ItemKeeps (simple_item (Outside n xs)) → ListingLineFits (Order x)
    → length xs < MAX_ORDERS → ItemKeeps (simple_item (Outside n (xs ++ x ∷ [])))
client_order n xs x keeps fits few =
    record {
      declaration = (keeps.declaration.0, each_append OrderFits xs (x ∷ []) keeps.declaration.1 (fits, tt), omega (arith, length-append xs (x ∷ [])));
      holds = refl;
      lines = (
        keeps.lines.0,
        subst (λ ys. Each ListingLineFits (ys ++ Close ∷ [])) (sym (map-append Order xs (x ∷ []))) (between ListingLineFits (map Order xs) (Order x ∷ []) (Close ∷ []) keeps.lines.1 (fits, tt)),
      );
    }
