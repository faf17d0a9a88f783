-- A text is at most one line of a listing, but for offsets.
use Rattle.std.proofs.Common.{◌≡◌, ℕ, Bool, true, false, ◌||◌, ◌==◌, List, ◌∷◌, ◌++◌, codes, get_or, inl, inr, refl, sym, ap, ◌∙◌, append_assoc}
use Rattle.std.specs.Prelude.{if◌then◌else◌}
use Rattle.std.specs.Str.{bytes_eq}
use Rattle.std.proofs.lemmas.Bool.{eqb-true, or_cases}
use Rattle.std.proofs.lemmas.List.{append-nil}
use Rattle.std.proofs.lemmas.Slice.Eq.{bytes_eq-Decides}
use Rattle.loft_lex.specs.Bytes.{is_digit}
use Rattle.loft_tree.specs.Source.{Ident, InScheduler, PlaceName, Unlinked}
use Rattle.loft_tree.specs.Fits.{NameFits, PlaceFits}
use Rattle.loft_grammar.specs.Limits.{limits}
use Rattle.loft_productions.proofs.Checked.{head_checked, item_checked, local_checked, order_checked}
use Rattle.loft_show.specs.Places.{bare_declaration, bare_head, bare_name, bare_named, bare_order, bare_place}
use Rattle.loft_show.proofs.reads.PartLaw.{declaration_reads, head_reads, local_reads, order_reads}
use Rattle.loft_listing_line.specs.declared.sort.LineSort.{LineSort}
use Rattle.loft_listing_line.specs.declared.sort.LineSort.TheVariants as sort
use Rattle.loft_listing_line.specs.Instructions.{Instruction, feed}
use Rattle.loft_listing_line.specs.Rows.{ListingLine, Title, Item, Head, Local, Operation, End, Client, Order, Close, bare_line, line_text}
use Rattle.loft_listing_line.specs.RowsFit.{IsLine, ListingLineFits}
use Rattle.loft_listing_line.specs.Sorts.{begins_line, sort_of}
use Rattle.loft_listing_line.proofs.Columns.{client_cut, client_rest, name_cut, number_cut, operation_columns, place_bytes, place_without}
use Rattle.loft_listing_line.proofs.Feeds.{line_ends_at_feed}
use Rattle.loft_listing_line.proofs.Naming.{only_unlinked}
use Rattle.loft_listing_line.proofs.Sorting.{end, first_byte, is_end, is_title, line_begins, title}
use Rattle.loft_listing_laws.proofs.OnePart.{one_cut, one_number, one_reading}
use Rattle.loft_listing_laws.proofs.OneDeed.{one_deed}

-- ---- sorts

-- the sort of the lines that begin with the byte
sort_by : ℕ → LineSort
sort_by b =
    if is_digit b then sort.Operation
    else if b == 32 then sort.Order
    else if b == 108 then sort.Local
    else if b == 109 then sort.Head
    else if b == 111 then sort.Client
    else if b == 125 then sort.Close
    else sort.Item

item_by : (b : ℕ) → (b == 115 || b == 101) ≡ true → sort_by b ≡ sort.Item
unfolding sort_by
item_by b is = elim (or_cases (b == 115) (b == 101) is) [
  | inl first ↦ ap sort_by (eqb-true b 115 first)
  | inr second ↦ ap sort_by (eqb-true b 101 second)
]

digit_by : (b : ℕ) → is_digit b ≡ true → sort_by b ≡ sort.Operation
unfolding sort_by
digit_by b is = go (is_digit b) is where
  go : (c : Bool) → c ≡ true
      → (if c then sort.Operation else if b == 32 then sort.Order else if b == 108 then sort.Local else if b == 109 then sort.Head else if b == 111 then sort.Client else if b == 125 then sort.Close else sort.Item)
      ≡ sort.Operation
  go true h = refl
  go false h = absurd cc

is_by : (of : LineSort) (b : ℕ) → begins_line of b ≡ true → sort_by b ≡ of
unfolding sort_by
is_by sort.Title b is = absurd cc
is_by sort.Item b is = item_by b is
is_by sort.Head b is = ap sort_by (eqb-true b 109 is)
is_by sort.Local b is = ap sort_by (eqb-true b 108 is)
is_by sort.Operation b is = digit_by b is
is_by sort.End b is = absurd cc
is_by sort.Client b is = ap sort_by (eqb-true b 111 is)
is_by sort.Order b is = ap sort_by (eqb-true b 32 is)
is_by sort.Close b is = ap sort_by (eqb-true b 125 is)

-- the sort of a line by its text
line_sort : List ℕ → LineSort
line_sort text = if bytes_eq text title then sort.Title else if bytes_eq text end then sort.End else sort_by (get_or text 0 0)

sort_is : (l : ListingLine) (text : List ℕ) → IsLine text l → line_sort text ≡ sort_of l
unfolding line_sort
sort_is l text is = go (bytes_eq text title) refl (bytes_eq text end) refl where
  go : (b : Bool) → bytes_eq text title ≡ b → (c : Bool) → bytes_eq text end ≡ c → (if b then sort.Title else if c then sort.End else sort_by (get_or text 0 0)) ≡ sort_of l
  go true first c last = is_title l text is first
  go false other true last = is_end l text is last
  go false other false more = is_by (sort_of l) (get_or text 0 0) (first_byte (begins_line (sort_of l)) text (line_begins l text is other more))

-- ---- lines of one sort

one_client : (n m : Ident) → NameFits n → NameFits m → line_text (Client n) ≡ line_text (Client m) → bare_name n ≡ bare_name m
one_client n m fits fit same =
    let rest = one_cut 32 _ _ _ _ _ _ same (client_cut (line_text (Client n)) n refl) (client_cut (line_text (Client m)) m refl) in
    let names = one_cut 32 _ _ _ _ _ _ rest.1 (name_cut (client_rest n) n fits refl) (name_cut (client_rest m) m fit refl) in
    (λ i. record { text = names.0 i; at = 0 })

mixed : (n : Ident) → NameFits n → place_bytes (InScheduler n) ≡ place_bytes Unlinked → bare_place (InScheduler n) ≡ bare_place Unlinked
mixed n fits same =
    let one = only_unlinked (InScheduler n) (place_bytes (InScheduler n)) (codes "unlinked") fits refl refl ((bytes_eq-Decides (place_bytes (InScheduler n)) (codes "unlinked")).1 same) in
    cc

one_place : (p q : PlaceName) → PlaceFits p → PlaceFits q → place_bytes p ≡ place_bytes q → bare_place p ≡ bare_place q
one_place (InScheduler n) (InScheduler m) fits fit same =
    let texts : n.text ≡ m.text = sym (append-nil n.text) ∙ same ∙ append-nil m.text in
    (λ i. InScheduler (record { text = texts i; at = 0 }))
one_place (InScheduler n) Unlinked fits fit same = mixed n fits same
one_place Unlinked (InScheduler m) fits fit same = sym (mixed m fit (sym same))
one_place Unlinked Unlinked fits fit same = refl

one_operation : (n m : ℕ) (p q : PlaceName) (d e : ℕ) (i j : Instruction) → ListingLineFits (Operation n p d i) → ListingLineFits (Operation m q e j)
    → line_text (Operation n p d i) ≡ line_text (Operation m q e j) → bare_line (Operation n p d i) ≡ bare_line (Operation m q e j)
one_operation n m p q d e i j fits fit same =
    let whole = sym (operation_columns n d p i) ∙ same ∙ operation_columns m e q j in
    let first = one_cut 32 _ _ _ _ _ _ whole (number_cut n _ _ fits.0 refl) (number_cut m _ _ fit.0 refl) in
    let second = one_cut 32 _ _ _ _ _ _ first.1 (record { whole = refl; first = place_without p fits.1 }) (record { whole = refl; first = place_without q fit.1 }) in
    let third = one_cut 32 _ _ _ _ _ _ second.1 (number_cut d _ _ fits.2 refl) (number_cut e _ _ fit.2 refl) in
    let number = one_number n m fits.0 fit.0 first.0 in
    let place = one_place p q fits.1 fit.1 second.0 in
    let depth = one_number d e fits.2 fit.2 third.0 in
    let instruction = one_deed i j fits.3 fit.3 third.1 in
    (λ x. Operation (number x) (place x) (depth x) (instruction x))

of_sort : (l k : ListingLine) → sort_of l ≡ sort_of k → ListingLineFits l → ListingLineFits k → line_text l ≡ line_text k → bare_line l ≡ bare_line k
of_sort Title Title sort fits fit same = refl
of_sort Title k sort fits fit same = absurd cc
of_sort (Item a) (Item b) sort fits fit same =
    ap Item (one_reading item_checked limits bare_declaration (line_text (Item a)) (line_text (Item b)) a b same (declaration_reads a fits.1) (declaration_reads b fit.1))
of_sort (Item a) k sort fits fit same = absurd cc
of_sort (Head a) (Head b) sort fits fit same = ap Head (one_reading head_checked limits bare_head (line_text (Head a)) (line_text (Head b)) a b same (head_reads a fits) (head_reads b fit))
of_sort (Head a) k sort fits fit same = absurd cc
of_sort (Local a) (Local b) sort fits fit same = ap Local (one_reading local_checked limits bare_named (line_text (Local a)) (line_text (Local b)) a b same (local_reads 0 a fits) (local_reads 0 b fit))
of_sort (Local a) k sort fits fit same = absurd cc
of_sort (Operation n p d i) (Operation m q e j) sort fits fit same = one_operation n m p q d e i j fits fit same
of_sort (Operation n p d i) k sort fits fit same = absurd cc
of_sort End End sort fits fit same = refl
of_sort End k sort fits fit same = absurd cc
of_sort (Client n) (Client m) sort fits fit same = ap Client (one_client n m fits fit same)
of_sort (Client n) k sort fits fit same = absurd cc
of_sort (Order a) (Order b) sort fits fit same = ap Order (one_reading order_checked limits bare_order (line_text (Order a)) (line_text (Order b)) a b same (order_reads a fits) (order_reads b fit))
of_sort (Order a) k sort fits fit same = absurd cc
of_sort Close Close sort fits fit same = refl
of_sort Close k sort fits fit same = absurd cc

pub one_line : (l k : ListingLine) → ListingLineFits l → ListingLineFits k → line_text l ≡ line_text k → bare_line l ≡ bare_line k
one_line l k fits fit same =
    of_sort l k (sym (sort_is l (line_text l) (record { fits = fits; written = refl })) ∙ sort_is k (line_text l) (record { fits = fit; written = same })) fits fit same

-- a text begins with at most one line
pub one_next : (l k : ListingLine) (a b : List ℕ) → ListingLineFits l → ListingLineFits k → line_text l ++ a ≡ line_text k ++ b → (bare_line l ≡ bare_line k) × (a ≡ b)
one_next l k a b fits fit same =
    let ends = line_ends_at_feed l fits in
    let end = line_ends_at_feed k fit in
    let whole : ends.0 ++ 10 ∷ a ≡ end.0 ++ 10 ∷ b =
    sym (append_assoc ends.0 feed a) ∙ ap (λ t. t ++ a) (sym ends.1) ∙ same ∙ ap (λ t. t ++ b) end.1 ∙ append_assoc end.0 feed b in
    let cut = one_cut 10 _ _ _ _ _ _ whole (record { whole = refl; first = ends.2 }) (record { whole = refl; first = end.2 }) in
    (one_line l k fits fit (ends.1 ∙ ap (λ t. t ++ feed) cut.0 ∙ sym end.1), cut.1)
