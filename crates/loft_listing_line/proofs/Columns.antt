-- The parts of the texts of operations and of clients.
use Rattle.std.proofs.Common.{◌≡◌, ℕ, ◌+◌, ◌≤◌, Bool, true, false, List, [], ◌∷◌, ◌++◌, length, codes, refl, sym, ap, subst, ◌∙◌, arith, append_assoc}
use Rattle.std.specs.Fmt.{decimal}
use Rattle.std.proofs.lemmas.List.{length-append}
use Rattle.loft_tree.specs.Source.{Ident, Statement, Expression, Number, Variable, Special, Unary, Binary, PlaceName, InScheduler, Unlinked}
use Rattle.loft_tree.specs.Fits.{NameFits, PlaceFits}
use Rattle.loft_tree.specs.Levels.{left_bracketed, right_bracketed}
use Rattle.loft_show.specs.Canon.{Piece, held, spaced, sign, binary_sign, space, expression_pieces, place_pieces, pieces_text, lines_text, outside_line}
use Rattle.loft_show.proofs.Texts.{pieces_text-append}
use Rattle.loft_listing_line.specs.Cuts.{IsWithout, IsCutAt}
use Rattle.loft_listing_line.specs.Instructions.{Instruction, Do, Stop, Branch, Enter, Count, Turn, Jump, End as EndOf, instruction_text, value_text, feed}
use Rattle.loft_listing_line.specs.Rows.{ListingLine, Title, Item, Head, Local, Operation, End, Client, Order, Close, line_text, place_text}
use Rattle.loft_listing_line.specs.Sorts.{sort_of, sort_of_instruction}
use Rattle.loft_listing_line.specs.declared.sort.LineSort.TheVariants as sort
use Rattle.loft_listing_line.specs.declared.sort.DeedSort.TheVariants as deed
use Rattle.loft_listing_line.specs.RowsFit.{IsSmall}
use Rattle.loft_listing_line.proofs.Without.{both_without, decimal_without, name_without}

-- ---- lengths

pub after_short : (m byte : ℕ) (text before after : List ℕ) → text ≡ before ++ byte ∷ after → length text ≤ m → length after ≤ m
after_short m byte text before after whole short =
    let long : length text ≡ length before + length (byte ∷ after) = ap length whole ∙ length-append before (byte ∷ after) in
    omega (arith, long, short)

pub before_short : (m byte : ℕ) (text before after : List ℕ) → text ≡ before ++ byte ∷ after → length text ≤ m → length before ≤ m
before_short m byte text before after whole short =
    let long : length text ≡ length before + length (byte ∷ after) = ap length whole ∙ length-append before (byte ∷ after) in
    omega (arith, long, short)

-- ---- blanks in front

-- the text of a place
abbrev pub place_bytes : PlaceName → List ℕ
place_bytes p = pieces_text (place_pieces p [])

place_after_blank : (p : PlaceName) → place_text p ≡ 32 ∷ place_bytes p
place_after_blank (InScheduler n) = refl
place_after_blank Unlinked = refl

-- the text of an expression, with a line feed
abbrev pub line_bytes : Expression → List ℕ
line_bytes e = pieces_text (expression_pieces e []) ++ feed

held_after_blank : (t : Bool) (inner : List ℕ → List Piece) → pieces_text (inner space) ≡ 32 ∷ pieces_text (inner []) → pieces_text (held t inner space) ≡ 32 ∷ pieces_text (held t inner [])
held_after_blank true inner same = refl
held_after_blank false inner same = same

expression_after_blank : (e : Expression) → pieces_text (expression_pieces e space) ≡ 32 ∷ pieces_text (expression_pieces e [])
expression_after_blank (Number at value) = refl
expression_after_blank (Variable n) = refl
expression_after_blank (Special at builtin) = refl
expression_after_blank (Unary at operator e) = refl
expression_after_blank (Binary operator left right) =
    let rest : List Piece = spaced (sign (binary_sign operator)) ∷ held (right_bracketed operator right) (expression_pieces right) space in
    pieces_text-append (held (left_bracketed operator left) (expression_pieces left) space) rest
    ∙ ap (λ t. t ++ pieces_text rest) (held_after_blank (left_bracketed operator left) (expression_pieces left) (expression_after_blank left))
    ∙ ap (λ t. 32 ∷ t) (sym (pieces_text-append (held (left_bracketed operator left) (expression_pieces left) []) rest))

value_after_blank : (e : Expression) → value_text e ≡ 32 ∷ line_bytes e
value_after_blank e = ap (λ t. t ++ feed) (expression_after_blank e)

-- ---- cuts

pub place_without : (p : PlaceName) → PlaceFits p → IsWithout 32 (place_bytes p)
place_without (InScheduler n) fits = both_without 32 n.text [] (name_without 32 n.text refl fits) refl
place_without Unlinked fits = refl

pub operation_columns : (number depth : ℕ) (p : PlaceName) (i : Instruction)
    → line_text (Operation number p depth i) ≡ decimal number ++ 32 ∷ (place_bytes p ++ 32 ∷ (decimal depth ++ 32 ∷ instruction_text i))
operation_columns number depth p i = ap (λ t. decimal number ++ (t ++ 32 ∷ (decimal depth ++ 32 ∷ instruction_text i))) (place_after_blank p)

pub branch_cut : (text : List ℕ) (t : ℕ) (test : Expression) → text ≡ instruction_text (Branch t test) → IsCutAt 32 text (codes "branch") (decimal t ++ 32 ∷ line_bytes test)
branch_cut text t test same = record { whole = same ∙ ap (λ v. codes "branch " ++ (decimal t ++ v)) (value_after_blank test); first = refl }

pub count_cut : (text : List ℕ) (count : Expression) → text ≡ codes "count" ++ value_text count → IsCutAt 32 text (codes "count") (line_bytes count)
count_cut text count same = record { whole = same ∙ ap (λ v. codes "count" ++ v) (value_after_blank count); first = refl }

pub turn_cut : (text : List ℕ) (t : ℕ) → text ≡ instruction_text (Turn t) → IsCutAt 32 text (codes "turn") (decimal t ++ feed)
turn_cut text t same = record { whole = same; first = refl }

pub jump_cut : (text : List ℕ) (t : ℕ) → text ≡ instruction_text (Jump t) → IsCutAt 32 text (codes "jump") (decimal t ++ feed)
jump_cut text t same = record { whole = same; first = refl }

-- what stands after the word of a client's first line
abbrev pub client_rest : Ident → List ℕ
client_rest n = n.text ++ 32 ∷ 123 ∷ 10 ∷ []

pub client_cut : (text : List ℕ) (n : Ident) → text ≡ lines_text (outside_line n ∷ []) → IsCutAt 32 text (codes "outside") (client_rest n)
client_cut text n same = record { whole = same ∙ ap (λ t. codes "outside" ++ 32 ∷ t) (append_assoc n.text (32 ∷ 123 ∷ []) (10 ∷ [])); first = refl }

pub name_cut : (text : List ℕ) (n : Ident) → NameFits n → text ≡ client_rest n → IsCutAt 32 text n.text (123 ∷ 10 ∷ [])
name_cut text n fits same = record { whole = same; first = name_without 32 n.text refl fits }

-- the parts of a text that is short enough
pub rest_short : (m byte : ℕ) (text before after rest : List ℕ) → IsCutAt byte text before after → rest ≡ after → length text ≤ m → length rest ≤ m
rest_short m byte text before after rest cut same short = subst (λ t. length t ≤ m) (sym same) (after_short m byte text before after cut.whole short)

pub first_short : (m byte : ℕ) (text before after first : List ℕ) → IsCutAt byte text before after → first ≡ before → length text ≤ m → length first ≤ m
first_short m byte text before after first cut same short = subst (λ t. length t ≤ m) (sym same) (before_short m byte text before after cut.whole short)

-- ---- values of one sort

pub by_branch : (P : Instruction → Type 0) (i : Instruction) → sort_of_instruction i ≡ deed.Branch → ((t : ℕ) (test : Expression) → P (Branch t test)) → P i
by_branch P (Do x) of one = absurd cc
by_branch P (Stop k x) of one = absurd cc
by_branch P (Branch t test) of one = one t test
by_branch P Enter of one = absurd cc
by_branch P (Count count) of one = absurd cc
by_branch P (Turn t) of one = absurd cc
by_branch P (Jump t) of one = absurd cc
by_branch P EndOf of one = absurd cc

pub by_stop : (P : Instruction → Type 0) (i : Instruction) → sort_of_instruction i ≡ deed.Stop → ((k : ℕ) (x : Statement) → P (Stop k x)) → P i
by_stop P (Do x) of one = absurd cc
by_stop P (Stop k x) of one = one k x
by_stop P (Branch t test) of one = absurd cc
by_stop P Enter of one = absurd cc
by_stop P (Count count) of one = absurd cc
by_stop P (Turn t) of one = absurd cc
by_stop P (Jump t) of one = absurd cc
by_stop P EndOf of one = absurd cc

pub by_turn : (P : Instruction → Type 0) (i : Instruction) → deed.Turn ≡ sort_of_instruction i → ((t : ℕ) → P (Turn t)) → P i
by_turn P (Do x) of one = absurd cc
by_turn P (Stop k x) of one = absurd cc
by_turn P (Branch t test) of one = absurd cc
by_turn P Enter of one = absurd cc
by_turn P (Count count) of one = absurd cc
by_turn P (Turn t) of one = one t
by_turn P (Jump t) of one = absurd cc
by_turn P EndOf of one = absurd cc

pub by_jump : (P : Instruction → Type 0) (i : Instruction) → deed.Jump ≡ sort_of_instruction i → ((t : ℕ) → P (Jump t)) → P i
by_jump P (Do x) of one = absurd cc
by_jump P (Stop k x) of one = absurd cc
by_jump P (Branch t test) of one = absurd cc
by_jump P Enter of one = absurd cc
by_jump P (Count count) of one = absurd cc
by_jump P (Turn t) of one = absurd cc
by_jump P (Jump t) of one = one t
by_jump P EndOf of one = absurd cc

pub by_operation : (P : ListingLine → Type 0) (l : ListingLine) → sort_of l ≡ sort.Operation → ((number : ℕ) (p : PlaceName) (depth : ℕ) (i : Instruction) → P (Operation number p depth i)) → P l
by_operation P Title of one = absurd cc
by_operation P (Item d) of one = absurd cc
by_operation P (Head h) of one = absurd cc
by_operation P (Local v) of one = absurd cc
by_operation P (Operation number p depth i) of one = one number p depth i
by_operation P End of one = absurd cc
by_operation P (Client n) of one = absurd cc
by_operation P (Order x) of one = absurd cc
by_operation P Close of one = absurd cc

pub number_cut : (n : ℕ) (text after : List ℕ) → IsSmall n → text ≡ decimal n ++ 32 ∷ after → IsCutAt 32 text (decimal n) after
number_cut n text after small same = record { whole = same; first = decimal_without 32 n small refl }

pub columns_short : (m : ℕ) (line number place depth rest : List ℕ) → line ≡ number ++ 32 ∷ (place ++ 32 ∷ (depth ++ 32 ∷ rest)) → length line ≤ m → (length place ≤ m) × (length rest ≤ m)
columns_short m line number place depth rest whole short =
    let first = after_short m 32 line number (place ++ 32 ∷ (depth ++ 32 ∷ rest)) whole short in
    let second = after_short m 32 (place ++ 32 ∷ (depth ++ 32 ∷ rest)) place (depth ++ 32 ∷ rest) refl first in
    (before_short m 32 (place ++ 32 ∷ (depth ++ 32 ∷ rest)) place (depth ++ 32 ∷ rest) refl first, after_short m 32 (depth ++ 32 ∷ rest) depth rest refl second)

pub same_length : (m : ℕ) (text other : List ℕ) → text ≡ other → length other ≤ m → length text ≤ m
same_length m text other same short = subst (λ t. length t ≤ m) (sym same) short
