-- The texts of pieces and lines, one list after the other.
use Rattle.std.proofs.Common.{◌≡◌, ℕ, ◌+◌, ◌-◌, ◌*◌, ◌<◌, ◌≤◌, ◌==◌, true, false, ℤ, pos, negsuc, length, map, get_or, take, drop, drop-cons, add-one, List, [], ◌∷◌, ◌++◌, refl, sym, ap, ◌∙◌, append_assoc, append-nil, arith}
use Rattle.std.proofs.lemmas.Grind.{common_steps}
use Rattle.std.specs.Fmt.{decimal, signed_decimal}
use Rattle.loft_tree.specs.declared.expression.Expr.{Expr}
use Rattle.loft_tree.specs.View.{expression_of, statements_of}
use Rattle.loft_show.specs.Canon.{Piece, Line, spelled, number_text, pieces_text, lines_text, body_lines, else_lines, expression_pieces, further_pieces, list_pieces, space, tight, sign}
use Rattle.std.specs.Prelude.{codes, replicate}
use Rattle.std.proofs.Math.Dec.{eqb-suc-zero}
use Rattle.loft_tree.specs.declared.statement.Stmt.{Stmt}
use Rattle.loft_tree.proofs.Trees.{statements}
use Rattle.loft_lex.specs.declared.sign.Sign.TheVariants as s

pub pieces_text-append : (ps qs : List Piece) → pieces_text (ps ++ qs) ≡ pieces_text ps ++ pieces_text qs
pieces_text-append [] qs = refl
pieces_text-append (p ∷ ps) qs =
    ap (λ t. p.gap ++ (spelled p.what ++ t)) (pieces_text-append ps qs)
    ∙ ap (λ t. p.gap ++ t) (sym (append_assoc (spelled p.what) (pieces_text ps) (pieces_text qs)))
    ∙ sym (append_assoc p.gap (spelled p.what ++ pieces_text ps) (pieces_text qs))

-- a number is written as a program prints it
pub number_text-is : (z : ℤ) → number_text z ≡ signed_decimal z
number_text-is (pos n) = refl
number_text-is (negsuc n) = ap (λ m. 45 ∷ decimal m) (add-one n)

-- one of a list more
pub one_more : {A : Type 0} (texts : List A → List ℕ) (text : A → List ℕ) (out : List ℕ) (xs : List A) (i : ℕ) (x : A) (total : List ℕ)
    → ((y : A) (ys : List A) → texts (y ∷ ys) ≡ text y ++ texts ys)
    → i < length xs → x ≡ get_or xs i x → out ++ texts (drop i xs) ≡ total
    → (out ++ text x) ++ texts (drop (i + 1) xs) ≡ total
one_more texts text out xs i x total each lt is so_far =
    let split : drop i xs ≡ x ∷ drop (i + 1) xs = drop-cons xs i x lt ∙ rw (← is, add-one) refl in
    append_assoc out _ _ ∙ ap (λ t. out ++ t) (sym (each x (drop (i + 1) xs))) ∙ ap (λ ys. out ++ texts ys) (sym split) ∙ so_far

-- one after its comma more
pub further_more : {A : Type 0} (pieces : A → List ℕ → List Piece) (out : List ℕ) (xs : List A) (i : ℕ) (x : A) (total : List ℕ)
    → i < length xs → x ≡ get_or xs i x → out ++ pieces_text (further_pieces pieces (drop i xs)) ≡ total
    → ((out ++ codes ",") ++ pieces_text (pieces x space)) ++ pieces_text (further_pieces pieces (drop (i + 1) xs)) ≡ total
further_more pieces out xs i x total lt is so_far =
    ap (λ t. t ++ pieces_text (further_pieces pieces (drop (i + 1) xs))) (append_assoc out (codes ",") (pieces_text (pieces x space)))
    ∙ one_more (λ ys. pieces_text (further_pieces pieces ys)) (λ y. pieces_text (tight (sign s.Comma) ∷ pieces y space)) out xs i x total
    (λ y ys. pieces_text-append (tight (sign s.Comma) ∷ pieces y space) (further_pieces pieces ys)) lt is so_far

-- the first of a list, and those after it
pub list_text : {A : Type 0} (pieces : A → List ℕ → List Piece) (out : List ℕ) (xs : List A) (x : A)
    → 1 ≤ length xs → x ≡ get_or xs 0 x
    → (out ++ pieces_text (pieces x [])) ++ pieces_text (further_pieces pieces (take (length xs - 1) (drop 1 xs))) ≡ out ++ pieces_text (list_pieces pieces xs)
list_text pieces out xs x some is =
    let rest_is : take (length xs - 1) (drop 1 xs) ≡ drop 1 xs = grind (arith, common_steps) in
    let split : xs ≡ x ∷ drop 1 xs = drop-cons xs 0 x some ∙ rw (← is) refl in
    append_assoc out _ _ ∙ ap (λ t. out ++ t)
    (ap (λ ys. pieces_text (pieces x []) ++ pieces_text (further_pieces pieces ys)) rest_is
    ∙ sym (pieces_text-append (pieces x []) (further_pieces pieces (drop 1 xs)))
    ∙ ap (λ ys. pieces_text (list_pieces pieces ys)) (sym split))

-- a list of plain values is written as the list of what they stand for
pub further_pieces-map : {A B : Type 0} (pieces : B → List ℕ → List Piece) (of : A → B) (xs : List A)
    → further_pieces pieces (map of xs) ≡ further_pieces (λ x. pieces (of x)) xs
further_pieces-map pieces of [] = refl
further_pieces-map pieces of (x ∷ xs) = ap (λ ps. tight (sign s.Comma) ∷ (pieces (of x) space ++ ps)) (further_pieces-map pieces of xs)

pub list_pieces-map : {A B : Type 0} (pieces : B → List ℕ → List Piece) (of : A → B) (xs : List A)
    → list_pieces pieces (map of xs) ≡ list_pieces (λ x. pieces (of x)) xs
list_pieces-map pieces of [] = refl
list_pieces-map pieces of (x ∷ xs) = ap (λ ps. pieces (of x) [] ++ ps) (further_pieces-map pieces of xs)

-- the arguments of a call
pub arguments_pieces : (es : List Expr) → list_pieces expression_pieces (map expression_of es) ≡ list_pieces (λ e. expression_pieces (expression_of e)) es
arguments_pieces es = list_pieces-map expression_pieces expression_of es

-- bodies stand two blanks further in
pub indent_below : (d : ℕ) → 2 * (d + 1) ≡ 2 * d + 2
indent_below d = omega arith

-- an empty body has no `else`
pub else_none : (ss : List Stmt) (n : ℕ) → (length ss == 0) ≡ true → lines_text (else_lines (statements_of ss) n) ≡ []
else_none [] n e = refl
else_none (s ∷ ss) n e = absurd (let h = sym (eqb-suc-zero (length ss)) ∙ e in cc)

pub else_some : (ss : List Stmt) (n : ℕ) → (length ss == 0) ≡ false → lines_text (else_lines (statements_of ss) n) ≡ (replicate n 32 ++ (codes "else" ++ 10 ∷ [])) ++ lines_text (body_lines (statements_of ss) (n + 2))
else_some [] n e = absurd cc
else_some (s ∷ ss) n e = grind (arith, common_steps)

pub lines_text-append : (ls ms : List Line) → lines_text (ls ++ ms) ≡ lines_text ls ++ lines_text ms
lines_text-append [] ms = refl
lines_text-append (l ∷ ls) ms =
    ap (λ t. replicate l.indent 32 ++ (pieces_text l.pieces ++ 10 ∷ t)) (lines_text-append ls ms)
    ∙ ap (λ t. replicate l.indent 32 ++ t) (sym (append_assoc (pieces_text l.pieces) (10 ∷ lines_text ls) (lines_text ms)))
    ∙ sym (append_assoc (replicate l.indent 32) (pieces_text l.pieces ++ 10 ∷ lines_text ls) (lines_text ms))

-- for statements and their bodies
pub ruleset bodies = (lines_text-append, append_assoc, append-nil, indent_below, else_none, else_some, statements)

pub ruleset texts = (pieces_text-append, append_assoc, append-nil, number_text-is, arguments_pieces)
