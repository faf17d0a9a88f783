-- The symbols of canonical bodies spell them.
use Rattle.std.proofs.Common.{◌≡◌, ℕ, ◌+◌, ◌-◌, List, [], ◌∷◌, ◌++◌, Option, Some, None, refl, sym, ap, subst, ◌∙◌, append_assoc, arith}
use Rattle.loft_lex.specs.declared.word.Word.{Word}
use Rattle.loft_lex.specs.declared.word.Word.TheVariants as w
use Rattle.loft_lex.specs.declared.sign.Sign.TheVariants as s
use Rattle.loft_tree.specs.Source.{Expression, Statement, Assign, AssignCreate, Create, PrintText, PrintValue, Cooperate, Generate, Await, Select, Get, Join, ControlThread, Broadcast, Link, Unlink, Run, Halt, If, While, Repeat, Statements, Done, Then}
use Rattle.loft_tree.specs.View.{body_of}
use Rattle.loft_tree.specs.Fits.{ExpressionFits, ArgumentsFit, StatementFits, StatementsFit, size_of, size}
use Rattle.loft_form.specs.Form.{maybe, inside}
use Rattle.loft_form.specs.Reading.{paid}
use Rattle.loft_grammar.specs.Language.{Rule, Meaning, Conditional, Looped}
use Rattle.loft_grammar.specs.Limits.{limits}
use Rattle.loft_grammar.specs.Statements.{rules, else_of, conditional, while_loop, repeat, moving_statement, statement, body, condition, otherwise, branches, turns}
use Rattle.loft_show.specs.Canon.{Piece, Line, tight, spaced, word, sign, expression_pieces, test_line, end_line, statement_lines, body_lines, else_lines}
use Rattle.loft_show.specs.Places.{bare_expression, bare_body}
use Rattle.loft_show.proofs.reads.Spelling as spelling
use Rattle.loft_show.proofs.reads.Spelling.{line_pieces, syms, strict, Is, spelled_as}
use Rattle.loft_show.proofs.reads.Parts.{after_then, after_none, Part, ◌then◌, built, joined, word_is, sign_is, whole_is, Passed}
use Rattle.loft_show.proofs.reads.Statements.{Several, of_part, also, ◌before◌, first_of, second_of, making, opened, StatementIs, assign_is, assign_create_is, create_is, print_text_is, print_value_is, generate_is, await_is, select_is, get_is, broadcast_is, cooperate_is, join_is, control_is, run_is, halt_is, link_is, unlink_is}

-- the pieces of lines, one list after the other
pub pieces_joined : (xs ys : List Line) → line_pieces (xs ++ ys) ≡ line_pieces xs ++ line_pieces ys
pieces_joined [] ys = refl
pieces_joined (x ∷ xs) ys = ap (λ ps. x.pieces ++ ps) (pieces_joined xs ys) ∙ sym (append_assoc x.pieces (line_pieces xs) (line_pieces ys))

-- the same pieces, written otherwise
pieces_as : {k n : ℕ} {x : Statement} {ps qs : List Piece} → ps ≡ qs → Several limits k n statement ps x → Several limits k n statement qs x
pieces_as {k} {n} {x} e p = subst (λ ts. Several limits k n statement ts x) e p

-- the same value, written otherwise
valued_as : {k n : ℕ} {x y : Statement} {ps : List Piece} → x ≡ y → Several limits k n statement ps x → Several limits k n statement ps y
valued_as {k} {n} {ps} e p = subst (λ z. Several limits k n statement ps z) e p

-- a rule inside opens one nesting
within : {k m : ℕ} {ps : List Piece} (r : Rule) {x : Meaning r} (n : ℕ) → n ≡ m + 1 → Several limits k m (rules r) ps x → Several limits k n (inside r) ps x
within {m} {ps} r {x} n e p = record {
  at = λ c few. (
      let (d, after, first) = p.at c few in
      let less : m ≡ n - 1 = omega arith in
      (d, after, spelling.within n r (syms ps) (paid c) x (paid d) (omega arith) (subst (λ j. Is limits j (rules r) (syms ps) (paid c) x (paid d)) less first)));
}

-- the arguments of a call in a source
passed : {n : ℕ} {es : List Expression} → ArgumentsFit n es → Passed limits n es
passed fits = record { each = fits.each; few = fits.few }

-- ---- a body as a list

abbrev pub list_of : Statements → List Statement
list_of Done = []
list_of (Then first rest) = first ∷ list_of rest

pub body_of-list : (ss : Statements) → body_of (list_of ss) ≡ ss
body_of-list Done = refl
body_of-list (Then first rest) = ap (Then first) (body_of-list rest)

-- what is told of an `else`, where there is one
abbrev else_list : Statements → Option (List Statement)
else_list Done = None
else_list (Then first rest) = Some (list_of (Then first rest))

else_of-list : (ss : Statements) → else_of (else_list ss) ≡ ss
else_of-list Done = refl
else_of-list (Then first rest) = body_of-list (Then first rest)

abbrev pub BodyIs : ℕ → Statements → ℕ → Type 0
BodyIs n ss k = Several limits (size ss) n body (line_pieces (body_lines ss k)) (list_of (bare_body ss))

abbrev ElseIs : ℕ → Statements → ℕ → Type 0
ElseIs n ss k = Several limits (size ss) n (maybe otherwise) (line_pieces (else_lines ss k)) (else_list (bare_body ss))

test_is : {n : ℕ} (e : Expression) → ExpressionFits n e → Part limits n condition (spaced (sign s.Open) ∷ (expression_pieces e [] ++ tight (sign s.Close) ∷ [])) (bare_expression e)
unfolding condition
test_is e fits = built (sign_is s.Open then whole_is strict e [] fits then sign_is s.Close)

else_is : (n k : ℕ) (ss : Statements) → BodyIs n ss (k + 2) → ElseIs n ss k
unfolding otherwise body
else_is n k Done p = record { at = λ c few. (c, omega arith, spelling.none) }
else_is n k (Then first rest) p = record {
  at = λ c few. (
      let (d, after, all) = p.at c few in
      (d, after, spelling.some (spelling.built (spelling.◌then◌ (spelling.word_is c w.Else) all))));
}

-- ---- statements with bodies

-- the pieces of a statement with bodies, as they are read and as they stand in lines
branches_pieces : (e b l last : List Piece) (first follows bracket close : Piece) → first ∷ (((bracket ∷ (e ++ close ∷ [])) ++ (follows ∷ (b ++ l))) ++ last) ≡ (first ∷ bracket ∷ (e ++ (close ∷ follows ∷ []))) ++ (b ++ (l ++ last))
branches_pieces e b l last first follows bracket close = simp append_assoc

turns_pieces : (e b last : List Piece) (first follows bracket close : Piece) → first ∷ (((bracket ∷ (e ++ close ∷ [])) ++ (follows ∷ b)) ++ last) ≡ (first ∷ bracket ∷ (e ++ (close ∷ follows ∷ []))) ++ (b ++ last)
turns_pieces e b last first follows bracket close = simp append_assoc

if_pieces : (k : ℕ) (e : Expression) (first second : Statements) → tight (word w.If) ∷ (((spaced (sign s.Open) ∷ (expression_pieces e [] ++ tight (sign s.Close) ∷ [])) ++ (spaced (word w.Then) ∷ (line_pieces (body_lines first (k + 2)) ++ line_pieces (else_lines second k)))) ++ tight (word w.End) ∷ [])
    ≡ (test_line k w.If e w.Then).pieces ++ line_pieces (body_lines first (k + 2) ++ (else_lines second k ++ end_line k ∷ []))
if_pieces k e first second =
    branches_pieces (expression_pieces e []) (line_pieces (body_lines first (k + 2))) (line_pieces (else_lines second k)) (tight (word w.End) ∷ []) (tight (word w.If)) (spaced (word w.Then)) (spaced (sign s.Open)) (tight (sign s.Close))
    ∙ ap (λ ps. (test_line k w.If e w.Then).pieces ++ ps) (sym (pieces_joined (body_lines first (k + 2)) (else_lines second k ++ end_line k ∷ []) ∙ ap (λ ps. line_pieces (body_lines first (k + 2)) ++ ps) (pieces_joined (else_lines second k) (end_line k ∷ []))))

if_is : (n m k at : ℕ) (e : Expression) (first second : Statements) → n ≡ m + 1 → ExpressionFits m e → BodyIs m first (k + 2) → ElseIs m second k → StatementIs limits n (If at e first second) k
unfolding statement moving_statement conditional branches
if_is n m k at e first second up fits p q =
    let i = size first + size second in
    let inner = also i (omega arith) (of_part (test_is e fits)) (also i (omega arith) (of_part (word_is w.Then)) (also i refl p q)) in
    pieces_as (if_pieces k e first second)
    (valued_as (λ j. If 0 (bare_expression e) (body_of-list (bare_body first) j) (else_of-list (bare_body second) j))
    (second_of (second_of (second_of (second_of (second_of (first_of (making (also (i + 1) (omega arith) (opened strict w.If (omega arith)) (within Conditional n up (making inner) before word_is w.End))))))))))

loop_pieces : (v : Word) (k : ℕ) (e : Expression) (ss : Statements) → tight (word v) ∷ (((spaced (sign s.Open) ∷ (expression_pieces e [] ++ tight (sign s.Close) ∷ [])) ++ (spaced (word w.Do) ∷ line_pieces (body_lines ss (k + 2)))) ++ tight (word w.End) ∷ [])
    ≡ (test_line k v e w.Do).pieces ++ line_pieces (body_lines ss (k + 2) ++ end_line k ∷ [])
loop_pieces v k e ss =
    turns_pieces (expression_pieces e []) (line_pieces (body_lines ss (k + 2))) (tight (word w.End) ∷ []) (tight (word v)) (spaced (word w.Do)) (spaced (sign s.Open)) (tight (sign s.Close))
    ∙ ap (λ ps. (test_line k v e w.Do).pieces ++ ps) (sym (pieces_joined (body_lines ss (k + 2)) (end_line k ∷ [])))

while_is : (n m k at : ℕ) (e : Expression) (ss : Statements) → n ≡ m + 1 → ExpressionFits m e → BodyIs m ss (k + 2) → StatementIs limits n (While at e ss) k
unfolding statement moving_statement while_loop turns
while_is n m k at e ss up fits p =
    let i = size ss in
    let inner = also i (omega arith) (of_part (test_is e fits)) (also i (omega arith) (of_part (word_is w.Do)) p) in
    pieces_as (loop_pieces w.While k e ss)
    (valued_as (λ j. While 0 (bare_expression e) (body_of-list (bare_body ss) j))
    (second_of (second_of (second_of (second_of (second_of (second_of (first_of (making (also (i + 1) (omega arith) (opened strict w.While (omega arith)) (within Looped n up (making inner) before word_is w.End)))))))))))

repeat_is : (n m k at : ℕ) (e : Expression) (ss : Statements) → n ≡ m + 1 → ExpressionFits m e → BodyIs m ss (k + 2) → StatementIs limits n (Repeat at e ss) k
unfolding statement moving_statement repeat turns
repeat_is n m k at e ss up fits p =
    let i = size ss in
    let inner = also i (omega arith) (of_part (test_is e fits)) (also i (omega arith) (of_part (word_is w.Do)) p) in
    pieces_as (loop_pieces w.Repeat k e ss)
    (valued_as (λ j. Repeat 0 (bare_expression e) (body_of-list (bare_body ss) j))
    (second_of (second_of (second_of (second_of (second_of (second_of (second_of (making (also (i + 1) (omega arith) (opened strict w.Repeat (omega arith)) (within Looped n up (making inner) before word_is w.End)))))))))))

-- ---- all statements

then_is : (n k : ℕ) (x : Statement) (rest : Statements) → StatementIs limits n x k → BodyIs n rest k → BodyIs n (Then x rest) k
unfolding body
then_is n k x rest p q = record {
  at = λ c few. (
      let (d, after, first) = p.at c (omega arith) in
      let (e, again, others) = q.at d (omega (arith, after.statements)) in (
        e,
        after_then (size_of x) (size rest) (size_of x + size rest) c d e after again refl,
        spelled_as (sym (ap syms (pieces_joined (statement_lines x k) (body_lines rest k)) ∙ joined (line_pieces (statement_lines x k)) (line_pieces (body_lines rest k)))) (spelling.one_more first others),
      ));
}

no_statement : (n : ℕ) → Several limits 0 n body [] []
unfolding body
no_statement n = record { at = λ c few. (c, after_none c, spelling.nothing_more) }

-- the lines of each statement and each body spell it
mutual
  statement_is : (x : Statement) (n k : ℕ) → StatementFits x n → StatementIs limits n x k
  statement_is (Assign target value) n k fits = assign_is strict n k target value fits.1
  statement_is (AssignCreate target at creation) n k fits = assign_create_is strict n k target at creation (passed fits.1.arguments)
  statement_is (Create at creation) n k fits = create_is strict n k at creation (passed fits.arguments)
  statement_is (PrintText at text value) n k fits = print_text_is strict n k at text value fits.1
  statement_is (PrintValue at value) n k fits = print_value_is strict n k at value fits
  statement_is (Cooperate at instants) n k fits = cooperate_is strict n k at instants fits
  statement_is (Generate at event value) n k fits = generate_is strict n k at event value fits.1
  statement_is (Await at event limit) n k fits = await_is strict n k at event limit fits.1
  statement_is (Select at events limit) n k fits = select_is strict n k at events limit fits.0.several fits.0.few fits.1
  statement_is (Get at event index target) n k fits = get_is strict n k at event index target fits.1
  statement_is (Join at thread limit) n k fits = join_is strict n k at thread limit fits.0 fits.1
  statement_is (ControlThread at control thread scheduler) n k fits = control_is strict n k at control thread scheduler fits.0
  statement_is (Broadcast at event value) n k fits = broadcast_is strict n k at event value fits.1
  statement_is (Link at scheduler) n k fits = link_is strict n k at scheduler
  statement_is (Unlink at) n k fits = unlink_is strict n k at
  statement_is (Run at called arguments) n k fits = run_is strict n k at called arguments (passed fits.1)
  statement_is (Halt at) n k fits = halt_is strict n k at
  statement_is (If at test first second) n k (m, up, fits, p, q) = if_is n m k at test first second up fits (body_is first m (k + 2) p) (else_is m k second (body_is second m (k + 2) q))
  statement_is (While at test ss) n k (m, up, fits, p) = while_is n m k at test ss up fits (body_is ss m (k + 2) p)
  statement_is (Repeat at count ss) n k (m, up, fits, p) = repeat_is n m k at count ss up fits (body_is ss m (k + 2) p)

  pub body_is : (ss : Statements) (n k : ℕ) → StatementsFit ss n → BodyIs n ss k
  body_is Done n k fits = no_statement n
  body_is (Then first rest) n k fits = then_is n k first rest (statement_is first n k fits.0) (body_is rest n k fits.1)
