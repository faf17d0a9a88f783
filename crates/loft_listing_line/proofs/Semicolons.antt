-- Statements have a semicolon, other operations have none.
use Rattle.std.proofs.Common.{◌≡◌, ℕ, ℤ, pos, ◌≤◌, ◌==◌, Bool, true, false, not, ◌&&◌, ◌||◌, List, [], ◌∷◌, ◌++◌, codes, refl, sym, ap, subst, ◌∙◌}
use Rattle.std.specs.List.{list_any, list_all}
use Rattle.std.specs.Fmt.{decimal}
use Rattle.std.proofs.lemmas.List.Folds.{list_any-append}
use Rattle.loft_lex.specs.declared.sign.Sign.TheVariants as s
use Rattle.loft_lex.specs.declared.word.Word.{Word}
use Rattle.loft_lex.specs.declared.word.Word.TheVariants as w
use Rattle.loft_lex.specs.Word.{spelling as word_spelling}
use Rattle.loft_lex.specs.Symbol.{Quoted}
use Rattle.loft_lex.proofs.Runs.{second_true}
use Rattle.loft_tree.specs.Source.{Ident, Expression, Number, Variable, Special, Unary, Binary, Statement, Assign, AssignCreate, Create, PrintText, PrintValue, Cooperate, Generate, Await, Select, Get, Join, ControlThread, Broadcast, Link, Unlink, Run, Halt, If, While, Repeat}
use Rattle.loft_tree.specs.declared.kinds.Builtin.{Builtin}
use Rattle.loft_tree.specs.declared.kinds.Builtin.TheVariants as b
use Rattle.loft_tree.specs.declared.kinds.UnaryOperator.{UnaryOperator}
use Rattle.loft_tree.specs.declared.kinds.UnaryOperator.TheVariants as u
use Rattle.loft_tree.specs.declared.kinds.BinaryOperator.{BinaryOperator}
use Rattle.loft_tree.specs.declared.kinds.BinaryOperator.TheVariants as o
use Rattle.loft_tree.specs.Fits.{WordsFit}
use Rattle.loft_tree.specs.Levels.{left_bracketed, right_bracketed, sign_bracketed}
use Rattle.loft_show.specs.Canon.{Piece, held, tight, spaced, sign, word, name, unary_sign, binary_sign, builtin_word, space, expression_pieces, ended, line, lines_text, pieces_text, control_word, word_line, creation_pieces, comma_part, for_part, led_by, further_pieces, event_pieces, bracketed_pieces}
use Rattle.loft_show.specs.PartReads.{IsOneLine}
use Rattle.loft_show.proofs.Texts.{pieces_text-append}
use Rattle.loft_listing_line.specs.Cuts.{is_other, IsWithout}
use Rattle.loft_listing_line.specs.Instructions.{Instruction, Do, Stop, Branch, Enter, Count, Turn, Jump, End, statement_text, value_text, instruction_text, feed}
use Rattle.loft_listing_line.specs.RowsFit.{InstructionFits}
use Rattle.loft_listing_line.specs.Sorts.{sort_of_instruction}
use Rattle.loft_listing_line.specs.declared.sort.DeedSort.{DeedSort}
use Rattle.loft_listing_line.specs.declared.sort.DeedSort.TheVariants as deed
use Rattle.loft_listing_line.proofs.Without.{both_without, decimal_without, name_without}
use Rattle.loft_listing_line.proofs.Bare.{action_line, stop_line}

abbrev pub has_semicolon : List ℕ → Bool
has_semicolon text = list_any (λ b. b == 59) text

-- ---- statements

any_later : (xs ys : List ℕ) → has_semicolon ys ≡ true → has_semicolon (xs ++ ys) ≡ true
any_later xs ys later = list_any-append (λ b. b == 59) xs ys ∙ second_true (has_semicolon xs) (has_semicolon ys) later

any_first : (xs ys : List ℕ) → has_semicolon xs ≡ true → has_semicolon (xs ++ ys) ≡ true
any_first xs ys first = list_any-append (λ b. b == 59) xs ys ∙ ap (λ t. t || has_semicolon ys) first

any_ended : (ps : List Piece) → has_semicolon (pieces_text (ended ps)) ≡ true
any_ended ps = ap has_semicolon (pieces_text-append ps (tight (sign s.Semicolon) ∷ [])) ∙ any_later (pieces_text ps) (pieces_text (tight (sign s.Semicolon) ∷ [])) refl

any_word : (v : Word) (ps : List Piece) → has_semicolon (lines_text (word_line 0 v ps ∷ [])) ≡ true
any_word v ps = any_first (word_spelling v ++ pieces_text (ended ps)) (10 ∷ []) (any_later (word_spelling v) (pieces_text (ended ps)) (any_ended ps))

any_assign : (target : Ident) (qs : List Piece) → has_semicolon (pieces_text qs) ≡ true → has_semicolon (lines_text (line 0 (tight (name target) ∷ qs) ∷ [])) ≡ true
any_assign target qs later = any_first (target.text ++ pieces_text qs) (10 ∷ []) (any_later target.text (pieces_text qs) later)

statement_semicolon : (x : Statement) → IsOneLine x → has_semicolon (statement_text x) ≡ true
statement_semicolon (Assign target value) one =
    any_assign target (spaced (sign s.Equals) ∷ ended (expression_pieces value space)) (any_later (codes " =") (pieces_text (ended (expression_pieces value space))) (any_ended (expression_pieces value space)))
statement_semicolon (AssignCreate target at creation) one =
    any_assign target (spaced (sign s.Equals) ∷ spaced (word w.Create) ∷ ended (creation_pieces creation))
    (any_later (codes " = create") (pieces_text (ended (creation_pieces creation))) (any_ended (creation_pieces creation)))
statement_semicolon (Create at creation) one = any_word w.Create (creation_pieces creation)
statement_semicolon (PrintText at text value) one = any_word w.Print (spaced (Quoted text) ∷ comma_part value)
statement_semicolon (PrintValue at value) one = any_word w.Print (expression_pieces value space)
statement_semicolon (Cooperate at instants) one = any_word w.Cooperate (led_by expression_pieces [] instants)
statement_semicolon (Generate at event value) one = any_word w.Generate (spaced (name event.name) ∷ comma_part value)
statement_semicolon (Await at event limit) one = any_word w.Await (spaced (name event.name) ∷ for_part limit)
statement_semicolon (Select at [] limit) one = any_word w.Select (for_part limit)
statement_semicolon (Select at (event ∷ events) limit) one = any_word w.Select (spaced (name event.name) ∷ (further_pieces event_pieces events ++ for_part limit))
statement_semicolon (Get at event index target) one =
    any_word w.Get (spaced (name event.name) ∷ spaced (word w.At) ∷ (expression_pieces index space ++ spaced (word w.Into) ∷ spaced (name target) ∷ []))
statement_semicolon (Join at thread limit) one = any_word w.Join (expression_pieces thread space ++ for_part limit)
statement_semicolon (ControlThread at control thread scheduler) one =
    any_word (control_word control) (expression_pieces thread space ++ spaced (word w.In) ∷ spaced (name scheduler) ∷ [])
statement_semicolon (Broadcast at event value) one = any_word w.Broadcast (spaced (name event.name) ∷ comma_part value)
statement_semicolon (Link at scheduler) one = any_word w.Link (spaced (name scheduler) ∷ [])
statement_semicolon (Unlink at) one = any_word w.Unlink []
statement_semicolon (Run at called arguments) one = any_word w.Run (spaced (name called) ∷ bracketed_pieces expression_pieces arguments)
statement_semicolon (Halt at) one = any_word w.Halt []
statement_semicolon (If at test first second) one = absurd one
statement_semicolon (While at test body) one = absurd one
statement_semicolon (Repeat at count body) one = absurd one

-- ---- expressions

abbrev Clean : List ℕ → Type 0
Clean text = IsWithout 59 text

abbrev CleanPieces : List Piece → Type 0
CleanPieces ps = Clean (pieces_text ps)

joined : (ps qs : List Piece) → CleanPieces ps → CleanPieces qs → CleanPieces (ps ++ qs)
joined ps qs first rest = subst Clean (sym (pieces_text-append ps qs)) (both_without 59 (pieces_text ps) (pieces_text qs) first rest)

after_gap : (gap text rest : List ℕ) → Clean gap → Clean text → Clean rest → Clean (gap ++ (text ++ rest))
after_gap gap text rest before now after = both_without 59 gap (text ++ rest) before (both_without 59 text rest now after)

builtin_clean : (x : Builtin) → Clean (word_spelling (builtin_word x))
builtin_clean b.Itself = refl
builtin_clean b.Code = refl
builtin_clean b.Mask = refl

unary_clean : (x : UnaryOperator) → CleanPieces (tight (sign (unary_sign x)) ∷ [])
unary_clean u.Minus = refl
unary_clean u.Not = refl

binary_clean : (x : BinaryOperator) → CleanPieces (spaced (sign (binary_sign x)) ∷ [])
binary_clean o.Or = refl
binary_clean o.And = refl
binary_clean o.Equal = refl
binary_clean o.Unequal = refl
binary_clean o.Less = refl
binary_clean o.LessOrEqual = refl
binary_clean o.Greater = refl
binary_clean o.GreaterOrEqual = refl
binary_clean o.Plus = refl
binary_clean o.Minus = refl
binary_clean o.Times = refl
binary_clean o.Divide = refl
binary_clean o.Remainder = refl

held_clean : (t : Bool) (inner : List ℕ → List Piece) (gap : List ℕ) → Clean gap → ((g : List ℕ) → Clean g → CleanPieces (inner g)) → CleanPieces (held t inner gap)
held_clean true inner gap before inside =
    after_gap gap (codes "(") (pieces_text (inner [] ++ tight (sign s.Close) ∷ [])) before refl (joined (inner []) (tight (sign s.Close) ∷ []) (inside [] refl) refl)
held_clean false inner gap before inside = inside gap before

number_clean : (value : ℤ) (n : ℕ) → n ≤ 9223372036854775807 → value ≡ pos n → (gap : List ℕ) → Clean gap → CleanPieces (expression_pieces (Number 0 value) gap)
number_clean value n small is gap before =
    subst (λ v. CleanPieces (expression_pieces (Number 0 v) gap)) (sym is) (after_gap gap (decimal n) [] before (decimal_without 59 n small refl) refl)

expression_clean : (e : Expression) → WordsFit e → (gap : List ℕ) → Clean gap → CleanPieces (expression_pieces e gap)
expression_clean (Number at value) fits gap before = number_clean value fits.0 fits.1 fits.2 gap before
expression_clean (Variable n) fits gap before = after_gap gap n.text [] before (name_without 59 n.text refl fits) refl
expression_clean (Special at builtin) fits gap before = after_gap gap (word_spelling (builtin_word builtin)) [] before (builtin_clean builtin) refl
expression_clean (Unary at operator e) fits gap before =
    both_without 59 gap (pieces_text (tight (sign (unary_sign operator)) ∷ held (sign_bracketed e) (expression_pieces e) [])) before
    (joined (tight (sign (unary_sign operator)) ∷ []) (held (sign_bracketed e) (expression_pieces e) []) (unary_clean operator)
    (held_clean (sign_bracketed e) (expression_pieces e) [] refl (λ g clean. expression_clean e fits g clean)))
expression_clean (Binary operator left right) fits gap before =
    joined (held (left_bracketed operator left) (expression_pieces left) gap) (spaced (sign (binary_sign operator)) ∷ held (right_bracketed operator right) (expression_pieces right) space)
    (held_clean (left_bracketed operator left) (expression_pieces left) gap before (λ g clean. expression_clean left fits.0 g clean))
    (joined (spaced (sign (binary_sign operator)) ∷ []) (held (right_bracketed operator right) (expression_pieces right) space) (binary_clean operator)
    (held_clean (right_bracketed operator right) (expression_pieces right) space refl (λ g clean. expression_clean right fits.1 g clean)))

value_clean : (e : Expression) → WordsFit e → Clean (value_text e)
value_clean e fits = both_without 59 (pieces_text (expression_pieces e space)) feed (expression_clean e fits space refl) refl

-- ---- operations

clean_none : (text : List ℕ) → Clean text → has_semicolon text ≡ false
clean_none [] clean = refl
clean_none (b ∷ bs) clean = go (b == 59) (clean_none bs) clean
  where
    go : (t : Bool) → (Clean bs → has_semicolon bs ≡ false) → (not t && list_all (is_other 59) bs) ≡ true → (t || has_semicolon bs) ≡ false
    go true later all = absurd cc
    go false later all = later all

-- a statement is `Do` or `Stop`
abbrev pub is_statement : DeedSort → Bool
is_statement deed.Do = true
is_statement deed.Stop = true
is_statement deed.Branch = false
is_statement deed.Enter = false
is_statement deed.Count = false
is_statement deed.Turn = false
is_statement deed.Jump = false
is_statement deed.End = false

pub semicolons : (i : Instruction) → InstructionFits i → has_semicolon (instruction_text i) ≡ is_statement (sort_of_instruction i)
semicolons (Do x) fits = statement_semicolon x (action_line x fits)
semicolons (Stop k x) fits = any_later (codes "@") (decimal k ++ (space ++ statement_text x)) (any_later (decimal k) (space ++ statement_text x) (any_later space (statement_text x) (statement_semicolon x (stop_line x fits.1))))
semicolons (Branch t test) fits =
    clean_none (instruction_text (Branch t test)) (after_gap (codes "branch ") (decimal t) (value_text test) refl (decimal_without 59 t fits.0 refl) (value_clean test fits.1.words))
semicolons Enter fits = refl
semicolons (Count count) fits = clean_none (instruction_text (Count count)) (both_without 59 (codes "count") (value_text count) refl (value_clean count fits.words))
semicolons (Turn t) fits = clean_none (instruction_text (Turn t)) (after_gap (codes "turn ") (decimal t) feed refl (decimal_without 59 t fits refl) refl)
semicolons (Jump t) fits = clean_none (instruction_text (Jump t)) (after_gap (codes "jump ") (decimal t) feed refl (decimal_without 59 t fits refl) refl)
semicolons End fits = refl
