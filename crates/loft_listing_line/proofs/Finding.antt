-- What the readers of parts find in a line.
use Rattle.std.proofs.Common.{◌≡◌, ℕ, ◌+◌, ◌≤◌, true, false, List, [], ◌∷◌, ◌++◌, length, Option, Some, None, Result, Ok, Err, refl, sym, ap, subst, ◌∙◌, arith, lit≤}
use Rattle.std.specs.Prelude.{IfOk}
use Rattle.std.specs.Option.{option_map}
use Rattle.std.proofs.lemmas.List.{append-nil, length-append}
use Rattle.loft_base.specs.declared.errors.NoMemory.{NoMemory}
use Rattle.loft_lex.specs.declared.TheConstants.{MAX_OFFSET}
use Rattle.loft_tree.specs.Source as src
use Rattle.loft_tree.specs.Source.{Ident, Variable, Statement, Declaration}
use Rattle.loft_tree.specs.View.{expression_of, statement_of, named_of, head_of, order_of, declaration_of}
use Rattle.loft_tree.specs.declared.expression.Expr.{Expr}
use Rattle.loft_tree.specs.declared.statement.Stmt.{Stmt}
use Rattle.loft_tree.specs.declared.program.Variable.{Variable as VariableInMemory}
use Rattle.loft_tree.specs.declared.program.ModuleHead.{ModuleHead as ModuleHeadInMemory}
use Rattle.loft_tree.specs.declared.program.OutsideOrder.{OutsideOrder as OrderInMemory}
use Rattle.loft_tree.specs.declared.program.Item.{Item}
use Rattle.loft_tree.specs.Fits.{NameFits, ExpressionFits, OrderFits, DeclarationFits}
use Rattle.loft_form.specs.Form.{Limits}
use Rattle.loft_grammar.specs.Language.{Language}
use Rattle.loft_grammar.specs.Symbols.{Form}
use Rattle.loft_grammar.specs.Expressions.{whole}
use Rattle.loft_grammar.specs.Statements.{statement}
use Rattle.loft_grammar.specs.Items.{head, local, order, item}
use Rattle.loft_grammar.specs.Limits.{limits, line_limits, nesting}
use Rattle.loft_grammar.specs.Texts.{SpellsPart}
use Rattle.loft_grammar.specs.PartsFit.{NamedFits, HeadFits, LineFits}
use Rattle.loft_show.specs.Canon.{lines_text, pieces_text, expression_pieces, declaration_lines, head_line, local_line, order_line}
use Rattle.loft_show.specs.Places.{bare_expression, bare_name, bare_statement, bare_declaration, bare_head, bare_named, bare_order}
use Rattle.loft_show.specs.PartReads.{ReadsAs, IsOneLine}
use Rattle.loft_show.proofs.reads.PartLaw.{expression_reads, statement_reads, declaration_reads, head_reads, local_reads, order_reads}
use denote.Enum.Bare.{sameb}
use Rattle.loft_listing_line.specs.contracts.sort.StatementSort.{the_type}
use Rattle.loft_listing_line.specs.declared.sort.StatementSort.{StatementSort}
use Rattle.loft_listing_line.specs.declared.sort.StatementSort.TheVariants as sort
use Rattle.loft_listing_line.specs.Sorts.{sort_of_statement}
use Rattle.loft_listing_line.specs.RowsFit.{IsOneLineItem, IsStatementOf}
use Rattle.loft_listing_line.specs.Finds.{Finds}
use Rattle.loft_listing_line.proofs.Bare.{one_line, same_sort}
use Rattle.loft_listing_line.proofs.Without.{name_short}
use Rattle.loft_listing_line.specs.Instructions.{feed, statement_text}

-- a reader answers with each part that the text is
abbrev Reads : {X A : Type 0} → (X → A) → Limits Language → Form A → List ℕ → Result (Option X) NoMemory → Type 0
Reads {X} {A} of lim f text result = (y : A) → SpellsPart lim f text y → length text ≤ MAX_OFFSET → IfOk result (λ found. option_map of found ≡ Some y)

found_bare : {X A : Type 0} (of : X → A) (bare : A → A) (found : Option X) (x y : A) → option_map of found ≡ Some y → bare y ≡ bare x → option_map (λ v. bare (of v)) found ≡ Some (bare x)
found_bare of bare None x y is same = cc
found_bare of bare (Some v) x y is same = let e : of v ≡ y = cc in ap Some (ap bare e ∙ same)

-- what is found, where it was nothing and where it was something
pub none_found : {X A : Type 0} (of : X → A) (bare : A → A) (found : Option X) (x : A) → found ≡ None → option_map (λ v. bare (of v)) found ≡ Some (bare x) → ⊥
none_found of bare found x is same = let h : option_map (λ v. bare (of v)) None ≡ Some (bare x) = subst (λ f. option_map (λ v. bare (of v)) f ≡ Some (bare x)) is same in cc

pub some_found : {X A : Type 0} (of : X → A) (bare : A → A) (found : Option X) (v : X) (x : A) → found ≡ Some v → option_map (λ y. bare (of y)) found ≡ Some (bare x) → bare (of v) ≡ bare x
some_found of bare found v x is same = let h : option_map (λ y. bare (of y)) (Some v) ≡ Some (bare x) = subst (λ f. option_map (λ y. bare (of y)) f ≡ Some (bare x)) is same in cc

-- so what it finds in a text that reads as a part is that part, but for offsets
reads_found : {X A : Type 0} (of : X → A) (bare : A → A) (lim : Limits Language) (f : Form A) (text : List ℕ) (result : Result (Option X) NoMemory) (x : A)
    → Reads of lim f text result → ReadsAs lim f bare text x → length text ≤ MAX_OFFSET → IfOk result (λ found. option_map (λ v. bare (of v)) found ≡ Some (bare x))
reads_found of bare lim f text (Ok found) x only (y, spells, same) short = found_bare of bare found x y (only y spells short) same
reads_found of bare lim f text (Err e) x only reads short = tt

pub head_found : (text : List ℕ) (result : Result (Option ModuleHeadInMemory) NoMemory) → Reads head_of limits head text result
    → Finds head_of bare_head HeadFits (λ h. lines_text (head_line h ∷ [])) text result
head_found text result only x fits same short =
    reads_found head_of bare_head limits head text result x only (subst (λ t. ReadsAs limits head bare_head t x) (sym same) (head_reads x fits)) short

pub local_found : (text : List ℕ) (result : Result (Option VariableInMemory) NoMemory) → Reads named_of limits local text result
    → Finds named_of bare_named NamedFits (λ v. lines_text (local_line 0 v ∷ [])) text result
local_found text result only x fits same short =
    reads_found named_of bare_named limits local text result x only (subst (λ t. ReadsAs limits local bare_named t x) (sym same) (local_reads 0 x fits)) short

pub order_found : (text : List ℕ) (result : Result (Option OrderInMemory) NoMemory) → Reads order_of limits order text result
    → Finds order_of bare_order OrderFits (λ x. lines_text (order_line x ∷ [])) text result
order_found text result only x fits same short =
    reads_found order_of bare_order limits order text result x only (subst (λ t. ReadsAs limits order bare_order t x) (sym same) (order_reads x fits)) short

pub declaration_found : (text : List ℕ) (result : Result (Option Item) NoMemory) → Reads declaration_of limits item text result
    → Finds declaration_of bare_declaration DeclarationFits (λ d. lines_text (declaration_lines d)) text result
declaration_found text result only x fits same short =
    reads_found declaration_of bare_declaration limits item text result x only (subst (λ t. ReadsAs limits item bare_declaration t x) (sym same) (declaration_reads x fits)) short

pub statement_found : (text : List ℕ) (result : Result (Option Stmt) NoMemory) → Reads statement_of line_limits statement text result
    → Finds statement_of bare_statement (λ x. IsOneLine x × LineFits x) statement_text text result
statement_found text result only x fits same short =
    reads_found statement_of bare_statement line_limits statement text result x only (subst (λ t. ReadsAs line_limits statement bare_statement t x) (sym same) (statement_reads x fits.0 fits.1)) short

pub expression_found : (text : List ℕ) (result : Result (Option Expr) NoMemory) → Reads expression_of limits whole text result
    → Finds expression_of bare_expression (ExpressionFits nesting) (λ e. pieces_text (expression_pieces e []) ++ feed) text result
expression_found text result only x fits same short =
    reads_found expression_of bare_expression limits whole text result x only (subst (λ t. ReadsAs limits whole bare_expression t x) (sym same) (expression_reads x fits)) short

-- ---- statements of a sort

same_self : (v : StatementSort) → sameb the_type v v ≡ true
same_self sort.Action = refl
same_self sort.Stop = refl
same_self sort.Compound = refl

pub of_sort : (v : StatementSort) (text : List ℕ) (found : Option Stmt) → (v ≡ sort.Compound → ⊥) → Reads statement_of line_limits statement text (Ok found)
    → Finds statement_of bare_statement (IsStatementOf v) statement_text text (Ok found)
of_sort v text found never only x of same short = statement_found text (Ok found) only x (one_line v x of never, of.1) same short

-- what is found is of the sort
pub never_other : (v u : StatementSort) (found : Stmt) (x : Statement) → sort_of_statement x ≡ v → u ≡ sort_of_statement (statement_of found) → sameb the_type u v ≡ false
    → option_map (λ y. bare_statement (statement_of y)) (Some found) ≡ Some (bare_statement x) → ⊥
never_other v u found x of is other same =
    let e : bare_statement (statement_of found) ≡ bare_statement x = cc in
    let s : u ≡ v = is ∙ sym (same_sort (statement_of found)) ∙ ap sort_of_statement e ∙ same_sort x ∙ of in
    let t : sameb the_type v v ≡ false = subst (λ w. sameb the_type w v ≡ false) s other in
    let yes' = same_self v in cc

-- ---- names

pub name_fits : (n : Ident) → NameFits n → ExpressionFits nesting (Variable n)
name_fits n fits = record { words = fits; nests = lit≤ tt; few = lit≤ tt }

-- a name and a line feed are read as the name
pub name_found : (n : Ident) (bytes text : List ℕ) (found : Option Expr) → NameFits n → bytes ≡ n.text → text ≡ bytes ++ 10 ∷ []
    → Finds expression_of bare_expression (ExpressionFits nesting) (λ e. pieces_text (expression_pieces e []) ++ feed) text (Ok found)
    → option_map (λ v. bare_expression (expression_of v)) found ≡ Some (Variable (bare_name n))
name_found n bytes text found fits same whole finds =
    let written : text ≡ (n.text ++ []) ++ 10 ∷ [] = whole ∙ ap (λ t. t ++ 10 ∷ []) (same ∙ sym (append-nil n.text)) in
    let long : length text ≡ length bytes + 1 = ap length whole ∙ length-append bytes (10 ∷ []) in
    let short : length bytes ≤ 64 = subst (λ t. length t ≤ 64) (sym same) (name_short n.text fits) in
    finds (Variable n) (name_fits n fits) written (omega (arith, long, short))

pub value_named : (n : Ident) (value : Expr) (found : Option Expr) → found ≡ Some value → option_map (λ v. bare_expression (expression_of v)) found ≡ Some (Variable (bare_name n))
    → bare_expression (expression_of value) ≡ Variable (bare_name n)
value_named n value found is same = let h : option_map (λ v. bare_expression (expression_of v)) (Some value) ≡ Some (Variable (bare_name n)) = subst (λ f. option_map (λ v. bare_expression (expression_of v)) f ≡ Some (Variable (bare_name n))) is same in cc

-- ---- declarations of one line

bare_line_item : (d : Declaration) → IsOneLineItem d → IsOneLineItem (bare_declaration d)
bare_line_item (src.Scheduler n) one = tt
bare_line_item (src.Event n scheduler) one = tt
bare_line_item (src.Shared n scheduler value) one = tt
bare_line_item (src.Module h locals body) one = one
bare_line_item (src.Start scheduler called arguments n) one = tt
bare_line_item (src.Outside n orders) one = one

line_item : (d : Declaration) → IsOneLineItem (bare_declaration d) → IsOneLineItem d
line_item (src.Scheduler n) one = tt
line_item (src.Event n scheduler) one = tt
line_item (src.Shared n scheduler value) one = tt
line_item (src.Module h locals body) one = one
line_item (src.Start scheduler called arguments n) one = tt
line_item (src.Outside n orders) one = one

pub one_line_found : (item : Item) (x : Declaration) → IsOneLineItem x → option_map (λ v. bare_declaration (declaration_of v)) (Some item) ≡ Some (bare_declaration x) → IsOneLineItem (declaration_of item)
one_line_found item x one same =
    let e : bare_declaration (declaration_of item) ≡ bare_declaration x = cc in
    line_item (declaration_of item) (subst IsOneLineItem (sym e) (bare_line_item x one))
