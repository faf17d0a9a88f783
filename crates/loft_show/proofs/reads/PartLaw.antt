-- A line of the canonical text reads as the part that it is of.
use Rattle.std.proofs.Common.{◌≡◌, ℕ, ◌+◌, ◌<◌, ◌≤◌, List, [], ◌∷◌, ◌++◌, map, sym, ap, subst, ◌∙◌, lit<, lit≤}
use Rattle.std.proofs.lemmas.List.{append-nil}
use Rattle.loft_lex.specs.declared.word.Word.TheVariants as w
use Rattle.loft_lex.specs.Symbol.{Quoted, symbols}
use Rattle.loft_tree.specs.Source.{Expression, Statement, Assign, AssignCreate, Create, PrintText, PrintValue, Cooperate, Generate, Await, Select, Get, Join, ControlThread, Broadcast, Link, Unlink, Run, Halt, If, While, Repeat, Named, ModuleHead, Order, Declaration, Scheduler, Event, Shared, Module, Start, Outside}
use Rattle.loft_tree.specs.Fits.{Each, ExpressionFits, OrderFits, DeclarationFits, size_of}
use Rattle.loft_form.specs.Form.{Limits, State}
use Rattle.loft_form.specs.Spells.{Spelling, Spells, SpellsRule}
use Rattle.loft_form.specs.Reading.{paid}
use Rattle.loft_grammar.specs.Counts.{none, number, most}
use Rattle.loft_grammar.specs.Language.{Language, Rule, Meaning}
use Rattle.loft_grammar.specs.Symbols.{Form}
use Rattle.loft_grammar.specs.Expressions.{whole}
use Rattle.loft_grammar.specs.Statements.{rules, statement}
use Rattle.loft_grammar.specs.Items.{head, local, order, item}
use Rattle.loft_grammar.specs.Limits.{limits, line_limits, nesting, beginning}
use Rattle.loft_grammar.specs.PartsFit.{NamedFits, HeadFits, LineFits}
use Rattle.loft_show.specs.Canon.{Piece, Line, line, lines_text, expression_pieces, statement_lines, head_line, local_line, order_line, declaration_lines, control_word, space}
use Rattle.loft_show.specs.Places.{bare_expression, bare_statement, bare_named, bare_head, bare_order, bare_declaration}
use Rattle.loft_show.specs.PartReads.{ReadsAs, IsOneLine}
use Rattle.loft_show.proofs.reads.Keeps.{Kept}
use Rattle.loft_show.proofs.reads.Bare.{bare_symbol, bare_rule}
use Rattle.loft_show.proofs.reads.Unplaced as unplaced
use Rattle.loft_show.proofs.reads.Unplaced.{K, rule_kept}
use Rattle.loft_show.proofs.reads.Keeps as keeps
use Rattle.loft_show.proofs.reads.Spelling.{bare, syms, line_pieces, line_loose, strict, Is}
use Rattle.loft_show.proofs.reads.Parts.{Passed, whole_is}
use Rattle.loft_show.proofs.reads.Statements.{StatementIs, assign_is, assign_create_is, create_is, print_text_is, print_value_is, generate_is, await_is, select_is, get_is, broadcast_is, cooperate_is, join_is, control_is, run_is, halt_is, link_is, unlink_is}
use Rattle.loft_show.proofs.reads.Items.{local_is, order_is}
use Rattle.loft_show.proofs.reads.Declarations.{what_of, head_is, declaration_is}
use Rattle.loft_show.proofs.reads.Lexes as lexes
use Rattle.loft_show.proofs.reads.Lexes.{says_lines}
use Rattle.loft_show.proofs.reads.Kept.{◌then◌, word_kept, name_kept, value_kept, comma_kept, for_kept, instants_kept, arguments_kept, expression_kept, space_blank, spaced_is, none as no_pieces, line_kept, word_line_kept}
use Rattle.loft_show.proofs.reads.Lines.{creation_kept, assigned_kept, select_kept, head_kept, named_kept, order_kept, declaration_kept}
use Rattle.loft_show.proofs.reads.Law.{bare_symbols, symbols_of}

-- what symbols without places spell, a text of these lines spells with places
reads_as : {A : Type 0} (lim : Limits Language) (f : Form A) (h : A → A)
    → ((n : ℕ) (Inner : (r : Rule) → Spelling Language (Meaning r)) (kept : (r : Rule) → Kept bare_symbol (Inner r) (bare_rule r)) → K lim n Inner kept f h)
    → (ls : List Line) → Each lexes.LineFits ls → (x : A) (d : State Language) → Is lim nesting f (syms (line_pieces ls)) beginning (h x) d → ReadsAs lim f h (lines_text ls) x
reads_as lim f h kept ls apart x d is =
    let (ts, cut, says) = says_lines ls apart in
    let bares : map bare_symbol (symbols (lines_text ls) ts) ≡ syms (line_pieces ls) = bare_symbols (symbols (lines_text ls) ts) ∙ ap (map bare) says ∙ symbols_of (line_pieces ls) in
    let inner = keeps.kept_rule rules bare_symbol lim bare_rule (λ n Inner inner. rule_kept lim n Inner inner) in
    let (y, same, spelled) = (kept nesting (SpellsRule rules lim nesting) (inner nesting)).keeps (symbols (lines_text ls) ts) beginning (h x) d (subst (λ ss. Spells lim nesting (SpellsRule rules lim nesting) f ss beginning (h x) d) (sym bares) is.spells) in
    (y, (ts, cut, (d, spelled)), sym same)

-- the pieces of one line
on_one_line : {A : Type 0} {lim : Limits Language} {f : Form A} {x : A} {c d : State Language} (ps : List Piece) → Is lim nesting f (syms ps) c x d → Is lim nesting f (syms (ps ++ [])) c x d
on_one_line {lim} {f} {x} {c} {d} ps p = subst (λ qs. Is lim nesting f (syms qs) c x d) (sym (append-nil ps)) p

-- ---- expressions

pub expression_reads : (e : Expression) → ExpressionFits nesting e → ReadsAs limits whole bare_expression (lines_text (line 0 (expression_pieces e []) ∷ [])) e
expression_reads e fits =
    let (d, after, spelled) = (whole_is strict e [] fits).at none in
    reads_as limits whole bare_expression (λ n Inner kept. unplaced.whole_kept limits n Inner kept) (line 0 (expression_pieces e []) ∷ []) (line_kept (expression_kept e fits.words [] tt), tt) e (paid d) (on_one_line (expression_pieces e []) spelled)

-- ---- statements

passed : {es : List Expression} → Each (ExpressionFits nesting) es → Passed line_limits nesting es
passed each = record { each = each; few = tt }

line_is : (x : Statement) → IsOneLine x → LineFits x → StatementIs line_limits nesting x 0
line_is (Assign target value) one fits = assign_is line_loose nesting 0 target value fits.1
line_is (AssignCreate target at creation) one fits = assign_create_is line_loose nesting 0 target at creation (passed fits.1.2)
line_is (Create at creation) one fits = create_is line_loose nesting 0 at creation (passed fits.2)
line_is (PrintText at text value) one fits = print_text_is line_loose nesting 0 at text value fits.1
line_is (PrintValue at value) one fits = print_value_is line_loose nesting 0 at value fits
line_is (Cooperate at instants) one fits = cooperate_is line_loose nesting 0 at instants fits
line_is (Generate at event value) one fits = generate_is line_loose nesting 0 at event value fits.1
line_is (Await at event limit) one fits = await_is line_loose nesting 0 at event limit fits.1
line_is (Select at events limit) one fits = select_is line_loose nesting 0 at events limit fits.1 tt fits.2
line_is (Get at event index target) one fits = get_is line_loose nesting 0 at event index target fits.1
line_is (Join at thread limit) one fits = join_is line_loose nesting 0 at thread limit fits.0 fits.1
line_is (ControlThread at control thread scheduler) one fits = control_is line_loose nesting 0 at control thread scheduler fits.0
line_is (Broadcast at event value) one fits = broadcast_is line_loose nesting 0 at event value fits.1
line_is (Link at scheduler) one fits = link_is line_loose nesting 0 at scheduler
line_is (Unlink at) one fits = unlink_is line_loose nesting 0 at
line_is (Run at called arguments) one fits = run_is line_loose nesting 0 at called arguments (passed fits.1)
line_is (Halt at) one fits = halt_is line_loose nesting 0 at
line_is (If at test first second) one fits = absurd one
line_is (While at test body) one fits = absurd one
line_is (Repeat at count body) one fits = absurd one

line_apart : (x : Statement) → IsOneLine x → LineFits x → Each lexes.LineFits (statement_lines x 0)
line_apart (Assign target value) one fits = (line_kept (assigned_kept target fits.0 (value_kept nesting value fits.1)), tt)
line_apart (AssignCreate target at creation) one fits = (line_kept (assigned_kept target fits.0 (word_kept w.Create then creation_kept nesting creation fits.1.0 fits.1.1 fits.1.2)), tt)
line_apart (Create at creation) one fits = (word_line_kept 0 w.Create (creation_kept nesting creation fits.0 fits.1 fits.2), tt)
line_apart (PrintText at text value) one fits = (word_line_kept 0 w.Print (spaced_is (Quoted text) fits.0 then comma_kept nesting value fits.1), tt)
line_apart (PrintValue at value) one fits = (word_line_kept 0 w.Print (value_kept nesting value fits), tt)
line_apart (Cooperate at instants) one fits = (word_line_kept 0 w.Cooperate (instants_kept nesting instants fits), tt)
line_apart (Generate at event value) one fits = (word_line_kept 0 w.Generate (name_kept event.name fits.0 then comma_kept nesting value fits.1), tt)
line_apart (Await at event limit) one fits = (word_line_kept 0 w.Await (name_kept event.name fits.0 then for_kept nesting limit fits.1), tt)
line_apart (Select at events limit) one fits = select_kept nesting 0 at events limit fits.0 fits.1 fits.2
line_apart (Get at event index target) one fits = (word_line_kept 0 w.Get (name_kept event.name fits.0 then word_kept w.At then value_kept nesting index fits.1 then word_kept w.Into then name_kept target fits.2), tt)
line_apart (Join at thread limit) one fits = (word_line_kept 0 w.Join (value_kept nesting thread fits.0 then for_kept nesting limit fits.1), tt)
line_apart (ControlThread at control thread scheduler) one fits = (word_line_kept 0 (control_word control) (value_kept nesting thread fits.0 then word_kept w.In then name_kept scheduler fits.1), tt)
line_apart (Broadcast at event value) one fits = (word_line_kept 0 w.Broadcast (name_kept event.name fits.0 then comma_kept nesting value fits.1), tt)
line_apart (Link at scheduler) one fits = (word_line_kept 0 w.Link (name_kept scheduler fits), tt)
line_apart (Unlink at) one fits = (word_line_kept 0 w.Unlink no_pieces, tt)
line_apart (Run at called arguments) one fits = (word_line_kept 0 w.Run (name_kept called fits.0 then arguments_kept nesting arguments fits.1), tt)
line_apart (Halt at) one fits = (word_line_kept 0 w.Halt no_pieces, tt)
line_apart (If at test first second) one fits = absurd one
line_apart (While at test body) one fits = absurd one
line_apart (Repeat at count body) one fits = absurd one

one_statement : (x : Statement) → IsOneLine x → none.statements + size_of x ≤ 4096
one_statement (Assign target value) one = lit≤ tt
one_statement (AssignCreate target at creation) one = lit≤ tt
one_statement (Create at creation) one = lit≤ tt
one_statement (PrintText at text value) one = lit≤ tt
one_statement (PrintValue at value) one = lit≤ tt
one_statement (Cooperate at instants) one = lit≤ tt
one_statement (Generate at event value) one = lit≤ tt
one_statement (Await at event limit) one = lit≤ tt
one_statement (Select at events limit) one = lit≤ tt
one_statement (Get at event index target) one = lit≤ tt
one_statement (Join at thread limit) one = lit≤ tt
one_statement (ControlThread at control thread scheduler) one = lit≤ tt
one_statement (Broadcast at event value) one = lit≤ tt
one_statement (Link at scheduler) one = lit≤ tt
one_statement (Unlink at) one = lit≤ tt
one_statement (Run at called arguments) one = lit≤ tt
one_statement (Halt at) one = lit≤ tt
one_statement (If at test first second) one = absurd one
one_statement (While at test body) one = absurd one
one_statement (Repeat at count body) one = absurd one

pub statement_reads : (x : Statement) → IsOneLine x → LineFits x → ReadsAs line_limits statement bare_statement (lines_text (statement_lines x 0)) x
statement_reads x one fits =
    let (d, after, spelled) = (line_is x one fits).at none (one_statement x one) in
    reads_as line_limits statement bare_statement (λ n Inner kept. unplaced.statement_kept line_limits n Inner kept) (statement_lines x 0) (line_apart x one fits) x (paid d) spelled

-- ---- declarations

pub declaration_reads : (x : Declaration) → DeclarationFits x → ReadsAs limits item bare_declaration (lines_text (declaration_lines x)) x
declaration_reads x fits =
    let (d, same, spelled) = declaration_is x fits none (room x) in
    reads_as limits item bare_declaration (λ n Inner kept. unplaced.item_kept limits n Inner kept) (declaration_lines x) (declaration_kept x fits) x (paid d) spelled
  where
    room : (x : Declaration) → number (what_of x) none < most (what_of x)
    room (Scheduler name) = lit< tt
    room (Event name scheduler) = lit< tt
    room (Shared name scheduler value) = lit< tt
    room (Module h locals body) = lit< tt
    room (Start scheduler called arguments name) = lit< tt
    room (Outside name orders) = lit< tt

pub head_reads : (h : ModuleHead) → HeadFits h → ReadsAs limits head bare_head (lines_text (head_line h ∷ [])) h
head_reads h fits =
    let (d, after, spelled) = head_is h fits.few_parameters fits.end none (lit< tt) in
    reads_as limits head bare_head (λ n Inner kept. unplaced.head_kept limits n Inner kept) (head_line h ∷ []) (head_kept h fits.name fits.parameters fits.begin fits.end, tt) h (paid d) (on_one_line (head_line h).pieces spelled)

pub local_reads : (n : ℕ) (v : Named) → NamedFits v → ReadsAs limits local bare_named (lines_text (local_line n v ∷ [])) v
local_reads n v fits =
    reads_as limits local bare_named (λ m Inner kept. unplaced.local_kept limits m Inner kept) (local_line n v ∷ []) (word_line_kept n w.Local (named_kept v fits space space_blank), tt) v _ (local_is nesting v none (lit< tt))

pub order_reads : (x : Order) → OrderFits x → ReadsAs limits order bare_order (lines_text (order_line x ∷ [])) x
order_reads x fits =
    let (d, after, spelled) = order_is nesting x fits none (lit< tt) in
    reads_as limits order bare_order (λ n Inner kept. unplaced.order_kept limits n Inner kept) (order_line x ∷ []) (order_kept x fits, tt) x (paid d) (on_one_line (order_line x).pieces spelled)
