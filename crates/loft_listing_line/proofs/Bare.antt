-- Offsets aren't written: a text is that of the same value without them.
use Rattle.std.proofs.Common.{◌≡◌, ℕ, Bool, true, false, List, [], ◌∷◌, ◌++◌, map, Option, Some, None, codes, refl, sym, ap, ◌∙◌}
use Rattle.std.specs.Fmt.{decimal}
use Rattle.std.specs.Option.{option_map}
use Rattle.loft_lex.specs.declared.sign.Sign.TheVariants as s
use Rattle.loft_lex.specs.declared.word.Word.TheVariants as w
use Rattle.loft_lex.specs.Symbol.{Quoted}
use Rattle.loft_tree.specs.Levels.{Signed, Joined, shape_of, brackets_left, brackets_right, brackets_sign, left_bracketed, right_bracketed, sign_bracketed}
use Rattle.loft_tree.specs.Source as src
use Rattle.loft_tree.specs.Source.{Expression, Number, Variable, Special, Unary, Binary, Creation, Statement, Assign, AssignCreate, Create, PrintText, PrintValue, Cooperate, Generate, Await, Select, Get, Join, ControlThread, Broadcast, Link, Unlink, Run, Halt, If, While, Repeat, PlaceName, InScheduler, Unlinked, ModuleHead, Argument, ANumber, AName, CreateThere, ControlThere, BroadcastThere, Declaration, Scheduler, Event, Shared, Module, Start, Outside}
use Rattle.loft_show.specs.Canon.{Piece, held, piece, tight, spaced, sign, word, name, unary_sign, binary_sign, space, expression_pieces, further_pieces, list_pieces, bracketed_pieces, led_by, event_pieces, name_pieces, creation_pieces, comma_part, for_part, word_line, ended, line, statement_lines, control_word, named_pieces, place_pieces, argument_pieces, call_pieces, head_line, order_line, declaration_lines, lines_text, pieces_text}
use Rattle.loft_show.specs.Places.{bare_expression, bare_value, bare_event, bare_name, bare_creation, bare_statement, bare_named, bare_place, bare_argument, bare_head, bare_order, bare_declaration}
use Rattle.loft_show.specs.PartReads.{IsOneLine}
use Rattle.loft_listing_line.specs.Instructions.{Instruction, Do, Stop, Branch, Enter, Count, Turn, Jump, End as EndOf, feed, value_text, instruction_text, bare_instruction}
use Rattle.loft_listing_line.specs.Rows.{ListingLine, Title, Item, Head, Local, Operation, End, Client, Order, Close, line_text, place_text, bare_line}
use Rattle.loft_listing_line.specs.RowsFit.{IsOneLineItem, IsStatementOf, InstructionFits, ListingLineFits}
use Rattle.loft_listing_line.specs.Sorts.{sort_of_statement}
use Rattle.loft_listing_line.specs.declared.sort.StatementSort.{StatementSort}
use Rattle.loft_listing_line.specs.declared.sort.StatementSort.TheVariants as sort

-- ---- expressions

same_shape : (e : Expression) → shape_of (bare_expression e) ≡ shape_of e
same_shape (Number at value) = refl
same_shape (Variable n) = refl
same_shape (Special at builtin) = refl
same_shape (Unary at operator e) = ap Signed (same_shape e)
same_shape (Binary operator left right) =
    ap (λ v. Joined operator v (shape_of (bare_expression right))) (same_shape left) ∙ ap (λ v. Joined operator (shape_of left) v) (same_shape right)

held_as : (b : Bool) (one other : List ℕ → List Piece) (gap : List ℕ) → ((g : List ℕ) → one g ≡ other g) → held b one gap ≡ held b other gap
held_as true one other gap each = ap (λ ps. piece gap (sign s.Open) ∷ (ps ++ tight (sign s.Close) ∷ [])) (each [])
held_as false one other gap each = each gap

same_held : (b c : Bool) (one other : List ℕ → List Piece) (gap : List ℕ) → b ≡ c → ((g : List ℕ) → one g ≡ other g) → held b one gap ≡ held c other gap
same_held b c one other gap same each = ap (λ v. held v one gap) same ∙ held_as c one other gap each

same_expression : (e : Expression) (gap : List ℕ) → expression_pieces (bare_expression e) gap ≡ expression_pieces e gap
same_expression (Number at value) gap = refl
same_expression (Variable n) gap = refl
same_expression (Special at builtin) gap = refl
same_expression (Unary at operator e) gap =
    ap (λ ps. piece gap (sign (unary_sign operator)) ∷ ps)
    (same_held (sign_bracketed (bare_expression e)) (sign_bracketed e) (expression_pieces (bare_expression e)) (expression_pieces e) [] (ap brackets_sign (same_shape e)) (same_expression e))
same_expression (Binary operator left right) gap =
    ap (λ ps. ps ++ (spaced (sign (binary_sign operator)) ∷ held (right_bracketed operator (bare_expression right)) (expression_pieces (bare_expression right)) space))
    (same_held (left_bracketed operator (bare_expression left)) (left_bracketed operator left) (expression_pieces (bare_expression left)) (expression_pieces left) gap (ap (brackets_left operator) (same_shape left)) (same_expression left))
    ∙ ap (λ ps. held (left_bracketed operator left) (expression_pieces left) gap ++ (spaced (sign (binary_sign operator)) ∷ ps))
    (same_held (right_bracketed operator (bare_expression right)) (right_bracketed operator right) (expression_pieces (bare_expression right)) (expression_pieces right) space (ap (brackets_right operator) (same_shape right)) (same_expression right))

-- ---- lists

module _ {A : Type 0} (one : A → List ℕ → List Piece) (bare : A → A) (same : (x : A) (gap : List ℕ) → one (bare x) gap ≡ one x gap) where
  same_further : (xs : List A) → further_pieces one (map bare xs) ≡ further_pieces one xs
  same_further [] = refl
  same_further (x ∷ xs) =
      ap (λ ps. tight (sign s.Comma) ∷ (ps ++ further_pieces one (map bare xs))) (same x space)
      ∙ ap (λ ps. tight (sign s.Comma) ∷ (one x space ++ ps)) (same_further xs)

  same_list : (xs : List A) → list_pieces one (map bare xs) ≡ list_pieces one xs
  same_list [] = refl
  same_list (x ∷ xs) = ap (λ ps. ps ++ further_pieces one (map bare xs)) (same x []) ∙ ap (λ ps. one x [] ++ ps) (same_further xs)

  same_bracketed : (xs : List A) → bracketed_pieces one (map bare xs) ≡ bracketed_pieces one xs
  same_bracketed xs = ap (λ ps. tight (sign s.Open) ∷ (ps ++ tight (sign s.Close) ∷ [])) (same_list xs)

  same_led : (ps : List Piece) (x : Option A) → led_by one ps (option_map bare x) ≡ led_by one ps x
  same_led ps None = refl
  same_led ps (Some x) = ap (λ qs. ps ++ qs) (same x space)

-- ---- statements

same_arguments : (es : List Expression) → bracketed_pieces expression_pieces (map bare_expression es) ≡ bracketed_pieces expression_pieces es
same_arguments es = same_bracketed expression_pieces bare_expression same_expression es

same_creation : (x : Creation) → creation_pieces (bare_creation x) ≡ creation_pieces x
same_creation x = ap (λ ps. spaced (name x.scheduler) ∷ tight (sign s.Dot) ∷ tight (name x.called) ∷ ps) (same_arguments x.arguments)

same_comma : (e : Option Expression) → comma_part (bare_value e) ≡ comma_part e
same_comma e = same_led expression_pieces bare_expression same_expression (tight (sign s.Comma) ∷ []) e

same_for : (e : Option Expression) → for_part (bare_value e) ≡ for_part e
same_for e = same_led expression_pieces bare_expression same_expression (spaced (word w.For) ∷ []) e

same_events : (events : List src.EventName) → further_pieces event_pieces (map bare_event events) ≡ further_pieces event_pieces events
same_events events = same_further event_pieces bare_event (λ event gap. refl) events

same_statement : (x : Statement) → IsOneLine x → statement_lines (bare_statement x) 0 ≡ statement_lines x 0
same_statement (Assign target value) one = ap (λ ps. line 0 (tight (name target) ∷ spaced (sign s.Equals) ∷ ended ps) ∷ []) (same_expression value space)
same_statement (AssignCreate target at creation) one = ap (λ ps. line 0 (tight (name target) ∷ spaced (sign s.Equals) ∷ spaced (word w.Create) ∷ ended ps) ∷ []) (same_creation creation)
same_statement (Create at creation) one = ap (λ ps. word_line 0 w.Create ps ∷ []) (same_creation creation)
same_statement (PrintText at text value) one = ap (λ ps. word_line 0 w.Print (spaced (Quoted text) ∷ ps) ∷ []) (same_comma value)
same_statement (PrintValue at value) one = ap (λ ps. word_line 0 w.Print ps ∷ []) (same_expression value space)
same_statement (Cooperate at instants) one = ap (λ ps. word_line 0 w.Cooperate ps ∷ []) (same_led expression_pieces bare_expression same_expression [] instants)
same_statement (Generate at event value) one = ap (λ ps. word_line 0 w.Generate (spaced (name event.name) ∷ ps) ∷ []) (same_comma value)
same_statement (Await at event limit) one = ap (λ ps. word_line 0 w.Await (spaced (name event.name) ∷ ps) ∷ []) (same_for limit)
same_statement (Select at [] limit) one = ap (λ ps. word_line 0 w.Select ps ∷ []) (same_for limit)
same_statement (Select at (event ∷ events) limit) one =
    ap (λ ps. word_line 0 w.Select (spaced (name event.name) ∷ (ps ++ for_part (bare_value limit))) ∷ []) (same_events events)
    ∙ ap (λ ps. word_line 0 w.Select (spaced (name event.name) ∷ (further_pieces event_pieces events ++ ps)) ∷ []) (same_for limit)
same_statement (Get at event index target) one =
    ap (λ ps. word_line 0 w.Get (spaced (name event.name) ∷ spaced (word w.At) ∷ (ps ++ spaced (word w.Into) ∷ spaced (name target) ∷ [])) ∷ []) (same_expression index space)
same_statement (Join at thread limit) one =
    ap (λ ps. word_line 0 w.Join (ps ++ for_part (bare_value limit)) ∷ []) (same_expression thread space)
    ∙ ap (λ ps. word_line 0 w.Join (expression_pieces thread space ++ ps) ∷ []) (same_for limit)
same_statement (ControlThread at control thread scheduler) one =
    ap (λ ps. word_line 0 (control_word control) (ps ++ spaced (word w.In) ∷ spaced (name scheduler) ∷ []) ∷ []) (same_expression thread space)
same_statement (Broadcast at event value) one = ap (λ ps. word_line 0 w.Broadcast (spaced (name event.name) ∷ ps) ∷ []) (same_comma value)
same_statement (Link at scheduler) one = refl
same_statement (Unlink at) one = refl
same_statement (Run at called arguments) one = ap (λ ps. word_line 0 w.Run (spaced (name called) ∷ ps) ∷ []) (same_arguments arguments)
same_statement (Halt at) one = refl
same_statement (If at test first second) one = absurd one
same_statement (While at test body) one = absurd one
same_statement (Repeat at count body) one = absurd one

-- ---- declarations, heads and orders

same_place : (p : PlaceName) (gap : List ℕ) → place_pieces (bare_place p) gap ≡ place_pieces p gap
same_place (InScheduler n) gap = refl
same_place Unlinked gap = refl

same_argument : (a : Argument) (gap : List ℕ) → argument_pieces (bare_argument a) gap ≡ argument_pieces a gap
same_argument (ANumber at value) gap = refl
same_argument (AName n) gap = refl

same_call : (scheduler called : src.Ident) (arguments : List Argument) → call_pieces (bare_name scheduler) (bare_name called) (map bare_argument arguments) ≡ call_pieces scheduler called arguments
same_call scheduler called arguments =
    ap (λ ps. spaced (name scheduler) ∷ tight (sign s.Dot) ∷ tight (name called) ∷ ps) (same_bracketed argument_pieces bare_argument same_argument arguments)

same_head : (h : ModuleHead) → head_line (bare_head h) ≡ head_line h
same_head h =
    let parameters = same_bracketed named_pieces bare_named (λ v gap. refl) h.parameters in
    let end = same_led place_pieces bare_place same_place (spaced (word w.To) ∷ []) h.end in
    ap (λ ps. line 0 (tight (word w.Module) ∷ spaced (name h.name) ∷ (ps ++ spaced (word w.In) ∷ (place_pieces (bare_place h.begin) space ++ led_by place_pieces (spaced (word w.To) ∷ []) (option_map bare_place h.end))))) parameters
    ∙ ap (λ ps. line 0 (tight (word w.Module) ∷ spaced (name h.name) ∷ (bracketed_pieces named_pieces h.parameters ++ spaced (word w.In) ∷ (ps ++ led_by place_pieces (spaced (word w.To) ∷ []) (option_map bare_place h.end))))) (same_place h.begin space)
    ∙ ap (λ ps. line 0 (tight (word w.Module) ∷ spaced (name h.name) ∷ (bracketed_pieces named_pieces h.parameters ++ spaced (word w.In) ∷ (place_pieces h.begin space ++ ps)))) end

same_order : (x : src.Order) → order_line (bare_order x) ≡ order_line x
same_order (CreateThere scheduler called arguments) = ap (λ ps. word_line 2 w.Create ps) (same_call scheduler called arguments)
same_order (ControlThere control thread scheduler) = refl
same_order (BroadcastThere event value) = refl

same_item : (d : Declaration) → IsOneLineItem d → declaration_lines (bare_declaration d) ≡ declaration_lines d
same_item (Scheduler n) one = refl
same_item (Event n scheduler) one = refl
same_item (Shared n scheduler value) one = refl
same_item (Module head locals body) one = absurd one
same_item (Start scheduler called arguments n) one =
    ap (λ ps. word_line 0 w.Start (ps ++ led_by name_pieces (spaced (word w.As) ∷ []) (option_map bare_name n)) ∷ []) (same_call scheduler called arguments)
    ∙ ap (λ ps. word_line 0 w.Start (call_pieces scheduler called arguments ++ ps) ∷ []) (same_led name_pieces bare_name (λ m gap. refl) (spaced (word w.As) ∷ []) n)
same_item (Outside n orders) one = absurd one

-- ---- lines

-- an action or a stop has no bodies
pub one_line : (v : StatementSort) (x : Statement) → IsStatementOf v x → (v ≡ sort.Compound → ⊥) → IsOneLine x
one_line v (Assign target value) of never = tt
one_line v (AssignCreate target at creation) of never = tt
one_line v (Create at creation) of never = tt
one_line v (PrintText at text value) of never = tt
one_line v (PrintValue at value) of never = tt
one_line v (Cooperate at instants) of never = tt
one_line v (Generate at event value) of never = tt
one_line v (Await at event limit) of never = tt
one_line v (Select at events limit) of never = tt
one_line v (Get at event index target) of never = tt
one_line v (Join at thread limit) of never = tt
one_line v (ControlThread at control thread scheduler) of never = tt
one_line v (Broadcast at event value) of never = tt
one_line v (Link at scheduler) of never = tt
one_line v (Unlink at) of never = tt
one_line v (Run at called arguments) of never = tt
one_line v (Halt at) of never = tt
one_line v (If at test first second) of never = absurd (never (sym of.0))
one_line v (While at test body) of never = absurd (never (sym of.0))
one_line v (Repeat at count body) of never = absurd (never (sym of.0))

pub action_line : (x : Statement) → IsStatementOf sort.Action x → IsOneLine x
action_line x of = one_line sort.Action x of (λ e. cc)

pub stop_line : (x : Statement) → IsStatementOf sort.Stop x → IsOneLine x
stop_line x of = one_line sort.Stop x of (λ e. cc)

-- offsets don't matter for the sort of a statement
pub same_sort : (x : Statement) → sort_of_statement (bare_statement x) ≡ sort_of_statement x
same_sort (Assign target value) = refl
same_sort (AssignCreate target at creation) = refl
same_sort (Create at creation) = refl
same_sort (PrintText at text value) = refl
same_sort (PrintValue at value) = refl
same_sort (Cooperate at instants) = refl
same_sort (Generate at event value) = refl
same_sort (Await at event limit) = refl
same_sort (Select at events limit) = refl
same_sort (Get at event index target) = refl
same_sort (Join at thread limit) = refl
same_sort (ControlThread at control thread scheduler) = refl
same_sort (Broadcast at event value) = refl
same_sort (Link at scheduler) = refl
same_sort (Unlink at) = refl
same_sort (Run at called arguments) = refl
same_sort (Halt at) = refl
same_sort (If at test first second) = refl
same_sort (While at test body) = refl
same_sort (Repeat at count body) = refl

same_value : (e : Expression) → value_text (bare_expression e) ≡ value_text e
same_value e = ap (λ ps. pieces_text ps ++ feed) (same_expression e space)

pub same_instruction : (i : Instruction) → InstructionFits i → instruction_text (bare_instruction i) ≡ instruction_text i
same_instruction (Do x) fits = ap lines_text (same_statement x (action_line x fits))
same_instruction (Stop k x) fits = ap (λ ls. codes "@" ++ (decimal k ++ (space ++ lines_text ls))) (same_statement x (stop_line x fits.1))
same_instruction (Branch t test) fits = ap (λ v. codes "branch " ++ (decimal t ++ v)) (same_value test)
same_instruction Enter fits = refl
same_instruction (Count count) fits = ap (λ v. codes "count" ++ v) (same_value count)
same_instruction (Turn t) fits = refl
same_instruction (Jump t) fits = refl
same_instruction EndOf fits = refl

pub same_line : (l : ListingLine) → ListingLineFits l → line_text (bare_line l) ≡ line_text l
same_line Title fits = refl
same_line (Item d) fits = ap lines_text (same_item d fits.0)
same_line (Head h) fits = ap (λ v. lines_text (v ∷ [])) (same_head h)
same_line (Local v) fits = refl
same_line (Operation number p depth i) fits =
    ap (λ v. decimal number ++ (pieces_text v ++ (space ++ (decimal depth ++ (space ++ instruction_text (bare_instruction i)))))) (same_place p space)
    ∙ ap (λ v. decimal number ++ (place_text p ++ (space ++ (decimal depth ++ (space ++ v))))) (same_instruction i fits.3)
same_line End fits = refl
same_line (Client n) fits = refl
same_line (Order x) fits = ap (λ v. lines_text (v ∷ [])) (same_order x)
same_line Close fits = refl
