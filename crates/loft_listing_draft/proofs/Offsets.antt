-- Offsets don't matter for limits and texts, and the names of a line have the offset at which it stands.
use Rattle.std.proofs.Common.{◌≡◌, ℕ, ◌≤◌, List, map, Option, Some, None, refl, sym, ap, subst, ◌∙◌}
use Rattle.std.specs.Option.{option_map}
use Rattle.std.proofs.lemmas.List.{length-map}
use Rattle.loft_tree.specs.Levels.{Shape, Signed, Joined, shape_of, shape_nesting, shape_operands}
use Rattle.loft_tree.specs.Source as src
use Rattle.loft_tree.specs.Source.{EventName, Expression, Number, Variable, Special, Unary, Binary, Creation, Statement, Assign, AssignCreate, Create, PrintText, PrintValue, Cooperate, Generate, Await, Select, Get, Join, ControlThread, Broadcast, Link, Unlink, Run, Halt, If, While, Repeat, Named, PlaceName, InScheduler, Unlinked, ModuleHead, Argument, ANumber, AName, CreateThere, ControlThere, BroadcastThere, Declaration, Scheduler, Event, Shared, Module, Start, Outside}
use Rattle.loft_tree.specs.Fits.{Each, IfThere, NameFits, EventNameFits, WordsFit, ExpressionFits, PlaceFits, EndFits, same_place, ArgumentFits, CallFits, OrderFits, DeclarationFits}
use Rattle.loft_tree.specs.declared.limits.TheConstants.{MAX_OPERANDS, MAX_ARGUMENTS, MAX_PARAMETERS}
use Rattle.loft_grammar.specs.Limits.{nesting}
use Rattle.loft_grammar.specs.PartsFit.{NamedFits, HeadFits, LineFits, LineCreationFits}
use Rattle.loft_show.specs.Places.{bare_expression, bare_value, bare_event, bare_name, bare_creation, bare_statement, bare_named, bare_place, bare_argument, bare_head, bare_order, bare_declaration}
use Rattle.loft_show.specs.PartReads.{IsOneLine}
use Rattle.loft_listing_line.specs.Instructions.{Instruction, Do, Stop, Branch, Enter, Count, Turn, Jump, End as EndOf, bare_instruction}
use Rattle.loft_listing_line.specs.Rows.{ListingLine, Title, Item, Head, Local, Operation, End, Client, Order, Close, line_text, bare_line}
use Rattle.loft_listing_line.specs.RowsFit.{IsOneLineItem, IsStatementOf, InstructionFits, ListingLineFits}
use Rattle.loft_listing_line.specs.declared.sort.StatementSort.{StatementSort}
use Rattle.loft_listing_line.proofs.Bare.{same_sort, same_line, action_line, stop_line}
use Rattle.loft_listing_draft.specs.Lined.{name_at, variable_at, place_at, head_at, argument_at, order_at, item_at, line_at}
use Rattle.loft_listing_draft.proofs.Lists.{each_map, there_map, map_twice, option_twice, map_same, option_same}

-- ---- limits: expressions and statements

bare_shape : (e : Expression) → shape_of (bare_expression e) ≡ shape_of e
bare_shape (Number at value) = refl
bare_shape (Variable n) = refl
bare_shape (Special at builtin) = refl
bare_shape (Unary at operator e) = ap Signed (bare_shape e)
bare_shape (Binary operator left right) =
    ap (λ v. Joined operator v (shape_of (bare_expression right))) (bare_shape left) ∙ ap (λ v. Joined operator (shape_of left) v) (bare_shape right)

bare_words : (e : Expression) → WordsFit e → WordsFit (bare_expression e)
bare_words (Number at value) fits = fits
bare_words (Variable n) fits = fits
bare_words (Special at builtin) fits = fits
bare_words (Unary at operator e) fits = bare_words e fits
bare_words (Binary operator left right) fits = (bare_words left fits.0, bare_words right fits.1)

bare_expression_fits : (n : ℕ) (e : Expression) → ExpressionFits n e → ExpressionFits n (bare_expression e)
bare_expression_fits n e fits =
    let within : Shape → Type 0 = λ v. shape_nesting v ≤ n in
    let few : Shape → Type 0 = λ v. shape_operands v ≤ MAX_OPERANDS in
    record { words = bare_words e fits.words; nests = subst within (sym (bare_shape e)) fits.nests; few = subst few (sym (bare_shape e)) fits.few }

bare_value_fits : (e : Option Expression) → IfThere (ExpressionFits nesting) e → IfThere (ExpressionFits nesting) (bare_value e)
bare_value_fits e fits = there_map (ExpressionFits nesting) (ExpressionFits nesting) bare_expression (bare_expression_fits nesting) e fits

bare_arguments_fit : (es : List Expression) → Each (ExpressionFits nesting) es → Each (ExpressionFits nesting) (map bare_expression es)
bare_arguments_fit es fit = each_map (ExpressionFits nesting) (ExpressionFits nesting) bare_expression (bare_expression_fits nesting) es fit

bare_events_fit : (events : List EventName) → Each EventNameFits events → Each EventNameFits (map bare_event events)
bare_events_fit events fit = each_map EventNameFits EventNameFits bare_event (λ event is. is) events fit

bare_creation_fits : (x : Creation) → LineCreationFits x → LineCreationFits (bare_creation x)
bare_creation_fits x fits = (fits.0, fits.1, bare_arguments_fit x.arguments fits.2)

bare_statement_fits : (x : Statement) → LineFits x → LineFits (bare_statement x)
bare_statement_fits (Assign target value) fits = (fits.0, bare_expression_fits nesting value fits.1)
bare_statement_fits (AssignCreate target at creation) fits = (fits.0, bare_creation_fits creation fits.1)
bare_statement_fits (Create at creation) fits = bare_creation_fits creation fits
bare_statement_fits (PrintText at text value) fits = (fits.0, bare_value_fits value fits.1)
bare_statement_fits (PrintValue at value) fits = bare_expression_fits nesting value fits
bare_statement_fits (Cooperate at instants) fits = bare_value_fits instants fits
bare_statement_fits (Generate at event value) fits = (fits.0, bare_value_fits value fits.1)
bare_statement_fits (Await at event limit) fits = (fits.0, bare_value_fits limit fits.1)
bare_statement_fits (Select at events limit) fits =
    let several : ℕ → Type 0 = λ n. 2 ≤ n in
    (bare_events_fit events fits.0, subst several (sym (length-map events bare_event)) fits.1, bare_value_fits limit fits.2)
bare_statement_fits (Get at event index target) fits = (fits.0, bare_expression_fits nesting index fits.1, fits.2)
bare_statement_fits (Join at thread limit) fits = (bare_expression_fits nesting thread fits.0, bare_value_fits limit fits.1)
bare_statement_fits (ControlThread at control thread scheduler) fits = (bare_expression_fits nesting thread fits.0, fits.1)
bare_statement_fits (Broadcast at event value) fits = (fits.0, bare_value_fits value fits.1)
bare_statement_fits (Link at scheduler) fits = fits
bare_statement_fits (Unlink at) fits = tt
bare_statement_fits (Run at called arguments) fits = (fits.0, bare_arguments_fit arguments fits.1)
bare_statement_fits (Halt at) fits = tt
bare_statement_fits (If at test first second) fits = tt
bare_statement_fits (While at test body) fits = tt
bare_statement_fits (Repeat at count body) fits = tt

bare_statement_is : (v : StatementSort) (x : Statement) → IsStatementOf v x → IsStatementOf v (bare_statement x)
bare_statement_is v x is = (same_sort x ∙ is.0, bare_statement_fits x is.1)

bare_instruction_fits : (i : Instruction) → InstructionFits i → InstructionFits (bare_instruction i)
bare_instruction_fits (Do x) fits = (same_sort x ∙ fits.0, bare_statement_fits x fits.1)
bare_instruction_fits (Stop k x) fits = (fits.0, (same_sort x ∙ fits.1.0, bare_statement_fits x fits.1.1))
bare_instruction_fits (Branch t test) fits = (fits.0, bare_expression_fits nesting test fits.1)
bare_instruction_fits Enter fits = tt
bare_instruction_fits (Count count) fits = bare_expression_fits nesting count fits
bare_instruction_fits (Turn t) fits = fits
bare_instruction_fits (Jump t) fits = fits
bare_instruction_fits EndOf fits = tt

bare_place_fits : (p : PlaceName) → PlaceFits p → PlaceFits (bare_place p)
bare_place_fits (InScheduler n) fits = fits
bare_place_fits Unlinked fits = tt

-- ---- limits: declarations, heads and orders

place_at_fits : (here : ℕ) (p : PlaceName) → PlaceFits p → PlaceFits (place_at here p)
place_at_fits here (InScheduler n) fits = fits
place_at_fits here Unlinked fits = tt

same_places : (here : ℕ) (p q : PlaceName) → same_place (place_at here p) (place_at here q) ≡ same_place p q
same_places here (InScheduler m) (InScheduler n) = refl
same_places here (InScheduler m) Unlinked = refl
same_places here Unlinked (InScheduler n) = refl
same_places here Unlinked Unlinked = refl

end_at_fits : (here : ℕ) (begin : PlaceName) (end : Option PlaceName) → EndFits begin end → EndFits (place_at here begin) (option_map (place_at here) end)
end_at_fits here begin None fits = tt
end_at_fits here begin (Some end) fits = (place_at_fits here end fits.0, same_places here begin end ∙ fits.1)

head_at_fits : (here : ℕ) (h : ModuleHead) → HeadFits h → HeadFits (head_at here h)
head_at_fits here h fits =
    let few : ℕ → Type 0 = λ n. n ≤ MAX_PARAMETERS in
    record {
      name = fits.name;
      parameters = each_map NamedFits NamedFits (variable_at here) (λ v is. is) h.parameters fits.parameters;
      few_parameters = subst few (sym (length-map h.parameters (variable_at here))) fits.few_parameters;
      begin = place_at_fits here h.begin fits.begin;
      end = end_at_fits here h.begin h.end fits.end;
    }

argument_at_fits : (here : ℕ) (a : Argument) → ArgumentFits a → ArgumentFits (argument_at here a)
argument_at_fits here (ANumber at value) fits = fits
argument_at_fits here (AName n) fits = fits

call_at_fits : (here : ℕ) (scheduler called : src.Ident) (arguments : List Argument) → CallFits scheduler called arguments → CallFits (name_at here scheduler) (name_at here called) (map (argument_at here) arguments)
call_at_fits here scheduler called arguments fits =
    let few : ℕ → Type 0 = λ n. n ≤ MAX_ARGUMENTS in
    record {
      there = fits.there;
      runs = fits.runs;
      each = each_map ArgumentFits ArgumentFits (argument_at here) (argument_at_fits here) arguments fits.each;
      few = subst few (sym (length-map arguments (argument_at here))) fits.few;
    }

order_at_fits : (here : ℕ) (x : src.Order) → OrderFits x → OrderFits (order_at here x)
order_at_fits here (CreateThere scheduler called arguments) fits = call_at_fits here scheduler called arguments fits
order_at_fits here (ControlThere control thread scheduler) fits = fits
order_at_fits here (BroadcastThere event value) fits = fits

one_line_item : (here : ℕ) (d : Declaration) → IsOneLineItem d → IsOneLineItem (item_at here d)
one_line_item here (Scheduler n) is = tt
one_line_item here (Event n scheduler) is = tt
one_line_item here (Shared n scheduler value) is = tt
one_line_item here (Module head locals body) is = is
one_line_item here (Start scheduler called arguments n) is = tt
one_line_item here (Outside n orders) is = is

item_at_fits : (here : ℕ) (d : Declaration) → IsOneLineItem d → DeclarationFits d → DeclarationFits (item_at here d)
item_at_fits here (Scheduler n) is fits = fits
item_at_fits here (Event n scheduler) is fits = fits
item_at_fits here (Shared n scheduler value) is fits = fits
item_at_fits here (Module head locals body) is fits = absurd is
item_at_fits here (Start scheduler called arguments n) is fits = (call_at_fits here scheduler called arguments fits.0, there_map NameFits NameFits (name_at here) (λ m ok. ok) n fits.1)
item_at_fits here (Outside n orders) is fits = absurd is

pub line_at_fits : (here : ℕ) (l : ListingLine) → ListingLineFits l → ListingLineFits (line_at here l)
line_at_fits here Title fits = tt
line_at_fits here (Item d) fits = (one_line_item here d fits.0, item_at_fits here d fits.0 fits.1)
line_at_fits here (Head h) fits = head_at_fits here h fits
line_at_fits here (Local v) fits = fits
line_at_fits here (Operation k p d i) fits = (fits.0, bare_place_fits p fits.1, fits.2, bare_instruction_fits i fits.3)
line_at_fits here End fits = tt
line_at_fits here (Client n) fits = fits
line_at_fits here (Order x) fits = order_at_fits here x fits
line_at_fits here Close fits = tt

-- ---- offsets twice: expressions and statements

bare_twice : (e : Expression) → bare_expression (bare_expression e) ≡ bare_expression e
bare_twice (Number at value) = refl
bare_twice (Variable n) = refl
bare_twice (Special at builtin) = refl
bare_twice (Unary at operator e) = ap (λ v. Unary 0 operator v) (bare_twice e)
bare_twice (Binary operator left right) =
    ap (λ v. Binary operator v (bare_expression (bare_expression right))) (bare_twice left) ∙ ap (λ v. Binary operator (bare_expression left) v) (bare_twice right)

value_twice : (e : Option Expression) → bare_value (bare_value e) ≡ bare_value e
value_twice e = option_twice bare_expression bare_expression bare_expression bare_twice e

expressions_twice : (es : List Expression) → map bare_expression (map bare_expression es) ≡ map bare_expression es
expressions_twice es = map_twice bare_expression bare_expression bare_expression bare_twice es

events_twice : (events : List EventName) → map bare_event (map bare_event events) ≡ map bare_event events
events_twice events = map_twice bare_event bare_event bare_event (λ event. refl) events

creation_twice : (x : Creation) → bare_creation (bare_creation x) ≡ bare_creation x
creation_twice x =
    let make : List Expression → Creation = λ es. record { scheduler = bare_name x.scheduler; called = bare_name x.called; arguments = es } in
    ap make (expressions_twice x.arguments)

statement_twice : (x : Statement) → IsOneLine x → bare_statement (bare_statement x) ≡ bare_statement x
statement_twice (Assign target value) one = ap (λ v. Assign (bare_name target) v) (bare_twice value)
statement_twice (AssignCreate target at creation) one = ap (λ v. AssignCreate (bare_name target) 0 v) (creation_twice creation)
statement_twice (Create at creation) one = ap (λ v. Create 0 v) (creation_twice creation)
statement_twice (PrintText at text value) one = ap (λ v. PrintText 0 text v) (value_twice value)
statement_twice (PrintValue at value) one = ap (λ v. PrintValue 0 v) (bare_twice value)
statement_twice (Cooperate at instants) one = ap (λ v. Cooperate 0 v) (value_twice instants)
statement_twice (Generate at event value) one = ap (λ v. Generate 0 (bare_event event) v) (value_twice value)
statement_twice (Await at event limit) one = ap (λ v. Await 0 (bare_event event) v) (value_twice limit)
statement_twice (Select at events limit) one =
    ap (λ v. Select 0 v (bare_value (bare_value limit))) (events_twice events) ∙ ap (λ v. Select 0 (map bare_event events) v) (value_twice limit)
statement_twice (Get at event index target) one = ap (λ v. Get 0 (bare_event event) v (bare_name target)) (bare_twice index)
statement_twice (Join at thread limit) one = ap (λ v. Join 0 v (bare_value (bare_value limit))) (bare_twice thread) ∙ ap (λ v. Join 0 (bare_expression thread) v) (value_twice limit)
statement_twice (ControlThread at control thread scheduler) one = ap (λ v. ControlThread 0 control v (bare_name scheduler)) (bare_twice thread)
statement_twice (Broadcast at event value) one = ap (λ v. Broadcast 0 (bare_event event) v) (value_twice value)
statement_twice (Link at scheduler) one = refl
statement_twice (Unlink at) one = refl
statement_twice (Run at called arguments) one = ap (λ v. Run 0 (bare_name called) v) (expressions_twice arguments)
statement_twice (Halt at) one = refl
statement_twice (If at test first second) one = absurd one
statement_twice (While at test body) one = absurd one
statement_twice (Repeat at count body) one = absurd one

instruction_twice : (i : Instruction) → InstructionFits i → bare_instruction (bare_instruction i) ≡ bare_instruction i
instruction_twice (Do x) fits = ap Do (statement_twice x (action_line x fits))
instruction_twice (Stop k x) fits = ap (λ v. Stop k v) (statement_twice x (stop_line x fits.1))
instruction_twice (Branch t test) fits = ap (λ v. Branch t v) (bare_twice test)
instruction_twice Enter fits = refl
instruction_twice (Count count) fits = ap Count (bare_twice count)
instruction_twice (Turn t) fits = refl
instruction_twice (Jump t) fits = refl
instruction_twice EndOf fits = refl

bare_place_twice : (p : PlaceName) → bare_place (bare_place p) ≡ bare_place p
bare_place_twice (InScheduler n) = refl
bare_place_twice Unlinked = refl

operation_twice : (k depth : ℕ) (p : PlaceName) (i : Instruction) → InstructionFits i → Operation k (bare_place (bare_place p)) depth (bare_instruction (bare_instruction i)) ≡ Operation k (bare_place p) depth (bare_instruction i)
operation_twice k depth p i fits =
    ap (λ v. Operation k v depth (bare_instruction (bare_instruction i))) (bare_place_twice p) ∙ ap (λ v. Operation k (bare_place p) depth v) (instruction_twice i fits)

-- ---- offsets twice: declarations, heads and orders

abbrev head_with : src.Ident → List Named → PlaceName → Option PlaceName → ModuleHead
head_with name parameters begin end = record { name = name; parameters = parameters; begin = begin; end = end }

same_parts : (name : src.Ident) (ps qs : List Named) (b c : PlaceName) (e f : Option PlaceName) → ps ≡ qs → b ≡ c → e ≡ f → head_with name ps b e ≡ head_with name qs c f
same_parts name ps qs b c e f parameters begin end =
    ap (λ v. head_with name v b e) parameters ∙ ap (λ v. head_with name qs v e) begin ∙ ap (λ v. head_with name qs c v) end

-- at offset m, after offset n
module _ (m n : ℕ) where
  place_twice : (p : PlaceName) → place_at m (place_at n p) ≡ place_at m p
  place_twice (InScheduler name) = refl
  place_twice Unlinked = refl

  argument_twice : (a : Argument) → argument_at m (argument_at n a) ≡ argument_at m a
  argument_twice (ANumber at value) = refl
  argument_twice (AName name) = refl

  arguments_twice : (xs : List Argument) → map (argument_at m) (map (argument_at n) xs) ≡ map (argument_at m) xs
  arguments_twice xs = map_twice (argument_at m) (argument_at n) (argument_at m) argument_twice xs

  head_twice : (h : ModuleHead) → head_at m (head_at n h) ≡ head_at m h
  head_twice h =
      same_parts (name_at m h.name) (map (variable_at m) (map (variable_at n) h.parameters)) (map (variable_at m) h.parameters)
      (place_at m (place_at n h.begin)) (place_at m h.begin) (option_map (place_at m) (option_map (place_at n) h.end)) (option_map (place_at m) h.end)
      (map_twice (variable_at m) (variable_at n) (variable_at m) (λ v. refl) h.parameters)
      (place_twice h.begin) (option_twice (place_at m) (place_at n) (place_at m) place_twice h.end)

  order_twice : (x : src.Order) → order_at m (order_at n x) ≡ order_at m x
  order_twice (CreateThere scheduler called arguments) = ap (λ v. CreateThere (name_at m scheduler) (name_at m called) v) (arguments_twice arguments)
  order_twice (ControlThere control thread scheduler) = refl
  order_twice (BroadcastThere event value) = refl

  item_twice : (d : Declaration) → IsOneLineItem d → item_at m (item_at n d) ≡ item_at m d
  item_twice (Scheduler name) is = refl
  item_twice (Event name scheduler) is = refl
  item_twice (Shared name scheduler value) is = refl
  item_twice (Module head locals body) is = absurd is
  item_twice (Start scheduler called arguments name) is =
      ap (λ v. Start (name_at m scheduler) (name_at m called) v (option_map (name_at m) (option_map (name_at n) name))) (arguments_twice arguments)
      ∙ ap (λ v. Start (name_at m scheduler) (name_at m called) (map (argument_at m) arguments) v) (option_twice (name_at m) (name_at n) (name_at m) (λ x. refl) name)
  item_twice (Outside name orders) is = absurd is

-- without offsets is as at offset 0
place_bare : (p : PlaceName) → bare_place p ≡ place_at 0 p
place_bare (InScheduler name) = refl
place_bare Unlinked = refl

argument_bare : (a : Argument) → bare_argument a ≡ argument_at 0 a
argument_bare (ANumber at value) = refl
argument_bare (AName name) = refl

arguments_bare : (xs : List Argument) → map bare_argument xs ≡ map (argument_at 0) xs
arguments_bare xs = map_same bare_argument (argument_at 0) argument_bare xs

head_bare : (h : ModuleHead) → bare_head h ≡ head_at 0 h
head_bare h =
    same_parts (bare_name h.name) (map bare_named h.parameters) (map (variable_at 0) h.parameters)
    (bare_place h.begin) (place_at 0 h.begin) (option_map bare_place h.end) (option_map (place_at 0) h.end)
    (map_same bare_named (variable_at 0) (λ v. refl) h.parameters) (place_bare h.begin) (option_same bare_place (place_at 0) place_bare h.end)

order_bare : (x : src.Order) → bare_order x ≡ order_at 0 x
order_bare (CreateThere scheduler called arguments) = ap (λ v. CreateThere (bare_name scheduler) (bare_name called) v) (arguments_bare arguments)
order_bare (ControlThere control thread scheduler) = refl
order_bare (BroadcastThere event value) = refl

item_bare : (d : Declaration) → IsOneLineItem d → bare_declaration d ≡ item_at 0 d
item_bare (Scheduler name) is = refl
item_bare (Event name scheduler) is = refl
item_bare (Shared name scheduler value) is = refl
item_bare (Module head locals body) is = absurd is
item_bare (Start scheduler called arguments name) is =
    ap (λ v. Start (bare_name scheduler) (bare_name called) v (option_map bare_name name)) (arguments_bare arguments)
    ∙ ap (λ v. Start (bare_name scheduler) (bare_name called) (map (argument_at 0) arguments) v) (option_same bare_name (name_at 0) (λ x. refl) name)
item_bare (Outside name orders) is = absurd is

line_bare : (l : ListingLine) → ListingLineFits l → bare_line l ≡ line_at 0 l
line_bare Title fits = refl
line_bare (Item d) fits = ap Item (item_bare d fits.0)
line_bare (Head h) fits = ap Head (head_bare h)
line_bare (Local v) fits = refl
line_bare (Operation k p d i) fits = refl
line_bare End fits = refl
line_bare (Client name) fits = refl
line_bare (Order x) fits = ap Order (order_bare x)
line_bare Close fits = refl

-- a line at offset m has that offset, whatever it had
pub line_twice : (m n : ℕ) (l : ListingLine) → ListingLineFits l → line_at m (line_at n l) ≡ line_at m l
line_twice m n Title fits = refl
line_twice m n (Item d) fits = ap Item (item_twice m n d fits.0)
line_twice m n (Head h) fits = ap Head (head_twice m n h)
line_twice m n (Local v) fits = refl
line_twice m n (Operation k p d i) fits = operation_twice k d p i fits.3
line_twice m n End fits = refl
line_twice m n (Client name) fits = refl
line_twice m n (Order x) fits = ap Order (order_twice m n x)
line_twice m n Close fits = refl

-- lines that are equal but for their offsets are the same at one offset
pub same_lined : (here : ℕ) (l m : ListingLine) → ListingLineFits l → ListingLineFits m → bare_line l ≡ bare_line m → line_at here l ≡ line_at here m
same_lined here l m first second same =
    sym (line_twice here 0 l first) ∙ ap (line_at here) (sym (line_bare l first) ∙ same ∙ line_bare m second) ∙ line_twice here 0 m second

-- the text of a line has no offsets
pub line_at_text : (here : ℕ) (l : ListingLine) → ListingLineFits l → line_text (line_at here l) ≡ line_text l
line_at_text here l fits =
    let there = line_at_fits here l fits in
    sym (same_line (line_at here l) there) ∙ ap line_text (line_bare (line_at here l) there ∙ line_twice 0 here l fits ∙ sym (line_bare l fits)) ∙ same_line l fits
