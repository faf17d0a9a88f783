-- Symbols without places spell the program without places.
use Rattle.std.proofs.Common.{◌≡◌, ℕ, Bool, if◌then◌else◌, map, Option, Some, None, refl}
use Rattle.std.specs.Option.{option_map}
use Rattle.loft_lex.specs.declared.word.Word.{Word}
use Rattle.loft_lex.specs.declared.word.Word.TheVariants as w
use Rattle.loft_lex.specs.declared.sign.Sign.{Sign}
use Rattle.loft_lex.specs.declared.sign.Sign.TheVariants as s
use Rattle.loft_lex.specs.Symbol.{Symbol}
use Rattle.loft_tree.specs.declared.kinds.Builtin.{Builtin}
use Rattle.loft_tree.specs.declared.kinds.Builtin.TheVariants as b
use Rattle.loft_tree.specs.declared.kinds.BinaryOperator.{BinaryOperator}
use Rattle.loft_tree.specs.declared.kinds.BinaryOperator.TheVariants as o
use Rattle.loft_tree.specs.Source.{Expression, If, While, Repeat, BroadcastThere, Module}
use Rattle.loft_form.specs.Form.{leaf, ◌▹◌, ◌∣◌, maybe, many, inside, counted, fresh, made, Limits}
use Rattle.loft_form.specs.Spells.{Spelling}
use Rattle.loft_grammar.specs.declared.counts.Counted.{Counted}
use Rattle.loft_grammar.specs.declared.counts.Counted.TheVariants as count
use Rattle.loft_grammar.specs.Language.{Language, Kind, Rule, Meaning, Bracketed, Signed, Conditional, Looped}
use Rattle.loft_grammar.specs.Symbols.{Form, word, sign, word_place, sign_place, opening_word, opening_sign, name, text, numeral, first_word}
use Rattle.loft_grammar.specs.Expressions.{chain, operator, special, further, in_brackets, builtin, bracketed, atom, negated, inverted, unary, factor, term, summand, sum, equality, ordering, compared, comparison, conjunct, conjunction, disjunct, expression, whole, argument, arguments}
use Rattle.loft_grammar.specs.Statements.{rules, event_name, creation, after_comma, time_limit, assigned, assignment, printed, print, create, cooperate, generate, await_event, choice, choices, select, get, join, control_word, control, broadcast, link, unlink, run, halt, conditional, while_loop, repeat, value_statement, event_statement, thread_statement, moving_statement, statement, body, condition, otherwise, branches, turns}
use Rattle.loft_grammar.specs.Items.{negative, signed, kind, parameter, parameters, local, place, ending, head, module_item, scheduler_item, event_item, shared_item, outer_argument, outer_arguments, alias, start_item, create_order, control_order, value_after_comma, broadcast_order, order, outside_item, item, program}
use Rattle.loft_show.specs.Places.{bare_name, bare_event, bare_expression, bare_creation, bare_statement, bare_named, bare_place, bare_head, bare_argument, bare_order, bare_declaration, without_places}
use Rattle.loft_show.proofs.reads.Bare.{bare_symbol, bare_rule, bare_operation, bare_chain, bare_comparison, bare_list, bare_body_of, bare_else_of, bare_assignment, bare_print, bare_end, option_map-id}
use Rattle.loft_show.proofs.reads.Keeps.{Kept, Keeps, keeps_leaf, keeps_then, keeps_or, keeps_maybe, keeps_many, keeps_counted, keeps_fresh, keeps_inside, keeps_made}

module _ (lim : Limits Language) (n : ℕ) (Inner : (r : Rule) → Spelling Language (Meaning r)) (kept : (r : Rule) → Kept bare_symbol (Inner r) (bare_rule r)) where
  infixr 30 ◌then◌
  infixr 20 ◌or◌
  abbrev pub K : {A : Type 0} → Form A → (A → A) → Type 0
  K f h = Keeps bare_symbol lim n Inner f h

  pub ◌then◌ : {A B : Type 0} {f : Form A} {g : Form B} {h : A → A} {k : B → B} → K f h → K g k → K (f ▹ g) (λ x. (h x.0, k x.1))
  p then q = keeps_then bare_symbol lim n Inner p q

  pub ◌or◌ : {A : Type 0} {f g : Form A} {h : A → A} → K f h → K g h → K (f ∣ g) h
  p or q = keeps_or bare_symbol lim n Inner p q

  pub if_any : {A : Type 0} {f : Form A} {h : A → A} → K f h → K (maybe f) (option_map h)
  if_any p = keeps_maybe bare_symbol lim n Inner p

  pub each : {A : Type 0} {f : Form A} {h : A → A} → K f h → K (many f) (map h)
  each p = keeps_many bare_symbol lim n Inner p

  pub counting_it : {A : Type 0} {v : Counted} {f : Form A} {h : A → A} → K f h → K (counted v f) h
  counting_it p = keeps_counted bare_symbol lim n Inner p

  pub afresh : {A : Type 0} {v : Counted} {f : Form A} {h : A → A} → K f h → K (fresh v f) h
  afresh p = keeps_fresh bare_symbol lim n Inner p

  pub rule_inside : (r : Rule) → K (inside r) (bare_rule r)
  rule_inside r = keeps_inside bare_symbol lim n Inner r (bare_rule r) (kept r)

  pub built : {A B : Type 0} {m : A → B} {f : Form A} {h : A → A} {k : B → B} → K f h → ((y : A) → m (h y) ≡ k (m y)) → K (made m f) k
  built p commutes = keeps_made bare_symbol lim n Inner p commutes

  pub symbol : {A : Type 0} {test : Kind → Bool} {value : Symbol → A} {opens : Bool} {h : A → A} → ((x : Symbol) → value (bare_symbol x) ≡ h (value x)) → K (leaf test value opens) h
  symbol values = keeps_leaf bare_symbol lim n Inner (λ x. refl) values

  -- ---- single symbols

  pub word_kept : (v : Word) → K (word v) (λ x. x)
  word_kept v = symbol (λ x. refl)

  pub sign_kept : (v : Sign) → K (sign v) (λ x. x)
  sign_kept v = symbol (λ x. refl)

  pub word_place_kept : (v : Word) → K (word_place v) (λ at. 0)
  word_place_kept v = symbol (λ x. refl)

  pub sign_place_kept : (v : Sign) → K (sign_place v) (λ at. 0)
  sign_place_kept v = symbol (λ x. refl)

  pub opening_word_kept : (v : Word) → K (opening_word v) (λ at. 0)
  opening_word_kept v = symbol (λ x. refl)

  pub opening_sign_kept : (v : Sign) → K (opening_sign v) (λ at. 0)
  opening_sign_kept v = symbol (λ x. refl)

  pub first_word_kept : (what : Counted) (v : Word) → K (first_word what v) (λ at. 0)
  first_word_kept what v = counting_it (word_place_kept v)

  pub name_kept : K name bare_name
  name_kept = symbol (λ x. refl)

  pub text_kept : K text (λ x. x)
  text_kept = symbol (λ x. refl)

  pub numeral_kept : K numeral (λ x. (0, x.1))
  numeral_kept = symbol (λ x. refl)

  -- ---- expressions

  operator_kept : (v : Sign) (op : BinaryOperator) → K (operator v op) (λ x. x)
  operator_kept v op = built (sign_kept v) (λ y. refl)

  special_kept : (v : Word) (x : Builtin) → K (special v x) bare_expression
  special_kept v x = built (first_word_kept _ v) (λ y. refl)

  chain_kept : {f : Form Expression} {g : Form (BinaryOperator × Expression)} → K f bare_expression → K g bare_operation → K (made (λ x. chain x.0 x.1) (f ▹ many g)) bare_expression
  chain_kept p q = built (p then each q) (λ y. bare_chain y.0 y.1)

  atom_kept : K atom bare_expression
  unfolding atom builtin bracketed
  atom_kept =
      built (counting_it numeral_kept) (λ y. refl)
      or built (counting_it name_kept) (λ y. refl)
      or (special_kept w.SelfWord b.Itself or special_kept w.Code b.Code or special_kept w.Mask b.Mask)
      or built (opening_sign_kept s.Open then rule_inside Bracketed then sign_kept s.Close) (λ y. refl)

  unary_kept : K unary bare_expression
  unfolding unary negated inverted
  unary_kept = built (opening_sign_kept s.Minus then rule_inside Signed) (λ y. refl) or built (opening_sign_kept s.Not then rule_inside Signed) (λ y. refl) or atom_kept

  term_kept : K term bare_expression
  unfolding term factor
  term_kept = chain_kept unary_kept ((operator_kept s.Star o.Times or operator_kept s.Slash o.Divide or operator_kept s.Percent o.Remainder) then unary_kept)

  sum_kept : K sum bare_expression
  unfolding sum summand
  sum_kept = chain_kept term_kept ((operator_kept s.Plus o.Plus or operator_kept s.Minus o.Minus) then term_kept)

  comparing_kept : K (equality ∣ ordering) (λ x. x)
  unfolding equality ordering
  comparing_kept =
      (operator_kept s.Same o.Equal or operator_kept s.Differs o.Unequal)
      or operator_kept s.Less o.Less or operator_kept s.LessOrSame o.LessOrEqual or operator_kept s.Greater o.Greater or operator_kept s.GreaterOrSame o.GreaterOrEqual

  comparison_kept : K comparison bare_expression
  unfolding comparison compared
  comparison_kept = built (sum_kept then if_any (comparing_kept then sum_kept)) (λ y. bare_comparison y.0 y.1)

  conjunction_kept : K conjunction bare_expression
  unfolding conjunction conjunct
  conjunction_kept = chain_kept comparison_kept (operator_kept s.And o.And then comparison_kept)

  pub expression_kept : K expression bare_expression
  unfolding expression disjunct
  expression_kept = chain_kept conjunction_kept (operator_kept s.Or o.Or then conjunction_kept)

  pub whole_kept : K whole bare_expression
  unfolding whole
  whole_kept = afresh expression_kept

  -- ---- lists

  pub further_kept : {A : Type 0} {f : Form A} {h : A → A} → K f h → K (further f) h
  further_kept p = built (sign_kept s.Comma then p) (λ y. refl)

  pub in_brackets_kept : {A : Type 0} {what : Counted} {f : Form A} {h : A → A} → K f h → K (in_brackets what f) (map h)
  in_brackets_kept {h} p = built (sign_kept s.Open then afresh (built (if_any (p then each (further_kept p))) (bare_list h)) then sign_kept s.Close) (λ y. refl)

  pub arguments_kept : K arguments (map bare_expression)
  unfolding arguments argument
  arguments_kept = in_brackets_kept (counting_it whole_kept)

  -- ---- statements

  creation_kept : K creation bare_creation
  unfolding creation
  creation_kept = built (name_kept then sign_kept s.Dot then name_kept then arguments_kept) (λ y. refl)

  after_comma_kept : K after_comma bare_expression
  unfolding after_comma
  after_comma_kept = further_kept whole_kept

  time_limit_kept : K time_limit bare_expression
  unfolding time_limit
  time_limit_kept = built (word_kept w.For then whole_kept) (λ y. refl)

  semicolon : K (sign s.Semicolon) (λ x. x)
  semicolon = sign_kept s.Semicolon

  -- the first word of a statement
  begun : (v : Word) → K (first_word count.Statement v) (λ at. 0)
  begun v = first_word_kept count.Statement v

  value_statement_kept : K value_statement bare_statement
  unfolding value_statement assignment assigned print printed create
  value_statement_kept =
      built (counting_it name_kept then sign_kept s.Equals then (built (word_place_kept w.Create then creation_kept) (λ y. refl) or built whole_kept (λ y. refl)) then semicolon) (λ y. bare_assignment y.0 y.1.1.0)
      or built (begun w.Print then (built (text_kept then if_any after_comma_kept) (λ y. refl) or built whole_kept (λ y. refl)) then semicolon) (λ y. bare_print y.0 y.1.0)
      or built (begun w.Create then creation_kept then semicolon) (λ y. refl)

  event_name_kept : K event_name bare_event
  event_name_kept = built name_kept (λ y. refl)

  choice_kept : K choice bare_event
  unfolding choice
  choice_kept = counting_it event_name_kept

  choices_kept : K choices (map bare_event)
  unfolding choices
  choices_kept = built (choice_kept then further_kept choice_kept then each (further_kept choice_kept)) (λ y. refl)

  event_statement_kept : K event_statement bare_statement
  unfolding event_statement generate await_event select get broadcast
  event_statement_kept =
      built (begun w.Generate then event_name_kept then if_any after_comma_kept then semicolon) (λ y. refl)
      or built (begun w.Await then event_name_kept then if_any time_limit_kept then semicolon) (λ y. refl)
      or built (begun w.Select then afresh choices_kept then if_any time_limit_kept then semicolon) (λ y. refl)
      or built (begun w.Get then event_name_kept then word_kept w.At then whole_kept then word_kept w.Into then name_kept then semicolon) (λ y. refl)
      or built (begun w.Broadcast then event_name_kept then if_any after_comma_kept then semicolon) (λ y. refl)

  control_word_kept : (what : Counted) → K (control_word what) (λ x. (0, x.1))
  control_word_kept what = built (first_word_kept what w.Stop) (λ y. refl) or built (first_word_kept what w.Suspend) (λ y. refl) or built (first_word_kept what w.Resume) (λ y. refl)

  thread_statement_kept : K thread_statement bare_statement
  unfolding thread_statement cooperate join control run halt
  thread_statement_kept =
      built (begun w.Cooperate then if_any whole_kept then semicolon) (λ y. refl)
      or built (begun w.Join then whole_kept then if_any time_limit_kept then semicolon) (λ y. refl)
      or built (control_word_kept count.Statement then whole_kept then word_kept w.In then name_kept then semicolon) (λ y. refl)
      or built (begun w.Run then name_kept then arguments_kept then semicolon) (λ y. refl)
      or built (begun w.Halt then semicolon) (λ y. refl)

  -- the first word of a statement with a body
  opened : (v : Word) → K (counted count.Statement (opening_word v)) (λ at. 0)
  opened v = counting_it (opening_word_kept v)

  end_word : K (word w.End) (λ x. x)
  end_word = word_kept w.End

  pub statement_kept : K statement bare_statement
  unfolding statement moving_statement link unlink conditional while_loop repeat
  statement_kept =
      value_statement_kept or event_statement_kept or thread_statement_kept
      or (built (begun w.Link then name_kept then semicolon) (λ y. refl)
      or built (begun w.Unlink then semicolon) (λ y. refl)
      or built (opened w.If then rule_inside Conditional then end_word) (λ y i. If 0 (bare_expression y.1.0.0) (bare_body_of y.1.0.1.0 i) (bare_else_of y.1.0.1.1 i))
      or built (opened w.While then rule_inside Looped then end_word) (λ y i. While 0 (bare_expression y.1.0.0) (bare_body_of y.1.0.1 i))
      or built (opened w.Repeat then rule_inside Looped then end_word) (λ y i. Repeat 0 (bare_expression y.1.0.0) (bare_body_of y.1.0.1 i)))

  body_kept : K body (map bare_statement)
  unfolding body
  body_kept = each statement_kept

  test_kept : K condition bare_expression
  unfolding condition
  test_kept = built (sign_kept s.Open then whole_kept then sign_kept s.Close) (λ y. refl)

  pub rule_kept : (r : Rule) → K (rules r) (bare_rule r)
  unfolding branches otherwise turns
  rule_kept Bracketed = expression_kept
  rule_kept Signed = unary_kept
  rule_kept Conditional = built (test_kept then word_kept w.Then then body_kept then if_any (built (word_kept w.Else then body_kept) (λ y. refl))) (λ y. refl)
  rule_kept Looped = built (test_kept then word_kept w.Do then body_kept) (λ y. refl)

  -- ---- items

  signed_kept : K signed (λ x. (0, x.1))
  unfolding signed negative
  signed_kept = numeral_kept or built (sign_place_kept s.Minus then numeral_kept) (λ y. refl)

  -- int or thread, told apart by a word that may count
  kind_kept : (what : Option Counted) → K (kind what) (λ x. x)
  kind_kept None = built (word_kept w.Int) (λ y. refl) or built (word_kept w.Thread) (λ y. refl)
  kind_kept (Some what) = built (counting_it (word_kept w.Int)) (λ y. refl) or built (counting_it (word_kept w.Thread)) (λ y. refl)

  place_kept : K place bare_place
  unfolding place
  place_kept = built name_kept (λ y. refl) or built (word_kept w.Unlinked) (λ y. refl)

  pub head_kept : K head bare_head
  unfolding head parameters parameter ending
  head_kept =
      built (first_word_kept count.Module w.Module then name_kept then in_brackets_kept (built (kind_kept (Some count.Parameter) then name_kept) (λ y. refl)) then word_kept w.In then place_kept then if_any (built (word_kept w.To then place_kept) (λ y. refl)))
      (λ y i. record { name = bare_name y.1.0; parameters = map bare_named y.1.1.0; begin = bare_place y.1.1.1.1.0; end = bare_end y.1.1.1.1.0 y.1.1.1.1.1 i })

  pub local_kept : K local bare_named
  unfolding local
  local_kept = built (first_word_kept count.Local w.Local then kind_kept None then name_kept then semicolon) (λ y. refl)

  outer_arguments_kept : K outer_arguments (map bare_argument)
  unfolding outer_arguments outer_argument
  outer_arguments_kept = in_brackets_kept (counting_it (built signed_kept (λ y. refl) or built name_kept (λ y. refl)))

  pub order_kept : K order bare_order
  unfolding order create_order control_order broadcast_order value_after_comma
  order_kept =
      built (first_word_kept count.Order w.Create then name_kept then sign_kept s.Dot then name_kept then outer_arguments_kept then semicolon) (λ y. refl)
      or built (control_word_kept count.Order then name_kept then word_kept w.In then name_kept then semicolon) (λ y. refl)
      or built (first_word_kept count.Order w.Broadcast then event_name_kept then if_any {h = λ x. x} (built (sign_kept s.Comma then signed_kept) (λ y. refl)) then semicolon) (λ y i. BroadcastThere (bare_event y.1.0) (option_map-id y.1.1.0 i))

  pub item_kept : K item bare_declaration
  unfolding item scheduler_item event_item shared_item module_item start_item outside_item alias
  item_kept =
      built (first_word_kept count.Scheduler w.Scheduler then name_kept then semicolon) (λ y. refl)
      or built (first_word_kept count.Event w.Event then name_kept then word_kept w.In then name_kept then semicolon) (λ y. refl)
      or built (first_word_kept count.Shared w.Shared then name_kept then word_kept w.In then name_kept then sign_kept s.Equals then signed_kept then semicolon) (λ y. refl)
      or built (head_kept then afresh (each local_kept) then afresh body_kept then end_word) (λ y i. Module (bare_head y.0) (map bare_named y.1.0) (bare_body_of y.1.1.0 i))
      or built (first_word_kept count.Start w.Start then name_kept then sign_kept s.Dot then name_kept then outer_arguments_kept then if_any (built (word_kept w.As then name_kept) (λ y. refl)) then semicolon) (λ y. refl)
      or built (first_word_kept count.Client w.Outside then name_kept then sign_kept s.OpenBrace then afresh (each order_kept) then sign_kept s.CloseBrace) (λ y. refl)

  pub program_kept : K program without_places
  unfolding program
  program_kept = each item_kept
