-- Statements that are spelled keep the limits.
use Rattle.std.proofs.Common.{◌≡◌, ℕ, zero, suc, ◌+◌, ◌≤◌, List, [], ◌∷◌, length, Option, Some, None, ◌⊎◌, inl, inr, IsTrue, refl, arith}
use Rattle.loft_form.specs.Form.{inside, Limits}
use Rattle.loft_lex.specs.Fits.{is_text}
use Rattle.loft_tree.specs.Source.{Ident, Expression, Creation, Statement as AnyStatement}
use Rattle.loft_tree.specs.View.{body_of}
use Rattle.loft_tree.specs.Fits.{Each, IfThere, NameFits, EventNameFits, ExpressionFits, ArgumentsFit, CreationFits, StatementFits, StatementsFit, size_of, size}
use Rattle.loft_grammar.specs.Language.{Language, Conditional, Looped}
use Rattle.loft_grammar.specs.Symbols.{text}
use Rattle.loft_grammar.specs.Expressions.{whole, argument, arguments}
use Rattle.loft_grammar.specs.Statements.{event_name, assignment_of, print_of, else_of, creation, after_comma, time_limit, assigned, assignment, printed, print, create, cooperate, generate, await_event, choice, choices, select, get, join, control, broadcast, link, unlink, run, halt, conditional, while_loop, repeat, value_statement, event_statement, thread_statement, moving_statement, statement, body, condition, otherwise, branches, turns}
use Rattle.loft_grammar.specs.Limits.{limits}
use Rattle.loft_grammar.specs.declared.counts.Counted.TheVariants.{Statement, Operand, Argument, Choice}
use Rattle.loft_productions.proofs.fits.Expressions.{name_fits, whole_fits}
use Rattle.loft_productions.proofs.fits.Lists.{many_counts, further_gives, further_counts, in_brackets_gives}
use Rattle.loft_productions.proofs.fits.Parts.{Gives, Weighs, IsLimited, limited, gives_any, gives_leaf, ◌▸◌, ◌or◌, gives_made, gives_counted, gives_fresh, gives_maybe, gives_many, gives_both, gives_so, gives_inside_none, gives_inside, weighs_none, weighs_one, weighs_then, weighs_either, weighs_made, weights, weighs_many, weighs_maybe, weighs_so, weighs_inside_none, weighs_inside, gives_few_fresh}
use Rattle.loft_productions.proofs.fits.Rules.{statement_rules}
use Rattle.loft_productions.proofs.fits.Symbols.{text_of_fits}

pub text_fits : {lim : Limits Language} {n : ℕ} → Gives lim n text (λ bytes. IsTrue (is_text bytes))
text_fits = gives_leaf (λ s h is. text_of_fits s.what is h)

argument_counts : {n : ℕ} → Weighs limits n Argument argument (λ _. 1)
unfolding statement_rules
argument_counts = weighs_one refl refl

-- what an assignment assigns
abbrev AssignedFits : ℕ → (ℕ × Creation) ⊎ Expression → Type 0
AssignedFits n (inl x) = CreationFits n x.1
AssignedFits n (inr e) = ExpressionFits n e

-- what is printed
abbrev pub PrintedFits : ℕ → (List ℕ × Option Expression) ⊎ Expression → Type 0
PrintedFits n (inl x) = IsTrue (is_text x.0) × IfThere (ExpressionFits n) x.1
PrintedFits n (inr e) = ExpressionFits n e

assignment_fits_of : (n : ℕ) (target : Ident) (x : (ℕ × Creation) ⊎ Expression) → NameFits target → AssignedFits n x → StatementFits (assignment_of target x) n
assignment_fits_of n target (inl x) fits h = (fits, h)
assignment_fits_of n target (inr e) fits h = (fits, h)

print_fits_of : (n at : ℕ) (x : (List ℕ × Option Expression) ⊎ Expression) → PrintedFits n x → StatementFits (print_of at x) n
print_fits_of n at (inl x) h = h
print_fits_of n at (inr e) h = h

module _ {lim : Limits Language} {n : ℕ} where
  pub event_name_fits : Gives lim n event_name EventNameFits
  event_name_fits = gives_made name_fits (λ e h. h)

  choice_counts : Weighs lim n Choice choice (λ _. 1)
  unfolding choice
  choice_counts = weighs_one refl refl

  pub choices_fit : Gives lim n choices (λ xs. Each EventNameFits xs × (2 ≤ length xs))
  unfolding choices choice
  choices_fit =
      let one : Gives lim n choice EventNameFits = gives_counted event_name_fits in
      gives_made (one ▸ further_gives one ▸ gives_many (further_gives one)) (λ x h. ((h.0, (h.1.0, h.1.1)), omega arith))

  choices_count : Weighs lim n Choice choices length
  unfolding choices
  choices_count = weighs_made (weighs_then choice_counts (weighs_then (further_counts choice_counts) (many_counts (further_counts choice_counts)))) (λ x. omega arith)

-- where operands are limited as in sources
module _ {lim : Limits Language} {n : ℕ} (operands : IsLimited lim Operand) where
  pub comma_fits : Gives lim n after_comma (ExpressionFits n)
  unfolding after_comma
  comma_fits = further_gives (whole_fits operands n)

  pub limit_fits : Gives lim n time_limit (ExpressionFits n)
  unfolding time_limit
  limit_fits = gives_made (gives_any ▸ whole_fits operands n) (λ x h. h.1)

  pub printed_fits : Gives lim n printed (PrintedFits n)
  unfolding printed
  printed_fits = gives_made (text_fits ▸ gives_maybe comma_fits) (λ x h. h) or gives_made (whole_fits operands n) (λ x h. h)

module _ {n : ℕ} where
  expression_fits : Gives limits n whole (ExpressionFits n)
  expression_fits = whole_fits (limited Operand) n

  arguments_fit : Gives limits n arguments (ArgumentsFit n)
  unfolding arguments argument
  arguments_fit = gives_so (in_brackets_gives (limited Argument) (gives_counted expression_fits) argument_counts) (λ es h. record { each = h.0; few = h.1 })

  creation_fits : Gives limits n creation (CreationFits n)
  unfolding creation
  creation_fits = gives_made (name_fits ▸ gives_any ▸ name_fits ▸ arguments_fit) (λ x h. record { scheduler = h.0; called = h.1.1.0; arguments = h.1.1.1 })

  assigned_fits : Gives limits n assigned (AssignedFits n)
  unfolding assigned
  assigned_fits = gives_made (gives_any ▸ creation_fits) (λ x h. h.1) or gives_made expression_fits (λ x h. h)

  value_fits : Gives limits n value_statement (λ s. StatementFits s n)
  unfolding value_statement assignment print create
  value_fits =
      gives_made (gives_counted name_fits ▸ gives_any ▸ assigned_fits ▸ gives_any) (λ x h. assignment_fits_of n x.0 x.1.1.0 h.0 h.1.1.0)
      or gives_made (gives_any ▸ printed_fits (limited Operand) ▸ gives_any) (λ x h. print_fits_of n x.0 x.1.0 h.1.0)
      or gives_made (gives_any ▸ creation_fits ▸ gives_any) (λ x h. h.1.0)

  select_fits : Gives limits n select (λ s. StatementFits s n)
  unfolding statement_rules
  select_fits =
      gives_made (gives_any ▸ gives_both (gives_fresh choices_fit ▸ gives_maybe (limit_fits (limited Operand)) ▸ gives_any) (gives_few_fresh (limited Choice) choices_count refl refl))
      (λ x h. (record { each = h.1.0.0.0; several = h.1.0.0.1; few = h.1.1 }, h.1.0.1.0))

  event_fits : Gives limits n event_statement (λ s. StatementFits s n)
  unfolding event_statement generate await_event get broadcast
  event_fits =
      gives_made (gives_any ▸ event_name_fits ▸ gives_maybe (comma_fits (limited Operand)) ▸ gives_any) (λ x h. (h.1.0, h.1.1.0))
      or gives_made (gives_any ▸ event_name_fits ▸ gives_maybe (limit_fits (limited Operand)) ▸ gives_any) (λ x h. (h.1.0, h.1.1.0))
      or select_fits
      or gives_made (gives_any ▸ event_name_fits ▸ gives_any ▸ expression_fits ▸ gives_any ▸ name_fits ▸ gives_any) (λ x h. (h.1.0, h.1.1.1.0, h.1.1.1.1.1.0))
      or gives_made (gives_any ▸ event_name_fits ▸ gives_maybe (comma_fits (limited Operand)) ▸ gives_any) (λ x h. (h.1.0, h.1.1.0))

  thread_fits : Gives limits n thread_statement (λ s. StatementFits s n)
  unfolding thread_statement cooperate join control run halt
  thread_fits =
      gives_made (gives_any ▸ gives_maybe expression_fits ▸ gives_any) (λ x h. h.1.0)
      or gives_made (gives_any ▸ expression_fits ▸ gives_maybe (limit_fits (limited Operand)) ▸ gives_any) (λ x h. (h.1.0, h.1.1.0))
      or gives_made (gives_any ▸ expression_fits ▸ gives_any ▸ name_fits ▸ gives_any) (λ x h. (h.1.0, h.1.1.1.0))
      or gives_made (gives_any ▸ name_fits ▸ arguments_fit ▸ gives_any) (λ x h. (h.1.0, h.1.1.0))
      or gives_made gives_any (λ x h. tt)

-- ---- statements with bodies

-- what an `if` holds, which stands one nesting deeper
abbrev BranchesFit : ℕ → Expression × (List AnyStatement × Option (List AnyStatement)) → Type 0
BranchesFit n x = (m : ℕ) × (n ≡ m + 1) × ExpressionFits m x.0 × StatementsFit (body_of x.1.0) m × StatementsFit (else_of x.1.1) m

-- what a loop holds
abbrev TurnsFit : ℕ → Expression × List AnyStatement → Type 0
TurnsFit n x = (m : ℕ) × (n ≡ m + 1) × ExpressionFits m x.0 × StatementsFit (body_of x.1) m

each_fits : (n : ℕ) (ss : List AnyStatement) → Each (λ s. StatementFits s n) ss → StatementsFit (body_of ss) n
each_fits n [] h = tt
each_fits n (s ∷ ss) h = (h.0, each_fits n ss h.1)

else_fits : (n : ℕ) (x : Option (List AnyStatement)) → IfThere (λ ss. StatementsFit (body_of ss) n) x → StatementsFit (else_of x) n
else_fits n None h = tt
else_fits n (Some ss) h = h

module _ {n : ℕ} (branches_inside : Gives limits n (inside Conditional) (BranchesFit n)) (turns_inside : Gives limits n (inside Looped) (TurnsFit n)) where
  moving_fits : Gives limits n moving_statement (λ s. StatementFits s n)
  unfolding moving_statement link unlink conditional while_loop repeat
  moving_fits =
      gives_made (gives_any ▸ name_fits ▸ gives_any) (λ x h. h.1.0)
      or gives_made gives_any (λ x h. tt)
      or gives_made (gives_any ▸ branches_inside ▸ gives_any) (λ x h. h.1.0)
      or gives_made (gives_any ▸ turns_inside ▸ gives_any) (λ x h. h.1.0)
      or gives_made (gives_any ▸ turns_inside ▸ gives_any) (λ x h. h.1.0)

  body_fits : Gives limits n body (λ ss. StatementsFit (body_of ss) n)
  unfolding body statement
  body_fits = gives_so (gives_many (value_fits or event_fits or thread_fits or moving_fits)) (each_fits n)

  test_fits : Gives limits n condition (ExpressionFits n)
  unfolding condition
  test_fits = gives_made (gives_any ▸ expression_fits ▸ gives_any) (λ x h. h.1.0)

  branches_fit : Gives limits n branches (BranchesFit (suc n))
  unfolding branches otherwise
  branches_fit =
      gives_made (test_fits ▸ gives_any ▸ body_fits ▸ gives_maybe (gives_made (gives_any ▸ body_fits) (λ x h. h.1)))
      (λ x h. (n, omega arith, h.0, h.1.1.0, else_fits n x.1.1.1 h.1.1.1))

  turns_fit : Gives limits n turns (TurnsFit (suc n))
  unfolding turns
  turns_fit = gives_made (test_fits ▸ gives_any ▸ body_fits) (λ x h. (n, omega arith, h.0, h.1.1))

insides_fit : (n : ℕ) → Gives limits n (inside Conditional) (BranchesFit n) × Gives limits n (inside Looped) (TurnsFit n)
insides_fit zero = (gives_inside_none Conditional (BranchesFit 0), gives_inside_none Looped (TurnsFit 0))
insides_fit (suc n) =
    let h = insides_fit n in
    (gives_inside n Conditional (BranchesFit (suc n)) (branches_fit h.0 h.1), gives_inside n Looped (TurnsFit (suc n)) (turns_fit h.0 h.1))

-- Statements that are spelled keep the limits.
pub statements_fit : (n : ℕ) → Gives limits n body (λ ss. StatementsFit (body_of ss) n)
statements_fit n = let h = insides_fit n in body_fits h.0 h.1

-- ---- how many statements there are

-- how many statements an `if` holds
abbrev branches_size : Expression × (List AnyStatement × Option (List AnyStatement)) → ℕ
branches_size x = size (body_of x.1.0) + size (else_of x.1.1)

-- how many a loop holds
abbrev turns_size : Expression × List AnyStatement → ℕ
turns_size x = size (body_of x.1)

body_size : (ss : List AnyStatement) → size (body_of ss) ≤ weights size_of ss
body_size [] = omega arith
body_size (s ∷ ss) = omega (arith, body_size ss)

assignment_size : (target : Ident) (x : (ℕ × Creation) ⊎ Expression) → size_of (assignment_of target x) ≤ 1
assignment_size target (inl x) = omega arith
assignment_size target (inr e) = omega arith

print_size : (at : ℕ) (x : (List ℕ × Option Expression) ⊎ Expression) → size_of (print_of at x) ≤ 1
print_size at (inl x) = omega arith
print_size at (inr e) = omega arith

module _ {n : ℕ} where
  value_size : Weighs limits n Statement value_statement size_of
  unfolding statement_rules
  value_size =
      weighs_either (weighs_made (weighs_one refl refl) (λ x. assignment_size x.0 x.1.1.0))
      (weighs_either (weighs_made (weighs_one refl refl) (λ x. print_size x.0 x.1.0)) (weighs_made (weighs_one refl refl) (λ x. omega arith)))

  event_size : Weighs limits n Statement event_statement size_of
  unfolding statement_rules
  event_size =
      weighs_either (weighs_made (weighs_one refl refl) (λ x. omega arith))
      (weighs_either (weighs_made (weighs_one refl refl) (λ x. omega arith))
      (weighs_either (weighs_made (weighs_one refl refl) (λ x. omega arith))
      (weighs_either (weighs_made (weighs_one refl refl) (λ x. omega arith)) (weighs_made (weighs_one refl refl) (λ x. omega arith)))))

  thread_size : Weighs limits n Statement thread_statement size_of
  unfolding statement_rules
  thread_size =
      weighs_either (weighs_made (weighs_one refl refl) (λ x. omega arith))
      (weighs_either (weighs_made (weighs_one refl refl) (λ x. omega arith))
      (weighs_either (weighs_made (weighs_one refl refl) (λ x. omega arith))
      (weighs_either (weighs_made (weighs_one refl refl) (λ x. omega arith)) (weighs_made (weighs_one refl refl) (λ x. omega arith)))))

module _ {n : ℕ} (branches_inside : Weighs limits n Statement (inside Conditional) branches_size) (turns_inside : Weighs limits n Statement (inside Looped) turns_size) where
  moving_size : Weighs limits n Statement moving_statement size_of
  unfolding moving_statement link unlink conditional while_loop repeat
  moving_size =
      weighs_either (weighs_made (weighs_one refl refl) (λ x. omega arith))
      (weighs_either (weighs_made (weighs_one refl refl) (λ x. omega arith))
      (weighs_either (weighs_made (weighs_then (weighs_one refl refl) (weighs_then branches_inside (weighs_none refl))) (λ x. omega arith))
      (weighs_either (weighs_made (weighs_then (weighs_one refl refl) (weighs_then turns_inside (weighs_none refl))) (λ x. omega arith))
      (weighs_made (weighs_then (weighs_one refl refl) (weighs_then turns_inside (weighs_none refl))) (λ x. omega arith)))))

  body_counts : Weighs limits n Statement body (λ ss. size (body_of ss))
  unfolding body statement
  body_counts = weighs_so (weighs_many (weighs_either value_size (weighs_either event_size (weighs_either thread_size moving_size)))) body_size

  test_counts : Weighs limits n Statement condition (λ _. 0)
  unfolding statement_rules
  test_counts = weighs_none refl

  branches_count : Weighs limits n Statement branches branches_size
  unfolding branches otherwise
  branches_count =
      weighs_made
      (weighs_then test_counts (weighs_then (weighs_none refl) (weighs_then body_counts
      (weighs_maybe {q = λ x. size (else_of x)} refl (λ x. omega arith) (weighs_made {q = λ ss. size (body_of ss)} (weighs_then (weighs_none refl) body_counts) (λ x. omega arith))))))
      (λ x. omega arith)

  turns_count : Weighs limits n Statement turns turns_size
  unfolding turns
  turns_count = weighs_made (weighs_then test_counts (weighs_then (weighs_none refl) body_counts)) (λ x. omega arith)

insides_count : (n : ℕ) → Weighs limits n Statement (inside Conditional) branches_size × Weighs limits n Statement (inside Looped) turns_size
insides_count zero = (weighs_inside_none Statement Conditional branches_size, weighs_inside_none Statement Looped turns_size)
insides_count (suc n) =
    let h = insides_count n in
    (weighs_inside n Statement Conditional branches_size (branches_count h.0 h.1), weighs_inside n Statement Looped turns_size (turns_count h.0 h.1))

-- Statements that are spelled count one each.
pub statements_count : (n : ℕ) → Weighs limits n Statement body (λ ss. size (body_of ss))
statements_count n = let h = insides_count n in body_counts h.0 h.1
