-- Declarations that are spelled keep the limits.
use Rattle.std.proofs.Common.{◌≡◌, ℕ, ◌+◌, ◌≤◌, ℤ, pos, ◌-ℤ◌, FitsSigned, w64, true, false, Bool, cond, length, count_by, Option, Some, None, inl, inr, refl, ap, ◌∙◌, arith}
use Rattle.std.proofs.lemmas.Int.{ints, int_wrap_fits}
use Rattle.std.proofs.lemmas.List.Recursion.{is_count_by}
use Rattle.loft_base.specs.Arithmetic.{wrapped}
use Rattle.loft_lex.specs.Bytes.{max_number}
use Rattle.loft_tree.specs.Source.{PlaceName, Declaration}
use Rattle.loft_tree.specs.Fits.{Each, IfThere, NameFits, NumberFits, SignedFits, PlaceFits, same_place, EndFits, ArgumentFits, OrderFits, DeclarationFits, is_scheduler, is_event, is_shared, is_module, is_start, is_outside}
use Rattle.loft_grammar.specs.Items.{end_of, negative, signed, parameter, parameters, local, place, ending, head, module_item, scheduler_item, event_item, shared_item, outer_argument, outer_arguments, alias, start_item, create_order, control_order, value_after_comma, broadcast_order, order, outside_item, item, program}
use Rattle.loft_grammar.specs.Limits.{limits}
use Rattle.loft_grammar.specs.PartsFit.{NamedFits, HeadFits}
use Rattle.loft_grammar.specs.declared.counts.Counted.{Counted}
use Rattle.loft_grammar.specs.declared.counts.Counted.TheVariants.{Scheduler, Event, Shared, Module, Start, Client, Order, Parameter, Local, Statement, Argument}
use Rattle.loft_productions.proofs.fits.Counting.{one}
use Rattle.loft_productions.proofs.fits.Expressions.{name_fits, numeral_fits}
use Rattle.loft_productions.proofs.fits.Lists.{many_counts, in_brackets_gives}
use Rattle.loft_productions.proofs.fits.Parts.{Gives, Weighs, limited, gives_any, ◌▸◌, ◌or◌, gives_made, gives_counted, gives_fresh, gives_maybe, gives_many, gives_both, gives_so, weighs_none, weighs_one, weighs_either, weighs_made, weights, weighs_many, weighs_so, gives_few_fresh}
use Rattle.loft_productions.proofs.fits.Statements.{event_name_fits, statements_fit, statements_count}
use Rattle.loft_productions.proofs.fits.Rules.{program_rules}

-- ---- numbers

-- a number that can be written, below 0, is of the i64 range, so that it wraps to itself
small_fits : (n : ℕ) → n ≤ max_number → FitsSigned w64 (pos 0 -ℤ pos n)
small_fits n small = omega (arith, ints)

negative_signed : (value : ℤ) → NumberFits value → SignedFits (wrapped (pos 0 -ℤ value))
negative_signed value h = (h.0, h.1, inr (ap (λ v. wrapped (pos 0 -ℤ v)) h.2 ∙ int_wrap_fits w64 (pos 0 -ℤ pos h.0) (small_fits h.0 h.1)))

module _ {n : ℕ} where
  signed_fits : Gives limits n signed (λ x. SignedFits x.1)
  unfolding signed negative
  signed_fits = gives_so numeral_fits (λ x h. (h.0, h.1, inl h.2)) or gives_made (gives_any ▸ numeral_fits) (λ x h. negative_signed x.1.1 h.1)

  outer_argument_fits : Gives limits n outer_argument ArgumentFits
  unfolding outer_argument
  outer_argument_fits = gives_counted (gives_made signed_fits (λ x h. h) or gives_made name_fits (λ x h. h))

  outer_argument_counts : Weighs limits n Argument outer_argument (λ _. 1)
  unfolding outer_argument signed negative
  outer_argument_counts = weighs_one refl refl

  outer_arguments_fit : Gives limits n outer_arguments (λ xs. Each ArgumentFits xs × (length xs ≤ 8))
  unfolding outer_arguments
  outer_arguments_fit = in_brackets_gives (limited Argument) outer_argument_fits outer_argument_counts

  -- ---- orders

  pub order_fits : Gives limits n order OrderFits
  unfolding order create_order control_order broadcast_order value_after_comma
  order_fits =
      gives_made (gives_any ▸ name_fits ▸ gives_any ▸ name_fits ▸ outer_arguments_fit ▸ gives_any)
      (λ x h. record { there = h.1.0; runs = h.1.1.1.0; each = h.1.1.1.1.0.0; few = h.1.1.1.1.0.1 })
      or gives_made (gives_any ▸ name_fits ▸ gives_any ▸ name_fits ▸ gives_any) (λ x h. (h.1.0, h.1.1.1.0))
      or gives_made (gives_any ▸ event_name_fits ▸ gives_maybe (gives_made {Q = SignedFits} (gives_any ▸ signed_fits) (λ x h. h.1)) ▸ gives_any) (λ x h. (h.1.0, h.1.1.0))

  order_counts : Weighs limits n Order order (λ _. 1)
  unfolding program_rules
  order_counts = weighs_one refl refl

  outside_fits : Gives limits n outside_item DeclarationFits
  unfolding outside_item
  outside_fits =
      gives_made (gives_any ▸ name_fits ▸ gives_any ▸ gives_both (gives_fresh (gives_many order_fits) ▸ gives_any) (gives_few_fresh (limited Order) (many_counts order_counts) refl refl))
      (λ x h. (h.1.0, h.1.1.1.0.0, h.1.1.1.1))

  -- ---- schedulers, events, shared variables and starts

  scheduler_fits : Gives limits n scheduler_item DeclarationFits
  unfolding scheduler_item
  scheduler_fits = gives_made (gives_any ▸ name_fits ▸ gives_any) (λ x h. h.1.0)

  event_fits : Gives limits n event_item DeclarationFits
  unfolding event_item
  event_fits = gives_made (gives_any ▸ name_fits ▸ gives_any ▸ name_fits ▸ gives_any) (λ x h. (h.1.0, h.1.1.1.0))

  shared_fits : Gives limits n shared_item DeclarationFits
  unfolding shared_item
  shared_fits = gives_made (gives_any ▸ name_fits ▸ gives_any ▸ name_fits ▸ gives_any ▸ signed_fits ▸ gives_any) (λ x h. (h.1.0, h.1.1.1.0, h.1.1.1.1.1.0))

  alias_fits : Gives limits n alias NameFits
  unfolding alias
  alias_fits = gives_made (gives_any ▸ name_fits) (λ x h. h.1)

  start_fits : Gives limits n start_item DeclarationFits
  unfolding start_item
  start_fits =
      gives_made (gives_any ▸ name_fits ▸ gives_any ▸ name_fits ▸ outer_arguments_fit ▸ gives_maybe alias_fits ▸ gives_any)
      (λ x h. (record { there = h.1.0; runs = h.1.1.1.0; each = h.1.1.1.1.0.0; few = h.1.1.1.1.0.1 }, h.1.1.1.1.1.0))

  -- ---- modules

  place_fits : Gives limits n place PlaceFits
  unfolding place
  place_fits = gives_made name_fits (λ x h. h) or gives_made gives_any (λ x h. tt)

  ending_fits : Gives limits n ending PlaceFits
  unfolding ending
  ending_fits = gives_made (gives_any ▸ place_fits) (λ x h. h.1)

  parameter_fits : Gives limits n parameter (λ v. NameFits v.name)
  unfolding parameter
  parameter_fits = gives_made (gives_any ▸ name_fits) (λ x h. h.1)

  parameter_counts : Weighs limits n Parameter parameter (λ _. 1)
  unfolding parameter
  parameter_counts = weighs_one refl refl

  parameters_fit : Gives limits n parameters (λ xs. Each (λ v. NameFits v.name) xs × (length xs ≤ 8))
  unfolding parameters
  parameters_fit = in_brackets_gives (limited Parameter) parameter_fits parameter_counts

  pub local_fits : Gives limits n local NamedFits
  unfolding local
  local_fits = gives_made (gives_any ▸ gives_any ▸ name_fits ▸ gives_any) (λ x h. h.1.1.0)

  local_counts : Weighs limits n Local local (λ _. 1)
  unfolding local
  local_counts = weighs_one refl refl

-- an end that is the begin is left out
end_fits : (begin : PlaceName) (end : Option PlaceName) → IfThere PlaceFits end → EndFits begin (end_of begin end)
end_fits begin None h = tt
end_fits begin (Some end) h = go (same_place begin end) refl
  where
    go : (b : Bool) → same_place begin end ≡ b → EndFits begin (cond b None (Some end))
    go true e = tt
    go false e = (h, e)

-- the line of a module keeps the limits
pub head_fits : {n : ℕ} → Gives limits n head HeadFits
unfolding head
head_fits =
    gives_made (gives_any ▸ name_fits ▸ parameters_fit ▸ gives_any ▸ place_fits ▸ gives_maybe ending_fits)
    (λ x h. record { name = h.1.0; parameters = h.1.1.0.0; few_parameters = h.1.1.0.1; begin = h.1.1.1.1.0; end = end_fits x.1.1.1.1.0 x.1.1.1.1.1 h.1.1.1.1.1 })

module_fits : Gives limits 32 module_item DeclarationFits
unfolding program_rules
module_fits =
    gives_made
    (head_fits ▸ gives_both
    (gives_fresh (gives_many local_fits) ▸ gives_both (gives_fresh (statements_fit 32) ▸ gives_any) (gives_few_fresh (limited Statement) (statements_count 32) refl refl))
    (gives_few_fresh (limited Local) (many_counts local_counts) refl refl))
    (λ x h. record {
      name = h.0.name;
      parameters = h.0.parameters;
      few_parameters = h.0.few_parameters;
      begin = h.0.begin;
      end = h.0.end;
      each_local = h.1.0.0;
      few_locals = h.1.1;
      statements = h.1.0.1.0.0;
      few_statements = h.1.0.1.1;
    })

pub item_fits : Gives limits 32 item DeclarationFits
unfolding item
item_fits = scheduler_fits or event_fits or shared_fits or module_fits or start_fits or outside_fits

-- ---- how many there are of each

module _ {n : ℕ} where
  pub schedulers_count : Weighs limits n Scheduler item (λ d. one (is_scheduler d))
  unfolding program_rules
  schedulers_count =
      weighs_either (weighs_made (weighs_one refl refl) (λ x. omega arith))
      (weighs_either (weighs_made (weighs_none refl) (λ x. omega arith))
      (weighs_either (weighs_made (weighs_none refl) (λ x. omega arith))
      (weighs_either (weighs_made (weighs_none refl) (λ x. omega arith))
      (weighs_either (weighs_made (weighs_none refl) (λ x. omega arith)) (weighs_made (weighs_none refl) (λ x. omega arith))))))

  pub events_count : Weighs limits n Event item (λ d. one (is_event d))
  unfolding program_rules
  events_count =
      weighs_either (weighs_made (weighs_none refl) (λ x. omega arith))
      (weighs_either (weighs_made (weighs_one refl refl) (λ x. omega arith))
      (weighs_either (weighs_made (weighs_none refl) (λ x. omega arith))
      (weighs_either (weighs_made (weighs_none refl) (λ x. omega arith))
      (weighs_either (weighs_made (weighs_none refl) (λ x. omega arith)) (weighs_made (weighs_none refl) (λ x. omega arith))))))

  pub shared_variables_count : Weighs limits n Shared item (λ d. one (is_shared d))
  unfolding program_rules
  shared_variables_count =
      weighs_either (weighs_made (weighs_none refl) (λ x. omega arith))
      (weighs_either (weighs_made (weighs_none refl) (λ x. omega arith))
      (weighs_either (weighs_made (weighs_one refl refl) (λ x. omega arith))
      (weighs_either (weighs_made (weighs_none refl) (λ x. omega arith))
      (weighs_either (weighs_made (weighs_none refl) (λ x. omega arith)) (weighs_made (weighs_none refl) (λ x. omega arith))))))

  pub modules_count : Weighs limits n Module item (λ d. one (is_module d))
  unfolding program_rules
  modules_count =
      weighs_either (weighs_made (weighs_none refl) (λ x. omega arith))
      (weighs_either (weighs_made (weighs_none refl) (λ x. omega arith))
      (weighs_either (weighs_made (weighs_none refl) (λ x. omega arith))
      (weighs_either (weighs_made (weighs_one refl refl) (λ x. omega arith))
      (weighs_either (weighs_made (weighs_none refl) (λ x. omega arith)) (weighs_made (weighs_none refl) (λ x. omega arith))))))

  pub starts_count : Weighs limits n Start item (λ d. one (is_start d))
  unfolding program_rules
  starts_count =
      weighs_either (weighs_made (weighs_none refl) (λ x. omega arith))
      (weighs_either (weighs_made (weighs_none refl) (λ x. omega arith))
      (weighs_either (weighs_made (weighs_none refl) (λ x. omega arith))
      (weighs_either (weighs_made (weighs_none refl) (λ x. omega arith))
      (weighs_either (weighs_made (weighs_one refl refl) (λ x. omega arith)) (weighs_made (weighs_none refl) (λ x. omega arith))))))

  pub clients_count : Weighs limits n Client item (λ d. one (is_outside d))
  unfolding program_rules
  clients_count =
      weighs_either (weighs_made (weighs_none refl) (λ x. omega arith))
      (weighs_either (weighs_made (weighs_none refl) (λ x. omega arith))
      (weighs_either (weighs_made (weighs_none refl) (λ x. omega arith))
      (weighs_either (weighs_made (weighs_none refl) (λ x. omega arith))
      (weighs_either (weighs_made (weighs_none refl) (λ x. omega arith)) (weighs_made (weighs_one refl refl) (λ x. omega arith))))))

one_more : (b : Bool) (n : ℕ) → one b + n ≡ cond b (1 + n) n
one_more true n = refl
one_more false n = omega arith

-- a program counts each declaration that passes the test
pub program_counts : {n : ℕ} {w : Counted} (passes : Declaration → Bool) → Weighs limits n w item (λ d. one (passes d)) → Weighs limits n w program (count_by passes)
unfolding program
program_counts passes p =
    weighs_so (weighs_many p) (λ xs. omega (arith, is_count_by (weights (λ d. one (passes d))) passes refl (λ x ys. one_more (passes x) _) xs))
