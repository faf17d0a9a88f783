-- The declarations that the text of a lock spells.
use Rattle.std.proofs.Common.{◌≡◌, ℕ, true, List, [], ◌∷◌, ◌++◌, Option, Some, None, Ok, Err, refl, sym, ap, ◌∙◌, subst}
use Rattle.std.specs.Prelude.{pos}
use Rattle.loft_lex.specs.declared.word.Word.TheVariants as word
use Rattle.loft_lex.specs.Symbol.{Symbol}
use Rattle.loft_tree.specs.Source.{Declaration, Shared, Event, Module, Source}
use Rattle.loft_form.specs.Form.{State}
use Rattle.loft_form.specs.Spells.{SpellsEach, Spells, SpellsRule}
use Rattle.loft_form.specs.Reading as reading
use Rattle.loft_form.specs.Reading.{Read, done, leaf_at, rule_at, read}
use Rattle.loft_form.proofs.Disjoint.{goes_on}
use Rattle.loft_form.proofs.Complete.{Free, spelled_read}
use Rattle.loft_grammar.specs.declared.counts.Counts.{Counts}
use Rattle.loft_grammar.specs.Limits.{limits, nesting}
use Rattle.loft_grammar.specs.Language.{Language, AWord, Rule, Bracketed, Signed, Conditional, Looped}
use Rattle.loft_grammar.specs.Expressions.{builtin, bracketed, atom, negated, inverted, unary, factor, term, summand, sum, equality, ordering, compared, comparison, conjunct, conjunction, disjunct, expression, whole, argument, arguments}
use Rattle.loft_grammar.specs.Statements.{rules, creation, after_comma, time_limit, assigned, assignment, printed, print, create, cooperate, generate, await_event, choice, choices, select, get, join, control, broadcast, link, unlink, run, halt, conditional, while_loop, repeat, value_statement, event_statement, thread_statement, moving_statement, statement, body, condition, otherwise, branches, turns}
use Rattle.loft_grammar.specs.Items.{negative, signed, parameter, parameters, local, place, ending, head, module_item, scheduler_item, event_item, shared_item, outer_argument, outer_arguments, alias, start_item, create_order, control_order, value_after_comma, broadcast_order, order, outside_item, item, program}
use Rattle.loft_lock_sources.specs.SourceLocks.{LockNames, name_at, takes_statements, gives_statements, head_at}
use Rattle.loft_lock_symbols.specs.LockSymbols.{shared_first, shared_rest, event_symbols, takes_symbols, gives_symbols}
use Rattle.loft_productions.proofs.Checked.{known, fair, item_checked}
use Rattle.loft_lock_symbols.proofs.Avoids.{tail_of, avoids, tail_avoids}
use Rattle.loft_lock_symbols.proofs.Unlimited.{unlimited, spelled_free, rule_free, pays_last, nothing_due}

-- what was read, and what is left
abbrev got : {A : Type 0} → Read Language A → Option (A × List Symbol)
got (Ok x) = Some (x.0, x.1.rest)
got (Err e) = None

abbrev from_none : Counts → State Language
from_none k = record { counts = k; due = [] }

-- reading one item without limits
abbrev read_item : List Symbol → State Language → Read Language Declaration
read_item ss c = read rules unlimited nesting item ss c

module _ (n : LockNames) (at other : ℕ → ℕ) where
  shared_is : (back : List Symbol) (k : Counts) → got (read_item (shared_first n at other ∷ (shared_rest n at other ++ back)) (from_none k)) ≡ Some (Shared (name_at n at 13 n.held) (name_at n at 14 n.at) (pos 0), back)
  unfolding leaf_at reading.repeat rule_at builtin bracketed atom negated inverted unary factor term summand sum equality ordering compared comparison conjunct conjunction disjunct expression whole argument arguments creation after_comma time_limit assigned assignment printed print create cooperate generate await_event choice choices select get join control broadcast link unlink run halt conditional while_loop repeat value_statement event_statement thread_statement moving_statement statement body condition otherwise branches turns negative signed parameter parameters local place ending head module_item scheduler_item event_item shared_item outer_argument outer_arguments alias start_item create_order control_order value_after_comma broadcast_order order outside_item item program
  shared_is back k = refl

  event_is : (back : List Symbol) (k : Counts) → got (read_item (event_symbols n at other ++ back) (from_none k)) ≡ Some (Event (name_at n at 15 n.free) (name_at n at 16 n.at), back)
  unfolding leaf_at reading.repeat rule_at builtin bracketed atom negated inverted unary factor term summand sum equality ordering compared comparison conjunct conjunction disjunct expression whole argument arguments creation after_comma time_limit assigned assignment printed print create cooperate generate await_event choice choices select get join control broadcast link unlink run halt conditional while_loop repeat value_statement event_statement thread_statement moving_statement statement body condition otherwise branches turns negative signed parameter parameters local place ending head module_item scheduler_item event_item shared_item outer_argument outer_arguments alias start_item create_order control_order value_after_comma broadcast_order order outside_item item program
  event_is back k = refl

  takes_is : (back : List Symbol) (k : Counts) → got (read_item (takes_symbols n at other ++ back) (from_none k)) ≡ Some (Module (head_at n at 17 n.takes 18) [] (takes_statements n at), back)
  unfolding leaf_at reading.repeat rule_at builtin bracketed atom negated inverted unary factor term summand sum equality ordering compared comparison conjunct conjunction disjunct expression whole argument arguments creation after_comma time_limit assigned assignment printed print create cooperate generate await_event choice choices select get join control broadcast link unlink run halt conditional while_loop repeat value_statement event_statement thread_statement moving_statement statement body condition otherwise branches turns negative signed parameter parameters local place ending head module_item scheduler_item event_item shared_item outer_argument outer_arguments alias start_item create_order control_order value_after_comma broadcast_order order outside_item item program
  takes_is back k = refl

  gives_is : (back : List Symbol) (k : Counts) → got (read_item (gives_symbols n at other ++ back) (from_none k)) ≡ Some (Module (head_at n at 19 n.gives 20) [] (gives_statements n at), back)
  unfolding leaf_at reading.repeat rule_at builtin bracketed atom negated inverted unary factor term summand sum equality ordering compared comparison conjunct conjunction disjunct expression whole argument arguments creation after_comma time_limit assigned assignment printed print create cooperate generate await_event choice choices select get join control broadcast link unlink run halt conditional while_loop repeat value_statement event_statement thread_statement moving_statement statement body condition otherwise branches turns negative signed parameter parameters local place ending head module_item scheduler_item event_item shared_item outer_argument outer_arguments alias start_item create_order control_order value_after_comma broadcast_order order outside_item item program
  gives_is back k = refl

-- nothing goes on with an item
ends_here : (rest : List Symbol) → Free Language (goes_on known item) rest
unfolding builtin bracketed atom negated inverted unary factor term summand sum equality ordering compared comparison conjunct conjunction disjunct expression whole argument arguments creation after_comma time_limit assigned assignment printed print create cooperate generate await_event choice choices select get join control broadcast link unlink run halt conditional while_loop repeat value_statement event_statement thread_statement moving_statement statement body condition otherwise branches turns negative signed parameter parameters local place ending head module_item scheduler_item event_item shared_item outer_argument outer_arguments alias start_item create_order control_order value_after_comma broadcast_order order outside_item item program
ends_here [] = tt
ends_here (s ∷ ss) = refl

pub items_pay : pays_last item ≡ true
unfolding builtin bracketed atom negated inverted unary factor term summand sum equality ordering compared comparison conjunct conjunction disjunct expression whole argument arguments creation after_comma time_limit assigned assignment printed print create cooperate generate await_event choice choices select get join control broadcast link unlink run halt conditional while_loop repeat value_statement event_statement thread_statement moving_statement statement body condition otherwise branches turns negative signed parameter parameters local place ending head module_item scheduler_item event_item shared_item outer_argument outer_arguments alias start_item create_order control_order value_after_comma broadcast_order order outside_item item program
items_pay = refl

-- after its first word no item has the word of a shared variable
pub items_avoid : tail_avoids item (AWord word.Shared) ≡ true
unfolding builtin bracketed atom negated inverted unary factor term summand sum equality ordering compared comparison conjunct conjunction disjunct expression whole argument arguments creation after_comma time_limit assigned assignment printed print create cooperate generate await_event choice choices select get join control broadcast link unlink run halt conditional while_loop repeat value_statement event_statement thread_statement moving_statement statement body condition otherwise branches turns negative signed parameter parameters local place ending head module_item scheduler_item event_item shared_item outer_argument outer_arguments alias start_item create_order control_order value_after_comma broadcast_order order outside_item item program
items_avoid = refl

pub rules_avoid : (r : Rule) → avoids (rules r) (AWord word.Shared) ≡ true
unfolding builtin bracketed atom negated inverted unary factor term summand sum equality ordering compared comparison conjunct conjunction disjunct expression whole argument arguments creation after_comma time_limit assigned assignment printed print create cooperate generate await_event choice choices select get join control broadcast link unlink run halt conditional while_loop repeat value_statement event_statement thread_statement moving_statement statement body condition otherwise branches turns negative signed parameter parameters local place ending head module_item scheduler_item event_item shared_item outer_argument outer_arguments alias start_item create_order control_order value_after_comma broadcast_order order outside_item item program
rules_avoid Bracketed = refl
rules_avoid Signed = refl
rules_avoid Conditional = refl
rules_avoid Looped = refl

abbrev pub SpellsItem : List Symbol → State Language → Declaration → State Language → Type 0
SpellsItem = Spells limits nesting (SpellsRule rules limits nesting) item

-- the first item that is spelled, and the rest
pub record FirstItem (v : Declaration) (back : List Symbol) (xs : Source) (d : State Language) : Type 0 where
  pub others : Source
  pub state : State Language
  pub parts : xs ≡ v ∷ others
  pub nothing : state.due ≡ []
  pub spelled : SpellsEach SpellsItem back state others d

not_empty : (s : Symbol) (ss : List Symbol) → s ∷ ss ≡ [] → ⊥
not_empty s ss e = cc

-- where the symbols are read as one item, that is the first one that is spelled
one_item : (s : Symbol) (ss back : List Symbol) (v : Declaration) → ((k : Counts) → got (read_item (s ∷ (ss ++ back)) (from_none k)) ≡ Some (v, back))
    → (c : State Language) (xs : Source) (d : State Language) → c.due ≡ [] → SpellsEach SpellsItem (s ∷ (ss ++ back)) c xs d → FirstItem v back xs d
one_item s ss back v is c [] d due p = absurd (not_empty s (ss ++ back) p.0)
one_item s ss back v is c (x ∷ xs) d due (front, rest, b, e, p, q) =
    let open_ = spelled_free limits nesting (SpellsRule rules limits nesting) (SpellsRule rules unlimited nesting) (rule_free limits rules nesting) item front c x b p in
    let found : read_item (front ++ rest) c ≡ done x rest b = spelled_read rules known fair unlimited nesting item item_checked.form_clear front rest c x b open_ (ends_here rest) in
    let here : got (read_item (s ∷ (ss ++ back)) c) ≡ Some (x, rest) = ap (λ l. got (read_item l c)) e ∙ ap got found in
    let state : c ≡ from_none c.counts = ap (λ t. record { counts = c.counts; due = t }) due in
    let there : got (read_item (s ∷ (ss ++ back)) c) ≡ Some (v, back) = ap (λ t. got (read_item (s ∷ (ss ++ back)) t)) state ∙ is c.counts in
    let both : Some (x, rest) ≡ Some (v, back) = sym here ∙ there in
    let pair : (x, rest) ≡ (v, back) = cc in
    let same : x ≡ v = ap (λ (t : Declaration × List Symbol). t.0) pair in
    let left : rest ≡ back = ap (λ (t : Declaration × List Symbol). t.1) pair in
    record {
      others = xs;
      state = b;
      parts = ap (λ y. y ∷ xs) same;
      nothing = nothing_due limits nesting (SpellsRule rules limits nesting) item items_pay front c x b p;
      spelled = subst (λ l. SpellsEach SpellsItem l b xs d) left q;
    }

module _ (n : LockNames) (at other : ℕ → ℕ) where
  pub first_shared : (back : List Symbol) (c : State Language) (xs : Source) (d : State Language) → c.due ≡ [] → SpellsEach SpellsItem (shared_first n at other ∷ (shared_rest n at other ++ back)) c xs d
      → FirstItem (Shared (name_at n at 13 n.held) (name_at n at 14 n.at) (pos 0)) back xs d
  first_shared back c xs d due p = one_item _ (shared_rest n at other) back _ (shared_is n at other back) c xs d due p

  pub first_event : (back : List Symbol) (c : State Language) (xs : Source) (d : State Language) → c.due ≡ [] → SpellsEach SpellsItem (event_symbols n at other ++ back) c xs d
      → FirstItem (Event (name_at n at 15 n.free) (name_at n at 16 n.at)) back xs d
  first_event back c xs d due p = one_item _ (tail_of (event_symbols n at other)) back _ (event_is n at other back) c xs d due p

  pub first_takes : (back : List Symbol) (c : State Language) (xs : Source) (d : State Language) → c.due ≡ [] → SpellsEach SpellsItem (takes_symbols n at other ++ back) c xs d
      → FirstItem (Module (head_at n at 17 n.takes 18) [] (takes_statements n at)) back xs d
  first_takes back c xs d due p = one_item _ (tail_of (takes_symbols n at other)) back _ (takes_is n at other back) c xs d due p

  pub first_gives : (back : List Symbol) (c : State Language) (xs : Source) (d : State Language) → c.due ≡ [] → SpellsEach SpellsItem (gives_symbols n at other ++ back) c xs d
      → FirstItem (Module (head_at n at 19 n.gives 20) [] (gives_statements n at)) back xs d
  first_gives back c xs d due p = one_item _ (tail_of (gives_symbols n at other)) back _ (gives_is n at other back) c xs d due p
