-- In this grammar the next symbol always tells how a form goes on.
use Rattle.std.proofs.Common.{◌≡◌, ℕ, zero, suc, ◌+◌, Bool, true, false, ◌||◌, List, [], ◌∷◌, ◌++◌, map, get_or, refl, subst}
use Rattle.loft_lex.specs.Word.{words}
use Rattle.loft_lex.specs.Sign.{signs}
use Rattle.loft_lex.specs.declared.word.Word.TheVariants as word
use Rattle.loft_lex.specs.declared.sign.Sign.TheVariants as sign
use Rattle.loft_form.proofs.Guarded.{guarded}
use Rattle.loft_form.proofs.Checked.{Checked}
use Rattle.loft_form.proofs.Disjoint.{Known, Fair, every, and_true, clear, nullable, starts, goes_on, agrees}
use Rattle.loft_form.specs.Form.{begins}
use Rattle.loft_grammar.specs.Language.{Language, Rule, Bracketed, Signed, Conditional, Looped, is_word, is_sign, Kind, AName, AWord, ANumber, AText, ASign, Other, word_number, sign_number}
use Rattle.loft_grammar.specs.Expressions.{builtin, bracketed, atom, negated, inverted, unary, factor, term, summand, sum, equality, ordering, compared, comparison, conjunct, conjunction, disjunct, expression, whole, argument, arguments}
use Rattle.loft_grammar.specs.Statements.{rules, creation, after_comma, time_limit, assigned, assignment, printed, print, create, cooperate, generate, await_event, choice, choices, select, get, join, control, broadcast, link, unlink, run, halt, conditional, while_loop, repeat, value_statement, event_statement, thread_statement, moving_statement, statement, body, condition, otherwise, branches, turns}
use Rattle.loft_grammar.specs.Items.{negative, signed, parameter, parameters, local, place, ending, head, module_item, scheduler_item, event_item, shared_item, outer_argument, outer_arguments, alias, start_item, create_order, control_order, value_after_comma, broadcast_order, order, outside_item, item, program}

unfoldable pub kinds : List Kind
kinds = Other ∷ AName ∷ ANumber ∷ AText ∷ (map (λ w. AWord w) words ++ map (λ s. ASign s) signs)

-- where a kind stands in the list
abbrev number_of : Kind → ℕ
number_of Other = 0
number_of AName = 1
number_of ANumber = 2
number_of AText = 3
number_of (AWord w) = 4 + word_number w
number_of (ASign s) = 46 + sign_number s

there : (k : Kind) → get_or kinds (number_of k) Other ≡ k
unfolding kinds
there Other = refl
there AName = refl
there ANumber = refl
there AText = refl
there (AWord word.Scheduler) = refl
there (AWord word.Event) = refl
there (AWord word.In) = refl
there (AWord word.Shared) = refl
there (AWord word.Module) = refl
there (AWord word.To) = refl
there (AWord word.Local) = refl
there (AWord word.Int) = refl
there (AWord word.Thread) = refl
there (AWord word.Start) = refl
there (AWord word.As) = refl
there (AWord word.Outside) = refl
there (AWord word.End) = refl
there (AWord word.Print) = refl
there (AWord word.Cooperate) = refl
there (AWord word.Generate) = refl
there (AWord word.Await) = refl
there (AWord word.For) = refl
there (AWord word.Select) = refl
there (AWord word.Get) = refl
there (AWord word.At) = refl
there (AWord word.Into) = refl
there (AWord word.Join) = refl
there (AWord word.Create) = refl
there (AWord word.Stop) = refl
there (AWord word.Suspend) = refl
there (AWord word.Resume) = refl
there (AWord word.Broadcast) = refl
there (AWord word.Link) = refl
there (AWord word.Unlink) = refl
there (AWord word.If) = refl
there (AWord word.Then) = refl
there (AWord word.Else) = refl
there (AWord word.While) = refl
there (AWord word.Do) = refl
there (AWord word.Repeat) = refl
there (AWord word.Run) = refl
there (AWord word.Halt) = refl
there (AWord word.SelfWord) = refl
there (AWord word.Code) = refl
there (AWord word.Mask) = refl
there (AWord word.Unlinked) = refl
there (ASign sign.Semicolon) = refl
there (ASign sign.Comma) = refl
there (ASign sign.Dot) = refl
there (ASign sign.Open) = refl
there (ASign sign.Close) = refl
there (ASign sign.OpenBrace) = refl
there (ASign sign.CloseBrace) = refl
there (ASign sign.Equals) = refl
there (ASign sign.Plus) = refl
there (ASign sign.Minus) = refl
there (ASign sign.Star) = refl
there (ASign sign.Slash) = refl
there (ASign sign.Percent) = refl
there (ASign sign.Not) = refl
there (ASign sign.Same) = refl
there (ASign sign.Differs) = refl
there (ASign sign.Less) = refl
there (ASign sign.LessOrSame) = refl
there (ASign sign.Greater) = refl
there (ASign sign.GreaterOrSame) = refl
there (ASign sign.And) = refl
there (ASign sign.Or) = refl

every_at : (p : Kind → Bool) (ks : List Kind) (i : ℕ) → every p ks ≡ true → p Other ≡ true → p (get_or ks i Other) ≡ true
unfolding every
every_at p [] i e o = o
every_at p (k ∷ ks) zero e o = (and_true _ _ e).0
every_at p (k ∷ ks) (suc i) e o = every_at p ks i (and_true _ _ e).1 o

all_kinds : (p : Kind → Bool) → every p kinds ≡ true → (k : Kind) → p k ≡ true
unfolding every kinds
all_kinds p e k = subst (λ j. p j ≡ true) (there k) (every_at p kinds (number_of k) e (and_true _ _ e).0)

-- the operators between two operands
abbrev pub is_operator : Kind → Bool
is_operator k =
    is_sign sign.Star k || is_sign sign.Slash k || is_sign sign.Percent k || is_sign sign.Plus k || is_sign sign.Minus k
    || is_sign sign.Same k || is_sign sign.Differs k || is_sign sign.Less k || is_sign sign.LessOrSame k || is_sign sign.Greater k
    || is_sign sign.GreaterOrSame k || is_sign sign.And k || is_sign sign.Or k

abbrev pub may_go_on : Rule → Kind → Bool
may_go_on Bracketed k = is_operator k
may_go_on Signed k = false
may_go_on Conditional k = is_word word.Else k || begins statement k
may_go_on Looped k = begins statement k

abbrev pub known : Known Language
known = record { may_be_empty = λ r. false; may_start = λ r k. begins (rules r) k; may_go_on = may_go_on; kinds = kinds }

rule_clear : (r : Rule) → clear known (rules r) ≡ true
unfolding kinds every builtin bracketed atom negated inverted unary factor term summand sum equality ordering compared comparison conjunct conjunction disjunct expression whole argument arguments creation after_comma time_limit assigned assignment printed print create cooperate generate await_event choice choices select get join control broadcast link unlink run halt conditional while_loop repeat value_statement event_statement thread_statement moving_statement statement body condition otherwise branches turns
rule_clear Bracketed = refl
rule_clear Signed = refl
rule_clear Conditional = refl
rule_clear Looped = refl

rule_empty : (r : Rule) → nullable known (rules r) ≡ true → false ≡ true
unfolding builtin bracketed atom negated inverted unary factor term summand sum equality ordering compared comparison conjunct conjunction disjunct expression whole argument arguments creation after_comma time_limit assigned assignment printed print create cooperate generate await_event choice choices select get join control broadcast link unlink run halt conditional while_loop repeat value_statement event_statement thread_statement moving_statement statement body condition otherwise branches turns
rule_empty Bracketed e = e
rule_empty Signed e = e
rule_empty Conditional e = e
rule_empty Looped e = e

rule_starts : (r : Rule) → agrees known (starts known (rules r)) (known.may_start r) ≡ true
unfolding kinds every builtin bracketed atom negated inverted unary factor term summand sum equality ordering compared comparison conjunct conjunction disjunct expression whole argument arguments creation after_comma time_limit assigned assignment printed print create cooperate generate await_event choice choices select get join control broadcast link unlink run halt conditional while_loop repeat value_statement event_statement thread_statement moving_statement statement body condition otherwise branches turns
rule_starts Bracketed = refl
rule_starts Signed = refl
rule_starts Conditional = refl
rule_starts Looped = refl

rule_goes_on : (r : Rule) → agrees known (goes_on known (rules r)) (known.may_go_on r) ≡ true
unfolding kinds every builtin bracketed atom negated inverted unary factor term summand sum equality ordering compared comparison conjunct conjunction disjunct expression whole argument arguments creation after_comma time_limit assigned assignment printed print create cooperate generate await_event choice choices select get join control broadcast link unlink run halt conditional while_loop repeat value_statement event_statement thread_statement moving_statement statement body condition otherwise branches turns
rule_goes_on Bracketed = refl
rule_goes_on Signed = refl
rule_goes_on Conditional = refl
rule_goes_on Looped = refl

pub fair : Fair rules known
fair = record { all_kinds = all_kinds; rule_clear = rule_clear; rule_empty = rule_empty; rule_starts = rule_starts; rule_goes_on = rule_goes_on }

pub program_clear : clear known program ≡ true
unfolding kinds every builtin bracketed atom negated inverted unary factor term summand sum equality ordering compared comparison conjunct conjunction disjunct expression whole argument arguments creation after_comma time_limit assigned assignment printed print create cooperate generate await_event choice choices select get join control broadcast link unlink run halt conditional while_loop repeat value_statement event_statement thread_statement moving_statement statement body condition otherwise branches turns negative signed parameter parameters local place ending head module_item scheduler_item event_item shared_item outer_argument outer_arguments alias start_item create_order control_order value_after_comma broadcast_order order outside_item item program
program_clear = refl

rule_guarded : (r : Rule) → guarded false (rules r) ≡ true
unfolding builtin bracketed atom negated inverted unary factor term summand sum equality ordering compared comparison conjunct conjunction disjunct expression whole argument arguments creation after_comma time_limit assigned assignment printed print create cooperate generate await_event choice choices select get join control broadcast link unlink run halt conditional while_loop repeat value_statement event_statement thread_statement moving_statement statement body condition otherwise branches turns
rule_guarded Bracketed = refl
rule_guarded Signed = refl
rule_guarded Conditional = refl
rule_guarded Looped = refl

program_guarded : guarded false program ≡ true
unfolding builtin bracketed atom negated inverted unary factor term summand sum equality ordering compared comparison conjunct conjunction disjunct expression whole argument arguments creation after_comma time_limit assigned assignment printed print create cooperate generate await_event choice choices select get join control broadcast link unlink run halt conditional while_loop repeat value_statement event_statement thread_statement moving_statement statement body condition otherwise branches turns negative signed parameter parameters local place ending head module_item scheduler_item event_item shared_item outer_argument outer_arguments alias start_item create_order control_order value_after_comma broadcast_order order outside_item item program
program_guarded = refl

-- all that the general theorems ask of this grammar
pub checked : Checked rules known program
checked = record { fair = fair; rules_guarded = rule_guarded; form_clear = program_clear; form_guarded = program_guarded }

-- ---- the same of parts of a source

pub statement_checked : Checked rules known statement
unfolding kinds every builtin bracketed atom negated inverted unary factor term summand sum equality ordering compared comparison conjunct conjunction disjunct expression whole argument arguments creation after_comma time_limit assigned assignment printed print create cooperate generate await_event choice choices select get join control broadcast link unlink run halt conditional while_loop repeat value_statement event_statement thread_statement moving_statement statement body condition otherwise branches turns negative signed parameter parameters local place ending head module_item scheduler_item event_item shared_item outer_argument outer_arguments alias start_item create_order control_order value_after_comma broadcast_order order outside_item item program
statement_checked = record { fair = fair; rules_guarded = rule_guarded; form_clear = refl; form_guarded = refl }

pub whole_checked : Checked rules known whole
unfolding kinds every builtin bracketed atom negated inverted unary factor term summand sum equality ordering compared comparison conjunct conjunction disjunct expression whole argument arguments creation after_comma time_limit assigned assignment printed print create cooperate generate await_event choice choices select get join control broadcast link unlink run halt conditional while_loop repeat value_statement event_statement thread_statement moving_statement statement body condition otherwise branches turns negative signed parameter parameters local place ending head module_item scheduler_item event_item shared_item outer_argument outer_arguments alias start_item create_order control_order value_after_comma broadcast_order order outside_item item program
whole_checked = record { fair = fair; rules_guarded = rule_guarded; form_clear = refl; form_guarded = refl }

pub item_checked : Checked rules known item
unfolding kinds every builtin bracketed atom negated inverted unary factor term summand sum equality ordering compared comparison conjunct conjunction disjunct expression whole argument arguments creation after_comma time_limit assigned assignment printed print create cooperate generate await_event choice choices select get join control broadcast link unlink run halt conditional while_loop repeat value_statement event_statement thread_statement moving_statement statement body condition otherwise branches turns negative signed parameter parameters local place ending head module_item scheduler_item event_item shared_item outer_argument outer_arguments alias start_item create_order control_order value_after_comma broadcast_order order outside_item item program
item_checked = record { fair = fair; rules_guarded = rule_guarded; form_clear = refl; form_guarded = refl }

pub head_checked : Checked rules known head
unfolding kinds every builtin bracketed atom negated inverted unary factor term summand sum equality ordering compared comparison conjunct conjunction disjunct expression whole argument arguments creation after_comma time_limit assigned assignment printed print create cooperate generate await_event choice choices select get join control broadcast link unlink run halt conditional while_loop repeat value_statement event_statement thread_statement moving_statement statement body condition otherwise branches turns negative signed parameter parameters local place ending head module_item scheduler_item event_item shared_item outer_argument outer_arguments alias start_item create_order control_order value_after_comma broadcast_order order outside_item item program
head_checked = record { fair = fair; rules_guarded = rule_guarded; form_clear = refl; form_guarded = refl }

pub local_checked : Checked rules known local
unfolding kinds every builtin bracketed atom negated inverted unary factor term summand sum equality ordering compared comparison conjunct conjunction disjunct expression whole argument arguments creation after_comma time_limit assigned assignment printed print create cooperate generate await_event choice choices select get join control broadcast link unlink run halt conditional while_loop repeat value_statement event_statement thread_statement moving_statement statement body condition otherwise branches turns negative signed parameter parameters local place ending head module_item scheduler_item event_item shared_item outer_argument outer_arguments alias start_item create_order control_order value_after_comma broadcast_order order outside_item item program
local_checked = record { fair = fair; rules_guarded = rule_guarded; form_clear = refl; form_guarded = refl }

pub order_checked : Checked rules known order
unfolding kinds every builtin bracketed atom negated inverted unary factor term summand sum equality ordering compared comparison conjunct conjunction disjunct expression whole argument arguments creation after_comma time_limit assigned assignment printed print create cooperate generate await_event choice choices select get join control broadcast link unlink run halt conditional while_loop repeat value_statement event_statement thread_statement moving_statement statement body condition otherwise branches turns negative signed parameter parameters local place ending head module_item scheduler_item event_item shared_item outer_argument outer_arguments alias start_item create_order control_order value_after_comma broadcast_order order outside_item item program
order_checked = record { fair = fair; rules_guarded = rule_guarded; form_clear = refl; form_guarded = refl }
