-- Statements that are spelled as lines by themselves keep the limits that lines have.
use Rattle.std.proofs.Common.{ℕ, List, Option, ◌⊎◌, inl, inr, refl}
use Rattle.loft_tree.specs.Source.{Ident, Expression, Creation}
use Rattle.loft_tree.specs.Fits.{Each, NameFits, ExpressionFits}
use Rattle.loft_grammar.specs.Expressions.{arguments, argument, whole}
use Rattle.loft_grammar.specs.Statements.{assignment_of, print_of, creation, assigned, assignment, print, create, cooperate, generate, await_event, select, get, join, control, broadcast, link, unlink, run, halt, conditional, while_loop, repeat, value_statement, event_statement, thread_statement, moving_statement, statement}
use Rattle.loft_grammar.specs.Limits.{nesting, line_limits}
use Rattle.loft_grammar.specs.PartsFit.{LineCreationFits, LineFits}
use Rattle.loft_grammar.specs.declared.counts.Counted.TheVariants.{Operand}
use Rattle.loft_productions.proofs.fits.Expressions.{name_fits, whole_fits}
use Rattle.loft_productions.proofs.fits.Lists.{listed_gives}
use Rattle.loft_productions.proofs.fits.Parts.{Gives, IsLimited, gives_any, ◌▸◌, ◌or◌, gives_made, gives_counted, gives_fresh, gives_maybe}
use Rattle.loft_productions.proofs.fits.Statements.{PrintedFits, event_name_fits, choices_fit, comma_fits, limit_fits, printed_fits}

operands : IsLimited line_limits Operand
operands = refl

expression_fits : Gives line_limits nesting whole (ExpressionFits nesting)
expression_fits = whole_fits operands nesting

arguments_fit : Gives line_limits nesting arguments (Each (ExpressionFits nesting))
unfolding arguments argument
arguments_fit = gives_made (gives_any ▸ gives_fresh (listed_gives (gives_counted expression_fits)) ▸ gives_any) (λ x h. h.1.0)

creation_fits : Gives line_limits nesting creation LineCreationFits
unfolding creation
creation_fits = gives_made (name_fits ▸ gives_any ▸ name_fits ▸ arguments_fit) (λ x h. (h.0, h.1.1.0, h.1.1.1))

-- what an assignment assigns
abbrev AssignedFits : (ℕ × Creation) ⊎ Expression → Type 0
AssignedFits (inl x) = LineCreationFits x.1
AssignedFits (inr e) = ExpressionFits nesting e

assigned_fits : Gives line_limits nesting assigned AssignedFits
unfolding assigned
assigned_fits = gives_made (gives_any ▸ creation_fits) (λ x h. h.1) or gives_made expression_fits (λ x h. h)

assignment_fits_of : (target : Ident) (x : (ℕ × Creation) ⊎ Expression) → NameFits target → AssignedFits x → LineFits (assignment_of target x)
assignment_fits_of target (inl x) fits h = (fits, h)
assignment_fits_of target (inr e) fits h = (fits, h)

print_fits : (at : ℕ) (x : (List ℕ × Option Expression) ⊎ Expression) → PrintedFits nesting x → LineFits (print_of at x)
print_fits at (inl x) h = h
print_fits at (inr e) h = h

value_fits : Gives line_limits nesting value_statement LineFits
unfolding value_statement assignment print create
value_fits =
    gives_made (gives_counted name_fits ▸ gives_any ▸ assigned_fits ▸ gives_any) (λ x h. assignment_fits_of x.0 x.1.1.0 h.0 h.1.1.0)
    or gives_made (gives_any ▸ printed_fits operands ▸ gives_any) (λ x h. print_fits x.0 x.1.0 h.1.0)
    or gives_made (gives_any ▸ creation_fits ▸ gives_any) (λ x h. h.1.0)

event_fits : Gives line_limits nesting event_statement LineFits
unfolding event_statement generate await_event select get broadcast
event_fits =
    gives_made (gives_any ▸ event_name_fits ▸ gives_maybe (comma_fits operands) ▸ gives_any) (λ x h. (h.1.0, h.1.1.0))
    or gives_made (gives_any ▸ event_name_fits ▸ gives_maybe (limit_fits operands) ▸ gives_any) (λ x h. (h.1.0, h.1.1.0))
    or gives_made (gives_any ▸ gives_fresh choices_fit ▸ gives_maybe (limit_fits operands) ▸ gives_any) (λ x h. (h.1.0.0, h.1.0.1, h.1.1.0))
    or gives_made (gives_any ▸ event_name_fits ▸ gives_any ▸ expression_fits ▸ gives_any ▸ name_fits ▸ gives_any) (λ x h. (h.1.0, h.1.1.1.0, h.1.1.1.1.1.0))
    or gives_made (gives_any ▸ event_name_fits ▸ gives_maybe (comma_fits operands) ▸ gives_any) (λ x h. (h.1.0, h.1.1.0))

thread_fits : Gives line_limits nesting thread_statement LineFits
unfolding thread_statement cooperate join control run halt
thread_fits =
    gives_made (gives_any ▸ gives_maybe expression_fits ▸ gives_any) (λ x h. h.1.0)
    or gives_made (gives_any ▸ expression_fits ▸ gives_maybe (limit_fits operands) ▸ gives_any) (λ x h. (h.1.0, h.1.1.0))
    or gives_made (gives_any ▸ expression_fits ▸ gives_any ▸ name_fits ▸ gives_any) (λ x h. (h.1.0, h.1.1.1.0))
    or gives_made (gives_any ▸ name_fits ▸ arguments_fit ▸ gives_any) (λ x h. (h.1.0, h.1.1.0))
    or gives_made gives_any (λ x h. tt)

moving_fits : Gives line_limits nesting moving_statement LineFits
unfolding moving_statement link unlink conditional while_loop repeat
moving_fits =
    gives_made (gives_any ▸ name_fits ▸ gives_any) (λ x h. h.1.0)
    or gives_made gives_any (λ x h. tt)
    or gives_made gives_any (λ x h. tt)
    or gives_made gives_any (λ x h. tt)
    or gives_made gives_any (λ x h. tt)

-- A statement that is spelled so keeps the limits of a line.
pub line_fits : Gives line_limits nesting statement LineFits
unfolding statement
line_fits = value_fits or event_fits or thread_fits or moving_fits
