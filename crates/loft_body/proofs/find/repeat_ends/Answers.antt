use Rattle.std.specs.Prelude.{is_none}
use Rattle.std.proofs.Common.{sym, ◌∙◌}
use Rattle.loft_tree.specs.NamedView.{term_of, statements_of}
use Rattle.loft_tree.specs.Resolved.{exp_of, body_of}
use Rattle.loft_budget.specs.Steps.{literal, body_steps}
use Rattle.loft_body.specs.Capped.{entry}
use Rattle.loft_body.proofs.Finds.{some_counts, none_counts}
use Rattle.loft_body.proofs.find.repeat_ends.Goals as goal

pub returns-in-Some : goal.returns-in-Some
returns-in-Some c =
    some_counts (is_none (body_steps (entry c.args.table.now) (body_of (statements_of c.args.body.now))).through) (literal (exp_of (term_of c.args.count.now))) c.in-Some.field-0
    (sym c.bare_number.ensures.number ∙ c.in-Some.is)

pub returns-in-None : goal.returns-in-None
returns-in-None c =
    c.is_sure.ensures
    ∙ none_counts (is_none (body_steps (entry c.args.table.now) (body_of (statements_of c.args.body.now))).through) (literal (exp_of (term_of c.args.count.now))) (sym c.bare_number.ensures.number ∙ c.in-None.is)
