use Rattle.std.proofs.Common.{◌<◌, ◌^◌, List, length, sym, subst}
use Rattle.loft_budget.specs.declared.verdict.Verdict.{Verdict}
use Rattle.loft_bound.proofs.Answered.{few_verdicts}
use Rattle.loft_bound.proofs.text.bound_text.Goals as goal

pub push_lines-requires : goal.push_lines-requires
push_lines-requires c =
    subst (λ (vs : List Verdict). length vs < 2 ^ 32) (sym c.as_slice.ensures)
    (few_verdicts c.args.p.now c.in_ok-verdicts.verdicts c.program.ensures.fits c.in_ok-verdicts.ensures.verdicts.0)
