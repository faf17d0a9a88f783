use Rattle.std.proofs.Common.{◌<◌, ◌^◌, List, length, Result, Ok, Err, sym, subst}
use Rattle.std.specs.Prelude.{IfOk}
use Rattle.loft_base.specs.declared.errors.NoMemory.{NoMemory}
use Rattle.loft_tree.specs.declared.named.NamedProgram.{NamedProgram}
use Rattle.loft_tree.specs.NamedFits.{NamedFits}
use Rattle.loft_tree.specs.ProgramView.{program_of}
use Rattle.loft_tree.specs.Resolved.{resolved_of}
use Rattle.loft_budget.specs.Verdicts.{AreVerdicts}
use Rattle.loft_budget.specs.declared.verdict.Verdict.{Verdict}
use Rattle.loft_bound.specs.Kept.{KeepBounds}
use Rattle.loft_bound.proofs.Answered.{few_modules}
use Rattle.loft_bound.proofs.Keeps.{keep_bounds}
use Rattle.loft_bound.proofs.verdicts.bounds.Goals as goal

pub verdicts_of-requires : goal.verdicts_of-requires
verdicts_of-requires c =
    subst (λ (p : NamedProgram). length p.modules.items < 2 ^ 32) (sym c.program.ensures.program) (few_modules c.args.p.now c.program.ensures.fits)

kept : (p : NamedProgram) (r : Result (List Verdict) NoMemory) → NamedFits (program_of p) → IfOk r (AreVerdicts (program_of p)) → IfOk r (KeepBounds (resolved_of (program_of p)))
kept p (Ok v) fits are = keep_bounds (program_of p) fits v are
kept p (Err e) fits are = tt

pub returns-clause-kept : goal.returns-clause-kept
returns-clause-kept c =
    kept c.args.p.now c.verdicts_of.result c.program.ensures.fits
    (subst (λ (p : NamedProgram). IfOk c.verdicts_of.result (AreVerdicts (program_of p))) c.program.ensures.program c.verdicts_of.ensures)
