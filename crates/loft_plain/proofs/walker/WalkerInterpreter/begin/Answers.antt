use Rattle.std.proofs.Common.{◌≡◌, subst}
use Rattle.std.specs.Prelude.{IfOk}
use Rattle.loft_tree.specs.declared.named.NamedProgram.{NamedProgram}
use Rattle.loft_tree.specs.ProgramView.{program_of}
use Rattle.loft_tree.specs.Resolved.{resolved_of}
use Rattle.loft_sense.specs.Machine.{Tree}
use Rattle.loft_sense.specs.Passes.{run_of}
use Rattle.loft_effect.specs.View.{around_of, steps_left}
use Rattle.loft_effect.specs.declared.progress.Progress.{Progress}
use Rattle.loft_effect.specs.Progress.{progress_outcome}
use Rattle.loft_walk.specs.declared.paused.Paused.{Paused}
use Rattle.loft_walk.specs.Midst.{paused_outcome}
use Rattle.loft_plain.proofs.walker.WalkerInterpreter.begin.Goals as goal

pub returns : goal.returns
returns c = record {
  outcome = subst (λ (q : NamedProgram). IfOk c.begin.result (λ (p : Progress Paused). progress_outcome (paused_outcome (resolved_of (program_of q))) p
      ≡ run_of (Tree (resolved_of (program_of q))) c.args.thread (around_of c.args.around) (steps_left c.args.around)))
      c.program.ensures.program c.begin.ensures.gone;
}
