use Rattle.std.proofs.Common.{◌∙◌, sym, ap, Option}
use Rattle.loft_tree.specs.ProgramView.{program_of}
use Rattle.loft_tree.specs.Resolved.{resolved_of}
use Rattle.loft_sense.specs.Tree.{tree}
use Rattle.loft_effect.specs.View.{beside_of}
use Rattle.loft_walk.specs.declared.stopping.Stopped.{Stopped}
use Rattle.loft_walk.specs.Frames.{actives, goes_or_stops}
use Rattle.loft_walk.proofs.thread.run.Goals as goal

pub returns-in-None-clause-gone : goal.returns-in-None-clause-gone
returns-in-None-clause-gone c = c.new.ensures.outcome (resolved_of (program_of c.args.program.now)) ∙ (sym (ap (λ (o : Option Stopped). goes_or_stops o (tree (resolved_of (program_of c.args.program.now))) c.make_steps.new.left (beside_of c.make_steps.new.beside) (actives c.make_steps.new.running.items)) c.in-None.is) ∙ c.in_ok-stopped.ensures.steps)

pub returns-in_ok-stop-in-Some-clause-gone : goal.returns-in_ok-stop-in-Some-clause-gone
returns-in_ok-stop-in-Some-clause-gone c = c.in_ok-stop-in-Some.ensures.stops (resolved_of (program_of c.args.program.now)) ∙ (sym (ap (λ (o : Option Stopped). goes_or_stops o (tree (resolved_of (program_of c.args.program.now))) c.make_steps.new.left (beside_of c.make_steps.new.beside) (actives c.make_steps.new.running.items)) c.in-Some.is) ∙ c.in_ok-stopped.ensures.steps)
