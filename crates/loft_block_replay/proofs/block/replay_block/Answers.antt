use Rattle.std.proofs.Common.{IfOk, ap, subst, ◌∙◌}
use Rattle.loft_base.specs.declared.options.Limits.{Limits}
use Rattle.loft_sense.specs.Machine.{Prog, empty}
use Rattle.loft_standing.specs.Stops.{tree_of}
use Rattle.loft_block_replay.specs.Outcomes.{Ends}
use Rattle.loft_block_replay.proofs.block.replay_block.Goals as goal

pub replay_by-requires-clause-machine : goal.replay_by-requires-clause-machine
replay_by-requires-clause-machine c = c.in_ok-engine.ensures.machine ∙ ap (λ (x : Prog). empty x c.args.s) c.in_ok-engine.ensures.program

pub returns : goal.returns
returns c = subst (λ (l : Limits). IfOk c.replay_by.result (Ends (tree_of c.args.p.now) l c.args.s c.args.instants.now)) c.in_ok-engine.ensures.limits c.replay_by.ensures
