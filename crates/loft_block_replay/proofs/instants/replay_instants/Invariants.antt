use Rattle.std.proofs.Common.{◌≡◌, false}
use Rattle.loft_standing.specs.Stops.{tree_of}
use Rattle.loft_block_replay.specs.Made.{KeepsRules}
use Rattle.loft_block_replay.proofs.MadeLemmas.{SoFar}
use Rattle.loft_block_replay.proofs.instants.replay_instants.Given as goal

-- the instants so far were made
abbrev pub invariant-loop-index : goal.invariant-loop-index
invariant-loop-index g l = record {
  rules : KeepsRules g.E.Engine.program g.E.Engine.scheduler g.E.Engine.limits l.initial.engine l.engine;
  works : g.E.Engine.has_failed l.engine ≡ false;
  so_far : SoFar (tree_of l.p) (g.E.Engine.limits l.initial.engine) l.s (g.E.Engine.machine l.initial.engine) (g.E.Engine.machine l.engine) l.instants l.index l.initial.text l.text;
}
