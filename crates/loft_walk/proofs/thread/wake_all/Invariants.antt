use Rattle.std.proofs.Common.{◌≡◌, ◌++◌, vec_len}
use Rattle.std.specs.Prelude.{map}
use Rattle.std.specs.Option.{option_map}
use Rattle.loft_tree.specs.ProgramView.{program_of}
use Rattle.loft_tree.specs.Resolved.{resolved_of, target_of}
use Rattle.loft_sense.specs.Tree.{tree}
use Rattle.loft_sense.specs.Run.{active_of}
use Rattle.loft_walk.specs.Frames.{active, actives, top_target}
use Rattle.loft_walk.proofs.thread.wake_all.Given as goal

-- those so far, and then the rest
abbrev pub invariant-waking : goal.invariant-waking
invariant-waking l = record {
  frames : map (active_of (tree (resolved_of (program_of l.program)))) l.fn.frames.items ≡ map active l.running.items ++ map (active_of (tree (resolved_of (program_of l.program)))) l.frames.items;
  target : option_map target_of l.target ≡ top_target (resolved_of (program_of l.program)) (actives l.running.items);
}

abbrev pub decreases-waking : goal.decreases-waking
decreases-waking l = vec_len l.frames
