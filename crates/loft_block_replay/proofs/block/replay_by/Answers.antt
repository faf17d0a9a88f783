use Rattle.std.proofs.Common.{subst}
use Rattle.loft_sense.specs.Machine.{Mach}
use Rattle.loft_standing.specs.Stops.{tree_of}
use Rattle.loft_block_replay.specs.Made.{AllMade, FailsFirstAt}
use Rattle.loft_block_replay.proofs.BatchLemmas.{some_of, none_of}
use Rattle.loft_block_replay.proofs.MadeLemmas.{start_text, whole_block}
use Rattle.loft_block_replay.proofs.block.replay_by.Goals as goal

pub returns-in-Some : goal.returns-in-Some
returns-in-Some g c =
    let x = tree_of c.args.p.now in
    let limits = g.E.Engine.limits c.args.engine.now in
    subst (λ (m : Mach). FailsFirstAt x limits c.args.s m c.args.instants.now c.in-Some.entry) c.requires.machine
    (some_of (FailsFirstAt x limits c.args.s (g.E.Engine.machine c.args.engine.now) c.args.instants.now) c.in_ok-stop.stop c.in-Some.entry c.in-Some.is c.in_ok-stop.ensures.stopped)

pub returns-in_ok-bytes-in-None : goal.returns-in_ok-bytes-in-None
returns-in_ok-bytes-in-None g c =
    let x = tree_of c.args.p.now in
    let limits = g.E.Engine.limits c.args.engine.now in
    let last = g.E.Engine.machine c.replay_instants.new.engine in
    let all = subst (λ (m : Mach). AllMade x limits c.args.s m last c.args.instants.now c.push_block_start.new.text c.replay_instants.new.text) c.requires.machine
    (none_of (AllMade x limits c.args.s (g.E.Engine.machine c.args.engine.now) last c.args.instants.now c.push_block_start.new.text c.replay_instants.new.text) c.in_ok-stop.stop c.in-None.is c.in_ok-stop.ensures.made) in
    let start = start_text c.new-text.result c.push_block_start.new.text c.heads.result.now c.args.p.now.heads c.args.s c.heads.ensures c.push_block_start.ensures in
    whole_block x limits c.args.s c.args.instants.now last c.new-text.result c.push_block_start.new.text c.replay_instants.new.text c.finish.new.text c.in_ok-bytes-in-None.bytes c.new-text.ensures.text start all
    c.in_ok-finish-in-None.ensures c.in_ok-bytes-in-None.ensures.whole c.in_ok-bytes-in-None.ensures.bytes
