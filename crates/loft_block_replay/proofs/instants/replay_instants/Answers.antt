use Rattle.std.proofs.Common.{◌<◌, List, length, refl, subst, ◌∙◌}
use Rattle.loft_base.specs.declared.options.Limits.{Limits}
use Rattle.loft_orders.specs.declared.order.Order.{Order}
use Rattle.loft_standing.specs.Stops.{tree_of}
use Rattle.loft_block_replay.specs.Block.{IsNext}
use Rattle.loft_block_replay.specs.Made.{Made}
use Rattle.loft_block_replay.proofs.MadeLemmas.{none_so_far, one_more, all_made, stops, got_as}
use Rattle.loft_block_replay.proofs.instants.replay_instants.Goals as goal

pub loop-index-init : goal.loop-index-init
loop-index-init g c = record {
  rules = record { same_program = refl; same_scheduler = refl; same_limits = refl };
  works = c.requires.works;
  so_far = none_so_far (tree_of c.args.p.now) (g.E.Engine.limits c.args.engine.now) c.args.s (g.E.Engine.machine c.args.engine.now) c.args.instants.now c.args.text.now;
}

pub replay_instant-requires-clause-program : goal.replay_instant-requires-clause-program
replay_instant-requires-clause-program g c = c.loop-index.invariant.rules.same_program ∙ c.requires.program

pub replay_instant-requires-clause-scheduler : goal.replay_instant-requires-clause-scheduler
replay_instant-requires-clause-scheduler g c = c.loop-index.invariant.rules.same_scheduler ∙ c.requires.scheduler

pub loop-index-preserved : goal.loop-index-preserved
loop-index-preserved g c =
    let x = tree_of c.args.p.now in
    let m = g.E.Engine.machine c.loop-index.engine in
    let after = g.E.Engine.machine c.replay_instant.new.engine in
    let rules = c.loop-index.invariant.rules in
    let next = c.in_ok-made.ensures.rules in
    let below : c.loop-index.index < length c.args.instants.now = c.loop-index-test.true in
    let made = subst (λ (l : Limits). Made x l c.args.s m after c.as_slice-lines.result.now c.loop-index.text c.replay_instant.new.text) rules.same_limits (c.in_ok-made.ensures.made c.if-not-made.false) in
    record {
      rules = record { same_program = next.same_program ∙ rules.same_program; same_scheduler = next.same_scheduler ∙ rules.same_scheduler; same_limits = next.same_limits ∙ rules.same_limits };
      works = c.in_ok-made.ensures.works;
      so_far = one_more x (g.E.Engine.limits c.args.engine.now) c.args.s (g.E.Engine.machine c.args.engine.now) m after c.args.instants.now c.loop-index.index c.args.text.now c.loop-index.text c.replay_instant.new.text c.as_slice-lines.result.now c.loop-index.invariant.so_far below
          (got_as c.args.instants.now c.loop-index.index c.index-instants-index.result c.as_slice-lines.result.now c.index-instants-index.is c.as_slice-lines.ensures below) made;
    }

pub returns-then-not-made-clause-stopped : goal.returns-then-not-made-clause-stopped
returns-then-not-made-clause-stopped g c =
    let x = tree_of c.args.p.now in
    let m = g.E.Engine.machine c.loop-index.engine in
    let below : c.loop-index.index < length c.args.instants.now = c.loop-index-test.true in
    let never = subst (λ (l : Limits). (b : List Order) → IsNext x l c.args.s m c.as_slice-lines.result.now b → ⊥) c.loop-index.invariant.rules.same_limits (c.in_ok-made.ensures.refused c.if-not-made.true) in
    stops x (g.E.Engine.limits c.args.engine.now) c.args.s (g.E.Engine.machine c.args.engine.now) m c.args.instants.now c.loop-index.index c.args.text.now c.loop-index.text c.as_slice-lines.result.now c.loop-index.invariant.so_far below
    (got_as c.args.instants.now c.loop-index.index c.index-instants-index.result c.as_slice-lines.result.now c.index-instants-index.is c.as_slice-lines.ensures below) never

pub returns-clause-made : goal.returns-clause-made
returns-clause-made g c =
    all_made (tree_of c.args.p.now) (g.E.Engine.limits c.args.engine.now) c.args.s (g.E.Engine.machine c.args.engine.now) (g.E.Engine.machine c.loop-index.engine) c.args.instants.now c.loop-index.index c.args.text.now c.loop-index.text
    c.loop-index.invariant.so_far c.loop-index-test.false
