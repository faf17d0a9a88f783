use Rattle.std.proofs.Common.{List, Option, Ok, sym, ap, subst, ◌∙◌}
use Rattle.std.specs.Prelude.{All}
use Rattle.loft_base.specs.declared.ids.SchedId.{SchedId}
use Rattle.loft_orders.specs.declared.order.Order.{Order}
use Rattle.loft_sense.specs.Machine.{Prog}
use Rattle.loft_sense.specs.Fits.{Fits}
use Rattle.loft_standing.specs.Stops.{tree_of}
use Rattle.loft_block_replay.specs.Batch.{order_lines, AreGiven}
use Rattle.loft_block_replay.proofs.BatchLemmas.{only_found, none_found, some_of, ok_map, given_fit}
use Rattle.loft_block_replay.proofs.MadeLemmas.{made_turn, never_turns}
use Rattle.loft_block_replay.proofs.instants.replay_instant.Goals as goal

pub take_turn-requires-clause-fits : goal.take_turn-requires-clause-fits
take_turn-requires-clause-fits g c =
    let given = some_of (AreGiven (tree_of c.args.p.now) c.args.s (order_lines c.args.lines.now)) _ c.in-Some.batch c.in-Some.is c.in_ok-batch.ensures.given in
    let fits = given_fit (tree_of c.args.p.now) c.args.s (order_lines c.args.lines.now) c.in-Some.batch given in
    subst (λ (x : Prog). All (Fits x (g.E.Engine.scheduler c.args.engine.now)) c.in-Some.batch) (sym c.requires.program)
    (subst (λ (s : SchedId). All (Fits (tree_of c.args.p.now) s) c.in-Some.batch) (sym c.requires.scheduler) fits)

pub returns-in-Some-clause-made : goal.returns-in-Some-clause-made
returns-in-Some-clause-made g c =
    let given = some_of (AreGiven (tree_of c.args.p.now) c.args.s (order_lines c.args.lines.now)) _ c.in-Some.batch c.in-Some.is c.in_ok-batch.ensures.given in
    let found = c.in_ok-batch.was ∙ ap (λ (k : Option (List Order)). Ok k) c.in-Some.is in
    ok_map _ _ c.take_turn.result c.take_turn.ensures.made (λ made turned is.
    made_turn (tree_of c.args.p.now) (g.E.Engine.limits c.args.engine.now) c.args.s (g.E.Engine.machine c.args.engine.now) (g.E.Engine.machine c.take_turn.new.engine) c.args.lines.now c.in-Some.batch c.args.text.now c.take_turn.new.text given
    (λ b are. only_found c.read_batch.result c.in-Some.batch b found (c.read_batch.ensures.exact b are)) (turned is))

pub returns-in-Some-clause-refused : goal.returns-in-Some-clause-refused
returns-in-Some-clause-refused g c =
    let found = c.in_ok-batch.was ∙ ap (λ (k : Option (List Order)). Ok k) c.in-Some.is in
    ok_map _ _ c.take_turn.result c.take_turn.ensures.refused (λ made none is.
    never_turns (tree_of c.args.p.now) (g.E.Engine.limits c.args.engine.now) c.args.s (g.E.Engine.machine c.args.engine.now) c.args.lines.now c.in-Some.batch
    (λ b are. only_found c.read_batch.result c.in-Some.batch b found (c.read_batch.ensures.exact b are)) (none is))

pub returns-in-None-clause-refused : goal.returns-in-None-clause-refused
returns-in-None-clause-refused g c off b n = none_found c.read_batch.result b (c.in_ok-batch.was ∙ ap (λ (k : Option (List Order)). Ok k) c.in-None.is) (c.read_batch.ensures.exact b n.given)
