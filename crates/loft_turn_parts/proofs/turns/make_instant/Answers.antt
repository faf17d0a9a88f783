use Rattle.loft_turn_parts.proofs.TurnLemmas.{replay_made}
use Rattle.loft_turn_parts.proofs.turns.make_instant.Goals as goal

pub returns-clause-own : goal.returns-clause-own
returns-clause-own g c =
    let e = g.E.Engine in
    let engine = c.args.engine.now in
    let new = c.take.new.self in
    replay_made c.push.result (e.program engine) (e.program new) (e.limits engine) (e.limits new) (e.scheduler engine) (e.scheduler new) (e.machine engine) (e.machine new)
    c.args.notes.now c.push.new.self c.args.batch.now c.in_ok-note.note
    c.take.ensures.same_program c.take.ensures.same_limits c.take.ensures.same_scheduler c.in_ok-note.ensures.machine c.in_ok-note.ensures.note c.push.ensures.ok
