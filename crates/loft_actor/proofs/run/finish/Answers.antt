use Rattle.std.proofs.Common.{◌∙◌}
use Rattle.loft_actor.proofs.EndLemmas.{closing, whole_own, run_is, engines, notes}
use Rattle.loft_actor.proofs.run.finish.Goals as goal

pub end_all-requires-clause-stations : goal.end_all-requires-clause-stations
end_all-requires-clause-stations g c = λ k d lt. (c.requires.stations k d lt).ready

pub end_all-requires-clause-workers : goal.end_all-requires-clause-workers
end_all-requires-clause-workers g c = λ k d lt. (c.requires.workers k d lt).ready

pub end_all-requires-clause-outsiders : goal.end_all-requires-clause-outsiders
end_all-requires-clause-outsiders g c = λ k d lt. (c.requires.outsiders k d lt).ready

pub close-world-requires-clause-whole : goal.close-world-requires-clause-whole
close-world-requires-clause-whole g c = whole_own c.args.b c.args.c.now c.args.giver c.in_ok-giver.giver _ c.requires.giver c.in_ok-giver.ensures.giver

pub returns-clause-run : goal.returns-clause-run
returns-clause-run g c =
    let b = c.args.b in
    let x = c.args.c.now in
    let l = c.args.l in
    let a = c.args.a in
    let w = c.close-world.result in
    let k = closing b x l c.args.workers c.args.giver c.in_ok-giver.giver w a.stations a.workers a.outsiders c.requires.giver c.requires.stations c.requires.workers c.requires.outsiders c.requires.many c.requires.over c.in_ok-giver.ensures.giver c.close-world.ensures.follows c.close-world.ensures.only in
    run_is b x l c.args.workers c.args.giver c.in_ok-giver.giver w a.stations a.workers a.outsiders c.requires.giver c.in_ok-giver.ensures.giver c.close-world.ensures.follows c.close-world.ensures.only c.length-length.ensures.routed c.closed_histories_are_legal.ensures k

pub returns-clause-engines : goal.returns-clause-engines
returns-clause-engines g c =
    let b = c.args.b in
    let x = c.args.c.now in
    let l = c.args.l in
    let a = c.args.a in
    let w = c.close-world.result in
    let k = closing b x l c.args.workers c.args.giver c.in_ok-giver.giver w a.stations a.workers a.outsiders c.requires.giver c.requires.stations c.requires.workers c.requires.outsiders c.requires.many c.requires.over c.in_ok-giver.ensures.giver c.close-world.ensures.follows c.close-world.ensures.only in
    c.in_ok-giver.ensures.engines ∙ engines b x l c.args.workers w.history c.args.giver.knows.seen a.stations a.workers a.outsiders k

pub returns-clause-notes : goal.returns-clause-notes
returns-clause-notes g c =
    let b = c.args.b in
    let x = c.args.c.now in
    let l = c.args.l in
    let a = c.args.a in
    let w = c.close-world.result in
    let k = closing b x l c.args.workers c.args.giver c.in_ok-giver.giver w a.stations a.workers a.outsiders c.requires.giver c.requires.stations c.requires.workers c.requires.outsiders c.requires.many c.requires.over c.in_ok-giver.ensures.giver c.close-world.ensures.follows c.close-world.ensures.only in
    c.in_ok-giver.ensures.notes ∙ notes b x l c.args.workers w.history c.args.giver.knows.seen a.stations a.workers a.outsiders k
