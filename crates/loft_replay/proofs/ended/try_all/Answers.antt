use Rattle.std.proofs.Common.{Bool, true, subst}
use Rattle.loft_course.specs.Course.{Moves}
use Rattle.loft_replay.specs.Whole.{choice_at}
use Rattle.loft_replay.proofs.EndedLemmas.{at_least_one, goes_on_by}
use Rattle.loft_replay.proofs.ended.try_all.Goals as goal

pub returns-then-branch-clause-tried : goal.returns-then-branch-clause-tried
returns-then-branch-clause-tried g c =
    let x = g.X.Setting.program in
    let o = g.X.Setting.options in
    let start = c.args.course.now.world.history in
    let now = c.choices.course.world.history in
    let last = c.try_one.new.course.world.history in
    let choice = choice_at c.args.kind c.choices.k in
    let moves : Moves x o now choice true last = subst (λ (b : Bool). Moves x o now choice b last) c.if-branch.true c.in_ok-try_one.ensures.moves in
    goes_on_by x o start now last choice (c.ended_histories_go_no_further.ensures x o start (at_least_one o.workers c.requires.can.few_workers.0)) c.choices.invariant.tried.0 moves
