use Rattle.std.proofs.Common.{◌≡◌, ◌∙◌, ap, length}
use Rattle.loft_tree.specs.declared.heads.Heads.{Heads}
use Rattle.loft_sense.specs.Machine.{heads}
use Rattle.loft_replay.specs.Whole.{choice_at}
use Rattle.loft_replay.specs.declared.ended.Kind.TheVariants as kind
use Rattle.loft_replay.proofs.EndedLemmas.{none_of_all, tried_all}
use Rattle.loft_replay.proofs.ended.goes_on.Goals as goal

pub returns-clause-ended : goal.returns-clause-ended
returns-clause-ended g c =
    let x = g.X.Setting.program in
    let o = g.X.Setting.options in
    let start = c.args.course.now.world.history in
    let h1 = c.try_all.new.course.world.history in
    let h2 = c.try_all-2.new.course.world.history in
    let h3 = c.try_all-3.new.course.world.history in
    let h4 = c.try_all-4.new.course.world.history in
    let h5 = c.try_all-5.new.course.world.history in
    let clients : c.len-clients.result ≡ length (heads x).clients = c.len-clients.ensures ∙ ap (λ (h : Heads). length h.clients) c.requires.heads in
    let schedulers : c.len-schedulers.result ≡ length (heads x).schedulers = c.len-schedulers.ensures ∙ ap (λ (h : Heads). length h.schedulers) c.requires.heads in
    tried_all x o start h1 h2 h3 h4 h5 c.requires.can.few_workers
    (none_of_all x o start h1 (choice_at kind.Client) c.len-clients.result (length (heads x).clients) c.in_ok-try_all.field-0 c.if-branch.false clients c.in_ok-try_all.ensures.tried)
    (none_of_all x o h1 h2 (choice_at kind.Post) c.args.workers o.workers c.in_ok-try_all-2.field-0 c.if-branch-2.false c.requires.workers c.in_ok-try_all-2.ensures.tried)
    (none_of_all x o h2 h3 (choice_at kind.Pick) c.args.workers o.workers c.in_ok-try_all-3.field-0 c.if-branch-3.false c.requires.workers c.in_ok-try_all-3.ensures.tried)
    (none_of_all x o h3 h4 (choice_at kind.Take) c.len-schedulers.result (length (heads x).schedulers) c.in_ok-try_all-4.field-0 c.if-branch-4.false schedulers c.in_ok-try_all-4.ensures.tried)
    (none_of_all x o h4 h5 (choice_at kind.Give) c.len-schedulers.result (length (heads x).schedulers) c.in_ok-try_all-5.field-0 c.if-branch-5.false schedulers c.in_ok-try_all-5.ensures.tried)
