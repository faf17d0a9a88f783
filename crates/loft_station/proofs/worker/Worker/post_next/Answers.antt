use Rattle.std.proofs.Common.{◌≡◌, ◌∷◌, List, subst}
use Rattle.loft_code.specs.View.{automata_of}
use Rattle.loft_orders.specs.declared.order.Sent.{Sent}
use Rattle.loft_sense.specs.Async.{GivesNext}
use Rattle.loft_job.specs.declared.job.JobStep.{JobStep}
use Rattle.loft_job.specs.Job.{left_of_job, order_in}
use Rattle.loft_station.proofs.WorkerLemmas.{next_posted}
use Rattle.loft_station.proofs.worker.Worker.post_next.Goals as goal

pub returns-in_ok-post-in-Sent-clause-kept : goal.returns-in_ok-post-in-Sent-clause-kept
returns-in_ok-post-in-Sent-clause-kept g c =
    let x = c.args.c.now in
    let old : List Sent = left_of_job (automata_of x) c.args.job.now in
    let new : List Sent = left_of_job (automata_of x) c.next.new.self in
    let is : old ≡ c.in-Sent.sent ∷ new = subst (λ (step : JobStep). GivesNext (order_in step) old new) c.in-Sent.is c.in_ok-sent.ensures.gives in
    (next_posted c.args.b.now x c.args.job.now c.next.new.self c.in-Sent.sent c.args.self.now c.post.new.seat c.requires.left is c.in_ok-post-in-Sent.ensures.ok).0.kept

pub returns-in_ok-post-in-Sent-clause-posted : goal.returns-in_ok-post-in-Sent-clause-posted
returns-in_ok-post-in-Sent-clause-posted g c =
    let x = c.args.c.now in
    let old : List Sent = left_of_job (automata_of x) c.args.job.now in
    let new : List Sent = left_of_job (automata_of x) c.next.new.self in
    let is : old ≡ c.in-Sent.sent ∷ new = subst (λ (step : JobStep). GivesNext (order_in step) old new) c.in-Sent.is c.in_ok-sent.ensures.gives in
    next_posted c.args.b.now x c.args.job.now c.next.new.self c.in-Sent.sent c.args.self.now c.post.new.seat c.requires.left is c.in_ok-post-in-Sent.ensures.ok
