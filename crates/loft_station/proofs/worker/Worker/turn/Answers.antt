use Rattle.std.proofs.Common.{[], List, Option, IfSome, sym, subst}
use Rattle.loft_code.specs.View.{automata_of}
use Rattle.loft_orders.specs.declared.order.Sent.{Sent}
use Rattle.loft_orders.specs.declared.thread.Thread.{Thread}
use Rattle.loft_sense.specs.Async.{async}
use Rattle.loft_sense.specs.Machine.{Code}
use Rattle.loft_job.specs.Job.{left_of_job}
use Rattle.loft_seat.specs.Seats.{Picks}
use Rattle.loft_station.specs.Workers.{PostedBut}
use Rattle.loft_station.proofs.WorkerLemmas.{with_seat, left_as, job_picked, job_made}
use Rattle.loft_station.proofs.worker.Worker.turn.Goals as goal

pub work-requires : goal.work-requires
work-requires g c =
    let b = c.args.b.now in
    let x = c.args.c.now in
    let v = c.args.self.now in
    let p = c.pick.new.seat in
    let job : Thread = c.in-Some.thread in
    let picks : Picks b x v.number v.seat p job = subst (λ (o : Option Thread). IfSome o (Picks b x v.number v.seat p)) c.in-Some.is c.in_ok-thread.ensures.picked in
    record { left = left_as b x (async (Code (automata_of x)) job v.block) (left_of_job (automata_of x) c.begin.result) (with_seat v p) (sym (c.begin.ensures.left (automata_of x))) (job_picked b x v p job c.code_is_well_formed.ensures c.requires.ready picks) }

pub returns-clause-worked : goal.returns-clause-worked
returns-clause-worked g c =
    let b = c.args.b.now in
    let x = c.args.c.now in
    let v = c.args.self.now in
    let p = c.pick.new.seat in
    let w = c.work.new.self in
    let job : Thread = c.in-Some.thread in
    let picks : Picks b x v.number v.seat p job = subst (λ (o : Option Thread). IfSome o (Picks b x v.number v.seat p)) c.in-Some.is c.in_ok-thread.ensures.picked in
    job_made b x v w p job picks (record { number = c.work.ensures.same.number; block = c.work.ensures.same.block })
    (subst (λ (l : List Sent). PostedBut l [] (with_seat v p) w) (c.begin.ensures.left (automata_of x)) c.in_ok-work.ensures.done)
