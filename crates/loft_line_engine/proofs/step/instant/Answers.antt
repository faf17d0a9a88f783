use Rattle.std.proofs.Common.{◌∙◌, List, ap, sym, length}
use Rattle.loft_tree.specs.declared.heads.Heads.{Heads}
use Rattle.loft_orders.specs.declared.order.Order.{Order}
use Rattle.loft_sense.specs.Apply.{apply}
use Rattle.loft_sense.specs.Tally.{tally_after}
use Rattle.loft_waits.specs.Told.{counts_of}
use Rattle.loft_instant.proofs.InstantLemmas.{machine_is, note_is}
use Rattle.loft_instant.proofs.EngineLemmas.{applied_board}
use Rattle.loft_line_engine.specs.Batches.{applied_of}
use Rattle.loft_line_engine.specs.States.{machine_with}
use Rattle.loft_line_engine.proofs.CountLemmas.{most_orders, most_all, least_all}
use Rattle.loft_line_engine.proofs.StateLemmas.{number_after, retold}
use Rattle.loft_line_engine.proofs.step.instant.Goals as goal

pub apply-requires-clause-counts : goal.apply-requires-clause-counts
apply-requires-clause-counts g c = c.requires.closed.counts ∙ sym (ap counts_of c.requires.closed.no_event ∙ c.counts_follow_the_board.ensures.none c.args.setting.now.events)

pub after_batch-requires-clause-board : goal.after_batch-requires-clause-board
after_batch-requires-clause-board g c =
    let x = g.I.Interpreter.program c.args.setting.now.interpreter in
    let m = machine_with c.args.setting.now.scheduler c.args.state in
    applied_board x m c.args.orders.now
    (applied_of c.in_ok-batch.batch) c.args.setting.now.events (c.in_ok-batch.ensures.applied ∙ ap (λ (l : List Order). apply x m l) c.as_slice-2.ensures) c.args.setting.now.all_events

pub returns-clause-machine : goal.returns-clause-machine
returns-clause-machine g c =
    let x = g.I.Interpreter.program c.args.setting.now.interpreter in
    let m = machine_with c.args.setting.now.scheduler c.args.state in
    machine_is x c.args.setting.now.limits m c.args.orders.now
    (applied_of c.in_ok-batch.batch) (c.in_ok-batch.ensures.applied ∙ ap (λ (l : List Order). apply x m l) c.as_slice-2.ensures)
    (machine_with c.args.setting.now.scheduler c.in_ok-state.state) c.in_ok-state.note c.tally_after-state.result c.in_ok-state.ensures.machine c.in_ok-state.ensures.note
    (c.tally_after-state.ensures ∙ ap (λ (h : Heads). tally_after h c.args.state.tally c.args.orders.now c.in_ok-state.note) c.heads-heads.ensures.heads)

pub returns-clause-note : goal.returns-clause-note
returns-clause-note g c =
    let x = g.I.Interpreter.program c.args.setting.now.interpreter in
    let m = machine_with c.args.setting.now.scheduler c.args.state in
    c.in_ok-state.ensures.note
    ∙ note_is x c.args.setting.now.limits m c.args.orders.now
    (applied_of c.in_ok-batch.batch) (c.in_ok-batch.ensures.applied ∙ ap (λ (l : List Order). apply x m l) c.as_slice-2.ensures)

pub returns-clause-closed : goal.returns-clause-closed
returns-clause-closed g c =
    retold c.args.setting.now.events c.args.setting.now.limits.budget c.args.state.tally.number c.in_ok-state.state c.tally_after-state.result
    (number_after c.heads-heads.result.now c.args.state.tally c.tally_after-state.result c.args.orders.now c.in_ok-state.note c.tally_after-state.ensures)
    c.in_ok-state.ensures.closed

pub returns-clause-counted : goal.returns-clause-counted
returns-clause-counted g c =
    let x = g.I.Interpreter.program c.args.setting.now.interpreter in
    let m = machine_with c.args.setting.now.scheduler c.args.state in
    most_all x c.args.setting.now.limits m c.args.orders.now c.args.steps.now
    (applied_of c.in_ok-batch.batch) (c.in_ok-batch.ensures.applied ∙ ap (λ (l : List Order). apply x m l) c.as_slice-2.ensures)
    (length c.as_slice-2.result.now) c.apply.new.steps c.after_batch.new.steps (ap (λ (l : List Order). length l) c.as_slice-2.ensures) c.in_ok-batch.ensures.counted c.after_batch.ensures.counted

pub returns-clause-least : goal.returns-clause-least
returns-clause-least g c =
    let x = g.I.Interpreter.program c.args.setting.now.interpreter in
    let m = machine_with c.args.setting.now.scheduler c.args.state in
    least_all x c.args.setting.now.limits m c.args.orders.now c.args.steps.now
    (applied_of c.in_ok-batch.batch) (c.in_ok-batch.ensures.applied ∙ ap (λ (l : List Order). apply x m l) c.as_slice-2.ensures)
    (length c.as_slice-2.result.now) c.apply.new.steps c.after_batch.new.steps (ap (λ (l : List Order). length l) c.as_slice-2.ensures) c.in_ok-batch.ensures.counted c.in_ok-state.ensures.least

pub returns-in_err-batch-clause-counted : goal.returns-in_err-batch-clause-counted
returns-in_err-batch-clause-counted g c =
    let x = g.I.Interpreter.program c.args.setting.now.interpreter in
    let m = machine_with c.args.setting.now.scheduler c.args.state in
    most_orders x c.args.setting.now.limits m c.args.orders.now c.args.steps.now
    (length c.as_slice-2.result.now) c.apply.new.steps (ap (λ (l : List Order). length l) c.as_slice-2.ensures) c.apply.ensures.within

pub returns-in_err-state-clause-counted : goal.returns-in_err-state-clause-counted
returns-in_err-state-clause-counted g c =
    let x = g.I.Interpreter.program c.args.setting.now.interpreter in
    let m = machine_with c.args.setting.now.scheduler c.args.state in
    most_all x c.args.setting.now.limits m c.args.orders.now c.args.steps.now
    (applied_of c.in_ok-batch.batch) (c.in_ok-batch.ensures.applied ∙ ap (λ (l : List Order). apply x m l) c.as_slice-2.ensures)
    (length c.as_slice-2.result.now) c.apply.new.steps c.after_batch.new.steps (ap (λ (l : List Order). length l) c.as_slice-2.ensures) c.in_ok-batch.ensures.counted c.after_batch.ensures.counted
