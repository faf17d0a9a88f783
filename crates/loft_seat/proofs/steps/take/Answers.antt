use Rattle.std.proofs.Common.{sym, subst}
use Rattle.std.proofs.lemmas.List.Elements.{All-nil}
use Rattle.loft_tree.specs.declared.heads.Heads.{Heads}
use Rattle.loft_tree.specs.NamedFits.{IsScheduler}
use Rattle.loft_code.specs.View.{automata_of}
use Rattle.loft_orders.specs.declared.entry.Actor.TheVariants.{Sched}
use Rattle.loft_orders.specs.declared.entry.Entry.TheVariants as entry
use Rattle.loft_sense.specs.Machine.{Code}
use Rattle.loft_soundness.specs.Machines.{SentFits}
use Rattle.loft_baton.proofs.HistoryLemmas.{same-refl}
use Rattle.loft_seat.specs.declared.seat.Seat.{Seat}
use Rattle.loft_seat.specs.Seats.{entries_of}
use Rattle.loft_seat.proofs.StepLemmas.{Step, found_of, step_adds, on_err, on_took, on_idle, open_is, grown_option}
use Rattle.loft_seat.proofs.steps.take.Goals as goal

pub take_where_due-taken-requires-clause-declared : goal.take_where_due-taken-requires-clause-declared
take_where_due-taken-requires-clause-declared g c =
    let b = c.args.b.now in
    let x = c.args.c.now in
    let v = c.args.seat.now in
    let a = Sched c.args.s in
    let list = entries_of v in
    let mid = c.hold-held.new.p in
    let taken = c.hold-held.result in
    let first = c.world.result.now in
    subst (λ (h : Heads). IsScheduler h c.args.s) (sym (found_of b x a list v taken first c.requires.seat c.hold-held.ensures.follows c.world.ensures.value).heads) c.requires.declared

pub take_where_due-taken-requires-clause-closed : goal.take_where_due-taken-requires-clause-closed
take_where_due-taken-requires-clause-closed g c =
    let b = c.args.b.now in
    let x = c.args.c.now in
    let v = c.args.seat.now in
    let a = Sched c.args.s in
    let list = entries_of v in
    let mid = c.hold-held.new.p in
    let taken = c.hold-held.result in
    let first = c.world.result.now in
    open_is b x c.args.s list v taken first _ c.requires.seat c.hold-held.ensures.follows c.world.ensures.value c.requires.closed

pub release-requires-clause-adds : goal.release-requires-clause-adds
release-requires-clause-adds g c =
    let b = c.args.b.now in
    let x = c.args.c.now in
    let v = c.args.seat.now in
    let a = Sched c.args.s in
    let list = entries_of v in
    let mid = c.hold-held.new.p in
    let taken = c.hold-held.result in
    let first = c.world.result.now in
    let changed = c.take_where_due-taken.new.world in
    let left = c.world-2.result.now in
    step_adds b x a list v mid taken first changed left c.requires.seat c.hold-held.ensures.knows c.hold-held.ensures.follows c.world.ensures.value c.world-2.ensures.value
    (grown_option c.take_where_due-taken.result a x (entry.Take c.args.s) first changed c.take_where_due-taken.ensures.entry c.take_where_due-taken.ensures.err (λ found. same-refl a) (λ found. All-nil (SentFits (Code (automata_of x)))))

pub returns-clause-took : goal.returns-clause-took
returns-clause-took g c =
    let b = c.args.b.now in
    let x = c.args.c.now in
    let v = c.args.seat.now in
    let a = Sched c.args.s in
    let list = entries_of v in
    let mid = c.hold-held.new.p in
    let taken = c.hold-held.result in
    let first = c.world.result.now in
    let changed = c.take_where_due-taken.new.world in
    let left = c.world-2.result.now in
    let p : Seat = record { pass = c.release.new.p; length = c.length-seat.result } in
    let s : Step b x a list v p mid taken first changed left = record {
      seat = c.requires.seat;
      is = c.hold-held.ensures.knows;
      follows = c.hold-held.ensures.follows;
      was = c.world.ensures.value;
      kept = c.world-2.ensures.value;
      after = c.release.ensures.knows;
      len = c.length-seat.ensures.length;
    } in
    let e = g.E.Engine in
    on_took c.take_where_due-taken.result b x c.args.s (e.program c.args.engine.now) (e.limits c.args.engine.now) (e.machine c.args.engine.now) v p mid taken first changed left s c.code_is_well_formed.ensures c.requires.declared c.take_where_due-taken.ensures.due c.take_where_due-taken.ensures.entry

pub returns-clause-none : goal.returns-clause-none
returns-clause-none g c =
    let b = c.args.b.now in
    let x = c.args.c.now in
    let v = c.args.seat.now in
    let a = Sched c.args.s in
    let list = entries_of v in
    let mid = c.hold-held.new.p in
    let taken = c.hold-held.result in
    let first = c.world.result.now in
    let changed = c.take_where_due-taken.new.world in
    let left = c.world-2.result.now in
    let p : Seat = record { pass = c.release.new.p; length = c.length-seat.result } in
    let s : Step b x a list v p mid taken first changed left = record {
      seat = c.requires.seat;
      is = c.hold-held.ensures.knows;
      follows = c.hold-held.ensures.follows;
      was = c.world.ensures.value;
      kept = c.world-2.ensures.value;
      after = c.release.ensures.knows;
      len = c.length-seat.ensures.length;
    } in
    let e = g.E.Engine in
    on_idle c.take_where_due-taken.result b x c.args.s (e.program c.args.engine.now) (e.limits c.args.engine.now) (e.machine c.args.engine.now) v p mid taken first changed left s c.take_where_due-taken.ensures.due c.take_where_due-taken.ensures.entry

pub returns-clause-err : goal.returns-clause-err
returns-clause-err g c =
    let b = c.args.b.now in
    let x = c.args.c.now in
    let v = c.args.seat.now in
    let a = Sched c.args.s in
    let list = entries_of v in
    let mid = c.hold-held.new.p in
    let taken = c.hold-held.result in
    let first = c.world.result.now in
    let changed = c.take_where_due-taken.new.world in
    let left = c.world-2.result.now in
    let p : Seat = record { pass = c.release.new.p; length = c.length-seat.result } in
    let s : Step b x a list v p mid taken first changed left = record {
      seat = c.requires.seat;
      is = c.hold-held.ensures.knows;
      follows = c.hold-held.ensures.follows;
      was = c.world.ensures.value;
      kept = c.world-2.ensures.value;
      after = c.release.ensures.knows;
      len = c.length-seat.ensures.length;
    } in
    on_err c.take_where_due-taken.result b x a list v p mid taken first changed left s c.take_where_due-taken.ensures.err
