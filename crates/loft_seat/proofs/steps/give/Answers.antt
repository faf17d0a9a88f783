use Rattle.std.proofs.Common.{sym, subst, append-nil}
use Rattle.std.specs.List.{All}
use Rattle.loft_tree.specs.declared.heads.Heads.{Heads}
use Rattle.loft_tree.specs.NamedFits.{IsScheduler}
use Rattle.loft_code.specs.View.{automata_of}
use Rattle.loft_orders.specs.declared.entry.Actor.TheVariants.{Sched}
use Rattle.loft_orders.specs.declared.entry.Entry.TheVariants as entry
use Rattle.loft_sense.specs.Machine.{Code}
use Rattle.loft_history.specs.History.{sent_last}
use Rattle.loft_soundness.specs.Machines.{SentFits}
use Rattle.loft_baton.proofs.HistoryLemmas.{same-refl}
use Rattle.loft_seat.specs.declared.seat.Seat.{Seat}
use Rattle.loft_seat.specs.Seats.{entries_of}
use Rattle.loft_seat.proofs.StepLemmas.{Step, found_of, step_adds, on_ok, on_err, open_is, grown_either}
use Rattle.loft_seat.proofs.steps.give.Goals as goal

pub give_last-done-requires-clause-declared : goal.give_last-done-requires-clause-declared
give_last-done-requires-clause-declared g c =
    let b = c.args.b.now in
    let x = c.args.c.now in
    let v = c.args.seat.now in
    let a = Sched c.args.s in
    let list = entries_of v in
    let mid = c.hold-held.new.p in
    let taken = c.hold-held.result in
    let first = c.world.result.now in
    subst (λ (h : Heads). IsScheduler h c.args.s) (sym (found_of b x a list v taken first c.requires.seat c.hold-held.ensures.follows c.world.ensures.value).heads) c.requires.declared

pub give_last-done-requires-clause-open : goal.give_last-done-requires-clause-open
give_last-done-requires-clause-open g c =
    let b = c.args.b.now in
    let x = c.args.c.now in
    let v = c.args.seat.now in
    let a = Sched c.args.s in
    let list = entries_of v in
    let mid = c.hold-held.new.p in
    let taken = c.hold-held.result in
    let first = c.world.result.now in
    open_is b x c.args.s list v taken first _ c.requires.seat c.hold-held.ensures.follows c.world.ensures.value c.requires.open

pub release-requires-clause-adds : goal.release-requires-clause-adds
release-requires-clause-adds g c =
    let b = c.args.b.now in
    let x = c.args.c.now in
    let v = c.args.seat.now in
    let a = Sched c.args.s in
    let list = entries_of v in
    let mid = c.hold-held.new.p in
    let taken = c.hold-held.result in
    let first = c.world.result.now in
    let changed = c.give_last-done.new.world in
    let left = c.world-2.result.now in
    step_adds b x a list v mid taken first changed left c.requires.seat c.hold-held.ensures.knows c.hold-held.ensures.follows c.world.ensures.value c.world-2.ensures.value
    (grown_either c.give_last-done.result a x (entry.Give c.args.s (sent_last c.args.notes.now)) first changed c.give_last-done.ensures.entry c.give_last-done.ensures.err (same-refl a) (subst (All (SentFits (Code (automata_of x)))) (sym (append-nil (sent_last c.args.notes.now))) c.requires.fits))

pub returns-clause-ok : goal.returns-clause-ok
returns-clause-ok g c =
    let b = c.args.b.now in
    let x = c.args.c.now in
    let v = c.args.seat.now in
    let a = Sched c.args.s in
    let list = entries_of v in
    let mid = c.hold-held.new.p in
    let taken = c.hold-held.result in
    let first = c.world.result.now in
    let changed = c.give_last-done.new.world in
    let left = c.world-2.result.now in
    let p : Seat = record { pass = c.release.new.p; length = c.length-seat.result } in
    let s : Step b x a list v p mid taken first changed left = record {
      seat = c.requires.seat;
      is = c.hold-held.ensures.knows;
      follows = c.hold-held.ensures.follows;
      was = c.world.ensures.value;
      kept = c.world-2.ensures.value;
      after = c.release.ensures.knows;
      len = c.length-seat.ensures.length;
    } in
    on_ok c.give_last-done.result b x a list v p mid taken first changed left (entry.Give c.args.s (sent_last c.args.notes.now)) s c.give_last-done.ensures.entry (same-refl a)

pub returns-clause-err : goal.returns-clause-err
returns-clause-err g c =
    let b = c.args.b.now in
    let x = c.args.c.now in
    let v = c.args.seat.now in
    let a = Sched c.args.s in
    let list = entries_of v in
    let mid = c.hold-held.new.p in
    let taken = c.hold-held.result in
    let first = c.world.result.now in
    let changed = c.give_last-done.new.world in
    let left = c.world-2.result.now in
    let p : Seat = record { pass = c.release.new.p; length = c.length-seat.result } in
    let s : Step b x a list v p mid taken first changed left = record {
      seat = c.requires.seat;
      is = c.hold-held.ensures.knows;
      follows = c.hold-held.ensures.follows;
      was = c.world.ensures.value;
      kept = c.world-2.ensures.value;
      after = c.release.ensures.knows;
      len = c.length-seat.ensures.length;
    } in
    on_err c.give_last-done.result b x a list v p mid taken first changed left s c.give_last-done.ensures.err
