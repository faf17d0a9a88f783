use Rattle.std.proofs.lemmas.List.Elements.{All-nil}
use Rattle.loft_code.specs.View.{automata_of}
use Rattle.loft_orders.specs.declared.entry.Actor.TheVariants.{Worker}
use Rattle.loft_orders.specs.declared.entry.Entry.TheVariants as entry
use Rattle.loft_sense.specs.Machine.{Code}
use Rattle.loft_soundness.specs.Machines.{SentFits}
use Rattle.loft_baton.proofs.HistoryLemmas.{same-refl}
use Rattle.loft_seat.specs.declared.seat.Seat.{Seat}
use Rattle.loft_seat.specs.Seats.{entries_of}
use Rattle.loft_seat.proofs.StepLemmas.{Step, step_adds, on_err, on_picked, on_found, busy_is, grown_option}
use Rattle.loft_seat.proofs.steps.pick.Goals as goal

pub pick-picked-requires : goal.pick-picked-requires
pick-picked-requires g c =
    let b = c.args.b.now in
    let x = c.args.c.now in
    let v = c.args.seat.now in
    let a = Worker c.args.w in
    let list = entries_of v in
    let mid = c.hold-held.new.p in
    let taken = c.hold-held.result in
    let first = c.world.result.now in
    busy_is b x c.args.w list v taken first _ c.requires.seat c.hold-held.ensures.follows c.world.ensures.value c.requires.free

pub release-requires-clause-adds : goal.release-requires-clause-adds
release-requires-clause-adds g c =
    let b = c.args.b.now in
    let x = c.args.c.now in
    let v = c.args.seat.now in
    let a = Worker c.args.w in
    let list = entries_of v in
    let mid = c.hold-held.new.p in
    let taken = c.hold-held.result in
    let first = c.world.result.now in
    let changed = c.pick-picked.new.self in
    let left = c.world-2.result.now in
    step_adds b x a list v mid taken first changed left c.requires.seat c.hold-held.ensures.knows c.hold-held.ensures.follows c.world.ensures.value c.world-2.ensures.value
    (grown_option c.pick-picked.result a x (entry.Pick c.args.w) first changed c.pick-picked.ensures.ok c.pick-picked.ensures.err (λ found. same-refl a) (λ found. All-nil (SentFits (Code (automata_of x)))))

pub returns-clause-picked : goal.returns-clause-picked
returns-clause-picked g c =
    let b = c.args.b.now in
    let x = c.args.c.now in
    let v = c.args.seat.now in
    let a = Worker c.args.w in
    let list = entries_of v in
    let mid = c.hold-held.new.p in
    let taken = c.hold-held.result in
    let first = c.world.result.now in
    let changed = c.pick-picked.new.self in
    let left = c.world-2.result.now in
    let p : Seat = record { pass = c.release.new.p; length = c.length-seat.result } in
    let s : Step b x a list v p mid taken first changed left = record {
      seat = c.requires.seat;
      is = c.hold-held.ensures.knows;
      follows = c.hold-held.ensures.follows;
      was = c.world.ensures.value;
      kept = c.world-2.ensures.value;
      after = c.release.ensures.knows;
      len = c.length-seat.ensures.length;
    } in
    on_picked c.pick-picked.result b x c.args.w v p mid taken first changed left s c.pick-picked.ensures.job c.pick-picked.ensures.ok

pub returns-clause-none : goal.returns-clause-none
returns-clause-none g c =
    let b = c.args.b.now in
    let x = c.args.c.now in
    let v = c.args.seat.now in
    let a = Worker c.args.w in
    let list = entries_of v in
    let mid = c.hold-held.new.p in
    let taken = c.hold-held.result in
    let first = c.world.result.now in
    let changed = c.pick-picked.new.self in
    let left = c.world-2.result.now in
    let p : Seat = record { pass = c.release.new.p; length = c.length-seat.result } in
    let s : Step b x a list v p mid taken first changed left = record {
      seat = c.requires.seat;
      is = c.hold-held.ensures.knows;
      follows = c.hold-held.ensures.follows;
      was = c.world.ensures.value;
      kept = c.world-2.ensures.value;
      after = c.release.ensures.knows;
      len = c.length-seat.ensures.length;
    } in
    on_found c.pick-picked.result b x c.args.w v p mid taken first changed left s c.pick-picked.ensures.job c.pick-picked.ensures.ok

pub returns-clause-err : goal.returns-clause-err
returns-clause-err g c =
    let b = c.args.b.now in
    let x = c.args.c.now in
    let v = c.args.seat.now in
    let a = Worker c.args.w in
    let list = entries_of v in
    let mid = c.hold-held.new.p in
    let taken = c.hold-held.result in
    let first = c.world.result.now in
    let changed = c.pick-picked.new.self in
    let left = c.world-2.result.now in
    let p : Seat = record { pass = c.release.new.p; length = c.length-seat.result } in
    let s : Step b x a list v p mid taken first changed left = record {
      seat = c.requires.seat;
      is = c.hold-held.ensures.knows;
      follows = c.hold-held.ensures.follows;
      was = c.world.ensures.value;
      kept = c.world-2.ensures.value;
      after = c.release.ensures.knows;
      len = c.length-seat.ensures.length;
    } in
    on_err c.pick-picked.result b x a list v p mid taken first changed left s c.pick-picked.ensures.err
