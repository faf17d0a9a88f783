use Rattle.std.proofs.Common.{[]}
use Rattle.std.proofs.lemmas.List.Elements.{All-nil, All-cons}
use Rattle.loft_code.specs.View.{automata_of}
use Rattle.loft_orders.specs.declared.entry.Actor.TheVariants.{Worker}
use Rattle.loft_orders.specs.declared.entry.Entry.TheVariants as entry
use Rattle.loft_sense.specs.Machine.{Code}
use Rattle.loft_soundness.specs.Machines.{SentFits}
use Rattle.loft_baton.proofs.HistoryLemmas.{same-refl}
use Rattle.loft_seat.specs.declared.seat.Seat.{Seat}
use Rattle.loft_seat.specs.Seats.{entries_of}
use Rattle.loft_seat.proofs.StepLemmas.{Step, step_adds, on_ok, on_err, busy_is, grown_either}
use Rattle.loft_seat.proofs.steps.post.Goals as goal

pub post-done-requires : goal.post-done-requires
post-done-requires g c =
    let b = c.args.b.now in
    let x = c.args.c.now in
    let v = c.args.seat.now in
    let a = Worker c.args.w in
    let list = entries_of v in
    let mid = c.hold-held.new.p in
    let taken = c.hold-held.result in
    let first = c.world.result.now in
    busy_is b x c.args.w list v taken first _ c.requires.seat c.hold-held.ensures.follows c.world.ensures.value c.requires.busy

pub release-requires-clause-adds : goal.release-requires-clause-adds
release-requires-clause-adds g c =
    let b = c.args.b.now in
    let x = c.args.c.now in
    let v = c.args.seat.now in
    let a = Worker c.args.w in
    let list = entries_of v in
    let mid = c.hold-held.new.p in
    let taken = c.hold-held.result in
    let first = c.world.result.now in
    let changed = c.post-done.new.self in
    let left = c.world-2.result.now in
    step_adds b x a list v mid taken first changed left c.requires.seat c.hold-held.ensures.knows c.hold-held.ensures.follows c.world.ensures.value c.world-2.ensures.value
    (grown_either c.post-done.result a x (entry.Post c.args.w c.args.sent.now) first changed c.post-done.ensures.ok c.post-done.ensures.err (same-refl a) (All-cons (SentFits (Code (automata_of x))) c.args.sent.now [] c.requires.fits (All-nil (SentFits (Code (automata_of x))))))

pub returns-clause-ok : goal.returns-clause-ok
returns-clause-ok g c =
    let b = c.args.b.now in
    let x = c.args.c.now in
    let v = c.args.seat.now in
    let a = Worker c.args.w in
    let list = entries_of v in
    let mid = c.hold-held.new.p in
    let taken = c.hold-held.result in
    let first = c.world.result.now in
    let changed = c.post-done.new.self in
    let left = c.world-2.result.now in
    let p : Seat = record { pass = c.release.new.p; length = c.length-seat.result } in
    let s : Step b x a list v p mid taken first changed left = record {
      seat = c.requires.seat;
      is = c.hold-held.ensures.knows;
      follows = c.hold-held.ensures.follows;
      was = c.world.ensures.value;
      kept = c.world-2.ensures.value;
      after = c.release.ensures.knows;
      len = c.length-seat.ensures.length;
    } in
    on_ok c.post-done.result b x a list v p mid taken first changed left (entry.Post c.args.w c.args.sent.now) s c.post-done.ensures.ok (same-refl a)

pub returns-clause-err : goal.returns-clause-err
returns-clause-err g c =
    let b = c.args.b.now in
    let x = c.args.c.now in
    let v = c.args.seat.now in
    let a = Worker c.args.w in
    let list = entries_of v in
    let mid = c.hold-held.new.p in
    let taken = c.hold-held.result in
    let first = c.world.result.now in
    let changed = c.post-done.new.self in
    let left = c.world-2.result.now in
    let p : Seat = record { pass = c.release.new.p; length = c.length-seat.result } in
    let s : Step b x a list v p mid taken first changed left = record {
      seat = c.requires.seat;
      is = c.hold-held.ensures.knows;
      follows = c.hold-held.ensures.follows;
      was = c.world.ensures.value;
      kept = c.world-2.ensures.value;
      after = c.release.ensures.knows;
      len = c.length-seat.ensures.length;
    } in
    on_err c.post-done.result b x a list v p mid taken first changed left s c.post-done.ensures.err
