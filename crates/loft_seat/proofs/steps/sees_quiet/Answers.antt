use Rattle.std.proofs.Common.{List, refl, sym, subst}
use Rattle.loft_tree.specs.declared.heads.Heads.{Heads}
use Rattle.loft_orders.specs.declared.entry.Actor.TheVariants.{Sched}
use Rattle.loft_orders.specs.declared.entry.Entry.{Entry}
use Rattle.loft_world.specs.State.{IsQuiet}
use Rattle.loft_seat.specs.declared.seat.Seat.{Seat}
use Rattle.loft_seat.specs.Seats.{entries_of}
use Rattle.loft_seat.proofs.StepLemmas.{Step, found_of, step_adds, step_same, step_seen, grown_none}
use Rattle.loft_seat.proofs.steps.sees_quiet.Goals as goal

pub release-requires-clause-adds : goal.release-requires-clause-adds
release-requires-clause-adds g c =
    let b = c.args.b.now in
    let x = c.args.c.now in
    let v = c.args.seat.now in
    let a = Sched c.args.s in
    let list = entries_of v in
    let mid = c.hold-held.new.p in
    let taken = c.hold-held.result in
    let first = c.world.result.now in
    let left = c.world-2.result.now in
    step_adds b x a list v mid taken first first left c.requires.seat c.hold-held.ensures.knows c.hold-held.ensures.follows c.world.ensures.value c.world-2.ensures.value (grown_none a x first first refl)

pub returns-clause-kept : goal.returns-clause-kept
returns-clause-kept g c =
    let b = c.args.b.now in
    let x = c.args.c.now in
    let v = c.args.seat.now in
    let a = Sched c.args.s in
    let list = entries_of v in
    let mid = c.hold-held.new.p in
    let taken = c.hold-held.result in
    let first = c.world.result.now in
    let left = c.world-2.result.now in
    let p : Seat = record { pass = c.release.new.p; length = c.length-seat.result } in
    let s : Step b x a list v p mid taken first first left = record {
      seat = c.requires.seat;
      is = c.hold-held.ensures.knows;
      follows = c.hold-held.ensures.follows;
      was = c.world.ensures.value;
      kept = c.world-2.ensures.value;
      after = c.release.ensures.knows;
      len = c.length-seat.ensures.length;
    } in
    step_same b x a list v p mid taken first first left s refl

pub returns-clause-quiet : goal.returns-clause-quiet
returns-clause-quiet g c = λ yes.
    let b = c.args.b.now in
    let x = c.args.c.now in
    let v = c.args.seat.now in
    let a = Sched c.args.s in
    let list = entries_of v in
    let mid = c.hold-held.new.p in
    let taken = c.hold-held.result in
    let first = c.world.result.now in
    let left = c.world-2.result.now in
    let p : Seat = record { pass = c.release.new.p; length = c.length-seat.result } in
    let s : Step b x a list v p mid taken first first left = record {
      seat = c.requires.seat;
      is = c.hold-held.ensures.knows;
      follows = c.hold-held.ensures.follows;
      was = c.world.ensures.value;
      kept = c.world-2.ensures.value;
      after = c.release.ensures.knows;
      len = c.length-seat.ensures.length;
    } in
    subst (λ (l : List Entry). IsQuiet x.heads l) (sym (step_seen b x a list v p mid taken first first left s refl))
    (subst (λ (h : Heads). IsQuiet h first.history) (found_of b x a list v taken first c.requires.seat c.hold-held.ensures.follows c.world.ensures.value).heads (c.is_quiet-quiet.ensures yes))
