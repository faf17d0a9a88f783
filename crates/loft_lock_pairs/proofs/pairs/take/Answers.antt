use Rattle.std.proofs.Common.{true, false, refl, sym, ◌∙◌}
use Rattle.loft_lock_forms.specs.Seen.{names_seen}
use Rattle.loft_lock_pairs.proofs.NameLemmas.{has_is}
use Rattle.loft_lock_pairs.proofs.FaultLemmas.{own_has, outer_has, stays_open, taken}
use Rattle.loft_lock_pairs.proofs.pairs.take.Goals.{then-has-via-then-has, then-has-via-else-has+then-has-2, then-has-via-else-has+else-has-2+then-not-is_closed}
use Rattle.loft_lock_pairs.proofs.pairs.take.Goals as goal

pub returns-then-has-clause-fault : goal.returns-then-has-clause-fault
returns-then-has-clause-fault c whole rest is =
    let l = c.args.lock.now in
    let outer = names_seen c.args.outer.now in
    let own = names_seen c.args.own.now.items in
    elim c.then-has.branch [
      | then-has-via-then-has w ↦ own_has l outer own rest (has_is l c.as_slice.result.now c.args.own.now.items c.has.result true c.as_slice.ensures.value c.has.ensures w.if-has.true)
      | then-has-via-else-has+then-has-2 w ↦
          outer_has l outer own rest (has_is l c.as_slice.result.now c.args.own.now.items c.has.result false c.as_slice.ensures.value c.has.ensures w.if-has.false)
          (has_is l c.args.outer.now c.args.outer.now w.has-else-has.result true refl w.has-else-has.ensures w.if-has-2.true)
      | then-has-via-else-has+else-has-2+then-not-is_closed w ↦
          stays_open l outer own rest (has_is l c.as_slice.result.now c.args.own.now.items c.has.result false c.as_slice.ensures.value c.has.ensures w.if-has.false)
          (has_is l c.args.outer.now c.args.outer.now w.has-else-has.result false refl w.has-else-has.ensures w.if-has-2.false)
          (sym is ∙ w.if-not-is_closed.true)
    ]

pub returns-clause-fault : goal.returns-clause-fault
returns-clause-fault c whole rest is =
    let l = c.args.lock.now in
    let outer = names_seen c.args.outer.now in
    let own = names_seen c.args.own.now.items in
    rw (c.begin.ensures.own whole)
    (taken l outer own rest (has_is l c.as_slice.result.now c.args.own.now.items c.has.result false c.as_slice.ensures.value c.has.ensures c.if-has.false)
    (has_is l c.args.outer.now c.args.outer.now c.has-else-has.result false refl c.has-else-has.ensures c.if-has-2.false)
    (sym is ∙ c.if-not-is_closed.false))
