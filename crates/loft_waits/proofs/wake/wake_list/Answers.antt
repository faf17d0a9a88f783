use Rattle.std.proofs.Common.{◌≤◌, ◌+◌, ℕ, List, length, length-set, get_or, take, ap, ◌∙◌, arith}
use Rattle.loft_waits.specs.Told.{ready_at}
use Rattle.loft_waits.specs.Places.{flag}
use Rattle.loft_waits.proofs.RangeLemmas.{woken_some, woken_these, take_next}
use Rattle.loft_waits.proofs.wake.wake_list.Goals as goal

pub loop-pos-preserved : goal.loop-pos-preserved
loop-pos-preserved c =
    let t = c.args.plain.now in
    let start = c.args.ready.now in
    let now = c.loop-pos.ready in
    let new = c.set_flag.new.ready in
    let list = c.args.list.now in
    let i = c.loop-pos.pos-index in
    let p = get_or list i 0 in
    let many = c.loop-pos.invariant.many in
    let le : length t.waits ≤ length now = let m = c.requires.many in omega (arith, m, many) in
    record {
      many = ap (λ (l : List ℕ). length l) c.set_flag.ensures ∙ length-set now p (flag (ready_at t p)) ∙ many;
      some = woken_some t start now new p c.loop-pos.invariant.some c.set_flag.ensures le;
      these = woken_these t (take i list) (take (i + 1) list) p now new c.loop-pos.invariant.these c.set_flag.ensures le (take_next list i c.loop-pos-test.true);
    }
