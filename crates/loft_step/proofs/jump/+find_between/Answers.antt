use Rattle.std.proofs.Common.{◌+◌, ◌-◌, ◌<◌, sym, arith}
use Rattle.std.specs.Prelude.{map}
use Rattle.loft_code.specs.View.{line_of}
use Rattle.loft_step.proofs.Stops.{lies_after, lies_before, nowhere}
use Rattle.loft_step.proofs.jump.+find_between.Goals as goal

pub returns-then-high-low-clause-first : goal.returns-then-high-low-clause-first
returns-then-high-low-clause-first t c = sym (nowhere (map line_of c.args.lines.now) c.args.k c.args.low c.args.high c.if-high-low.true c.requires.lies)

pub find_between-requires-then-found-k : goal.find_between-requires-then-found-k
find_between-requires-then-found-k t c =
    let to = c.args.low + c.part.result in
    let fewer : c.args.high - to < c.args.high - c.args.low = omega (arith, c.if-high-low.false, c.part.ensures.some) in (
      omega (arith, fewer, c.decreases),
      (
        c.requires.numbered,
        (
          c.requires.most,
          lies_after (map line_of c.args.lines.now) c.requires.numbered c.args.k c.args.low c.args.high to c.in-Some.found.op c.in-Some.found.stop c.in-Some.ensures.last c.if-found-k.true c.requires.lies,
        ),
      ),
    )

pub find_between-requires-then-k-found : goal.find_between-requires-then-k-found
find_between-requires-then-k-found t c =
    let to = c.args.low + c.part.result in
    let last = c.in-Some.ensures.last in
    let before : c.in-Some.found.op < c.args.high = omega (arith, last.before, c.part.ensures.within, c.if-high-low.false) in
    let fewer : c.in-Some.found.op - c.args.low < c.args.high - c.args.low = omega (arith, before, last.after) in (
      omega (arith, fewer, c.decreases),
      (
        c.requires.numbered,
        (
          omega (arith, before, c.requires.most),
          lies_before (map line_of c.args.lines.now) c.requires.numbered c.args.k c.args.low c.args.high to c.in-Some.found.op c.in-Some.found.stop last c.if-k-found.true c.requires.lies,
        ),
      ),
    )
