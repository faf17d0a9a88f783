use Rattle.std.proofs.Common.{◌<◌, ◌∙◌, sym, arith}
use Rattle.std.proofs.lemmas.Bool.Decides.{nat_tests}
use Rattle.loft_walk.proofs.Onto.{work_of-begin}
use Rattle.loft_walk.proofs.work.take.Goals as goal

pub returns-in-Some : goal.returns-in-Some
returns-in-Some c =
    let some : 0 < c.len-innermost.result = grind (arith, nat_tests, c.is_empty.ensures, c.taking-test.true, c.len-innermost.ensures) in
    sym c.taking.invariant ∙ work_of-begin c.taking.work.items c.len-innermost.result (c.len-innermost.ensures ∙ c.taking.work.ok.0) some c.index.result.now c.in-Rest.body c.in-Some.rest c.in-Some.statement.now c.index.ensures c.in-Rest.is c.in-Some.ensures.cases.0
