use Rattle.std.proofs.Common.{◌≡◌, arith, length}
use Rattle.loft_line.specs.Line.{runners_in}
use Rattle.std.proofs.Common.{◌∙◌}
use Rattle.loft_line.proofs.ListLemmas.{length_line, length_with}
use Rattle.loft_line.proofs.StandingLemmas.{next_standing, all_standings}
use Rattle.loft_line.proofs.line.Line.standings.Goals as goal

pub push_standing-requires-clause-waits : goal.push_standing-requires-clause-waits
push_standing-requires-clause-waits c =
    let l = c.args.self.now in
    let long = length_line l.slots.items l.waits.waits c.requires.line.waits in
    let end = c.len-pos-end.ensures in
    let inside = c.loop-pos-test.true in
    omega (arith, long, end, inside)

pub loop-pos-preserved : goal.loop-pos-preserved
loop-pos-preserved c =
    let l = c.args.self.now in
    let same = length_with l.slots.items l.waits.waits in
    let end = c.len-pos-end.ensures in
    let inside = c.loop-pos-test.true in
    next_standing (runners_in l) c.loop-pos.pos c.loop-pos.standings c.push_standing.new.standings (omega (arith, same, end, inside)) c.loop-pos.invariant c.in_ok-push_standing.ensures

pub returns : goal.returns
returns c =
    let l = c.args.self.now in
    let same = length_with l.slots.items l.waits.waits in
    let end = c.len-pos-end.ensures in
    let over = c.loop-pos-test.false in
    let most = c.loop-pos.auto.pos-end in
    let is : c.loop-pos.pos ≡ length (runners_in l) = omega (arith, same, end, over, most) in
    c.loop-pos.invariant ∙ all_standings (runners_in l) c.loop-pos.pos is
