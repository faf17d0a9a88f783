use Rattle.std.proofs.Common.{◌≡◌, ◌+◌, ◌-◌, ◌++◌, None, Some, IfSome, arith, length, refl, subst}
use Rattle.loft_listing_line.specs.Rows.{Title, line_text}
use Rattle.loft_listing_draft.specs.declared.draft.Drafted.{Drafted}
use Rattle.loft_listing_draft.specs.declared.read.Next.{Next}
use Rattle.loft_listing_draft.specs.Drafts.{Draft, IsListing}
use Rattle.loft_listing_draft.specs.Held.{Follows}
use Rattle.loft_listing_draft.specs.InMemory.{IsInMemory}
use Rattle.loft_listing_draft.specs.Stops.{StopsAt}
use Rattle.loft_listing_draft.proofs.Reading.{begins, goes_on, left_short, stopped, reads_same, finished, whole, stops, only, only_stops}
use Rattle.loft_listing_draft.proofs.read.read_lines.Goals as goal

pub lines-init : goal.lines-init
lines-init c = begins c.args.text.now c.new-sofar.result 15 c.new-sofar.ensures refl

pub lines-preserved : goal.lines-preserved
lines-preserved c =
    let P : Next → Type 0 = Follows c.lines.sofar c.lines.at c.lines.rest.now in
    let (l, on) = subst P c.in-More.is c.in_ok-more.ensures in
    goes_on c.args.text.now c.lines.sofar c.in-More.more c.lines.rest.now c.in-More.after.now c.lines.at (c.lines.at + (length c.lines.rest.now - length c.in-More.after.now)) c.lines.invariant l on (omega (arith, on.shorter))

pub returns-in-Stop-clause-whole : goal.returns-in-Stop-clause-whole
returns-in-Stop-clause-whole c =
    let P : Next → Type 0 = Follows c.lines.sofar c.lines.at c.lines.rest.now in
    let ends = subst P c.in-Stop.is c.in_ok-more.ensures in
    let text = c.args.text.now in
    let reading = reads_same text c.lines.sofar c.in-Stop.same c.lines.rest.now c.lines.at ends.0 c.lines.invariant in
    let Q : Drafted → Type 0 = λ r. r.stop ≡ None → (d : Draft) × IsListing (line_text Title ++ text) d × IsInMemory r.draft d in
    finished c.in-Stop.same c.lines.rest.now c.lines.at Q c.finish.result c.finish.ensures
    (λ r finishes. whole text c.in-Stop.same c.lines.rest.now c.lines.at r.draft r.stop reading finishes)

pub returns-in-Stop-clause-stops : goal.returns-in-Stop-clause-stops
returns-in-Stop-clause-stops c =
    let P : Next → Type 0 = Follows c.lines.sofar c.lines.at c.lines.rest.now in
    let ends = subst P c.in-Stop.is c.in_ok-more.ensures in
    let text = c.args.text.now in
    let reading = reads_same text c.lines.sofar c.in-Stop.same c.lines.rest.now c.lines.at ends.0 c.lines.invariant in
    let last = stopped c.lines.sofar c.in-Stop.same c.lines.rest.now c.lines.at ends.0 ends.1 in
    let Q : Drafted → Type 0 = λ r. IfSome r.stop (λ n. (d : Draft) × StopsAt (line_text Title ++ text) d n × IsInMemory r.draft d) in
    finished c.in-Stop.same c.lines.rest.now c.lines.at Q c.finish.result c.finish.ensures
    (λ r finishes. stops text c.in-Stop.same c.lines.rest.now c.lines.at r.draft r.stop reading last finishes)

pub returns-in-Stop-clause-only : goal.returns-in-Stop-clause-only
returns-in-Stop-clause-only c d is =
    let P : Next → Type 0 = Follows c.lines.sofar c.lines.at c.lines.rest.now in
    let ends = subst P c.in-Stop.is c.in_ok-more.ensures in
    let text = c.args.text.now in
    let reading = reads_same text c.lines.sofar c.in-Stop.same c.lines.rest.now c.lines.at ends.0 c.lines.invariant in
    let last = stopped c.lines.sofar c.in-Stop.same c.lines.rest.now c.lines.at ends.0 ends.1 in
    let Q : Drafted → Type 0 = λ r. (r.stop ≡ None) × IsInMemory r.draft d in
    finished c.in-Stop.same c.lines.rest.now c.lines.at Q c.finish.result c.finish.ensures
    (λ r finishes. only text c.in-Stop.same c.lines.rest.now c.lines.at r.draft r.stop reading last finishes d is)

pub returns-in-Stop-clause-only_stops : goal.returns-in-Stop-clause-only_stops
returns-in-Stop-clause-only_stops c d n at =
    let P : Next → Type 0 = Follows c.lines.sofar c.lines.at c.lines.rest.now in
    let ends = subst P c.in-Stop.is c.in_ok-more.ensures in
    let text = c.args.text.now in
    let reading = reads_same text c.lines.sofar c.in-Stop.same c.lines.rest.now c.lines.at ends.0 c.lines.invariant in
    let last = stopped c.lines.sofar c.in-Stop.same c.lines.rest.now c.lines.at ends.0 ends.1 in
    let Q : Drafted → Type 0 = λ r. (r.stop ≡ Some n) × IsInMemory r.draft d in
    finished c.in-Stop.same c.lines.rest.now c.lines.at Q c.finish.result c.finish.ensures
    (λ r finishes. only_stops text c.in-Stop.same c.lines.rest.now c.lines.at r.draft r.stop reading last finishes d n at)

pub take_line-requires : goal.take_line-requires
take_line-requires c = record { short = left_short c.args.text.now c.lines.sofar c.lines.rest.now c.lines.at c.lines.invariant c.requires }
