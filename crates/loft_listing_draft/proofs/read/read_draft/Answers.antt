use Rattle.std.proofs.Common.{[], Some, sym, ap, subst}
use Rattle.loft_listing_draft.proofs.Following.{stops_first, never_listing}
use Rattle.loft_listing_draft.specs.InMemory.{IsInMemory}
use Rattle.loft_listing_draft.proofs.Stopping.{first_stop}
use Rattle.loft_listing_draft.proofs.read.read_draft.Goals as goal

pub returns-in-None-clause-stops : goal.returns-in-None-clause-stops
returns-in-None-clause-stops c = ([], stops_first c.args.text.now c.in-None.ensures.only, c.none.ensures.draft)

pub returns-in-None-clause-only : goal.returns-in-None-clause-only
returns-in-None-clause-only c d is = absurd (never_listing c.args.text.now d c.in-None.ensures.only is)

pub returns-in-None-clause-only_stops : goal.returns-in-None-clause-only_stops
returns-in-None-clause-only_stops c d n at =
    let so = first_stop c.args.text.now d n c.in-None.ensures.only at in (ap Some (sym so.1), subst (IsInMemory c.none.result.draft) (sym so.0) c.none.ensures.draft)
