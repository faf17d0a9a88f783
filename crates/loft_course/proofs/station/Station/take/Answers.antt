use Rattle.std.proofs.Common.{◌≡◌, ◌∙◌, List, Option, false, sym, ap, subst}
use Rattle.std.specs.Prelude.{MatchOption}
use Rattle.loft_orders.specs.declared.entry.Entry.TheVariants.{Take}
use Rattle.loft_orders.specs.declared.order.Order.{Order}
use Rattle.loft_world.specs.State.{State, with_entry}
use Rattle.loft_course.specs.Course.{Stand}
use Rattle.loft_course.specs.Turning.{is_in_turn}
use Rattle.loft_course.proofs.StationLemmas.{at_rest, took_stands}
use Rattle.loft_course.proofs.station.Station.take.Goals as goal

pub returns-clause-stands : goal.returns-clause-stands
returns-clause-stands g c =
    let e = g.E.Engine in
    let x = g.X.Setting.program in
    let o = g.X.Setting.options in
    let engine = c.self.inside.engine in
    let old = c.args.world.now in
    let new = c.take_where_due.new.world in
    let batch = c.in-Some.batch in
    let rests : is_in_turn c.self.inside.stage ≡ false = ap (λ (q : Stand). q.running) c.self.view_is ∙ (sym c.is_in_turn.ensures ∙ c.if-is_in_turn.false) in
    let grows : new ≡ with_entry old (Take c.args.s batch) =
    subst (λ (q : Option (List Order)). MatchOption q (new ≡ old) (λ (b : List Order). new ≡ with_entry old (Take c.args.s b))) c.in-Some.is c.in_ok-batch.ensures.entry in
    took_stands x o c.args.s old.history new.history (e.program engine) (e.limits engine) (e.scheduler engine) (e.has_failed engine) (e.machine engine) c.self.inside.notes batch
    (at_rest x o c.args.s old.history (e.program engine) (e.limits engine) (e.scheduler engine) (e.has_failed engine) (e.machine engine) c.self.inside.notes c.self.inside.stage
    c.self.invariant.0.0 c.self.invariant.0.1 (c.self.view_is ∙ c.requires.stands) rests)
    (ap (λ (w : State). w.history) grows)
