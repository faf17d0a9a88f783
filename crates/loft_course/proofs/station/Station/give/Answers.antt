use Rattle.std.proofs.Common.{◌≡◌, ◌∙◌, ap, refl, false}
use Rattle.loft_history.specs.History.{sent_last}
use Rattle.loft_world.specs.State.{State}
use Rattle.loft_course.specs.declared.station.Stage.{Stage}
use Rattle.loft_course.specs.Turning.{settled}
use Rattle.loft_course.proofs.CourseLemmas.{given}
use Rattle.loft_course.proofs.station.Station.give.Goals as goal

pub returns-clause-stands : goal.returns-clause-stands
returns-clause-stands g c =
    let e = g.E.Engine in
    let x = g.X.Setting.program in
    let o = g.X.Setting.options in
    let engine = c.self.inside.engine in
    let notes = c.self.inside.notes in
    let same : c.replace-stage.result ≡ c.self.inside.stage = c.replace-stage.ensures.value in
    given x o c.args.s c.args.world.now.history c.give_last.new.world.history
    (record {
      scheduler = e.scheduler engine;
      failed = e.has_failed engine;
      machine = (settled (e.program engine) (e.limits engine) (e.machine engine) notes c.self.inside.stage).machine;
      notes = (settled (e.program engine) (e.limits engine) (e.machine engine) notes c.self.inside.stage).notes;
      running = _;
    })
    (record { scheduler = e.scheduler c.settle.new.engine; failed = e.has_failed c.settle.new.engine; machine = e.machine c.settle.new.engine; notes = c.settle.new.notes; running = false })
    (sent_last c.settle.new.notes)
    (c.self.view_is ∙ c.requires.stands)
    (ap (λ (w : State). w.history) c.in_ok-give_last.ensures.entry)
    c.settle.ensures.same_scheduler c.in_ok-settle.ensures.works
    (c.in_ok-settle.ensures.machine ∙ ap (λ (q : Stage). (settled (e.program engine) (e.limits engine) (e.machine engine) notes q).machine) same)
    (c.in_ok-settle.ensures.notes ∙ ap (λ (q : Stage). (settled (e.program engine) (e.limits engine) (e.machine engine) notes q).notes) same)
    refl
