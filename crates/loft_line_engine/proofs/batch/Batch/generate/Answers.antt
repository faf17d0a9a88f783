use Rattle.std.proofs.Common.{ℕ, ◌<◌, ◌∙◌, ap, subst}
use Rattle.loft_waits.specs.Told.{Told}
use Rattle.loft_line_engine.proofs.BatchLemmas.{event_told}
use Rattle.loft_line_engine.proofs.batch.Batch.generate.Goals as goal

pub returns-in_ok-generate-clause-sound : goal.returns-in_ok-generate-clause-sound
returns-in_ok-generate-clause-sound c = record {
  idle = c.on_event.ensures.idle;
  counts = event_told c.args.event c.args.value c.args.self.now.board c.generate.new.board c.count.result c.args.self.now.line.waits c.on_event.new.self.waits
      (c.counts_follow_the_board.ensures.generate c.args.event c.args.value c.args.self.now.board) (subst (λ (n : ℕ). c.args.event.0 < n) c.events.ensures c.if-event-events.true) c.in_ok-generate.ensures c.count.ensures c.requires.sound.counts c.on_event.ensures.told;
  ended = ap (λ (t : Told). t.ended) c.on_event.ensures.told ∙ c.requires.sound.ended;
}
