use Rattle.loft_world.specs.State.{count_in}
use Rattle.loft_world.proofs.StateLemmas.{no_creates, only_sends, added}
use Rattle.loft_world.proofs.world.World.append.Goals as goal

pub invariant_of-self : goal.invariant_of-self
invariant_of-self c =
    let w = c.self.inside in
    added w.heads w.entries.items c.add.new.entries.items w.waits.items c.add.new.waits.items w.jobs.items c.add.new.jobs.items (count_in w.creates) (count_in w.creates) c.args.entry c.args.sents.now
    c.add.result c.self.invariant (only_sends c.args.entry c.requires.sending) c.requires.sends
    (λ d. no_creates d (count_in w.creates d) c.args.entry c.requires.sending) c.self.invariant
    c.add.ensures.entries c.add.ensures.waits c.add.ensures.jobs c.add.ensures.same_entries c.add.ensures.same_waits c.add.ensures.same_jobs
