use Rattle.std.proofs.Common.{refl, length, length-set, get_or, None}
use Rattle.std.proofs.lemmas.Option.{slice_get_read}
use Rattle.loft_line.specs.Line.{with_wait}
use Rattle.loft_line.proofs.EndLemmas.{begun_there, with_slot}
use Rattle.loft_line.proofs.line.Line.close_held.Goals as goal

pub returns-clause-begun : goal.returns-clause-begun
returns-clause-begun c =
    let l = c.args.self.now in
    let p = c.args.pos in
    let x = c.index_mut.result.now in
    let n = c.begin.new.self in
    record {
      now = with_wait (get_or l.waits.waits p None) n;
      runners = begun_there l.slots.items l.waits.waits p x n l.budget (slice_get_read l.slots.items (length l.slots.items) p x refl c.requires.within c.index_mut.ensures.value) c.begin.ensures;
      slots = with_slot l.slots.items l.waits.waits p n;
      long = length-set l.slots.items p n;
      ran = refl;
      told = refl;
      held = refl;
      budget = refl;
      finder = refl;
    }
