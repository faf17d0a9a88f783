use Rattle.std.proofs.Common.{◌<◌, length, ◌∙◌, arith}
use Rattle.loft_sense.specs.Tree.{tree}
use Rattle.loft_sense.specs.Run.{frame_of}
use Rattle.loft_walk.specs.Frames.{active}
use Rattle.loft_walk.proofs.Frames.{first_off}
use Rattle.loft_walk.proofs.stopping.keep_all.Goals as goal

pub keeping-preserved : goal.keeping-preserved
keeping-preserved c = λ p.
    let some : 0 < length c.keeping.running.items = omega arith in
    c.keeping.invariant p ∙ first_off (frame_of (tree p)) active c.keeping.running.items c.remove.new.self.items c.remove.result c.keeping.frames.items c.push.new.self.items c.in_ok-keep.field-0 some c.remove.ensures.items c.remove.ensures.value c.in_ok-push.ensures.items (c.in_ok-keep.ensures p)
