use Rattle.std.proofs.Common.{◌≡◌, ℕ, length, ap, sym, ◌∙◌, arith}
use Rattle.loft_step.specs.Kept.{settled}
use Rattle.loft_step.proofs.Kept.{settled_to, settled_more, settled_whole}
use Rattle.loft_step.proofs.running.settle_all.Goals as goal

pub loop-frame-preserved : goal.loop-frame-preserved
loop-frame-preserved c =
    settled_more c.args.frames.now c.loop-frame.frames c.loop-frame.frame-index c.frame-item.result c.settle.new.frame c.loop-frame.invariant (omega arith) c.frame-item.is (c.settle.ensures ∙ ap settled (sym c.frame-item.is))

pub returns : goal.returns
returns c =
    let all : c.loop-frame.frame-index ≡ length c.args.frames.now = omega arith in
    c.loop-frame.invariant ∙ (ap (λ (n : ℕ). settled_to n c.args.frames.now) all ∙ settled_whole c.args.frames.now)
