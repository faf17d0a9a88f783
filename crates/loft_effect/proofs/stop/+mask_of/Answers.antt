use Rattle.std.proofs.Common.{◌∙◌, ap, pos, Bool}
use Rattle.std.specs.Prelude.{if◌then◌else◌}
use Rattle.loft_effect.proofs.MaskLemmas.{mask_more}
use Rattle.loft_effect.proofs.stop.+mask_of.Goals as goal

pub returns-in-Some : goal.returns-in-Some
returns-in-Some t c =
    mask_more c.args.events.now c.in-Some.rest.now c.in-Some.event.now c.args.around.now.board c.add.result c.bit.result c.mul.result c.mask_of.result
    c.in-Some.ensures.cases.0 c.add.ensures (c.bit.ensures ∙ ap (λ (b : Bool). pos (if b then 1 else 0)) c.has.ensures) c.mul.ensures c.mask_of.ensures
