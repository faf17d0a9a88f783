-- The engines that step through code: what they show.
use Rattle.std.proofs.Common.{◌≡◌, Bool, ap, ◌∙◌}
use Rattle.loft_base.specs.declared.ids.SchedId.{SchedId}
use Rattle.loft_base.specs.declared.options.Limits.{Limits}
use Rattle.loft_sense.specs.Machine.{Prog, Mach}
use Rattle.loft_actor.specs.Engines.{shown}

pub shown_is : (x y : Prog) (s q : SchedId) (l k : Limits) (m n : Mach) (f g : Bool) → x ≡ y → s ≡ q → l ≡ k → m ≡ n → f ≡ g → shown x s l m f ≡ shown y q k n g
shown_is x y s q l k m n f g a b c d e =
    ap (λ z. shown z s l m f) a ∙ ap (λ z. shown y z l m f) b ∙ ap (λ z. shown y q z m f) c ∙ ap (λ z. shown y q k z f) d ∙ ap (λ z. shown y q k n z) e
