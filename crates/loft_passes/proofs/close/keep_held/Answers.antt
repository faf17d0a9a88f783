use Rattle.std.proofs.Common.{rules}
use Rattle.std.proofs.lemmas.Fn.{filter_same}
use Rattle.loft_passes.specs.View.{is_held}
use Rattle.loft_passes.proofs.close.keep_held.Goals as goal

pub returns : goal.returns
returns c = filter_same _ (λ r. is_held r.stop) _ (λ x b f called. search rules) _ _ c.retain.ensures.filtered
