use Rattle.std.proofs.Common.{subst}
use Rattle.loft_listing_reader.specs.AllWrong.{IsLeastOf}
use Rattle.loft_listing_reader.proofs.Leasts.{least_both}
use Rattle.loft_listing_reader.proofs.earlier.earlier.Goals as goal

pub returns-in-Some-other : goal.returns-in-Some-other
returns-in-Some-other c ms ns one other =
    least_both c.min.result c.in-Some.m c.in-Some-other.n ms ns c.min.ensures (subst (λ v. IsLeastOf v ms) c.in-Some.is one) (subst (λ v. IsLeastOf v ns) c.in-Some-other.is other)
