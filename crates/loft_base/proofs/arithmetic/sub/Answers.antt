use Rattle.std.proofs.Common.{rules}
use Rattle.std.proofs.lemmas.Int.{wraps}
use Rattle.loft_base.proofs.arithmetic.sub.Goals as goal

pub returns : goal.returns
returns c = search (rules, wraps)
