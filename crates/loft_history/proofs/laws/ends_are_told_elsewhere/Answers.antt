use Rattle.std.specs.Prelude.{not}
use Rattle.std.proofs.Common.{refl, ap}
use Rattle.loft_history.proofs.HistoryLemmas.{same_self}
use Rattle.loft_history.proofs.laws.ends_are_told_elsewhere.Goals as goal

pub returns-clause-own : goal.returns-clause-own
returns-clause-own c = λ s t end. ap not (same_self s)

pub returns-clause-others : goal.returns-clause-others
returns-clause-others c = λ s q t end other. ap not other

pub returns-clause-unlinked : goal.returns-clause-unlinked
returns-clause-unlinked c = λ q t end. refl
