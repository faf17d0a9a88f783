use Rattle.std.proofs.Common.{◌≡◌, drop}
use Rattle.std.specs.Prelude.{map}
use Rattle.loft_tree.specs.NamedView.{term_of}
use Rattle.loft_tree.specs.Resolved.{exps_of}
use Rattle.loft_sense.specs.Eval.{eval_all}
use Rattle.loft_effect.specs.View.{beside_of}
use Rattle.loft_effect.proofs.ValueLemmas.{onto}
use Rattle.loft_effect.proofs.scope.Scope.values.Given as goal

-- the values so far, and then those of the rest
abbrev pub invariant-loop-e : goal.invariant-loop-e
invariant-loop-e l =
    eval_all l.heads l.self.values (beside_of l.beside) (exps_of (map term_of l.es))
    ≡ onto l.values (eval_all l.heads l.self.values (beside_of l.beside) (exps_of (map term_of (drop l.e-index l.es))))
