use Rattle.std.proofs.Common.{List, ◌+◌, ◌∙◌, ap, sym, drop}
use Rattle.std.specs.Prelude.{map}
use Rattle.loft_base.specs.declared.ids.Value.{Value}
use Rattle.loft_tree.specs.NamedView.{term_of}
use Rattle.loft_tree.specs.Resolved.{exps_of}
use Rattle.loft_sense.specs.Eval.{eval_all}
use Rattle.loft_effect.specs.View.{beside_of}
use Rattle.loft_effect.proofs.ValueLemmas.{onto, all_more}
use Rattle.loft_effect.proofs.scope.Scope.values.Goals as goal

pub loop-e-preserved : goal.loop-e-preserved
loop-e-preserved c =
    let heads = c.args.heads.now in
    let values = c.args.self.now.values in
    let beside = beside_of c.args.beside.now in
    c.loop-e.invariant
    ∙ all_more heads values beside c.args.es.now c.loop-e.e-index c.e-item.result c.loop-e-test.true c.e-item.is c.loop-e.values c.in-Ok.value c.in-Ok.ensures
    ∙ ap (λ (l : List Value). onto l (eval_all heads values beside (exps_of (map term_of (drop (c.loop-e.e-index + 1) c.args.es.now))))) (sym c.in_ok-push-in-Ok.ensures.ok)
