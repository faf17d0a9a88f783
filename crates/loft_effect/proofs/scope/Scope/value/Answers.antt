use Rattle.std.proofs.Common.{◌∙◌}
use Rattle.loft_tree.specs.NamedView.{term_of}
use Rattle.loft_tree.specs.Resolved.{exp_of}
use Rattle.loft_effect.specs.View.{around_of, beside_of, beside_in}
use Rattle.loft_effect.proofs.ValueLemmas.{eval_same}
use Rattle.loft_effect.proofs.scope.Scope.value.Goals as goal

pub returns : goal.returns
returns c =
    let around = around_of c.args.beside.now.around in
    c.value.ensures around
    ∙ eval_same c.sight.result.heads.now c.args.heads.now c.sight.result.values.now c.args.self.now.values (beside_in c.sight.result around) (beside_of c.args.beside.now) (exp_of (term_of c.args.e.now))
    c.sight.ensures.heads c.sight.ensures.values c.sight.ensures.beside
