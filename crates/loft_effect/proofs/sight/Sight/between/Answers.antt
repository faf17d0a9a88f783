use Rattle.std.proofs.Common.{◌∙◌, ap, sym, rules, Some, w64}
use Rattle.std.specs.Prelude.{FitsSigned}
use Rattle.std.proofs.lemmas.Int.{to_z-of_z}
use Rattle.loft_effect.specs.View.{answer_of}
use Rattle.loft_effect.proofs.ValueLemmas.{by_numbers}
use Rattle.loft_effect.proofs.sight.Sight.between.Goals as goal

pub returns-in_default : goal.returns-in_default
returns-in_default c = λ around left right.
    let m_fits : FitsSigned w64 c.args.m = search rules in
    let n_fits : FitsSigned w64 c.args.n = search rules in
    by_numbers c.args.operator _ _ _ _ (answer_of c.binary_value.result) c.in_default.not-Equal c.in_default.not-Unequal
    (ap Some (to_z-of_z w64 c.args.m m_fits) ∙ sym left) (ap Some (to_z-of_z w64 c.args.n n_fits) ∙ sym right) c.binary_value.ensures
