use Rattle.std.proofs.Common.{List, ℤ, ap, sym, ◌∙◌, to_z, of_z, rules}
use Rattle.std.specs.Int.{w64}
use Rattle.std.specs.Prelude.{FitsSigned}
use Rattle.std.proofs.lemmas.Int.{to_z-of_z}
use Rattle.loft_base.specs.declared.ids.Value.{Value}
use Rattle.loft_tree.specs.declared.heads.Heads.{Heads}
use Rattle.loft_code.specs.View.{exp_in}
use Rattle.loft_sense.specs.Around.{Beside}
use Rattle.loft_sense.specs.Eval.{eval as eval_in}
use Rattle.loft_step.specs.Runs.{innermost_values}
use Rattle.loft_step.proofs.value.eval.Goals as goal

pub returns : goal.returns
returns c = λ around same.
    let code : FitsSigned w64 c.args.t.now.code = search rules in
    let mask : FitsSigned w64 c.args.t.now.mask = search rules in
    let seen : ℤ → ℤ → List ℤ → Beside = λ n m shared. record { id = c.args.t.now.id; code = n; mask = m; around = record around { shared = shared } } in
    c.value.ensures around
    ∙ (ap (λ (h : Heads). eval_in h c.innermost_values.result.now (seen (to_z w64 (of_z w64 c.args.t.now.code)) (to_z w64 (of_z w64 c.args.t.now.mask)) c.as_slice-2.result.now) (exp_in c.args.e.now)) c.heads.ensures
    ∙ (ap (λ (vs : List Value). eval_in c.args.c.now.heads vs (seen (to_z w64 (of_z w64 c.args.t.now.code)) (to_z w64 (of_z w64 c.args.t.now.mask)) c.as_slice-2.result.now) (exp_in c.args.e.now)) (c.innermost_values.ensures ∙ ap innermost_values c.as_slice.ensures)
    ∙ (ap (λ (n : ℤ). eval_in c.args.c.now.heads (innermost_values c.args.t.now.frames) (seen n (to_z w64 (of_z w64 c.args.t.now.mask)) c.as_slice-2.result.now) (exp_in c.args.e.now)) (to_z-of_z w64 c.args.t.now.code code)
    ∙ (ap (λ (n : ℤ). eval_in c.args.c.now.heads (innermost_values c.args.t.now.frames) (seen c.args.t.now.code n c.as_slice-2.result.now) (exp_in c.args.e.now)) (to_z-of_z w64 c.args.t.now.mask mask)
    ∙ ap (λ (shared : List ℤ). eval_in c.args.c.now.heads (innermost_values c.args.t.now.frames) (seen c.args.t.now.code c.args.t.now.mask shared) (exp_in c.args.e.now)) (c.as_slice-2.ensures ∙ sym same)))))
