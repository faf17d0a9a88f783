use Rattle.std.proofs.Common.{◌≡◌, ◌∙◌, ap, sym, subst, refl, ◌++◌, ◌∷◌, [], Err, IsTrue, inl}
use Rattle.std.proofs.Math.Nat.{lt_of_not-le}
use Rattle.std.proofs.lemmas.Bool.{false≢true}
use Rattle.std.specs.Prelude.{codes}
use Rattle.std.proofs.lemmas.Result.{err_from_is_err_and}
use Rattle.loft_tree.specs.View.{source_of}
use Rattle.loft_refusal.specs.declared.refusal.Stopped.{Stopped}
use Rattle.loft_refusal.specs.declared.refusal.Stopped.TheVariants as stopped
use Rattle.loft_arguments.specs.Command.{Check}
use Rattle.loft_refusal.specs.Input.{ASource}
use Rattle.loft_commands.specs.Promise.{IsAnswerFor}
use Rattle.loft_commands.proofs.Doing.{failed_does}
use Rattle.loft_commands.proofs.Written.{begun}
use Rattle.loft_commands.proofs.command.check.Goals as goal

pub returns-in_err-put-clause-does : goal.returns-in_err-put-clause-does
returns-in_err-put-clause-does g c = λ file.
    let p = err_from_is_err_and c.from_residual-in_err-put.result c.from_residual-in_err-put.ensures.1 in
    let is : c.from_residual-in_err-put.result ≡ Err stopped.SinkFault = p.1 ∙ ap (λ (e : Stopped). Err e) p.2 in
    failed_does (inl is) (begun (IsAnswerFor (Check file) (ASource (source_of c.args.program))) (codes "ok" ++ 10 ∷ []) c.in_err-put.ensures.failed (c.in_ok-place_program.ensures.well, refl))
    (λ e. (codes "ok" ++ 10 ∷ [], (c.in_ok-place_program.ensures.well, refl), lt_of_not-le (λ fits. false≢true (c.in_err-put.ensures.sure fits))))
    (λ all. subst IsTrue (sym c.in_err-put.ensures.same_lines) all)
