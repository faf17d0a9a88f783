use Rattle.std.proofs.Common.{map, arith, below_more}
use Rattle.std.proofs.lemmas.List.{length-map}
use Rattle.std.proofs.lemmas.Result.{err_from_is_err_and}
use Rattle.loft_code.specs.View.{lines_of}
use Rattle.loft_code.specs.Valid.{error_at, NoError}
use Rattle.loft_code.proofs.Checked.{first_module, all_modules}
use Rattle.loft_code.proofs.valid.check_modules.Goals as goal

pub returns-in_err-check_module : goal.returns-in_err-check_module
returns-in_err-check_module c =
    let p = err_from_is_err_and c.from_residual.result c.from_residual.ensures.1 in
    rw (p.1, p.2)
    (first_module (record { heads = c.args.heads.now; modules = map lines_of c.args.modules.now }) c.loop-number.number c.in_err-check_module.field-0.0
    c.in_err-check_module.ensures c.loop-number.invariant)

pub loop-number-preserved : goal.loop-number-preserved
loop-number-preserved c =
    below_more (λ k. NoError (error_at (record { heads = c.args.heads.now; modules = map lines_of c.args.modules.now }) (record { 0 = k }))) _
    c.loop-number.invariant c.in_ok-check_module.ensures

pub returns : goal.returns
returns c =
    all_modules (record { heads = c.args.heads.now; modules = map lines_of c.args.modules.now }) c.loop-number.number
    (omega (arith, length-map c.args.modules.now lines_of, c.loop-number-test.false)) c.loop-number.invariant
