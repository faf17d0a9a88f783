use Rattle.std.proofs.Common.{◌∙◌, sym, ap}
use Rattle.std.specs.Option.{option_map, option_copied}
use Rattle.loft_name_faults.proofs.Uses.{kinds-get}
use Rattle.loft_scopes.proofs.Keys.{got}
use Rattle.loft_name_faults.proofs.call.kind_at.Goals as goal

pub returns : goal.returns
returns c =
    sym (kinds-get c.args.parameters.now c.args.index
    ∙ ap (option_map (λ v. v.kind)) (sym (got c.get.result c.args.parameters.now c.args.index c.get.ensures.lookup.0 c.get.ensures.lookup.1) ∙ ap option_copied c.in_ok-parameter.was))

pub returns-in_err-parameter : goal.returns-in_err-parameter
returns-in_err-parameter c =
    c.from_residual.ensures
    ∙ sym (kinds-get c.args.parameters.now c.args.index
    ∙ ap (option_map (λ v. v.kind)) (sym (got c.get.result c.args.parameters.now c.args.index c.get.ensures.lookup.0 c.get.ensures.lookup.1) ∙ ap option_copied c.in_err-parameter.was))
