use Rattle.std.proofs.Common.{◌≡◌, ◌∙◌, ℕ, ◌+◌, ◌^◌, ◌<◌, ◌≤◌, List, arith, sym, ap, map, length}
use Rattle.std.proofs.lemmas.List.{length-map}
use Rattle.std.proofs.lemmas.Result.{IfOk-weaker, err_from_is_err_and}
use Rattle.loft_tree.specs.declared.program.Variable.{Variable}
use Rattle.loft_tree.specs.View.{head_of, named_of}
use Rattle.loft_scopes.specs.Tables.{declared_of}
use Rattle.loft_scopes.proofs.Declaring.{module_joined}
use Rattle.loft_scopes.proofs.declare.declare_module.Goals as goal

-- arithmetic over plain variables
few : {m n l : ℕ} → m ≡ n → n ≤ 8 → l ≤ 32 → m + l < 2 ^ 32
few same parameters locals = omega arith

none : {m n : ℕ} → m ≡ n → n ≤ 8 → 0 + m < 2 ^ 32
none same parameters = omega arith

pub declare_variables-requires : goal.declare_variables-requires
declare_variables-requires c =
    none (sym (length-map c.as_slice-parameters.result.now named_of) ∙ ap (λ (ps : List Variable). length (map named_of ps)) c.as_slice-parameters.ensures.value) c.requires.parameters

pub declare_variables-requires-2 : goal.declare_variables-requires-2
declare_variables-requires-2 c =
    few (sym (length-map c.as_slice-parameters.result.now named_of) ∙ ap (λ (ps : List Variable). length (map named_of ps)) c.as_slice-parameters.ensures.value) c.requires.parameters c.requires.locals

pub returns-in_err-table : goal.returns-in_err-table
returns-in_err-table c =
    let failed = err_from_is_err_and c.from_residual.result c.from_residual.ensures.1 in
    rw failed.1 tt

pub returns-in_err-table-2 : goal.returns-in_err-table-2
returns-in_err-table-2 c =
    let failed = err_from_is_err_and c.from_residual-in_err-table-2.result c.from_residual-in_err-table-2.ensures.1 in
    rw failed.1 tt

pub returns : goal.returns
returns c =
    let many : length c.as_slice-parameters.result.now ≡ length (map named_of c.as_slice-parameters.result.now) = sym (length-map c.as_slice-parameters.result.now named_of) in
    IfOk-weaker c.declare_variables-2.result _ _
    (λ grown last. module_joined c.args.table c.in_ok-table.table c.in_ok-table-2.table grown c.args.least.now c.declare.new.least c.declare_variables.new.least c.declare_variables-2.new.least
    (declared_of c.everywhere-declaration.result) c.args.number (length c.as_slice-parameters.result.now) (head_of c.args.head.now) (map named_of c.as_slice-parameters.result.now) (map named_of c.args.locals.now)
    (ap (map named_of) c.as_slice-parameters.ensures.value) c.everywhere-declaration.ensures many c.in_ok-table.ensures c.in_ok-table-2.ensures last)
    c.declare_variables-2.ensures
