use Rattle.std.proofs.Common.{◌≡◌, ℕ, Some, ap}
use Rattle.loft_order_lines.proofs.NameLemmas.{module_found}
use Rattle.loft_order_lines.proofs.names.module_named.Goals as goal

pub returns-in_err-index-clause-read : goal.returns-in_err-index-clause-read
returns-in_err-index-clause-read c m has same =
    let found = module_found c.args.heads.now c.requires c.args.name.now c.module_index.result c.module_index.ensures.first m has same in
    let none = c.in_err-index.was in
    absurd cc

pub returns-clause-read : goal.returns-clause-read
returns-clause-read c m has same =
    let found = module_found c.args.heads.now c.requires c.args.name.now c.module_index.result c.module_index.ensures.first m has same in
    let some = c.in_ok-index.was in
    let e : c.in_ok-index.index ≡ m.0 = cc in
    ap (λ (n : ℕ). Some (record { 0 = n })) e
