use Rattle.std.proofs.Common.{◌≡◌, ℕ, Some, ap}
use Rattle.loft_order_lines.proofs.NameLemmas.{event_found}
use Rattle.loft_order_lines.proofs.names.event_named.Goals as goal

pub returns-in_err-index-clause-read : goal.returns-in_err-index-clause-read
returns-in_err-index-clause-read c e has same =
    let found = event_found c.args.heads.now c.requires c.args.name.now c.event_index.result c.event_index.ensures.first e has same in
    let none = c.in_err-index.was in
    absurd cc

pub returns-clause-read : goal.returns-clause-read
returns-clause-read c e has same =
    let found = event_found c.args.heads.now c.requires c.args.name.now c.event_index.result c.event_index.ensures.first e has same in
    let some = c.in_ok-index.was in
    let f : c.in_ok-index.index ≡ e.0 = cc in
    ap (λ (n : ℕ). Some (record { 0 = n })) f
