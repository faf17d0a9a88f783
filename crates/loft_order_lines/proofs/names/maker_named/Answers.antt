use Rattle.std.proofs.Common.{true, Some, sym, ap, ◌∙◌}
use Rattle.loft_base.specs.declared.ids.Maker.{Maker}
use Rattle.loft_order_lines.proofs.NameLemmas.{maker_starts, same_bytes}
use Rattle.loft_order_lines.proofs.names.maker_named.Goals as goal

pub returns-then-eq-clause-read : goal.returns-then-eq-clause-read
returns-then-eq-clause-read c m has same =
    let start = same_bytes c.args.name.now c.as_slice.result.now (sym c.eq.ensures ∙ c.if-eq.true) ∙ c.as_slice.ensures in
    ap (λ (k : Maker). Some k) (sym (maker_starts c.args.heads.now c.requires m has (sym same ∙ start)))
