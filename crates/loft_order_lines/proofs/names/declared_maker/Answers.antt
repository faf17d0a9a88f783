use Rattle.std.proofs.Common.{ℕ, Some, None, sym, ap, ◌∙◌}
use Rattle.loft_base.specs.declared.ids.Maker.{Maker}
use Rattle.loft_base.specs.declared.ids.Maker.TheVariants.{Client}
use Rattle.loft_order_lines.proofs.NameLemmas.{maker_scheduler, maker_client}
use Rattle.loft_order_lines.proofs.PartLemmas.{never_none, one_found}
use Rattle.loft_order_lines.proofs.names.declared_maker.Goals as goal

pub returns-in-Some-clause-read : goal.returns-in-Some-clause-read
returns-in-Some-clause-read c m has other same =
    ap (λ (k : Maker). Some k) (maker_scheduler c.args.heads.now c.requires c.args.name.now c.in-Some.scheduler (sym c.scheduler_index.ensures.first ∙ c.in-Some.is) m has other same)

pub returns-in_err-client-in-None-clause-read : goal.returns-in_err-client-in-None-clause-read
returns-in_err-client-in-None-clause-read c m has other same =
    let p = maker_client c.args.heads.now c.requires c.args.name.now (sym c.scheduler_index.ensures.first ∙ c.in-None.is) c.client_index.result c.client_index.ensures.first m has other same in
    absurd (never_none c.client_index.result p.0 p.1 c.in_err-client-in-None.was)

pub returns-in_ok-client-in-None-clause-read : goal.returns-in_ok-client-in-None-clause-read
returns-in_ok-client-in-None-clause-read c m has other same =
    let p = maker_client c.args.heads.now c.requires c.args.name.now (sym c.scheduler_index.ensures.first ∙ c.in-None.is) c.client_index.result c.client_index.ensures.first m has other same in
    ap (λ (k : Maker). Some k) (ap (λ (n : ℕ). Client n) (one_found c.client_index.result c.in_ok-client-in-None.client p.0 p.1 c.in_ok-client-in-None.was) ∙ p.2)
