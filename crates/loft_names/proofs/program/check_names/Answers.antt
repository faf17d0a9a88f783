use Rattle.std.proofs.Common.{◌≡◌, [], Option, ◌∙◌, inr, sym, subst, ap, true}
use Rattle.std.specs.Prelude.{MatchOption}
use Rattle.std.specs.List.{list_any}
use Rattle.loft_tree.specs.View.{source_of}
use Rattle.loft_scopes.specs.declared.error.NameError.{NameError}
use Rattle.loft_scopes.specs.Faults.{declares_scheduler, faults, has_scheduler, IsFirst}
use Rattle.loft_names.proofs.program.check_names.Goals as goal

pub returns-in-Some-clause-fault : goal.returns-in-Some-clause-fault
returns-in-Some-clause-fault c =
    let p = source_of c.args.items.now in
    let scheduler : has_scheduler p ≡ true = ap (list_any declares_scheduler) (sym c.in_ok-table.ensures.table) ∙ sym c.has_scheduler.ensures ∙ c.if-not-has_scheduler.false in
    λ other. inr (scheduler, subst (λ (o : Option NameError). MatchOption o (faults p ≡ []) (λ e. IsFirst e (faults p))) c.in-Some.is c.in_ok-table.ensures.fault)

pub returns-clause-fits : goal.returns-clause-fits
returns-clause-fits c =
    let p = source_of c.args.items.now in
    record {
      scheduler = ap (list_any declares_scheduler) (sym c.in_ok-table.ensures.table) ∙ sym c.has_scheduler.ensures ∙ c.if-not-has_scheduler.false;
      faultless = subst (λ (o : Option NameError). MatchOption o (faults p ≡ []) (λ e. IsFirst e (faults p))) c.in-None.is c.in_ok-table.ensures.fault;
    }
