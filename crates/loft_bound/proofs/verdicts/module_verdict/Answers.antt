use Rattle.std.proofs.Common.{List, Bool, map, ap, subst, ◌∙◌}
use Rattle.loft_tree.specs.declared.named.Module.{Module}
use Rattle.loft_tree.specs.declared.named.NamedStmt.{NamedStmt}
use Rattle.loft_tree.specs.NamedView.{statements_of}
use Rattle.loft_bound.specs.Found.{AllReaching, verdict_by}
use Rattle.loft_bound.proofs.Answered.{verdict_holds}
use Rattle.loft_bound.proofs.verdicts.module_verdict.Goals as goal

pub returns : goal.returns
returns c =
    let marks = c.in_ok-reaching.reaching.items in
    let all : AllReaching c.args.m (map (λ (m : Module). statements_of m.body.items) c.args.p.now.modules.items) marks =
    subst (λ (ms : List Module). AllReaching c.args.m (map (λ (m : Module). statements_of m.body.items) ms) marks) c.as_slice.ensures.value c.in_ok-reaching.ensures in
    verdict_holds c.args.p.now c.args.table.now c.args.m c.args.module.now marks c.verdict.result c.requires.stable c.requires.there all
    (c.verdict.ensures ∙ ap (λ (l : List Bool). verdict_by c.args.table.now l c.args.m (statements_of c.as_slice-3.result.now)) c.as_slice-2.ensures.value
    ∙ ap (λ (l : List NamedStmt). verdict_by c.args.table.now marks c.args.m (statements_of l)) c.as_slice-3.ensures.value)
