use Rattle.std.proofs.Common.{refl}
use Rattle.loft_tree.specs.View.{statement_of, statements_of}
use Rattle.loft_scopes.specs.Faults.{body_faults, statement_faults}
use Rattle.loft_name_faults.proofs.Uses.{one_more}
use Rattle.loft_name_faults.proofs.statement.+statement.Goals as goal

pub body-loop-s-preserved : goal.body-loop-s-preserved
body-loop-s-preserved t c =
    one_more (λ ss. body_faults c.args.table.now c.args.scope (statements_of ss)) (λ s. statement_faults c.args.table.now c.args.scope (statement_of s))
    c.loop-s.least c.statement.new.least _ c.args.statements.now c.loop-s.s-index c.s-item.result (λ s ss. refl) c.loop-s-test.true c.s-item.is c.loop-s.invariant c.statement.ensures
