use Rattle.std.proofs.Common.{rules}
use Rattle.std.specs.Prelude.{◌==◌}
use Rattle.loft_grammar.specs.Language.{is_sign}
use Rattle.loft_grammar.specs.View.{symbols_at, state_at}
use Rattle.loft_grammar.proofs.Leaves.{uncounted}
use Rattle.loft_grammar.proofs.token.opening_sign.Goals as goal

pub returns-clause-takes : goal.returns-clause-takes
returns-clause-takes g c =
    rw (uncounted g.L.Limited.limits (c.args.deeper == 0) (is_sign c.args.wanted) (λ x. x.at) (symbols_at c.args.at.now.cursor) (state_at c.args.at.now.cursor))
    (search rules)
