use Rattle.std.proofs.Common.{false, rules}
use Rattle.loft_grammar.specs.Language.{is_word}
use Rattle.loft_grammar.specs.View.{symbols_at, state_at}
use Rattle.loft_grammar.proofs.Leaves.{uncounted}
use Rattle.loft_grammar.proofs.token.word_place.Goals as goal

pub returns : goal.returns
returns g c =
    rw (uncounted g.L.Limited.limits false (is_word c.args.wanted) (λ x. x.at) (symbols_at c.args.at.now.cursor) (state_at c.args.at.now.cursor))
    (search rules)
