use Rattle.std.proofs.Common.{◌++◌, ap, ◌∙◌, List, ℕ}
use Rattle.loft_gen.proofs.Walk.{back, walk_is}
use Rattle.loft_gen.proofs.source.put_walk.Goals as goal

pub returns-clause-text : goal.returns-clause-text
returns-clause-text c = λ w.
    c.put.ensures.text w
    ∙ ap (λ (t : List ℕ). t ++ back) (c.put_number.ensures.text (c.put.ensures.before w))
    ∙ walk_is c.args.out.now.text.items c.args.rounds
