use Rattle.std.proofs.Common.{sym, ap, ◌∙◌, set, get_or}
use Rattle.std.proofs.lemmas.List.Edits.{swap_is}
use Rattle.loft_passes.specs.declared.runner.Runner.{Runner}
use Rattle.loft_line.proofs.ListLemmas.{get_there}
use Rattle.loft_line.proofs.slots.exchange.Goals as goal

pub returns : goal.returns
returns c = λ h r there at.
    let rs = c.args.slots.now.items in
    let p = c.args.pos in
    let t = c.args.to in
    c.swap.ensures.items
    ∙ sym (swap_is rs p t h c.requires.within c.requires.inside)
    ∙ ap (λ (q : Runner). set (set rs p q) t (get_or rs p h)) (get_there rs t h h there)
    ∙ ap (set (set rs p h) t) (get_there rs p h r at)
