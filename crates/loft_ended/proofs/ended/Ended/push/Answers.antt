use Rattle.std.proofs.Common.{◌≡◌, ◌∙◌, sym, subst, ap, List, [], ◌∷◌, ◌++◌}
use Rattle.loft_base.specs.declared.ids.ThreadId.{ThreadId}
use Rattle.loft_ended.specs.Ended.{HasKeys}
use Rattle.loft_ended.proofs.KeyLemmas.{has_keys_more}
use Rattle.loft_ended.proofs.ended.Ended.push.Goals as goal

pub invariant_of-self-2 : goal.invariant_of-self-2
invariant_of-self-2 c =
    let s = c.self.inside in
    let x = c.args.thread in
    let pushed : c.push_reserved.new.self.items ≡ s.threads.items ++ x ∷ [] =
    c.push_reserved.ensures.items ∙ ap (λ (l : List ThreadId). l ++ x ∷ []) c.reserve.ensures.items in
    subst (λ (l : List ThreadId). HasKeys c.insert.new.self l) (sym pushed)
    (has_keys_more s.keys c.insert.new.self s.threads.items x c.self.invariant c.in_ok-insert.ensures.ok)
