use Rattle.std.proofs.Common.{◌≡◌, ℕ, ◌+◌, ◌<◌, List, [], ◌∷◌, ◌++◌, length, get_or, take, sym, ap, ◌∙◌}
use Rattle.std.proofs.lemmas.List.{take_more}
use Rattle.loft_base.proofs.copy.try_clone_all.Goals as goal

-- one more is copied
one_more : {X : Type 0} (items copy copied : List X) (i : ℕ) (item made : X) → copied ≡ copy ++ made ∷ [] → copy ≡ take i items → made ≡ item
    → i < length items → item ≡ get_or items i item → copied ≡ take (i + 1) items
one_more {X} items copy copied i item made pushed so_far same within at =
    pushed ∙ ap (λ (l : List X). l ++ made ∷ []) so_far
    ∙ ap (λ (x : X). take i items ++ x ∷ []) (same ∙ at) ∙ sym (take_more items i item within)

pub loop-item-preserved : goal.loop-item-preserved
loop-item-preserved g c =
    one_more c.args.items.now c.loop-item.copy.items c.push.new.self.items c.loop-item.item-index c.item-item.result c.in_ok-try_clone.field-0
    c.in_ok-push.ensures.items c.loop-item.invariant c.in_ok-try_clone.ensures c.loop-item-test.true c.item-item.is
