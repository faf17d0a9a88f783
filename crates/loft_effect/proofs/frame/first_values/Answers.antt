use Rattle.std.proofs.Common.{List, [], ◌∷◌, ◌++◌, ◌∙◌, ap, sym, take, append_assoc}
use Rattle.std.specs.Prelude.{map}
use Rattle.std.proofs.lemmas.List.{map_more}
use Rattle.loft_base.specs.declared.ids.Value.{Value}
use Rattle.loft_tree.specs.declared.heads.SlotHead.{SlotHead}
use Rattle.loft_sense.specs.Heads.{first_value}
use Rattle.loft_effect.proofs.frame.first_values.Goals as goal

pub loop-local-preserved : goal.loop-local-preserved
loop-local-preserved c =
    let f = λ (x : SlotHead). first_value c.args.thread x.kind in
    let before = map f (take c.loop-local.local-index c.locals-locals.result.now) in
    c.in_ok-push.ensures.items
    ∙ ap (λ (l : List Value). l ++ c.first_value.result ∷ []) c.loop-local.invariant
    ∙ append_assoc c.reserve_exact.new.self.items before (c.first_value.result ∷ [])
    ∙ ap (λ (l : List Value). c.reserve_exact.new.self.items ++ l)
    (ap (λ (v : Value). before ++ v ∷ []) (c.first_value.ensures ∙ ap f c.local-item.is)
    ∙ sym (map_more f c.locals-locals.result.now c.loop-local.local-index c.local-item.result c.loop-local-test.true))
