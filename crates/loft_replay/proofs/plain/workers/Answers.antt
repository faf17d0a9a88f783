use Rattle.std.proofs.Common.{◌≡◌, ◌∙◌, ◌++◌, ◌∷◌, [], List, sym, ap}
use Rattle.std.proofs.lemmas.List.FromFn.{map-range_with_len_more}
use Rattle.loft_course.specs.Course.{Hand, hand_after, hands_after}
use Rattle.loft_course.proofs.RunsOn.{from_none}
use Rattle.loft_replay.proofs.plain.workers.Goals as goal

pub workers-preserved : goal.workers-preserved
workers-preserved g c =
    let x = g.X.Setting.program in
    let o = g.X.Setting.options in
    let k = c.workers.counter in
    let new : Hand = c.new.result in
    let is : new ≡ hand_after x o [] k = c.new.ensures k in
    c.in_ok-push.ensures.items
    ∙ (ap (λ (l : List Hand). l ++ new ∷ []) c.workers.invariant
    ∙ (ap (λ (s : Hand). hands_after x o [] k ++ s ∷ []) is ∙ sym (map-range_with_len_more (hand_after x o []) 0 k k (from_none k))))
