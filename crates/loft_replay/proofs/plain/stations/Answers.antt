use Rattle.std.proofs.Common.{◌≡◌, ◌∙◌, ◌++◌, ◌∷◌, [], List, sym, ap}
use Rattle.std.proofs.lemmas.List.FromFn.{map-range_with_len_more}
use Rattle.loft_course.specs.Course.{Stand, stand_after, stands_after}
use Rattle.loft_course.proofs.RunsOn.{from_none}
use Rattle.loft_replay.proofs.plain.stations.Goals as goal

pub schedulers-preserved : goal.schedulers-preserved
schedulers-preserved g c =
    let x = g.X.Setting.program in
    let o = g.X.Setting.options in
    let k = c.schedulers.k in
    let new : Stand = c.new-in-schedulers.result in
    let is : new ≡ stand_after x o [] k = c.new-in-schedulers.ensures k c.in_ok-engine.ensures.scheduler in
    c.in_ok-push.ensures.items
    ∙ (ap (λ (l : List Stand). l ++ new ∷ []) c.schedulers.invariant
    ∙ (ap (λ (s : Stand). stands_after x o [] k ++ s ∷ []) is ∙ sym (map-range_with_len_more (stand_after x o []) 0 k k (from_none k))))
