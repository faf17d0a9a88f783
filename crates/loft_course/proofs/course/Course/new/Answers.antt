use Rattle.std.proofs.Common.{arith, ◌≡◌, ◌∙◌, ◌++◌, ◌∷◌, [], ℕ, List, map, sym, ap, length}
use Rattle.std.specs.List.{range_with_len}
use Rattle.std.proofs.lemmas.List.FromFn.{map-range_with_len_more}
use Rattle.loft_tree.specs.declared.heads.Heads.{Heads}
use Rattle.loft_course.proofs.RunsOn.{begun, from_none}
use Rattle.loft_course.proofs.course.Course.new.Goals as goal

pub loop-preserved : goal.loop-preserved
loop-preserved g c =
    c.in_ok-push.ensures.items
    ∙ (ap (λ (l : List ℕ). l ++ 0 ∷ []) c.loop.invariant ∙ sym (map-range_with_len_more (λ k. 0) 0 c.loop.counter c.loop.counter (from_none c.loop.counter)))

pub returns-clause-run : goal.returns-clause-run
returns-clause-run g c =
    let x = g.X.Setting.program in
    let all_clients : c.loop.counter ≡ length c.args.heads.now.clients = omega (arith, c.len-end.ensures, c.loop.auto.counter-end, c.loop-test.false) in
    begun x g.X.Setting.options c.args.heads.now c.in_ok-make.field-0 c.args.stations.items c.args.workers.items c.loop.given.items c.requires.heads c.in_ok-make.ensures c.requires.stations c.requires.workers
    (c.loop.invariant ∙ ap (λ (n : ℕ). map (λ k. 0) (range_with_len 0 n)) (all_clients ∙ ap (λ (h : Heads). length h.clients) c.requires.heads))
