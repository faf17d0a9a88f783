use Rattle.std.proofs.Common.{◌≡◌, ◌<◌, ap, sym, ◌∙◌, arith, length}
use Rattle.std.specs.Prelude.{slice_get}
use Rattle.std.proofs.lemmas.Option.{slice_get_within}
use mathlib.Core.Logic.{dite}
use native.Mathlib.Decide.{ℕ_discrete}
use Rattle.loft_passes.specs.declared.runner.Runner.{Runner}
use Rattle.loft_passes.specs.View.{is_held}
use Rattle.loft_finder.specs.Finder.{may_stand}
use Rattle.loft_line.proofs.ListLemmas.{read_there}
use Rattle.loft_line.proofs.slots.list_all.Goals as goal

pub loop-pos-preserved : goal.loop-pos-preserved
loop-pos-preserved c = λ i r lt h held.
    let rs = c.args.slots.now in
    let p = c.loop-pos.pos in
    let x = c.index-slots-pos.result in
    let new = c.list.new.finder in
    dite (ℕ_discrete i p)
    (λ same.
    let is : x ≡ r = read_there rs p x r c.loop-pos-test.true c.index-slots-pos.is (ap (slice_get rs) (sym same) ∙ h) in
    ap (may_stand new r.thread.id) same
    ∙ ap (λ (q : Runner). may_stand new q.thread.id p) (sym is)
    ∙ c.list.ensures.stands (ap (λ (q : Runner). is_held q.stop) is ∙ held))
    (λ apart. c.list.ensures.keeps r.thread.id i (c.loop-pos.invariant i r (omega (arith, lt, apart)) h held))

pub returns : goal.returns
returns c = λ i r h held.
    let inside : i < length c.args.slots.now = slice_get_within c.args.slots.now i r h in
    let over = c.loop-pos-test.false in
    c.loop-pos.invariant i r (omega (arith, inside, over)) h held
