use Rattle.std.proofs.Common.{◌∙◌, ◌+◌, List, Bool, true, false, sym, ap, subst}
use Rattle.std.specs.Prelude.{take, drop}
use Rattle.loft_sense.specs.Machine.{heads}
use Rattle.loft_report_shape.specs.declared.raw.Choice.{Choice}
use Rattle.loft_replay.specs.Named.{meant, follows, MovesBy}
use Rattle.loft_replay.proofs.FollowLemmas.{HasFollowed, one_more, refused, one_there}
use Rattle.loft_replay.proofs.replay.choose_all.Goals as goal

pub returns-then-not-branch-clause-refused : goal.returns-then-not-branch-clause-refused
returns-then-not-branch-clause-refused g c =
    let x = g.X.Setting.program in
    let o = g.X.Setting.options in
    let i = c.loop-index.index in
    let all : List Choice = c.args.c.now in
    let h = c.loop-index.course.world.history in
    let last = c.choose.new.course.world.history in
    let choice : Choice = c.choice-item.result in
    let there = one_there c.as_slice-choice-items.result.now all i choice c.as_slice-choice-items.ensures c.choice-item.is c.loop-index-test.true in
    let moves : MovesBy x o h (meant (heads x) choice) false last = subst (λ (b : Bool). MovesBy x o h (meant (heads x) choice) b last) c.if-not-branch.true c.in_ok-choose.ensures.moves in
    sym (ap (λ (l : List Choice). follows x o l) there.1) ∙ refused x o (take i all) (drop (i + 1) all) i choice h last c.loop-index.invariant.followed moves

pub loop-index-preserved : goal.loop-index-preserved
loop-index-preserved g c =
    let x = g.X.Setting.program in
    let o = g.X.Setting.options in
    let i = c.loop-index.index in
    let all : List Choice = c.args.c.now in
    let h = c.loop-index.course.world.history in
    let last = c.choose.new.course.world.history in
    let choice : Choice = c.choice-item.result in
    let there = one_there c.as_slice-choice-items.result.now all i choice c.as_slice-choice-items.ensures c.choice-item.is c.loop-index-test.true in
    let moves : MovesBy x o h (meant (heads x) choice) true last = subst (λ (b : Bool). MovesBy x o h (meant (heads x) choice) b last) c.if-not-branch.false c.in_ok-choose.ensures.moves in
    record {
      run = c.in_ok-choose.ensures.run;
      followed = subst (λ (l : List Choice). HasFollowed x o l (i + 1) last) (sym there.0) (one_more x o (take i all) i choice h last c.loop-index.invariant.followed moves);
    }
