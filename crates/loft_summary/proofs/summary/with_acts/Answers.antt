use Rattle.std.proofs.Common.{◌+◌, ◌∙◌, ap, flat_map, take}
use Rattle.loft_summary.specs.Lines.{done_among}
use Rattle.loft_summary.proofs.Counting.{single, singles, tally, tally_one, told_all, told_more}
use Rattle.loft_summary.proofs.summary.with_acts.Goals as goal

pub loop-act-preserved : goal.loop-act-preserved
loop-act-preserved c =
    told_more single c.args.before c.args.acts.now c.loop-act.act-index c.act-item.result c.loop-act.count c.with_act-count.result
    c.loop-act-test.true c.act-item.is c.loop-act.invariant (c.with_act-count.ensures ∙ tally_one c.loop-act.count (c.args.before + done_among (flat_map single (take c.loop-act.act-index c.args.acts.now))) c.act-item.result c.loop-act.invariant)

pub returns : goal.returns
returns c =
    told_all single c.args.before c.args.acts.now c.loop-act.act-index c.loop-act.count c.loop-act-test.false c.loop-act.invariant
    ∙ ap (tally c.args.before) (singles c.args.acts.now)
