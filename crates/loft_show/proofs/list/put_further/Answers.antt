use Rattle.loft_show.proofs.Texts.{further_more}
use Rattle.loft_show.proofs.list.put_further.Goals as goal

pub loop-item-preserved : goal.loop-item-preserved
loop-item-preserved g c = record {
  whole = λ w. c.loop-item.invariant.whole (c.put_sign.ensures.before (c.put.ensures.before w));
  text = λ w. rw (c.put.ensures.text w, c.put_sign.ensures.text (c.put.ensures.before w))
      (further_more g.T.Listed.pieces c.loop-item.out.text.items c.args.items.now c.loop-item.item-index c.item-item.result _ c.loop-item-test.true c.item-item.is (c.loop-item.invariant.text (c.put_sign.ensures.before (c.put.ensures.before w))));
}
