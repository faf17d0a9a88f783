use Rattle.std.proofs.Common.{[], ◌∷◌, map}
use Rattle.loft_tree.specs.View.{named_of}
use Rattle.loft_show.specs.Canon.{lines_text, local_lines}
use Rattle.loft_show.proofs.Texts.{lines_text-append, one_more}
use Rattle.loft_show.proofs.item.put_locals.Goals as goal

pub loop-local-preserved : goal.loop-local-preserved
loop-local-preserved c = record {
  whole = λ w. c.loop-local.invariant.whole (c.put_local.ensures.before w);
  text = λ w. rw (c.put_local.ensures.text w)
      (one_more (λ vs. lines_text (local_lines (map named_of vs))) (λ v. lines_text (local_lines (named_of v ∷ [])))
      c.loop-local.out.text.items c.args.locals.now c.loop-local.local-index c.local-item.result _
      (λ v vs. lines_text-append (local_lines (named_of v ∷ [])) (local_lines (map named_of vs)))
      c.loop-local-test.true c.local-item.is (c.loop-local.invariant.text (c.put_local.ensures.before w)));
}
