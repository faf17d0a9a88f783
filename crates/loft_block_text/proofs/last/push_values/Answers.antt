use Rattle.std.proofs.Common.{◌++◌, ◌∷◌, [], sym, ap, FitsSigned, w64, rules}
use Rattle.loft_instant_text.proofs.Appended.{appends_then}
use Rattle.loft_block_text.proofs.SharedLemmas.{still_more, still_same, value_text, value_read, shared-written, shared-skipped}
use Rattle.loft_block_text.proofs.last.push_values.Goals.{then-s-head+in-Some, else-s-head}
use Rattle.loft_block_text.proofs.last.push_values.Goals as goal

pub loop-head-preserved : goal.loop-head-preserved
loop-head-preserved g c = elim c.if-s-head.branch [
  | then-s-head+in-Some w ↦
      (let fits : FitsSigned w64 w.in-Some.value.now = search rules in
      let line = value_read w.in-Some.value.now fits w.as_slice.result.now c.head-item.result.name w.as_slice.ensures in
      let appends = appends_then g.W.TextWriter.is_whole g.W.TextWriter.kept g.W.TextWriter.extended g.met.W.TextWriter.together _ _ _ _ (10 ∷ []) (value_text c.head-item.result.name w.in-Some.value.now ++ 10 ∷ []) (ap (λ t. t ++ 10 ∷ []) (sym line)) w.push_value.ensures w.byte.ensures in
      rw (w.text-is, w.left-is) (still_more g.W.TextWriter.is_whole g.W.TextWriter.kept g.W.TextWriter.extended g.met.W.TextWriter.together _ _ _ _ _ _ _ (shared-written c.args.heads.now c.args.s c.loop-head.head-index c.head-item.result w.in-Some.value.now c.loop-head.left.now w.in-Some.rest.now (rw c.as_slice-head-items.ensures at c.loop-head-test.true) (rw c.as_slice-head-items.ensures at c.head-item.is) w.if-s-head.true w.in-Some.ensures.cases.0) c.loop-head.invariant appends))
  | else-s-head w ↦ rw (w.text-is, w.left-is) (still_same g.W.TextWriter.is_whole g.W.TextWriter.kept g.W.TextWriter.extended _ _ _ _ _ (shared-skipped c.args.heads.now c.args.s c.loop-head.head-index c.head-item.result c.loop-head.left.now (rw c.as_slice-head-items.ensures at c.loop-head-test.true) (rw c.as_slice-head-items.ensures at c.head-item.is) w.if-s-head.false) c.loop-head.invariant)
]
