use Rattle.std.proofs.Common.{◌<◌, true, [], ◌∷◌, length, arith}
use Rattle.loft_order_lines.proofs.Lists.{each_append}
use Rattle.loft_order_lines.proofs.ListLemmas.{left_first}
use Rattle.loft_order_lines.proofs.PartLemmas.{never_none, one_found}
use Rattle.loft_order_lines.proofs.list.read_list.Goals as goal

pub returns-in_err-item-clause-read : goal.returns-in_err-item-clause-read
returns-in_err-item-clause-read g c w xs each same =
    let some : 0 < length c.parts.left.now = grind (arith, c.is_empty.ensures, c.parts-test.true) in
    let f = left_first c.args.between (g.T.Item.text c.args.heads.now) (g.T.Item.has_text c.args.heads.now) xs c.parts.items c.parts.left.now c.cut_at.result.0.now c.cut_at.result.1.now c.requires.apart
    (c.parts.invariant.rest (c.read.ensures.before w) xs each same) some c.cut_at.ensures in
    absurd (never_none c.read.result f.y (c.read.ensures.read w f.y f.has f.is) c.in_err-item.was)

pub parts-preserved : goal.parts-preserved
parts-preserved g c =
    let some : 0 < length c.parts.left.now = grind (arith, c.is_empty.ensures, c.parts-test.true) in
    record {
      whole = λ w. c.parts.invariant.whole (c.read.ensures.before (c.push.ensures.before w));
      text = λ w.
          let r = c.push.ensures.before w in
          rw (c.push.ensures.more w) (each_append (g.T.Item.has_text c.args.heads.now) c.parts.items (c.in_ok-item.item ∷ []) (c.parts.invariant.text (c.read.ensures.before r)) (c.in_ok-item.ensures.text r, tt));
      rest = λ w xs each same.
          let r = c.push.ensures.before w in
          let f = left_first c.args.between (g.T.Item.text c.args.heads.now) (g.T.Item.has_text c.args.heads.now) xs c.parts.items c.parts.left.now c.cut_at.result.0.now c.cut_at.result.1.now c.requires.apart
          (c.parts.invariant.rest (c.read.ensures.before r) xs each same) some c.cut_at.ensures in
          rw (c.push.ensures.more w) (f.goes c.in_ok-item.item (one_found c.read.result c.in_ok-item.item f.y (c.read.ensures.read r f.y f.has f.is) c.in_ok-item.was));
    }
