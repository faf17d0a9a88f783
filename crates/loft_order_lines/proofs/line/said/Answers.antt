use Rattle.std.proofs.Common.{false, ◌++◌, Some, sym, ap, ◌∙◌}
use Rattle.loft_orders.specs.declared.order.Order.{Order}
use Rattle.loft_orders.specs.Lines.{mark_word}
use Rattle.loft_orders.specs.Text.{order_text}
use Rattle.loft_order_lines.proofs.NameLemmas.{bytes_same}
use Rattle.loft_order_lines.proofs.WordLemmas.{line_cut}
use Rattle.loft_order_lines.proofs.PartLemmas.{never_none, one_found}
use Rattle.loft_order_lines.proofs.line.said.Goals as goal

pub returns-in_err-mark-clause-exact : goal.returns-in_err-mark-clause-exact
returns-in_err-mark-clause-exact c w o says =
    let p = line_cut says.mark (order_text c.args.heads.now o) c.args.line.now c.cut_at.result.0.now c.cut_at.result.1.now c.cut_at.ensures says.text in
    absurd (never_none c.mark_of.result says.mark (c.mark_of.ensures says.mark p.0) c.in_err-mark.was)

pub returns-in_err-order-clause-exact : goal.returns-in_err-order-clause-exact
returns-in_err-order-clause-exact c w o says =
    let p = line_cut says.mark (order_text c.args.heads.now o) c.args.line.now c.cut_at.result.0.now c.cut_at.result.1.now c.cut_at.ensures says.text in
    absurd (never_none c.order_of.result o (c.order_of.ensures.read w o says.own p.1) c.in_err-order.was)

pub returns-then-is_line_of-clause-exact : goal.returns-then-is_line_of-clause-exact
returns-then-is_line_of-clause-exact c w o says =
    let p = line_cut says.mark (order_text c.args.heads.now o) c.args.line.now c.cut_at.result.0.now c.cut_at.result.1.now c.cut_at.ensures says.text in
    ap (λ (k : Order). Some k) (one_found c.order_of.result c.in_ok-order.order o (c.order_of.ensures.read (c.is_line_of.ensures.before w) o says.own p.1) c.in_ok-order.was)

pub returns-else-is_line_of-clause-exact : goal.returns-else-is_line_of-clause-exact
returns-else-is_line_of-clause-exact c w o says =
    let p = line_cut says.mark (order_text c.args.heads.now o) c.args.line.now c.cut_at.result.0.now c.cut_at.result.1.now c.cut_at.ensures says.text in
    let order = one_found c.order_of.result c.in_ok-order.order o (c.order_of.ensures.read (c.is_line_of.ensures.before w) o says.own p.1) c.in_ok-order.was in
    let mark = one_found c.mark_of.result c.in_ok-mark.mark says.mark (c.mark_of.ensures says.mark p.0) c.in_ok-mark.was in
    let line = says.text ∙ ap (λ m. mark_word m ++ order_text c.args.heads.now o) (sym mark) ∙ ap (λ (k : Order). mark_word c.in_ok-mark.mark ++ order_text c.args.heads.now k) (sym order) in
    let yes = c.is_line_of.ensures.same w ∙ bytes_same _ _ line in
    let no_line = c.if-is_line_of.false in
    absurd cc
