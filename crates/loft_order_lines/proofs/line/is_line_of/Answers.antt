use Rattle.std.proofs.Common.{ℕ, List, ◌++◌, ap, ◌∙◌}
use Rattle.std.specs.Str.{bytes_eq}
use Rattle.loft_orders.specs.Lines.{mark_word}
use Rattle.loft_orders.specs.Text.{order_text}
use Rattle.loft_order_lines.proofs.line.is_line_of.Goals as goal

pub returns-in-Ok-clause-same : goal.returns-in-Ok-clause-same
returns-in-Ok-clause-same c w =
    let a = c.push_order_line.ensures c.in-Ok.ensures.whole in
    c.eq.ensures ∙ ap (bytes_eq c.args.line.now) (c.in-Ok.ensures.text ∙ a.1 ∙ ap (λ (t : List ℕ). t ++ (mark_word c.args.mark ++ order_text c.args.heads.now c.args.order.now)) c.new-written.ensures.text)
