use Rattle.std.proofs.Common.{Some, ap, ◌∙◌}
use Rattle.loft_report_shape.specs.Word.{word_of}
use Rattle.loft_orders.specs.declared.order.Mark.{Mark}
use Rattle.loft_order_lines.specs.Words.{word_of_mark}
use Rattle.loft_order_lines.proofs.WordLemmas.{mark_spelled, arm, mark_done, mark_void, mark_full, no_mark}
use Rattle.loft_order_lines.proofs.PartLemmas.{never_none, one_found}
use Rattle.loft_order_lines.proofs.line.mark_of.Goals as goal

pub returns-in_err-word_of : goal.returns-in_err-word_of
returns-in_err-word_of c m same = absurd (never_none c.word_of.result (word_of_mark m) (c.word_of.ensures ∙ ap word_of same ∙ mark_spelled m) c.in_err-word_of.was)

pub returns-in-In : goal.returns-in-In
returns-in-In c m same = ap (λ (k : Mark). Some k) (mark_done m (arm (word_of_mark m) _ _ c.word_of.result _ c.word_of.ensures (ap word_of same ∙ mark_spelled m) c.in_ok-word_of.was c.in-In.is))

pub returns-in-Void : goal.returns-in-Void
returns-in-Void c m same = ap (λ (k : Mark). Some k) (mark_void m (arm (word_of_mark m) _ _ c.word_of.result _ c.word_of.ensures (ap word_of same ∙ mark_spelled m) c.in_ok-word_of.was c.in-Void.is))

pub returns-in-Full : goal.returns-in-Full
returns-in-Full c m same = ap (λ (k : Mark). Some k) (mark_full m (arm (word_of_mark m) _ _ c.word_of.result _ c.word_of.ensures (ap word_of same ∙ mark_spelled m) c.in_ok-word_of.was c.in-Full.is))

pub returns-in_default : goal.returns-in_default
returns-in_default c m same =
    let word = one_found c.word_of.result c.in_ok-word_of.field-0 (word_of_mark m) (c.word_of.ensures ∙ ap word_of same ∙ mark_spelled m) c.in_ok-word_of.was in
    absurd (no_mark m (λ e. c.in_default.not-In (word ∙ e)) (λ e. c.in_default.not-Void (word ∙ e)) (λ e. c.in_default.not-Full (word ∙ e)))
