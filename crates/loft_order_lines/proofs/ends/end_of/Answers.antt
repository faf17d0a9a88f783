use Rattle.std.proofs.Common.{Some, None, sym, ap, ◌∙◌}
use Rattle.loft_orders.specs.declared.order.End.{End}
use Rattle.loft_order_lines.proofs.WordLemmas.{end_cut, plain_same, fault_only}
use Rattle.loft_order_lines.proofs.PartLemmas.{never_none, one_found}
use Rattle.loft_order_lines.proofs.ends.end_of.Goals as goal

pub returns-in_err-word-clause-read : goal.returns-in_err-word-clause-read
returns-in_err-word-clause-read c e has same =
    let p = end_cut c.args.heads.now e c.args.bytes.now c.cut_at.result.0.now c.cut_at.result.1.now c.cut_at.ensures same in
    absurd (never_none c.word_of.result _ (c.word_of.ensures ∙ p.0) c.in_err-word.was)

pub returns-in-Some-clause-read : goal.returns-in-Some-clause-read
returns-in-Some-clause-read c e has same =
    let p = end_cut c.args.heads.now e c.args.bytes.now c.cut_at.result.0.now c.cut_at.result.1.now c.cut_at.ensures same in
    let word = one_found c.word_of.result _ _ (c.word_of.ensures ∙ p.0) c.in_ok-word.was in
    ap (λ (k : End). Some k) (plain_same e c.in-Some.end (sym (c.plain_end.ensures.read e (sym word)) ∙ c.in-Some.is))

pub returns-in_err-at-in-None-clause-read : goal.returns-in_err-at-in-None-clause-read
returns-in_err-at-in-None-clause-read c e has same =
    let p = end_cut c.args.heads.now e c.args.bytes.now c.cut_at.result.0.now c.cut_at.result.1.now c.cut_at.ensures same in
    let word = one_found c.word_of.result _ _ (c.word_of.ensures ∙ p.0) c.in_ok-word.was in
    let f = fault_only c.args.heads.now e (sym (c.plain_end.ensures.read e (sym word)) ∙ c.in-None.is) in
    absurd (never_none c.point_of.result f.at (c.point_of.ensures.read f.at (f.has has) (p.1 ∙ f.text)) c.in_err-at-in-None.was)

pub returns-in_ok-at-in-None-clause-read : goal.returns-in_ok-at-in-None-clause-read
returns-in_ok-at-in-None-clause-read c e has same =
    let p = end_cut c.args.heads.now e c.args.bytes.now c.cut_at.result.0.now c.cut_at.result.1.now c.cut_at.ensures same in
    let word = one_found c.word_of.result _ _ (c.word_of.ensures ∙ p.0) c.in_ok-word.was in
    let f = fault_only c.args.heads.now e (sym (c.plain_end.ensures.read e (sym word)) ∙ c.in-None.is) in
    let at = one_found c.point_of.result _ f.at (c.point_of.ensures.read f.at (f.has has) (p.1 ∙ f.text)) c.in_ok-at-in-None.was in
    c.fault_end.ensures.read e (sym word) (f.in_it ∙ ap (λ k. Some k) (sym at))

pub returns-in-Some-clause-text : goal.returns-in-Some-clause-text
returns-in-Some-clause-text c = c.in-Some.ensures.text c.args.heads.now
