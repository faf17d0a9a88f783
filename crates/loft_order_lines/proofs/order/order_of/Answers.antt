use Rattle.std.proofs.Common.{Some, sym, ap, ◌∙◌}
use Rattle.loft_order_lines.specs.Words.{word_of_order}
use Rattle.loft_order_lines.proofs.WordLemmas.{order_cut, arm, control_only}
use Rattle.loft_order_lines.proofs.PartLemmas.{never_none, one_found}
use Rattle.loft_order_lines.proofs.order.order_of.Goals as goal

pub returns-in_err-word-clause-read : goal.returns-in_err-word-clause-read
returns-in_err-word-clause-read c w o has same =
    let p = order_cut c.args.heads.now o c.args.bytes.now c.cut_at.result.0.now c.cut_at.result.1.now c.cut_at.ensures same in
    absurd (never_none c.word_of.result (word_of_order o) (c.word_of.ensures ∙ p.0) c.in_err-word.was)

pub returns-in-Create-clause-read : goal.returns-in-Create-clause-read
returns-in-Create-clause-read c w o has same =
    let p = order_cut c.args.heads.now o c.args.bytes.now c.cut_at.result.0.now c.cut_at.result.1.now c.cut_at.ensures same in
    c.create_of.ensures.read w o has (arm (word_of_order o) _ _ c.word_of.result _ c.word_of.ensures p.0 c.in_ok-word.was c.in-Create.is) p.1

pub returns-in-Arrive-clause-read : goal.returns-in-Arrive-clause-read
returns-in-Arrive-clause-read c w o has same =
    let p = order_cut c.args.heads.now o c.args.bytes.now c.cut_at.result.0.now c.cut_at.result.1.now c.cut_at.ensures same in
    c.arrival_of.ensures.read w o has (arm (word_of_order o) _ _ c.word_of.result _ c.word_of.ensures p.0 c.in_ok-word.was c.in-Arrive.is) p.1

pub returns-in-Broadcast-clause-read : goal.returns-in-Broadcast-clause-read
returns-in-Broadcast-clause-read c w o has same =
    let p = order_cut c.args.heads.now o c.args.bytes.now c.cut_at.result.0.now c.cut_at.result.1.now c.cut_at.ensures same in
    c.broadcast_of.ensures.read o has (arm (word_of_order o) _ _ c.word_of.result _ c.word_of.ensures p.0 c.in_ok-word.was c.in-Broadcast.is) p.1

pub returns-in-Ended-clause-read : goal.returns-in-Ended-clause-read
returns-in-Ended-clause-read c w o has same =
    let p = order_cut c.args.heads.now o c.args.bytes.now c.cut_at.result.0.now c.cut_at.result.1.now c.cut_at.ensures same in
    c.ended_of.ensures.read o has (arm (word_of_order o) _ _ c.word_of.result _ c.word_of.ensures p.0 c.in_ok-word.was c.in-Ended.is) p.1

pub returns-in_err-thread-in_default-clause-read : goal.returns-in_err-thread-in_default-clause-read
returns-in_err-thread-in_default-clause-read c w o has same =
    let p = order_cut c.args.heads.now o c.args.bytes.now c.cut_at.result.0.now c.cut_at.result.1.now c.cut_at.ensures same in
    let word = one_found c.word_of.result _ (word_of_order o) (c.word_of.ensures ∙ p.0) c.in_ok-word.was in
    let k = control_only c.args.heads.now o (λ e. c.in_default.not-Create (word ∙ e)) (λ e. c.in_default.not-Arrive (word ∙ e)) (λ e. c.in_default.not-Broadcast (word ∙ e)) (λ e. c.in_default.not-Ended (word ∙ e)) in
    absurd (never_none c.id_of.result k.thread (c.id_of.ensures.read k.thread (k.has has) (p.1 ∙ k.rest)) c.in_err-thread-in_default.was)

pub returns-in_ok-thread-in_default-clause-text : goal.returns-in_ok-thread-in_default-clause-text
returns-in_ok-thread-in_default-clause-text c w = c.control_of.ensures.text c.args.heads.now c.in_ok-thread-in_default.ensures.text

pub returns-in_ok-thread-in_default-clause-read : goal.returns-in_ok-thread-in_default-clause-read
returns-in_ok-thread-in_default-clause-read c w o has same =
    let p = order_cut c.args.heads.now o c.args.bytes.now c.cut_at.result.0.now c.cut_at.result.1.now c.cut_at.ensures same in
    let word = one_found c.word_of.result _ (word_of_order o) (c.word_of.ensures ∙ p.0) c.in_ok-word.was in
    let k = control_only c.args.heads.now o (λ e. c.in_default.not-Create (word ∙ e)) (λ e. c.in_default.not-Arrive (word ∙ e)) (λ e. c.in_default.not-Broadcast (word ∙ e)) (λ e. c.in_default.not-Ended (word ∙ e)) in
    let thread = one_found c.id_of.result _ k.thread (c.id_of.ensures.read k.thread (k.has has) (p.1 ∙ k.rest)) c.in_ok-thread-in_default.was in
    c.control_of.ensures.read o (sym word) (k.in_it ∙ ap (λ q. Some q) (sym thread))
