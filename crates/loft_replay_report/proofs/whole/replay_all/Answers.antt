use Rattle.std.proofs.Common.{◌≡◌, Err, sym, subst}
use Rattle.loft_tree.specs.ProgramView.{program_of}
use Rattle.loft_tree.specs.Resolved.{resolved_of}
use Rattle.loft_sense.specs.Machine.{Tree}
use Rattle.loft_world.specs.declared.results.Finished.{Finished}
use Rattle.loft_report_shape.specs.Text.{text_of}
use Rattle.loft_report_reader.specs.Answer.{report_in}
use Rattle.loft_replay_error.specs.declared.error.ReplayError.{ReplayError}
use Rattle.loft_replay_error.specs.declared.error.ReplayError.TheVariants.{NotAllowed, Differs}
use Rattle.loft_replay_report.specs.Replays.{Tells, IsAccepted, IsRefused}
use Rattle.loft_replay_report.proofs.Texts.{unread_accepted, unread_refused, refusal_of_text, replayed_text, OneReport, its_history, its_entry, its_whole, its_difference, same_accepted, same_refused}
use Rattle.loft_replay_report.proofs.whole.replay_all.Goals as goal

pub returns-in-Err-clause-accepted : goal.returns-in-Err-clause-accepted
returns-in-Err-clause-accepted c = λ (q, tells, it).
    subst (λ (e : ReplayError). IsAccepted {A = Unit {0}} (Err e)) (sym c.from.ensures) (unread_accepted (Unit {0}) c.in-Err.e q (c.in-Err.ensures.report q tells.0 tells.1))

pub returns-in-Err-clause-not_allowed : goal.returns-in-Err-clause-not_allowed
returns-in-Err-clause-not_allowed c = λ q n tells refused.
    subst (λ (e : ReplayError). IsRefused {A = Unit {0}} (Err e) (NotAllowed n)) (sym c.from.ensures) (unread_refused (Unit {0}) c.in-Err.e q (NotAllowed n) (c.in-Err.ensures.report q tells.0 tells.1))

pub returns-in-Err-clause-differs : goal.returns-in-Err-clause-differs
returns-in-Err-clause-differs c = λ q h k tells whole d.
    subst (λ (e : ReplayError). IsRefused {A = Unit {0}} (Err e) (Differs k)) (sym c.from.ensures) (unread_refused (Unit {0}) c.in-Err.e q (Differs k) (c.in-Err.ensures.report q tells.0 tells.1))

pub returns-in-Ok-replay_raw-clause-same : goal.returns-in-Ok-replay_raw-clause-same
returns-in-Ok-replay_raw-clause-same c =
    let x = Tree (resolved_of (program_of c.args.p.now)) in
    let text = c.args.text.now in
    let r = report_in c.in-Ok.r in
    let tells : Tells text r = c.in-Ok.ensures.verdict in
    let same : text ≡ text_of r = c.reports_have_one_text.ensures text r tells.1 in
    let one : OneReport = c.texts_are_one_report_or_stop.ensures.one_report in
    replayed_text x text r c.in-Ok-replay_raw.field-0.world.history tells same c.in-Ok-replay_raw.ensures.same

pub returns-in-Ok-replay_raw-clause-not_allowed : goal.returns-in-Ok-replay_raw-clause-not_allowed
returns-in-Ok-replay_raw-clause-not_allowed c = λ q n told refused.
    let x = Tree (resolved_of (program_of c.args.p.now)) in
    let text = c.args.text.now in
    let r = report_in c.in-Ok.r in
    let tells : Tells text r = c.in-Ok.ensures.verdict in
    let same : text ≡ text_of r = c.reports_have_one_text.ensures text r tells.1 in
    let one : OneReport = c.texts_are_one_report_or_stop.ensures.one_report in
    c.in-Ok-replay_raw.ensures.not_allowed n (its_entry x text r q n one tells told refused)

pub returns-in-Ok-replay_raw-clause-differs : goal.returns-in-Ok-replay_raw-clause-differs
returns-in-Ok-replay_raw-clause-differs c = λ q h k told whole d.
    let x = Tree (resolved_of (program_of c.args.p.now)) in
    let text = c.args.text.now in
    let r = report_in c.in-Ok.r in
    let tells : Tells text r = c.in-Ok.ensures.verdict in
    let same : text ≡ text_of r = c.reports_have_one_text.ensures text r tells.1 in
    let one : OneReport = c.texts_are_one_report_or_stop.ensures.one_report in
    c.in-Ok-replay_raw.ensures.differs h k (its_whole x text r q h one tells told whole) (its_difference x text r q h k one tells same told d)

pub returns-in-Ok-replay_raw-clause-stop : goal.returns-in-Ok-replay_raw-clause-stop
returns-in-Ok-replay_raw-clause-stop c = λ k short stops. c.texts_are_one_report_or_stop.ensures.never_both c.args.text.now (report_in c.in-Ok.r) k c.in-Ok.ensures.verdict.1 stops

pub returns-clause-refusal : goal.returns-clause-refusal
returns-clause-refusal c =
    let x = Tree (resolved_of (program_of c.args.p.now)) in
    let text = c.args.text.now in
    let r = report_in c.in-Ok.r in
    let tells : Tells text r = c.in-Ok.ensures.verdict in
    let same : text ≡ text_of r = c.reports_have_one_text.ensures text r tells.1 in
    let one : OneReport = c.texts_are_one_report_or_stop.ensures.one_report in
    refusal_of_text x text r c.in-Err-replay_raw.error tells same c.in-Err-replay_raw.ensures.refusal

pub returns-clause-accepted : goal.returns-clause-accepted
returns-clause-accepted c = λ is.
    let x = Tree (resolved_of (program_of c.args.p.now)) in
    let text = c.args.text.now in
    let r = report_in c.in-Ok.r in
    let tells : Tells text r = c.in-Ok.ensures.verdict in
    let same : text ≡ text_of r = c.reports_have_one_text.ensures text r tells.1 in
    let one : OneReport = c.texts_are_one_report_or_stop.ensures.one_report in
    let (h, it) = its_history x text r one tells same is in
    same_accepted Finished (Unit {0}) c.in-Err-replay_raw.error (c.in-Err-replay_raw.ensures.accepted h it)

pub returns-clause-not_allowed : goal.returns-clause-not_allowed
returns-clause-not_allowed c = λ q n told refused.
    let x = Tree (resolved_of (program_of c.args.p.now)) in
    let text = c.args.text.now in
    let r = report_in c.in-Ok.r in
    let tells : Tells text r = c.in-Ok.ensures.verdict in
    let same : text ≡ text_of r = c.reports_have_one_text.ensures text r tells.1 in
    let one : OneReport = c.texts_are_one_report_or_stop.ensures.one_report in
    same_refused Finished (Unit {0}) c.in-Err-replay_raw.error (NotAllowed n) (c.in-Err-replay_raw.ensures.not_allowed n (its_entry x text r q n one tells told refused))

pub returns-clause-differs : goal.returns-clause-differs
returns-clause-differs c = λ q h k told whole d.
    let x = Tree (resolved_of (program_of c.args.p.now)) in
    let text = c.args.text.now in
    let r = report_in c.in-Ok.r in
    let tells : Tells text r = c.in-Ok.ensures.verdict in
    let same : text ≡ text_of r = c.reports_have_one_text.ensures text r tells.1 in
    let one : OneReport = c.texts_are_one_report_or_stop.ensures.one_report in
    same_refused Finished (Unit {0}) c.in-Err-replay_raw.error (Differs k)
    (c.in-Err-replay_raw.ensures.differs h k (its_whole x text r q h one tells told whole) (its_difference x text r q h k one tells same told d))
