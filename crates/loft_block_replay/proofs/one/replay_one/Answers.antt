use Rattle.std.proofs.Common.{◌≡◌, ℕ, Result, Ok, Err, refl, sym, subst, Vec, Global}
use Rattle.std.proofs.lemmas.Result.{err_from_is_err_and}
use Rattle.loft_report_reader.specs.Answer.{report_in}
use Rattle.loft_standing.specs.Stops.{tree_of}
use Rattle.loft_replay_error.specs.Errors.{of_log}
use Rattle.loft_replay_error.specs.declared.error.ReplayError.{ReplayError}
use Rattle.loft_block_replay.specs.Answer.{Gives, seen}
use Rattle.loft_block_replay.proofs.TextLemmas.{read_cause, read_exact, error_exact, ok_same}
use Rattle.loft_block_replay.proofs.one.replay_one.Goals as goal

pub returns-in_err-r-clause-report : goal.returns-in_err-r-clause-report
returns-in_err-r-clause-report c r within shape answer is =
    let p = err_from_is_err_and c.from_residual.result c.from_residual.ensures.1 in
    let told : c.from_residual.result ≡ Err (of_log c.in_err-r.field-0.0) = rw (p.1, p.2) refl in
    subst (λ (q : Result (Vec ℕ Global) ReplayError). Gives (seen (λ v. v.items) q) answer) (sym told) (error_exact c.in_err-r.field-0.0 r answer (c.in_err-r.ensures.report r within shape))

pub returns-clause-cause : goal.returns-clause-cause
returns-clause-cause c =
    let v = c.in_ok-r.ensures.verdict in
    read_cause (tree_of c.args.p.now) c.args.text.now (report_in c.in_ok-r.r) c.args.s c.reports_have_one_text.ensures v.0 v.1 (seen {A = Vec ℕ Global} (λ v. v.items) c.raw_one.result) c.raw_one.ensures.cause

pub returns-clause-report : goal.returns-clause-report
returns-clause-report c r within shape answer is =
    let same = ok_same r (report_in c.in_ok-r.r) (Ok r) refl (c.in_ok-r.ensures.report r within shape) in
    read_exact (tree_of c.args.p.now) c.args.text.now (report_in c.in_ok-r.r) r c.args.s c.reports_have_one_text.ensures within shape same (seen {A = Vec ℕ Global} (λ v. v.items) c.raw_one.result) c.raw_one.ensures.exact answer is
