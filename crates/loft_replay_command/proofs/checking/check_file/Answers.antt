use Rattle.std.proofs.Common.{◌∙◌, Result, Err, sym, ap, subst}
use Rattle.std.proofs.lemmas.Result.{err_from_is_err_and}
use Rattle.loft_standing.specs.Stops.{tree_of}
use Rattle.loft_refusal.proofs.Known.{if_some}
use Rattle.loft_replay_command.specs.declared.answer.Answer.{Answer}
use Rattle.loft_replay_command.specs.declared.refusal.ReplayStop.{ReplayStop}
use Rattle.loft_replay_command.specs.Finding.{seen, CheckComesTo, Found}
use Rattle.loft_replay_command.proofs.Reports.{Laws}
use Rattle.loft_replay_command.proofs.Checked.{file_unread}
use Rattle.loft_replay_command.proofs.checking.check_file.Goals as goal

pub returns-in_err-report-clause-found : goal.returns-in_err-report-clause-found
returns-in_err-report-clause-found g c = λ text known.
    let one = c.texts_are_one_report_or_stop.ensures in
    let laws : Laws = record { text = c.reports_have_one_text.ensures; report = one.one_report; stop = one.one_stop; both = one.never_both } in
    let contents = g.F.Files.contents c.args.files.now c.args.name.now in
    let p = err_from_is_err_and c.from_residual.result c.from_residual.ensures.1 in
    let is = p.1 ∙ ap (λ (e : ReplayStop). Err e) p.2 in
    subst (λ (q : Result Answer ReplayStop). Found (CheckComesTo (tree_of c.args.p.now) c.args.only text) (seen q)) (sym is)
    (file_unread laws (tree_of c.args.p.now) c.args.only text c.in_err-report.field-0.0
    (if_some _ contents text c.in_err-report.ensures.verdict known) (if_some _ contents text c.in_err-report.ensures.too_long known))
