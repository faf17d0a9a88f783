use Rattle.std.proofs.Common.{Err, sym, subst}
use Rattle.loft_report_reader.specs.Answer.{report_in}
use Rattle.loft_standing.specs.Stops.{tree_of}
use Rattle.loft_replay_command.specs.declared.refusal.ReplayStop.{ReplayStop}
use Rattle.loft_replay_command.specs.Replay.{WholeComesTo}
use Rattle.loft_replay_command.specs.Finding.{Found}
use Rattle.loft_replay_command.proofs.Reports.{Laws}
use Rattle.loft_replay_command.proofs.Whole.{whole_right, whole_wrong}
use Rattle.loft_replay_command.proofs.checking.check_whole.Goals as goal

pub returns-in-Ok-clause-found : goal.returns-in-Ok-clause-found
returns-in-Ok-clause-found c = λ text tells.
    let one = c.texts_are_one_report_or_stop.ensures in
    let laws : Laws = record { text = c.reports_have_one_text.ensures; report = one.one_report; stop = one.one_stop; both = one.never_both } in
    whole_right laws (tree_of c.args.p.now) text (report_in c.args.r.now) c.in-Ok.run'.world.history tells c.in-Ok.ensures.same

pub returns-in-Err-clause-found : goal.returns-in-Err-clause-found
returns-in-Err-clause-found c = λ text tells.
    let one = c.texts_are_one_report_or_stop.ensures in
    let laws : Laws = record { text = c.reports_have_one_text.ensures; report = one.one_report; stop = one.one_stop; both = one.never_both } in
    subst (λ (e : ReplayStop). Found (WholeComesTo (tree_of c.args.p.now) text) (Err e)) (sym c.stop_of_whole.ensures)
    (whole_wrong laws (tree_of c.args.p.now) text (report_in c.args.r.now) c.in-Err.error tells c.in-Err.ensures.refusal)
