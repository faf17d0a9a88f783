use Rattle.std.proofs.Common.{◌∙◌, ℕ, ◌<◌, List, length, Result, Err, sym, ap, subst}
use Rattle.std.specs.Option.{option_copied}
use Rattle.std.proofs.lemmas.Result.{err_from_is_err_and}
use Rattle.loft_base.specs.Outside.{appended, GrowsByPrefix}
use Rattle.loft_base.specs.Writing.{are_lines}
use Rattle.loft_base.specs.declared.writing.WriteError.{WriteError}
use Rattle.loft_replay_command.specs.declared.refusal.ReplayStop.{ReplayStop}
use Rattle.loft_replay_command.specs.Finding.{answer_text}
use Rattle.loft_replay_command.specs.Command.{Replays}
use Rattle.loft_replay_command.proofs.Writing.{written_replays, cut_replays}
use Rattle.loft_replay_command.proofs.replaying.replay.Goals as goal

pub write_lines-requires : goal.write_lines-requires
write_lines-requires g c = ap are_lines c.text.ensures ∙ c.in_ok-answer.ensures.lines

pub returns-in_err-write_lines-clause-replays : goal.returns-in_err-write_lines-clause-replays
returns-in_err-write_lines-clause-replays g c =
    let contents = g.F.Files.contents c.args.files.now in
    let old = g.S.Sink.written c.args.sink.now in
    let new = g.S.Sink.written c.write_lines.new.sink in
    let room = g.S.Sink.room c.args.sink.now in
    let left = g.S.Sink.room c.write_lines.new.sink in
    let lines = g.S.Sink.by_lines c.args.sink.now in
    let still = g.S.Sink.by_lines c.write_lines.new.sink in
    let p = err_from_is_err_and c.from_residual-in_err-write_lines.result c.from_residual-in_err-write_lines.ensures.1 in
    let is = p.1 ∙ ap (λ (e : ReplayStop). Err e) p.2 in
    subst (λ (q : Result (Unit {0}) ReplayStop). Replays (option_copied c.args.only) (contents c.args.source.now) (contents c.args.report.now) q old new room left lines still) (sym is)
    (cut_replays (option_copied c.args.only) (contents c.args.source.now) (contents c.args.report.now) old new room left lines still (answer_text c.in_ok-answer.answer) c.in_err-write_lines.field-0.0 c.in_ok-answer.ensures.finds
    (subst (GrowsByPrefix old new) c.text.ensures c.in_err-write_lines.ensures.failed)
    (λ w. subst (λ (text : List ℕ). room < length text) c.text.ensures (c.in_err-write_lines.ensures.blamed (ap (λ (d : WriteError). Err d) w)))
    c.in_err-write_lines.ensures.by_lines)

pub returns-clause-replays : goal.returns-clause-replays
returns-clause-replays g c =
    let contents = g.F.Files.contents c.args.files.now in
    let old = g.S.Sink.written c.args.sink.now in
    let new = g.S.Sink.written c.write_lines.new.sink in
    let room = g.S.Sink.room c.args.sink.now in
    let left = g.S.Sink.room c.write_lines.new.sink in
    let lines = g.S.Sink.by_lines c.args.sink.now in
    let still = g.S.Sink.by_lines c.write_lines.new.sink in
    written_replays (option_copied c.args.only) (contents c.args.source.now) (contents c.args.report.now) old new room left lines still (answer_text c.in_ok-answer.answer) c.in_ok-answer.ensures.finds
    (c.in_ok-write_lines.ensures.ok ∙ ap (appended old) c.text.ensures) c.in_ok-write_lines.ensures.by_lines
