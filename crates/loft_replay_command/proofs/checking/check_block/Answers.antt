use Rattle.std.proofs.Common.{Err, sym, subst}
use Rattle.loft_report_reader.specs.Answer.{report_in}
use Rattle.loft_standing.specs.Stops.{tree_of}
use Rattle.loft_replay_command.specs.declared.refusal.ReplayStop.{ReplayStop}
use Rattle.loft_replay_command.specs.Replay.{BlockComesTo}
use Rattle.loft_replay_command.specs.Finding.{Found}
use Rattle.loft_replay_command.proofs.Reports.{Laws}
use Rattle.loft_replay_command.proofs.BlockLines.{whole_block}
use Rattle.loft_replay_command.proofs.Blocks.{block_right, block_wrong}
use Rattle.loft_replay_command.proofs.checking.check_block.Goals as goal

pub returns-in-Ok-clause-found : goal.returns-in-Ok-clause-found
returns-in-Ok-clause-found c = λ text tells.
    let one = c.texts_are_one_report_or_stop.ensures in
    let laws : Laws = record { text = c.reports_have_one_text.ensures; report = one.one_report; stop = one.one_stop; both = one.never_both } in
    block_right laws (tree_of c.args.p.now) text (report_in c.args.r.now) c.args.s c.in-Ok.block.items tells (record { cause = c.in-Ok.ensures.cause; exact = c.in-Ok.ensures.exact })

pub returns-in-Err-clause-found : goal.returns-in-Err-clause-found
returns-in-Err-clause-found c = λ text tells.
    let one = c.texts_are_one_report_or_stop.ensures in
    let laws : Laws = record { text = c.reports_have_one_text.ensures; report = one.one_report; stop = one.one_stop; both = one.never_both } in
    subst (λ (e : ReplayStop). Found (BlockComesTo (tree_of c.args.p.now) c.args.s.0 text) (Err e)) (sym c.stop_of_block.ensures)
    (block_wrong laws (tree_of c.args.p.now) text (report_in c.args.r.now) c.args.s c.in-Err.error tells (record { cause = c.in-Err.ensures.cause; exact = c.in-Err.ensures.exact }))

pub returns-in-Ok-clause-lines : goal.returns-in-Ok-clause-lines
returns-in-Ok-clause-lines c = whole_block (tree_of c.args.p.now) (report_in c.args.r.now) c.args.s c.in-Ok.block.items c.in-Ok.ensures.cause
