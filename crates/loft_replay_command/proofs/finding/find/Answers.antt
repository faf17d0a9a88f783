use Rattle.std.proofs.Common.{◌∙◌, Result, Err, sym, ap, subst}
use Rattle.std.specs.Option.{option_copied}
use Rattle.std.proofs.lemmas.Result.{err_from_is_err_and}
use Rattle.loft_tree.specs.NamedTree.{NamedProgram}
use Rattle.loft_tree.specs.Resolved.{resolved_of}
use Rattle.loft_sense.specs.Machine.{Tree}
use Rattle.loft_standing.specs.Stops.{tree_of}
use Rattle.loft_replay_command.specs.declared.answer.Answer.{Answer}
use Rattle.loft_replay_command.specs.declared.refusal.ReplayStop.{ReplayStop}
use Rattle.loft_replay_command.specs.Finding.{seen, Finds}
use Rattle.loft_replay_command.proofs.Sources.{Laws}
use Rattle.loft_replay_command.proofs.Outcomes.{IsRead, unsound_finds, unknown_finds, checked_finds, sound_stop, seen_of_report}
use Rattle.loft_replay_command.proofs.finding.find.Goals as goal

pub returns-in_err-placed-clause-finds : goal.returns-in_err-placed-clause-finds
returns-in_err-placed-clause-finds g c =
    let text = c.texts_are_decided.ensures in
    let names = c.names_are_decided.ensures in
    let links = c.links_are_decided.ensures in
    let laws : Laws = record { one = text.one; text = text.never_both; text_fault = text.one_fault; names = names.never_both; name_fault = names.one_fault; links = links.placed; link_fault = links.one_fault } in
    let contents = g.F.Files.contents c.args.files.now in
    let only = option_copied c.args.only in
    let p = err_from_is_err_and c.from_residual.result c.from_residual.ensures.1 in
    let is = p.1 ∙ ap (λ (e : ReplayStop). Err e) p.2 in
    subst (λ (q : Result Answer ReplayStop). Finds only (contents c.args.source.now) (contents c.args.report.now) (seen q)) (sym is)
    (unsound_finds laws only (contents c.args.source.now) (contents c.args.report.now) c.in_err-placed.field-0.0 (λ s known. c.in_err-placed.ensures.refused s known))

pub returns-in_err-only-clause-finds : goal.returns-in_err-only-clause-finds
returns-in_err-only-clause-finds g c =
    let text = c.texts_are_decided.ensures in
    let names = c.names_are_decided.ensures in
    let links = c.links_are_decided.ensures in
    let laws : Laws = record { one = text.one; text = text.never_both; text_fault = text.one_fault; names = names.never_both; name_fault = names.one_fault; links = links.placed; link_fault = links.one_fault } in
    let contents = g.F.Files.contents c.args.files.now in
    let only = option_copied c.args.only in
    let x = tree_of c.in_ok-placed.placed in
    let read : IsRead (contents c.args.source.now) x = λ s known. let (p, well, same) = c.in_ok-placed.ensures.source s known in (p, well, ap (λ (n : NamedProgram). Tree (resolved_of n)) same) in
    let p = err_from_is_err_and c.from_residual-in_err-only.result c.from_residual-in_err-only.ensures.1 in
    let is = p.1 ∙ ap (λ (e : ReplayStop). Err e) (p.2 ∙ c.in_err-only.ensures.unknown.0) in
    subst (λ (q : Result Answer ReplayStop). Finds only (contents c.args.source.now) (contents c.args.report.now) (seen q)) (sym is)
    (unknown_finds laws only (contents c.args.source.now) (contents c.args.report.now) x read c.in_err-only.ensures.unknown.1)

pub returns-clause-finds : goal.returns-clause-finds
returns-clause-finds g c =
    let text = c.texts_are_decided.ensures in
    let names = c.names_are_decided.ensures in
    let links = c.links_are_decided.ensures in
    let laws : Laws = record { one = text.one; text = text.never_both; text_fault = text.one_fault; names = names.never_both; name_fault = names.one_fault; links = links.placed; link_fault = links.one_fault } in
    let contents = g.F.Files.contents c.args.files.now in
    let only = option_copied c.args.only in
    let x = tree_of c.in_ok-placed.placed in
    let read : IsRead (contents c.args.source.now) x = λ s known. let (p, well, same) = c.in_ok-placed.ensures.source s known in (p, well, ap (λ (n : NamedProgram). Tree (resolved_of n)) same) in
    checked_finds laws only (contents c.args.source.now) (contents c.args.report.now) x c.in_ok-only.only (seen c.check_file.result) read c.in_ok-only.ensures.named
    (λ r known. c.check_file.ensures.found r (ap (λ f. f c.args.report.now) c.in_ok-placed.ensures.same_contents ∙ known)) (seen_of_report c.check_file.result c.check_file.ensures.stops)

pub returns-clause-source_first : goal.returns-clause-source_first
returns-clause-source_first g c = λ s e never known stops.
    let text = c.texts_are_decided.ensures in
    let names = c.names_are_decided.ensures in
    let links = c.links_are_decided.ensures in
    let laws : Laws = record { one = text.one; text = text.never_both; text_fault = text.one_fault; names = names.never_both; name_fault = names.one_fault; links = links.placed; link_fault = links.one_fault } in
    let (p, well, same) = c.in_ok-placed.ensures.source s known in
    absurd (sound_stop laws (option_copied c.args.only) s (tree_of c.in_ok-placed.placed) p c.in_ok-only.only well (ap (λ (n : NamedProgram). Tree (resolved_of n)) same) c.in_ok-only.ensures.named e stops)
