use Rattle.std.proofs.Common.{◌∙◌, Result, Err, IfErr, sym, ap, subst}
use Rattle.std.proofs.lemmas.Result.{err_from_is_err_and}
use Rattle.loft_tree.specs.View.{source_of}
use Rattle.loft_replay_command.specs.declared.refusal.ReplayStop.{ReplayStop}
use Rattle.loft_replay_command.specs.Finding.{IsUnsound}
use Rattle.loft_replay_command.proofs.Sources.{unplaced}
use Rattle.loft_replay_command.proofs.finding.read_source.Goals as goal

pub returns-in_err-place_program-clause-refused : goal.returns-in_err-place_program-clause-refused
returns-in_err-place_program-clause-refused g c = λ contents known.
    let p = err_from_is_err_and c.from_residual-in_err-place_program.result c.from_residual-in_err-place_program.ensures.1 in
    let is = p.1 ∙ ap (λ (e : ReplayStop). Err e) p.2 in
    subst (λ (q : Result _ ReplayStop). IfErr q (IsUnsound contents)) (sym is)
    (unplaced contents (source_of c.in_ok-program.program) c.in_err-place_program.field-0.0 (c.in_ok-program.ensures.program contents known) c.in_err-place_program.ensures.refused)

pub returns-clause-source : goal.returns-clause-source
returns-clause-source g c = λ contents known.
    (source_of c.in_ok-program.program, (c.in_ok-program.ensures.program contents known, c.in_ok-place_program.ensures.well), c.in_ok-place_program.ensures.program)
