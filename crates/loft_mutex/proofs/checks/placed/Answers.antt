use Rattle.std.proofs.Common.{◌∙◌, ap}
use Rattle.loft_tree.specs.ProgramView.{program_of}
use Rattle.loft_mutex.proofs.CheckLemmas.{links_fault}
use Rattle.loft_mutex.proofs.checks.placed.Goals as goal

pub returns-in-Err-clause-fault : goal.returns-in-Err-clause-fault
returns-in-Err-clause-fault c =
    links_fault c.args.text.now c.in_ok-names.field-0 (program_of c.in_ok-named.named) c.in-Err.fault c.in_ok-named.ensures.program
    (c.in_ok-names.ensures ∙ ap (λ p. p.heads.schedulers) c.program.ensures.program) c.in-Err.ensures.fault
