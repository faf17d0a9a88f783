use Rattle.std.proofs.Common.{ap, ◌∙◌, subst}
use Rattle.loft_tree.specs.ProgramView.{program_of}
use Rattle.loft_tree.specs.Resolved.{resolved_of}
use Rattle.loft_tree.specs.View.{source_of}
use Rattle.loft_grammar.specs.Texts.{Reads}
use Rattle.loft_generated_run.proofs.program.generated_program.Goals as goal

pub returns-in-Ok-place : goal.returns-in-Ok-place
returns-in-Ok-place c =
    ap resolved_of (ap program_of c.in-Ok-place.ensures.program ∙ c.in-Ok-resolve.ensures.numbers)
    ∙ c.generated_sources_are_correct.ensures.read_runs c.args.k (source_of c.in-Ok.program)
    (subst (λ t. Reads t (source_of c.in-Ok.program)) (c.as_slice.ensures.value ∙ c.in_ok-text.ensures) c.in-Ok.ensures.ok)
