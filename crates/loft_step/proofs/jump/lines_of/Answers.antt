use Rattle.std.proofs.Common.{List, [], ap, sym, subst, ◌∙◌}
use Rattle.std.specs.Prelude.{map, slice_get, unwrap_or}
use Rattle.loft_code.specs.declared.raw.CodeProgram.{CodeProgram}
use Rattle.loft_code.specs.declared.raw.ModuleCode.{ModuleCode}
use Rattle.loft_code.specs.Operations.{Line}
use Rattle.loft_code.specs.View.{automata_of, lines_of}
use Rattle.loft_step.specs.Lines.{StopsAreNumbered}
use Rattle.loft_step.proofs.Stops.{stops_are_numbered}
use Rattle.loft_step.proofs.jump.lines_of.Goals as goal

pub returns-clause-numbered : goal.returns-clause-numbered
returns-clause-numbered c =
    subst (λ (ls : List Line). StopsAreNumbered ls)
    (sym (c.lines_among.ensures
    ∙ (ap (λ (ms : List ModuleCode). unwrap_or (slice_get (map lines_of ms) c.args.module.0) []) c.as_slice.ensures.value
    ∙ ap (λ (p : CodeProgram). unwrap_or (slice_get (map lines_of p.modules.items) c.args.module.0) []) c.program.ensures.program)))
    (stops_are_numbered (automata_of c.args.code.now) c.program.ensures.valid c.program.ensures.fits c.args.module)
