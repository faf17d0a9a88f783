-- The body of a module in memory.
use Rattle.std.proofs.Common.{◌≡◌, refl, ap, ◌∙◌, Option, Some, None}
use Rattle.std.proofs.lemmas.Option.{slice_get-map}
use Rattle.std.specs.Prelude.{map, slice_get, unwrap_or}
use Rattle.std.specs.Option.{option_map}
use Rattle.loft_base.specs.declared.ids.ModuleId.{ModuleId}
use Rattle.loft_tree.specs.declared.named.Module.{Module}
use Rattle.loft_tree.specs.declared.named.NamedProgram.{NamedProgram}
use Rattle.loft_tree.specs.NamedTree.{NamedModule}
use Rattle.loft_tree.specs.ProgramView.{module_of, program_of}
use Rattle.loft_tree.specs.NamedView.{statements_of}
use Rattle.loft_tree.specs.Resolved.{resolved_of, body_of, Body, Empty}
use Rattle.loft_sense.specs.Tree.{body_at}

-- an empty one where there is none
abbrev pub module_body : Option Module → Body
module_body None = Empty
module_body (Some m) = body_of (statements_of m.body.items)

module_body-map : (o : Option Module) → unwrap_or (option_map (λ (m : NamedModule). body_of m.body) (option_map module_of o)) Empty ≡ module_body o
module_body-map None = refl
module_body-map (Some m) = refl

pub body_is : (n : NamedProgram) (m : ModuleId) → body_at (resolved_of (program_of n)) m ≡ module_body (slice_get n.modules.items m.0)
body_is n m =
    ap (λ (o : Option Body). unwrap_or o Empty) (slice_get-map (λ (q : NamedModule). body_of q.body) (map module_of n.modules.items) m.0
    ∙ ap (option_map (λ (q : NamedModule). body_of q.body)) (slice_get-map module_of n.modules.items m.0))
    ∙ module_body-map (slice_get n.modules.items m.0)
