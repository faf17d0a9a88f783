use Rattle.std.proofs.Common.{◌≡◌, map, take}
use Rattle.loft_tree.specs.declared.named.Module.{Module}
use Rattle.loft_tree.specs.NamedView.{statements_of}
use Rattle.loft_body.specs.Capped.{TableIsSmall}
use Rattle.loft_bound.specs.Found.{next_table}
use Rattle.loft_bound.proofs.bounded.next_table.Given as goal

abbrev pub invariant-loop-module : goal.invariant-loop-module
invariant-loop-module l = (l.next.items ≡ next_table l.table (map (λ (m : Module). statements_of m.body.items) (take l.module-index l.modules))) × TableIsSmall l.next.items
