use Rattle.std.proofs.Common.{◌≡◌, ◌≤◌, ℕ, suc, List, map}
use Rattle.loft_tree.specs.declared.named.Module.{Module}
use Rattle.loft_tree.specs.NamedTree.{NamedStatements}
use Rattle.loft_tree.specs.NamedView.{statements_of}
use Rattle.loft_body.specs.Capped.{TableIsSmall}
use Rattle.loft_bound.specs.Found.{count, table_at}
use Rattle.loft_bound.proofs.bounded.stable_table.Given as goal

abbrev pub bodies : List Module → List NamedStatements
bodies ms = map (λ (m : Module). statements_of m.body.items) ms

-- a table of some depth, in which at least as many modules have a bound as tables were made after the first
abbrev pub invariant-loop : goal.invariant-loop
invariant-loop l =
    (k : ℕ) × (l.table.items ≡ table_at (bodies l.modules) (suc k)) × (l.known ≡ count l.table.items) × (l.counter ≤ l.known) × TableIsSmall l.table.items
