use Rattle.std.proofs.Common.{true, ◌≡◌, ◌++◌, drop, map}
use Rattle.loft_tree.specs.View.{expression_of}
use Rattle.loft_tree.specs.NamedView as view
use Rattle.loft_numbers.specs.Numbers.{terms_of}
use Rattle.loft_numbers.proofs.expression.terms.Given as goal

-- those that are left come after
abbrev pub invariant-loop-e : goal.invariant-loop-e
invariant-loop-e l = record { whole : l.room.is_whole ≡ true → l.initial.room.is_whole ≡ true; rest : l.room.is_whole ≡ true → map view.term_of l.all.items ++ terms_of l.table l.scope (map expression_of (drop l.e-index l.es)) ≡ terms_of l.table l.scope (map expression_of l.es) }
