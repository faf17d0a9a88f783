use Rattle.std.proofs.Common.{true, ◌≡◌, map, take}
use Rattle.loft_tree.specs.NamedView.{term_of}
use Rattle.loft_compile.proofs.copy.expressions.Given as goal

-- the expressions so far are copied
abbrev pub invariant-loop-e : goal.invariant-loop-e
invariant-loop-e l = record { whole : l.room.is_whole ≡ true → l.initial.room.is_whole ≡ true; rest : l.room.is_whole ≡ true → map term_of l.copy.items ≡ map term_of (take l.e-index l.es) }
