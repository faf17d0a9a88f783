use Rattle.std.proofs.Common.{true, ◌≡◌, ◌++◌, drop, map}
use Rattle.loft_tree.specs.View.{named_of}
use Rattle.loft_show.specs.Canon.{lines_text, local_lines}
use Rattle.loft_show.proofs.item.put_locals.Given as goal

-- the variables that are left come after
abbrev pub invariant-loop-local : goal.invariant-loop-local
invariant-loop-local l = record { whole : l.out.is_whole ≡ true → l.initial.out.is_whole ≡ true; text : l.out.is_whole ≡ true → l.out.text.items ++ lines_text (local_lines (map named_of (drop l.local-index l.locals))) ≡ l.initial.out.text.items ++ lines_text (local_lines (map named_of l.locals)) }
