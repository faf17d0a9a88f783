use Rattle.std.proofs.Common.{◌≡◌, ◌++◌, true}
use Rattle.std.specs.Prelude.{replicate}
use Rattle.loft_show.proofs.line.put_indent.Given as goal

abbrev pub invariant-loop : goal.invariant-loop
invariant-loop l = record { whole : l.out.is_whole ≡ true → l.initial.out.is_whole ≡ true; text : l.out.is_whole ≡ true → l.out.text.items ≡ l.initial.out.text.items ++ replicate l.counter 32 }
