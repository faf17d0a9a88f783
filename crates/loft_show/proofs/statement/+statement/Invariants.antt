use Rattle.std.proofs.Common.{true, ◌≡◌, ◌++◌, ◌*◌, drop}
use Rattle.loft_tree.specs.View.{statements_of}
use Rattle.loft_show.specs.Canon.{body_lines, lines_text}
use Rattle.loft_show.proofs.statement.+statement.Given as goal

-- the statements that are left come after
abbrev pub invariant-put_body-loop-statement : goal.invariant-put_body-loop-statement
invariant-put_body-loop-statement l = record { whole : l.out.is_whole ≡ true → l.initial.out.is_whole ≡ true; text : l.out.is_whole ≡ true → l.out.text.items ++ lines_text (body_lines (statements_of (drop l.statement-index l.body)) (2 * l.depth)) ≡ l.initial.out.text.items ++ lines_text (body_lines (statements_of l.body) (2 * l.depth)) }
