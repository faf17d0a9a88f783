use Rattle.std.proofs.Common.{◌≡◌, ◌≤◌, ◌++◌, length, map, drop}
use Rattle.loft_tree.specs.NamedView.{statements_of}
use Rattle.loft_tree.specs.Resolved.{body_of}
use Rattle.loft_code.specs.View.{line_of}
use Rattle.loft_sense.specs.Stands.{leads}
use Rattle.loft_translation.specs.Compiled.{body_lines}
use Rattle.loft_compile.proofs.compiler.Writer.+write.Given as goal

-- the code of the statements that are left makes that of the body whole
abbrev pub invariant-body-loop-s : goal.invariant-body-loop-s
invariant-body-loop-s l = record {
  few : l.depth ≤ length l.self.lines.items;
  lines : map line_of l.initial.self.lines.items ++ body_lines l.heads (body_of (statements_of l.body)) (length l.initial.self.lines.items) l.depth l.fn.begin
      ≡ map line_of l.self.lines.items ++ body_lines l.heads (body_of (statements_of (drop l.s-index l.body))) (length l.self.lines.items) l.depth l.here;
  place : leads l.heads (body_of (statements_of l.body)) l.fn.begin ≡ leads l.heads (body_of (statements_of (drop l.s-index l.body))) l.here;
}
