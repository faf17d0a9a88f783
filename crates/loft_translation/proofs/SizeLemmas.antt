-- A statement becomes at most three operations, so the code of a module keeps its limit.
use Rattle.std.proofs.Common.{ℕ, ◌+◌, ◌*◌, ◌≤◌, [], ◌∷◌, length, arith, length-append}
use Rattle.loft_tree.specs.declared.heads.Place.{Place}
use Rattle.loft_tree.specs.declared.heads.Heads.{Heads}
use Rattle.loft_tree.specs.declared.limits.TheConstants.{MAX_STATEMENTS}
use Rattle.loft_tree.specs.NamedTree as tree
use Rattle.loft_tree.specs.NamedTree.{NamedStatement, NamedStatements}
use Rattle.loft_tree.specs.Stops.{size_of, size}
use Rattle.loft_tree.specs.Resolved.{step_of, body_of}
use Rattle.loft_code.specs.declared.limits.TheConstants.{MAX_OPERATIONS}
use Rattle.loft_code.specs.Operations as op
use Rattle.loft_sense.specs.Stands.{leads_step, leads}
use Rattle.loft_translation.specs.Compiled.{line, step_lines, body_lines}
use Rattle.loft_translation.proofs.FlowLemmas.{body_and_end}

module _ (h : Heads) where
  mutual
    step_few : (s : NamedStatement) (q d : ℕ) (p : Place) → length (step_lines h (step_of s) q d p) ≤ 3 * size_of s
    step_few (tree.Do at action) q d p = omega arith
    step_few (tree.Hold at stop pause) q d p = omega arith
    step_few (tree.Run at stop called m arguments) q d p = omega arith
    step_few (tree.If at test first tree.Done) q d p = omega (arith, body_few first (q + 1) d p)
    step_few (tree.If at test first (tree.Then s rest)) q d p =
        let x = body_lines h (body_of first) (q + 1) d p in
        let t = q + 1 + length x + 1 in
        let y = body_lines h (body_of (tree.Then s rest)) t d p in
        omega (arith, length-append x (line (leads h (body_of first) p) d (op.Jump (t + length y)) ∷ y), body_few first (q + 1) d p, body_few (tree.Then s rest) t d p)
    step_few (tree.While at test body) q d p =
        let x = body_lines h (body_of body) (q + 1 + 1) d p in
        omega (arith, length-append x (line (leads h (body_of body) p) d (op.Jump (q + 1)) ∷ []), body_few body (q + 1 + 1) d p)
    step_few (tree.Repeat at count body) q d p =
        let x = body_lines h (body_of body) (q + 1 + 1) (d + 1) p in
        omega (arith, length-append x (line (leads h (body_of body) p) (d + 1) (op.Jump (q + 1)) ∷ []), body_few body (q + 1 + 1) (d + 1) p)

    body_few : (b : NamedStatements) (q d : ℕ) (p : Place) → length (body_lines h (body_of b) q d p) ≤ 3 * size b
    body_few tree.Done q d p = omega arith
    body_few (tree.Then first rest) q d p =
        let x = step_lines h (step_of first) q d p in
        let y = body_lines h (body_of rest) (q + length x) d (leads_step h (step_of first) p) in
        omega (arith, length-append x y, step_few first q d p, body_few rest (q + length x) d (leads_step h (step_of first) p))

  pub module_few : (b : NamedStatements) (begin : Place) → size b ≤ MAX_STATEMENTS → length (body_and_end h (body_of b) begin) ≤ MAX_OPERATIONS
  module_few b begin few =
      let x = body_lines h (body_of b) 0 0 begin in
      omega (arith, length-append x (line (leads h (body_of b) begin) 0 op.End ∷ []), body_few b 0 0 begin, few)
