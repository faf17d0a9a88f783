use Rattle.std.proofs.Common.{rules, ◌≡◌, ◌∙◌, of_z, to_z, int_div}
use Rattle.std.specs.Int.{w64}
use Rattle.std.proofs.lemmas.Int.{to_z-of_z}
use Rattle.loft_base.proofs.Wrapping.{wrapped-bits, quotient-small}
use Rattle.loft_base.proofs.arithmetic.quot.Goals as goal

pub returns-clause-value : goal.returns-clause-value
returns-clause-value c =
    let result : to_z w64 (of_z w64 c.wrapping_div.result) ≡ c.wrapping_div.result = to_z-of_z w64 _ (search rules) in
    let same : to_z w64 (of_z w64 (int_div (to_z w64 (of_z w64 c.args.a)) (to_z w64 (of_z w64 c.args.b)))) ≡ to_z w64 (of_z w64 (int_div c.args.a c.args.b)) = simp (to_z-of_z w64 c.args.a c.ranges.a, to_z-of_z w64 c.args.b c.ranges.b) in
    result ∙ c.wrapping_div.ensures ∙ same ∙ wrapped-bits (int_div c.args.a c.args.b) (quotient-small c.args.a c.args.b c.ranges.a)
