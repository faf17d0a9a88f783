use Rattle.std.proofs.Common.{codes}
use Rattle.loft_lex.specs.declared.TheConstants.{MAX_OFFSET}
use Rattle.loft_listing_line.proofs.Columns.{count_cut, line_bytes, rest_short}
use Rattle.loft_listing_line.proofs.deed.count_in.Goals as goal

pub returns-in-Some-clause-found : goal.returns-in-Some-clause-found
returns-in-Some-clause-found c x fits same short =
    let cut = count_cut c.args.text.now x same in
    let parts = c.in-Some.ensures (codes "count") (line_bytes x) cut in
    c.value_in.ensures.found x fits parts.1 (rest_short MAX_OFFSET 32 c.args.text.now (codes "count") (line_bytes x) c.in-Some.text.now cut parts.1 short)

pub returns-in-None-clause-found : goal.returns-in-None-clause-found
returns-in-None-clause-found c x fits same short =
    absurd (c.in-None.ensures (codes "count") (line_bytes x) (count_cut c.args.text.now x same))
