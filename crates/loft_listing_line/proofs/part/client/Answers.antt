use Rattle.std.proofs.Common.{codes, [], ◌∷◌}
use Rattle.loft_lex.specs.declared.TheConstants.{MAX_OFFSET}
use Rattle.loft_listing_line.proofs.Columns.{client_cut, client_rest, name_cut, first_short, rest_short}
use Rattle.loft_listing_line.proofs.part.client.Goals as goal

pub returns-in_default-clause-found : goal.returns-in_default-clause-found
returns-in_default-clause-found c x fits same short =
    absurd (c.in_default.ensures (codes "outside") (client_rest x) (client_cut c.args.line.now x same))

pub returns-in-Some-cut_at-clause-found : goal.returns-in-Some-cut_at-clause-found
returns-in-Some-cut_at-clause-found c x fits same short =
    let cut = client_cut c.args.line.now x same in
    let parts = c.in-Some.ensures (codes "outside") (client_rest x) cut in
    let shorter = rest_short MAX_OFFSET 32 c.args.line.now (codes "outside") (client_rest x) c.in-Some.line.now cut parts.1 short in
    let inner = name_cut c.in-Some.line.now x fits parts.1 in
    let names = c.in-Some-cut_at.ensures x.text (123 ∷ 10 ∷ []) inner in
    c.name_in.ensures.found x fits names.0 (first_short MAX_OFFSET 32 c.in-Some.line.now x.text (123 ∷ 10 ∷ []) c.in-Some-cut_at.name.now inner names.0 shorter)

pub returns-in-None-clause-found : goal.returns-in-None-clause-found
returns-in-None-clause-found c x fits same short =
    let parts = c.in-Some.ensures (codes "outside") (client_rest x) (client_cut c.args.line.now x same) in
    absurd (c.in-None.ensures x.text (123 ∷ 10 ∷ []) (name_cut c.in-Some.line.now x fits parts.1))
