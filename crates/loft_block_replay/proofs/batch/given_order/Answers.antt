use Rattle.std.proofs.Common.{◌≡◌, true, Option, Some, Ok, sym, ap, subst, ◌∙◌}
use Rattle.loft_tree.specs.declared.heads.Heads.{Heads}
use Rattle.loft_orders.specs.declared.order.Order.{Order}
use Rattle.loft_sense.specs.Fits.{Fits}
use Rattle.loft_standing.specs.Stops.{tree_of}
use Rattle.loft_order_lines.specs.Says.{Says}
use Rattle.loft_block_replay.proofs.BatchLemmas.{only_found, none_found}
use Rattle.loft_block_replay.proofs.batch.given_order.Goals as goal

pub returns-then-fits-clause-exact : goal.returns-then-fits-clause-exact
returns-then-fits-clause-exact c o says fits =
    let there = subst (λ (h : Heads). Says h c.args.line.now o) (sym c.own_heads-heads.ensures.heads) says in
    let same : o ≡ c.in-Some.order = only_found c.read_order.result c.in-Some.order o (c.in_ok-order.was ∙ ap (λ (k : Option Order). Ok k) c.in-Some.is) (c.read_order.ensures.exact o there) in
    ap (λ (k : Order). Some k) (sym same)

pub returns-else-fits-clause-exact : goal.returns-else-fits-clause-exact
returns-else-fits-clause-exact c o says fits =
    let there = subst (λ (h : Heads). Says h c.args.line.now o) (sym c.own_heads-heads.ensures.heads) says in
    let same : o ≡ c.in-Some.order = only_found c.read_order.result c.in-Some.order o (c.in_ok-order.was ∙ ap (λ (k : Option Order). Ok k) c.in-Some.is) (c.read_order.ensures.exact o there) in
    let yes : c.fits.result ≡ true = c.fits.ensures.1 (subst (Fits (tree_of c.args.p.now) c.args.s) same fits) in
    let not_so = c.if-fits.false in
    absurd cc

pub returns-in-None-clause-exact : goal.returns-in-None-clause-exact
returns-in-None-clause-exact c o says fits =
    let there = subst (λ (h : Heads). Says h c.args.line.now o) (sym c.own_heads-heads.ensures.heads) says in
    absurd (none_found c.read_order.result o (c.in_ok-order.was ∙ ap (λ (k : Option Order). Ok k) c.in-None.is) (c.read_order.ensures.exact o there))
