use Rattle.std.proofs.Common.{◌≡◌, ◌≤◌, ℕ, suc, List, [], ◌∷◌, refl, Option, length, ap, ◌∙◌, arith}
use Rattle.loft_tree.specs.declared.named.Module.{Module}
use Rattle.loft_budget.specs.declared.steps.Steps.{Steps}
use Rattle.loft_bound.specs.Found.{count, next_table}
use Rattle.loft_bound.proofs.Stable.{stays_so, all_stay}
use Rattle.loft_bound.proofs.bounded.stable_table.Invariants.{bodies}
use Rattle.loft_bound.proofs.bounded.stable_table.Goals as goal

long_bodies : (ms : List Module) → length (bodies ms) ≡ length ms
long_bodies [] = refl
long_bodies (m ∷ ms) = ap (λ (n : ℕ). suc n) (long_bodies ms)

pub returns-then-more-known-clause-table : goal.returns-then-more-known-clause-table
returns-then-more-known-clause-table c =
    let bs = bodies c.args.modules.now in
    let i = c.loop.invariant in
    let next : c.in_ok-next.next.items ≡ next_table c.loop.table.items bs = c.in_ok-next.ensures.table ∙ ap (λ (t : List (Option Steps)). next_table t bs) c.as_slice-in-loop.ensures.value in
    let more : c.count-more.result ≡ count c.in_ok-next.next.items = c.count-more.ensures ∙ ap count c.as_slice-in-loop-2.ensures.value in
    let known = i.2 in
    let test = c.if-more-known.true in
    let fewer : count c.in_ok-next.next.items ≤ count c.loop.table.items = omega (arith, more, known, test) in
    stays_so bs i.0 c.loop.table.items c.in_ok-next.next.items i.1 next fewer

pub loop-preserved : goal.loop-preserved
loop-preserved c =
    let bs = bodies c.args.modules.now in
    let i = c.loop.invariant in
    let next : c.in_ok-next.next.items ≡ next_table c.loop.table.items bs = c.in_ok-next.ensures.table ∙ ap (λ (t : List (Option Steps)). next_table t bs) c.as_slice-in-loop.ensures.value in
    let more : c.count-more.result ≡ count c.in_ok-next.next.items = c.count-more.ensures ∙ ap count c.as_slice-in-loop-2.ensures.value in
    let above = i.3 in
    let test = c.if-more-known.false in
    (suc i.0, next ∙ ap (λ (t : List (Option Steps)). next_table t bs) i.1, more, omega (arith, above, test), c.in_ok-next.ensures.small)

pub returns-clause-table : goal.returns-clause-table
returns-clause-table c =
    let bs = bodies c.args.modules.now in
    let i = c.loop.invariant in
    let known = i.2 in
    let above = i.3 in
    let test = c.loop-test.false in
    let long : length bs ≡ length c.args.modules.now = long_bodies c.args.modules.now in
    let all : length bs ≤ count c.loop.table.items = omega (arith, known, above, test, long) in
    all_stay bs i.0 c.loop.table.items i.1 all
