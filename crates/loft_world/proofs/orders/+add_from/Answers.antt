use Rattle.std.proofs.Common.{rules, ◌≡◌, ◌++◌, ◌<◌, ◌∙◌, sym, ap, length, set, take, arith}
use Rattle.std.proofs.lemmas.List.{get_or_default}
use Rattle.loft_history.specs.History.{orders_to}
use Rattle.loft_sense.specs.Heads.{scheduler}
use Rattle.loft_world.proofs.StateLemmas.{back_again}
use Rattle.loft_world.proofs.orders.+add_from.Goals as goal

pub returns-then-is_err-clause-err : goal.returns-then-is_err-clause-err
returns-then-is_err-clause-err t c =
    let waits = c.args.waits.now in
    let orders = c.index-waits-at-2.result in
    let within : c.args.at < length waits = omega (arith, c.requires) in
    let made : c.add_orders.new.orders ≡ orders ++ orders_to (scheduler c.args.at) c.args.sents.now = search rules in
    let are : c.add_from.new.waits ≡ set waits c.args.at c.add_orders.new.orders = search rules in
    let long : c.len-before.result ≡ length orders =
    c.len-before.ensures ∙ ap length (get_or_default waits c.args.at c.index-waits-at.result orders within ∙ sym c.index-waits-at-2.is) in
    let cut : c.truncate.new.self ≡ take (length orders) c.index-waits-at-then-is_err.result =
    c.truncate.ensures ∙ ap (take c.len-before.result) (sym c.index-waits-at-then-is_err.is) ∙ ap (λ n. take n c.index-waits-at-then-is_err.result) long in
    back_again c.args.at waits c.add_from.new.waits orders c.add_orders.new.orders c.index-waits-at-then-is_err.result c.truncate.new.self c.args.sents.now
    within c.index-waits-at-2.is made are c.index-waits-at-then-is_err.is cut
