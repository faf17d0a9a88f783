use Rattle.std.proofs.Common.{rules, ◌≡◌, ℕ, List, [], ◌∷◌, ◌++◌, length, ap, ◌∙◌, arith, length-append}
use Rattle.loft_tree.specs.declared.heads.Heads.{Heads}
use Rattle.loft_orders.specs.declared.entry.Entry.{Entry}
use Rattle.loft_orders.specs.declared.entry.Entry.TheVariants as entry
use Rattle.loft_orders.specs.declared.order.Sent.{Sent}
use Rattle.loft_world.specs.State.{State, with_entry, count_in}
use Rattle.loft_world.proofs.StateLemmas.{client_added, one_counted, creates_within}
use Rattle.loft_world.proofs.world.World.client.Goals as goal

abbrev state : Heads → List Entry → State
state h es = record { heads = h; history = es }

-- what is seen after the order of a client
recorded : (h : Heads) (es fs : List Entry) (seen : State) (c : ℕ) (copy sent : Sent) → fs ≡ es ++ entry.Client c copy ∷ [] → copy ≡ sent → state h es ≡ seen
    → state h fs ≡ with_entry seen (entry.Client c sent)
recorded h es fs seen c copy sent added same is =
    ap (state h) (added ∙ ap (λ (m : Sent). es ++ entry.Client c m ∷ []) same) ∙ ap (λ (v : State). with_entry v (entry.Client c sent)) is

pub returns-clause-ok : goal.returns-clause-ok
returns-clause-ok c =
    recorded c.self.inside.heads c.self.inside.entries.items c.add.new.entries.items c.args.self.now c.args.c c.in_ok-copy.copy c.args.sent.now
    c.in_ok-add.ensures.entries c.in_ok-copy.ensures c.self.view_is

pub add_one_if-requires-clause-few : goal.add_one_if-requires-clause-few
add_one_if-requires-clause-few c =
    let w = c.self.inside in
    let longer = simp length-append at (ap (λ (l : List Entry). length l) c.in_ok-add.ensures.entries) in
    omega (arith, c.make_room.ensures.same c.args.c, c.self.invariant.clients c.args.c, creates_within c.args.c w.entries.items)

pub invariant_of-self-2 : goal.invariant_of-self-2
invariant_of-self-2 c =
    let w = c.self.inside in
    client_added w.heads w.entries.items c.add.new.entries.items w.waits.items c.add.new.waits.items w.jobs.items c.add.new.jobs.items
    (count_in w.creates) (count_in c.add_one_if.new.counts) c.args.c c.in_ok-copy.copy c.args.sent.now
    c.self.invariant c.in_ok-copy.ensures
    (λ d. one_counted d c.args.c c.args.sent.now (count_in w.creates d) _ _ _ (c.make_room.ensures.same d) c.is_create.ensures (c.add_one_if.ensures d))
    c.in_ok-add.ensures.entries (search rules) (search rules)
