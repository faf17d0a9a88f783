-- What an instant leaves, by what its passes leave around each thread.
use Rattle.std.proofs.Common.{◌≡◌, ℕ, ◌+◌, ◌≤◌, Bool, true, false, List, [], ◌∷◌, ◌++◌, None, length, map, refl, sym, subst, ap, ◌∙◌, arith}
use Rattle.std.specs.Prelude.{if◌then◌else◌, nat_lt}
use Rattle.std.specs.List.{count_by}
use Rattle.std.proofs.lemmas.List.{length-set, length-replicate}
use Rattle.loft_base.specs.declared.ids.SchedId.{SchedId}
use Rattle.loft_board.specs.Board.{generate_all}
use Rattle.loft_tree.specs.declared.heads.Heads.{Heads}
use Rattle.loft_tree.specs.declared.heads.Place.{Place}
use Rattle.loft_tree.specs.declared.heads.Place.TheVariants.{Sched}
use Rattle.loft_orders.specs.declared.note.Act.{Act}
use Rattle.loft_sense.specs.declared.limits.TheConstants.{MAX_ENTRIES, MAX_LINKED}
use Rattle.loft_base.specs.declared.options.Limits.{Limits}
use Rattle.loft_orders.specs.declared.order.Order.{Order}
use Rattle.loft_orders.specs.declared.order.Order.TheVariants as order
use Rattle.loft_sense.specs.Machine.{Prog, Mach, heads}
use Rattle.loft_sense.specs.Around.{Around}
use Rattle.loft_sense.specs.Statements.{most_entries}
use Rattle.loft_sense.specs.LawWords.{is_entry, generated_in, ended_in, instant_walk}
use Rattle.loft_sense.specs.Apply.{Applied, is_linked, apply_order, apply_orders, unapplied, apply}
use Rattle.loft_sense.specs.Tally.{tally_after}
use Rattle.loft_sense.specs.Instant.{runner_of, around_of, instant}
use Rattle.loft_sense.proofs.AroundLemmas.{Follows, passes_follow}

applied_chosen : (n : ℕ) (b : Bool) (v w : Applied) → length v.board ≡ n → length w.board ≡ n → length (if b then v else w).board ≡ n
applied_chosen n true v w p q = p
applied_chosen n false v w p q = q

applied_order : (h : Heads) (s : SchedId) (a : Applied) (o : Order) → length (apply_order h s a o).board ≡ length a.board
applied_order h s a (order.Create t m args) = applied_chosen (length a.board) (nat_lt (length a.linked) MAX_LINKED) _ _ refl refl
applied_order h s a (order.Arrive t) = refl
applied_order h s a (order.Stop t) = applied_chosen (length a.board) (is_linked t a.linked) _ _ refl refl
applied_order h s a (order.Suspend t) = applied_chosen (length a.board) (is_linked t a.linked) _ _ refl refl
applied_order h s a (order.Resume t) = applied_chosen (length a.board) (is_linked t a.linked) _ _ refl refl
applied_order h s a (order.Broadcast event value) = length-set a.board event.0 _
applied_order h s a (order.Ended t end) = refl

applied_orders : (h : Heads) (s : SchedId) (a : Applied) (os : List Order) → length (apply_orders h s a os).board ≡ length a.board
applied_orders h s a [] = refl
applied_orders h s a (o ∷ os) = applied_orders h s (apply_order h s a o) os ∙ applied_order h s a o

-- a batch keeps the number of events
pub applied_events : (x : Prog) (m : Mach) (batch : List Order) → length (apply x m batch).board ≡ length (heads x).events
applied_events x m batch = applied_orders (heads x) m.s (unapplied (heads x) m) batch ∙ length-replicate (length (heads x).events) None

instant_follows : (x : Prog) (limits : Limits) (m : Mach) (batch : List Order) → Follows (around_of m (apply x m batch)) (instant_walk x limits m batch).around
instant_follows x limits m batch = let a = apply x m batch in passes_follow x (map (runner_of limits.budget) a.linked) (around_of m a)

-- the acts of an instant tell its board, from that of its batch
pub instant_board : (x : Prog) (limits : Limits) (m : Mach) (batch : List Order) → (instant_walk x limits m batch).around.board ≡ generate_all (generated_in (instant x limits m batch).note.acts) (apply x m batch).board
unfolding instant
instant_board x limits m batch =
    let p = (instant_follows x limits m batch).tells in
    p.board ∙ ap (λ (acts : List Act). generate_all (generated_in acts) (apply x m batch).board) (sym p.acts)

-- and the threads known after it
pub instant_known : (x : Prog) (limits : Limits) (m : Mach) (batch : List Order) → (instant x limits m batch).machine.known ≡ (apply x m batch).known ++ ended_in (instant x limits m batch).note.acts
unfolding instant
instant_known x limits m batch =
    let p = (instant_follows x limits m batch).tells in
    p.known ∙ ap (λ (acts : List Act). (apply x m batch).known ++ ended_in acts) (sym p.acts)

few_at : (s : SchedId) (a : Around) → a.place ≡ Sched s → a.entries ≤ most_entries a.place → a.entries ≤ MAX_ENTRIES
few_at s a e h = subst (λ (p : Place). a.entries ≤ most_entries p) e h

few_entries : (x : Prog) (limits : Limits) (m : Mach) (batch : List Order) → (instant_walk x limits m batch).around.entries ≤ MAX_ENTRIES
few_entries x limits m batch =
    let p = instant_follows x limits m batch in
    few_at m.s (instant_walk x limits m batch).around p.place (p.few (omega arith))

pub instant_entries : (x : Prog) (limits : Limits) (m : Mach) (batch : List Order) → count_by is_entry (instant x limits m batch).note.acts ≤ MAX_ENTRIES
unfolding instant
instant_entries x limits m batch =
    let e = (instant_follows x limits m batch).acts in
    let f = few_entries x limits m batch in
    omega (arith, e, f)

pub instant_creates : (x : Prog) (limits : Limits) (m : Mach) (batch : List Order) → (instant x limits m batch).machine.made ≤ m.made + MAX_ENTRIES
unfolding instant
instant_creates x limits m batch =
    let e = (instant_follows x limits m batch).made in
    let f = few_entries x limits m batch in
    omega (arith, e, f)

pub instant_shared : (x : Prog) (limits : Limits) (m : Mach) (batch : List Order) → length (instant x limits m batch).machine.shared ≡ length m.shared
unfolding instant
instant_shared x limits m batch = (instant_follows x limits m batch).shared

pub instant_number : (x : Prog) (limits : Limits) (m : Mach) (batch : List Order) → (instant x limits m batch).machine.tally.number ≡ m.tally.number + 1
unfolding instant tally_after
instant_number x limits m batch = refl

pub instant_scheduler : (x : Prog) (limits : Limits) (m : Mach) (batch : List Order) → (instant x limits m batch).machine.s ≡ m.s
unfolding instant
instant_scheduler x limits m batch = refl
