-- What a scheduler has used of its bounds, and counts that stop at the end of 64 bits.
use Rattle.std.proofs.Common.{◌≡◌, ℕ, ◌+◌, ◌<◌, Bool, true, false, ◌||◌, List, refl, arith}
use Rattle.std.specs.Prelude.{nat_le}
use Rattle.std.proofs.lemmas.Bool.{leb-false}
use Rattle.loft_base.specs.declared.options.Limits.{Limits}
use Rattle.loft_orders.specs.declared.order.Order.{Order}
use Rattle.loft_sense.specs.Machine.{Prog, heads, Mach}
use Rattle.loft_sense.specs.Rest.{is_spent}
use Rattle.loft_sense.specs.Tally.{capped, tally_after}
use Rattle.loft_sense.specs.Instant.{instant}

first_false : (a b : Bool) → a || b ≡ false → a ≡ false
first_false false b e = refl
first_false true b e = e

-- a scheduler that isn't spent may make an instant more
pub unspent_number : (x : Prog) (limits : Limits) (m : Mach) → is_spent x limits m ≡ false → m.tally.number < limits.instants
unspent_number x limits m unspent = leb-false limits.instants m.tally.number (first_false (nat_le limits.instants m.tally.number) _ unspent)

-- a count that stops goes on from where it stopped
pub capped_on : (a b : ℕ) → capped (capped a + b) ≡ capped (a + b)
capped_on a b = omega arith

pub capped_add : (a b : ℕ) → capped (a + capped b) ≡ capped (a + b)
capped_add a b = omega arith

-- an instant is told by its batch and its note
pub instant_tally : (x : Prog) (limits : Limits) (m : Mach) (batch : List Order) → (instant x limits m batch).machine.tally ≡ tally_after (heads x) m.tally batch (instant x limits m batch).note
unfolding instant
instant_tally x limits m batch = refl
