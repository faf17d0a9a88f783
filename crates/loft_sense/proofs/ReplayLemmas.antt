-- A replay of more batches.
use Rattle.std.proofs.Common.{◌≡◌, List, [], ◌∷◌, ◌++◌, refl}
use Rattle.loft_base.specs.declared.options.Limits.{Limits}
use Rattle.loft_orders.specs.declared.order.Order.{Order}
use Rattle.loft_sense.specs.Machine.{Prog}
use Rattle.loft_sense.specs.Instant.{Replayed, one_more, replay_on}

pub replay_on-append : (x : Prog) (limits : Limits) (r : Replayed) (bs : List (List Order)) (b : List Order) → replay_on x limits r (bs ++ b ∷ []) ≡ one_more x limits (replay_on x limits r bs) b
replay_on-append x limits r [] b = refl
replay_on-append x limits r (c ∷ bs) b = replay_on-append x limits (one_more x limits r c) bs b
