-- The orders of a thread that isn't linked (docs/SEMANTICS.md, "Unlinked blocks").
use Rattle.std.specs.Prelude.{◌≡◌, ℕ, List, [], ◌∷◌, ◌++◌, length, Option, Some, None}
use Rattle.loft_tree.specs.declared.heads.Place.TheVariants.{Unlinked}
use Rattle.loft_board.specs.Board.{no_events}
use Rattle.loft_orders.specs.declared.thread.Thread.{Thread}
use Rattle.loft_orders.specs.declared.order.Order.TheVariants.{Arrive}
use Rattle.loft_orders.specs.declared.order.Sent.{Sent}
use Rattle.loft_sense.specs.Machine.{Prog, heads}
use Rattle.loft_sense.specs.Around.{Around}
use Rattle.loft_sense.specs.Run.{Outcome, Held, Left, Ended}
use Rattle.loft_sense.specs.Passes.{run_of}
use Rattle.loft_sense.specs.Instant.{sent_by}

-- no event is present there, and no shared variable can be seen
abbrev pub alone : Prog → Around
alone x = record { place = Unlinked; board = no_events (length (heads x).events); shared = []; known = []; made = 0; entries = 0; acts = [] }

-- its orders in the order in which they were made; the last sends it on to a scheduler, or tells every one of its end
abbrev pub block_sent : Outcome → List Sent
block_sent (Held t around left) = sent_by Unlinked around.acts
block_sent (Left t to around left) = sent_by Unlinked around.acts ++ record { to = to; order = Arrive t } ∷ []
block_sent (Ended end around left) = sent_by Unlinked around.acts

-- all that a thread sends until it is linked again or ends, in at most so many steps
abbrev pub async : Prog → Thread → ℕ → List Sent
async x t block = block_sent (run_of x t (alone x) block)

-- the first of the orders that were left is given, or none was left
abbrev pub GivesNext : Option Sent → List Sent → List Sent → Type 0
GivesNext None before after = (before ≡ []) × (after ≡ [])
GivesNext (Some m) before after = before ≡ m ∷ after
