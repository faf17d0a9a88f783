-- Unlinked blocks, as workers post them one order after another (docs/SEMANTICS.md, "Unlinked blocks").
use Rattle.std.specs.Prelude.{◌≡◌, Bool, true, false, List, []}
use Rattle.loft_base.specs.declared.ids.ThreadId.{ThreadId}
use Rattle.loft_tree.specs.declared.heads.Heads.{Heads}
use Rattle.loft_orders.specs.declared.order.Sent.{Sent}
use Rattle.loft_conservation.specs.Blocks.{IsBlock}

-- what a worker has still to post, where it has a job in hand and where it has none
abbrev pub IsHand : Heads → Bool → List Sent → Type 0
IsHand h false left = left ≡ []
IsHand h true left = (t : ThreadId) × IsBlock h t left
