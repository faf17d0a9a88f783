-- Frames as they are kept while their thread stands.
use Rattle.std.specs.Prelude.{◌≡◌, ℕ, zero, suc, ℤ, List, []}
use Rattle.std.specs.List.{All}
use Rattle.loft_orders.specs.declared.thread.Frame.{Frame}

-- a frame that has stood at no stop has no counts
abbrev pub counts_kept : ℕ → List ℤ → List ℤ
counts_kept zero counts = []
counts_kept (suc k) counts = counts

abbrev pub settled : Frame → Frame
settled f = record f { counts = counts_kept f.stop f.counts }

abbrev pub IsKept : Frame → Type 0
IsKept f = counts_kept f.stop f.counts ≡ f.counts

abbrev pub AreKept : List Frame → Type 0
AreKept fs = All IsKept fs
