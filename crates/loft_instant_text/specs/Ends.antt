-- The ends that the orders of a batch made, in the order of their indexes.
use Rattle.std.specs.Prelude.{ℕ, ◌≡◌, ◌≤◌, ◌==◌, Bool, true, List, [], ◌∷◌, ⊤}
use Rattle.std.specs.List.{prefix_len}
use Rattle.loft_tree.specs.declared.heads.Heads.{Heads}
use Rattle.loft_orders.specs.declared.note.Ended.{Ended}
use Rattle.loft_orders.specs.Lines.{ends_at}

-- no index is below k, and none is below that of an end in front of it
abbrev pub InOrderFrom : ℕ → List Ended → Type 0
InOrderFrom k [] = ⊤
InOrderFrom k (e ∷ es) = (k ≤ e.index) × InOrderFrom e.index es

-- how many of the first ends have this index
abbrev pub leading : ℕ → List Ended → ℕ
leading k es = prefix_len (λ e. e.index == k) es

-- Of the ends of a batch these are left when the orders from index k on are still to come: they have the ends of those orders.
-- Where the ends stand in order, so do these.
pub record AreLeft (in_order : Bool) (all : List Ended) (k : ℕ) (left : List Ended) : Type 0 where
  pub same : (h : Heads) (j : ℕ) → k ≤ j → ends_at h j left ≡ ends_at h j all
  pub order : in_order ≡ true → InOrderFrom k left
