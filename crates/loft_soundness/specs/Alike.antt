-- Programs whose threads run alike (docs/SEMANTICS.md, "History").
use Rattle.std.specs.Prelude.{◌≡◌, ℕ}
use Rattle.loft_tree.specs.declared.heads.Place.{Place}
use Rattle.loft_orders.specs.declared.thread.Thread.{Thread}
use Rattle.loft_sense.specs.Machine.{Prog, heads as heads_of}
use Rattle.loft_sense.specs.Around.{Around}
use Rattle.loft_sense.specs.Passes.{run_of}
use Rattle.loft_soundness.specs.Points.{AroundFits}
use Rattle.loft_soundness.specs.Machines.{ThreadFits}

-- Equal declarations; and each thread that stands in the first program has the same outcome in both, at whatever place, with
-- whatever fits around it and in however many steps.
pub record RunsAlike (x y : Prog) : Type 0 where
  pub heads : heads_of x ≡ heads_of y
  pub runs : (t : Thread) (place : Place) (around : Around) (left : ℕ) → ThreadFits x place t → AroundFits (heads_of x) place around
      → run_of x t around left ≡ run_of y t around left
