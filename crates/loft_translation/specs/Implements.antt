-- Code that does what a source tree does (docs/CODE.md, "Code that implements a program").
use Rattle.std.specs.Prelude.{◌≡◌, ℕ}
use Rattle.std.specs.List.{count_by}
use Rattle.loft_base.specs.declared.ids.ModuleId.{ModuleId}
use Rattle.loft_tree.specs.declared.heads.Place.{Place}
use Rattle.loft_tree.specs.Resolved.{Resolved}
use Rattle.loft_code.specs.Operations.{Automata}
use Rattle.loft_code.specs.Valid.{is_stop}
use Rattle.loft_orders.specs.declared.thread.Thread.{Thread}
use Rattle.loft_sense.specs.Machine.{Tree, Code}
use Rattle.loft_sense.specs.Around.{Around}
use Rattle.loft_sense.specs.Run.{go}
use Rattle.loft_sense.specs.Tree.{tree, body_at}
use Rattle.loft_sense.specs.Code.{code, lines_at}
use Rattle.loft_sense.specs.Stands.{Stands}
use Rattle.loft_soundness.specs.Numbered.{body_stops}

-- both, each from the other
pub record IsSame (P Q : Type 0) : Type 0 where
  pub there : P → Q
  pub back : Q → P

-- Equal declarations and numbers of stops; the same threads stand in both, at the same places; and each of them, wherever it
-- stands, whatever stands around it and however many steps it may make, has the same outcome in both.
pub record Implements (c : Automata) (p : Resolved) : Type 0 where
  pub heads : c.heads ≡ p.heads
  pub stops : (m : ModuleId) → count_by is_stop (lines_at c m) ≡ body_stops (body_at p m)
  pub stands : (t : Thread) (place : Place) → IsSame (Stands (Tree p) t place) (Stands (Code c) t place)
  pub goes : (t : Thread) (place : Place) → Stands (Tree p) t place → (around : Around) (left : ℕ) → go (code c) t around left ≡ go (tree p) t around left
