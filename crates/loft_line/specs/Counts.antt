-- What is counted as threads run (docs/SEMANTICS.md, "Waiting lists").
use Rattle.std.specs.Prelude.{ℕ, ◌+◌, ◌-◌, List, [], ◌∷◌}
use Rattle.loft_sense.specs.Passes.{Runner}

-- how often threads with this budget have run in an instant, and the steps that they have made in it; those that have ended aren't among them
abbrev pub runs_and_steps : ℕ → List Runner → ℕ
runs_and_steps budget [] = 0
runs_and_steps budget (r ∷ rs) = r.runs + (budget - r.left) + runs_and_steps budget rs
