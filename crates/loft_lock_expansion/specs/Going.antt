-- Whether a body has a `link` or an `unlink` in it, or a `run` of a module that is told (docs/LOCKS.md, "Pairs").
use Rattle.std.specs.Prelude.{Bool, false, ◌||◌}
use Rattle.loft_base.specs.declared.ids.ModuleId.{ModuleId}
use Rattle.loft_tree.specs.Resolved.{Step, Do, Hold, Call, Choose, Loop, Times, Body, Empty, Then}
use Rattle.loft_locks.specs.Locks.{is_away}

module _ (away : ModuleId → Bool) where
  abbrev mutual
    pub step_goes : Step → Bool
    step_goes (Do action) = false
    step_goes (Hold k pause) = is_away pause
    step_goes (Call k m arguments) = away m
    step_goes (Choose test first second) = body_goes first || body_goes second
    step_goes (Loop test body) = body_goes body
    step_goes (Times count body) = body_goes body

    pub body_goes : Body → Bool
    body_goes Empty = false
    body_goes (Then s rest) = step_goes s || body_goes rest
