-- Programs whose code does what they do; every placed program is one (docs/CODE.md, "Code that implements a program").
use Rattle.std.specs.Prelude.{◌≡◌, ℕ, ◌<◌, ◌≤◌, length}
use Rattle.loft_base.specs.declared.ids.ModuleId.{ModuleId}
use Rattle.loft_tree.specs.declared.heads.Place.{Place}
use Rattle.loft_tree.specs.declared.heads.Heads.{Heads}
use Rattle.loft_tree.specs.Resolved.{Step, Do, Hold, Call, Choose, Loop, Times, Body, Empty, Then, Resolved}
use Rattle.loft_sense.specs.Tree.{body_at}
use Rattle.loft_sense.specs.Stands.{begin_of, leads_step, leads}

-- A statement and a body that a thread begins at p, in a program with so many bodies: each `run` is of a module that has one,
-- and both branches of each `if` end in one place.
module _ (h : Heads) (bodies : ℕ) where
  abbrev mutual
    pub StepIsWhole : Step → Place → Type 0
    StepIsWhole (Do action) p = Unit {0}
    StepIsWhole (Hold k pause) p = Unit {0}
    StepIsWhole (Call k m arguments) p = m.0 < bodies
    StepIsWhole (Choose test first second) p = BodyIsWhole first p × BodyIsWhole second p × (leads h first p ≡ leads h second p)
    StepIsWhole (Loop test body) p = BodyIsWhole body p
    StepIsWhole (Times count body) p = BodyIsWhole body p

    pub BodyIsWhole : Body → Place → Type 0
    BodyIsWhole Empty p = Unit {0}
    BodyIsWhole (Then s rest) p = StepIsWhole s p × BodyIsWhole rest (leads_step h s p)

-- so it is with the body of each module, and each module that is declared has a body
pub record IsWhole (p : Resolved) : Type 0 where
  pub bodies : length p.heads.modules ≤ length p.bodies
  pub each : (m : ModuleId) → BodyIsWhole p.heads (length p.bodies) (body_at p m) (begin_of p.heads m)
