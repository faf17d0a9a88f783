-- Work whose stops are those of its module (docs/SEMANTICS.md, "Stands").
use Rattle.std.specs.Prelude.{◌≡◌, ℕ, suc, List, [], ◌∷◌, length, Option, Some}
use Rattle.loft_tree.specs.declared.heads.Place.{Place}
use Rattle.loft_tree.specs.declared.heads.Heads.{Heads}
use Rattle.loft_tree.specs.Resolved.{Step, Do, Hold, Call, Choose, Loop, Times, Body, Empty, Then}
use Rattle.loft_sense.specs.Tree.{Work, Begin, Again, Turns, counts_in}
use Rattle.loft_sense.specs.Stands.{StopKind, Pauses, Calls, StopAt, place_after, end_of, leads_step}

-- what a program declares, and the stops of a module
module _ (h : Heads) (stops : ℕ → Option StopAt) where
  -- stop k is this, inside so many `repeat`s, and a thread is linked at q after it
  abbrev pub IsStop : ℕ → StopKind → ℕ → Place → Type 0
  IsStop k kind depth q = stops k ≡ Some (record { kind = kind; depth = depth; after = q })

  -- a statement and a body that a thread begins at p, inside so many `repeat`s: each stop in it is that of the module
  abbrev mutual
    pub StepAgrees : Step → ℕ → Place → Type 0
    StepAgrees (Do action) depth p = Unit {0}
    StepAgrees (Hold k pause) depth p = IsStop k (Pauses pause) depth (place_after pause p)
    StepAgrees (Call k m arguments) depth p = IsStop k (Calls m) depth (end_of h m)
    StepAgrees (Choose test first second) depth p = BodyAgrees first depth p × BodyAgrees second depth p
    StepAgrees (Loop test body) depth p = BodyAgrees body depth p
    StepAgrees (Times count body) depth p = BodyAgrees body (suc depth) p

    pub BodyAgrees : Body → ℕ → Place → Type 0
    BodyAgrees Empty depth p = Unit {0}
    BodyAgrees (Then s rest) depth p = StepAgrees s depth p × BodyAgrees rest depth (leads_step h s p)

  -- the same of work: a stop in it is inside as many `repeat`s as there are counts after it
  abbrev pub WorkAgrees : List Work → Place → Type 0
  WorkAgrees [] p = Unit {0}
  WorkAgrees (Begin s ∷ w) p = StepAgrees s (length (counts_in w)) p × WorkAgrees w (leads_step h s p)
  WorkAgrees (Again test body ∷ w) p = BodyAgrees body (length (counts_in w)) p × WorkAgrees w p
  WorkAgrees (Turns count body ∷ w) p = BodyAgrees body (suc (length (counts_in w))) p × WorkAgrees w p
