-- Which threads can be made (docs/LANGUAGE.md, "Numbers of names").
use Rattle.std.specs.Prelude.{◌≡◌, ◌<◌, Bool, true, false, ◌&&◌, IsTrue, List, [], ◌∷◌, length, Option, Some, None, slice_get}
use Rattle.loft_base.specs.declared.ids.SchedId.{SchedId}
use Rattle.loft_base.specs.declared.ids.ModuleId.{ModuleId}
use Rattle.loft_base.specs.declared.ids.Value.{Value}
use Rattle.loft_base.specs.declared.ids.Value.TheVariants as value
use Rattle.loft_tree.specs.declared.kinds.Kind.{Kind}
use Rattle.loft_tree.specs.declared.kinds.Kind.TheVariants as kind
use Rattle.loft_tree.specs.declared.heads.Place.TheVariants.{Sched}
use Rattle.loft_tree.specs.declared.heads.SlotHead.{SlotHead}
use Rattle.loft_tree.specs.declared.heads.Signature.{Signature}
use Rattle.loft_tree.specs.declared.heads.Heads.{Heads}

-- the value is of this kind
abbrev pub is_of : Value → Kind → Bool
is_of (value.Int n) kind.Int = true
is_of (value.Int n) kind.Thread = false
is_of (value.Thread t) kind.Int = false
is_of (value.Thread t) kind.Thread = true

-- the kinds of parameters or local variables
abbrev pub kinds_of : List SlotHead → List Kind
kinds_of [] = []
kinds_of (v ∷ vs) = v.kind ∷ kinds_of vs

-- as many values as parameters, each of its parameter's kind
abbrev pub agree : List Kind → List Value → Bool
agree [] [] = true
agree [] (v ∷ vs) = false
agree (k ∷ ks) [] = false
agree (k ∷ ks) (v ∷ vs) = is_of v k && agree ks vs

-- the module is declared, begins in the scheduler, and takes these arguments
abbrev pub TakesIn : SchedId → Option Signature → List Value → Type 0
TakesIn s None args = ⊥
TakesIn s (Some signature) args = (signature.begin ≡ Sched s) × IsTrue (agree (kinds_of signature.parameters) args)

-- A thread of the module m can begin in the scheduler s with these arguments: both are declared, m begins in s, and the
-- arguments agree with its parameters in number and kind.
abbrev pub HeadsFit : Heads → SchedId → ModuleId → List Value → Type 0
HeadsFit h s m args = (s.0 < length h.schedulers) × TakesIn s (slice_get h.modules m.0) args
