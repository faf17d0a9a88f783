-- What statements in memory do, as the definitions say it.
use Rattle.std.specs.Prelude.{◌≡◌, List}
use Rattle.loft_base.specs.declared.ids.Value.{Value}
use Rattle.loft_sense.specs.Around.{Beside}
use Rattle.loft_sense.specs.Statements.{Effect, Waits, Leaves, Dies, goes_on}
use Rattle.loft_effect.specs.declared.effect.Effect.{Effect as EffectInMemory}
use Rattle.loft_effect.specs.declared.effect.Effect.TheVariants as memory
use Rattle.loft_effect.specs.declared.scope.Beside.{Beside as BesideInMemory}
use Rattle.loft_effect.specs.declared.scope.Scope.{Scope}
use Rattle.loft_effect.specs.View.{beside_of, pace_of}

-- an effect that leaves these values and this beside the frames; where the thread doesn't go on they are as they were
abbrev pub Leads : EffectInMemory → List Value → Beside → List Value → Beside → Effect → Type 0
Leads memory.GoesOn old b new c effect = effect ≡ goes_on new c
Leads (memory.Waits wait) old b new c effect = (effect ≡ Waits wait) × (new ≡ old) × (c ≡ b)
Leads (memory.Leaves to) old b new c effect = (effect ≡ Leaves to) × (new ≡ old) × (c ≡ b)
Leads (memory.Dies end) old b new c effect = (effect ≡ Dies end) × (new ≡ old) × (c ≡ b)

-- the same in memory, in a frame that stands where it stood, where no step is made
abbrev pub Does : EffectInMemory → Scope → BesideInMemory → Scope → BesideInMemory → Effect → Type 0
Does e old b new c effect =
    Leads e old.values (beside_of b) new.values (beside_of c) effect × (new.at ≡ old.at) × (pace_of c.around ≡ pace_of b.around)
