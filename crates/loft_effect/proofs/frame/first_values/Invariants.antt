use Rattle.std.proofs.Common.{◌≡◌, ◌++◌, take}
use Rattle.std.specs.Prelude.{map}
use Rattle.loft_sense.specs.Heads.{first_value}
use Rattle.loft_effect.proofs.frame.first_values.Given as goal

-- the arguments, and the local variables so far
abbrev pub invariant-loop-local : goal.invariant-loop-local
invariant-loop-local l = l.all.items ≡ l.initial.all.items ++ map (λ x. first_value l.thread x.kind) (take l.local-index l.locals)
