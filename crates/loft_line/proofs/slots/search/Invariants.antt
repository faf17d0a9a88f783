use Rattle.std.proofs.Common.{◌≡◌, ◌<◌, ℕ, false, Some}
use Rattle.std.specs.Prelude.{slice_get}
use Rattle.loft_passes.specs.declared.runner.Runner.{Runner}
use Rattle.loft_line.specs.Line.{is_named}
use Rattle.loft_line.proofs.slots.search.Given as goal

-- none of the first ones is it
abbrev pub invariant-loop-pos : goal.invariant-loop-pos
invariant-loop-pos l = (i : ℕ) (r : Runner) → i < l.pos → slice_get l.slots i ≡ Some r → is_named l.thread r ≡ false
