use Rattle.std.proofs.Common.{◌≡◌, ◌<◌, ℕ, true, Some}
use Rattle.std.specs.Prelude.{slice_get}
use Rattle.loft_passes.specs.declared.runner.Runner.{Runner}
use Rattle.loft_passes.specs.View.{is_held}
use Rattle.loft_finder.specs.Finder.{may_stand}
use Rattle.loft_line.proofs.slots.list_all.Given as goal

-- the first ones are listed
abbrev pub invariant-loop-pos : goal.invariant-loop-pos
invariant-loop-pos l = (i : ℕ) (r : Runner) → i < l.pos → slice_get l.slots i ≡ Some r → is_held r.stop ≡ true → may_stand l.finder r.thread.id i ≡ true
