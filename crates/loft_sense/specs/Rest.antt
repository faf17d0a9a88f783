-- Schedulers that rest, and that have used their bounds up (docs/SEMANTICS.md, "Rest").
use Rattle.std.specs.Prelude.{Bool, true, false, ◌||◌, ◌&&◌, not, List, [], ◌∷◌, is_none}
use Rattle.loft_base.specs.declared.ids.ThreadId.{ThreadId}
use Rattle.loft_orders.specs.declared.thread.Wait.{Wait}
use Rattle.loft_orders.specs.declared.thread.Wait.TheVariants.{Events, Join, Halt}
use Rattle.loft_orders.specs.declared.note.Standing.{Standing}
use Rattle.loft_base.specs.declared.options.Limits.{Limits}
use Rattle.loft_sense.specs.Tally.{reaches_bound}
use Rattle.loft_sense.specs.Machine.{Prog, heads, Mach}
use Rattle.loft_sense.specs.CanGo.{is_known}

-- between two instants no event is present
abbrev pub waits_for_ever : Wait → List ThreadId → Bool
waits_for_ever (Events events left) known = is_none left
waits_for_ever (Join thread left) known = is_none left && not (is_known thread known)
waits_for_ever Halt known = true
waits_for_ever w known = false

abbrev pub all_rest : List Standing → List ThreadId → Bool
all_rest [] known = true
all_rest (s ∷ ss) known = (s.suspended || waits_for_ever s.thread.wait known) && all_rest ss known

-- each linked thread is suspended, or waits without a number for what isn't there
abbrev pub is_resting : Mach → Bool
is_resting m = all_rest m.linked m.known

-- one of its bounds is reached: its instants, the bytes of its block, the threads that left it by `unlink`
abbrev pub is_spent : Prog → Limits → Mach → Bool
is_spent x limits m = reaches_bound (heads x) limits m.tally
