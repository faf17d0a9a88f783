use Rattle.std.proofs.Common.{◌≡◌, ◌++◌, drop}
use Rattle.loft_sense.specs.Instant.{sent_by}
use Rattle.loft_effect.proofs.told.tell_all.Given as goal

-- what was sent so far, and then what is left
abbrev pub invariant-loop-act : goal.invariant-loop-act
invariant-loop-act l = l.sent ++ sent_by l.place (drop l.act-index l.acts) ≡ l.fn.sent ++ sent_by l.place l.acts
