use Rattle.std.proofs.Common.{◌≡◌, ◌+◌, ◌≤◌, drop}
use Rattle.loft_sense.specs.Tally.{unlinked_in}
use Rattle.loft_tally.proofs.tally.unlinked_in.Given as goal

-- those so far, and those of what is left
abbrev pub invariant-loop-sent : goal.invariant-loop-sent
invariant-loop-sent l = record { few : l.count ≤ l.sent-index; rest : l.count + unlinked_in (drop l.sent-index l.sents) ≡ unlinked_in l.sents }
