use Rattle.std.proofs.Common.{◌≡◌, true, Some, take}
use Rattle.std.specs.List.{list_any}
use Rattle.loft_body.specs.First.{has_mark}
use Rattle.loft_bound.proofs.reaching.any_marked.Given as goal

abbrev pub invariant-loop-q : goal.invariant-loop-q
invariant-loop-q l = l.any ≡ list_any (has_mark l.marks true (Some l.m)) (take l.q-index l.called)
