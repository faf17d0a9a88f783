use Rattle.std.proofs.Common.{◌≡◌, ◌+◌, length, map, ◌++◌}
use Rattle.loft_actor.specs.Members.{AtIndex, IsGiver}
use Rattle.loft_host.specs.Callers.{IsCallerOf, callers_in}
use Rattle.loft_host.proofs.begin.desks_of.Given as goal

-- the callers so far, and how many are left
abbrev pub invariant-loop-k : goal.invariant-loop-k
invariant-loop-k g l = record {
  giver : IsGiver l.b l.c (l.initial.giver.knows.given ++ callers_in (map (λ d. d.pass) l.desks.items)) l.giver;
  many : length l.desks.items ≡ l.k;
  left : length l.left.items + l.k ≡ l.count;
  callers : AtIndex (λ i d. IsCallerOf l.b l.c i d.pass) l.desks.items;
}
