use Rattle.std.proofs.Common.{◌≡◌, IsTrue}
use Rattle.std.specs.List.{All}
use Rattle.loft_relay.specs.Hands.{IsWhole, owns_in}
use Rattle.loft_relay.proofs.many.join_all.Given as goal

abbrev pub invariant-loop-hand : goal.invariant-loop-hand
invariant-loop-hand l = record {
  whole : IsWhole l.b l.initial.main.knows l.main;
  own : l.main.knows.own ≡ owns_in l.yielded;
  done : All (λ h. IsTrue h.done) l.yielded;
}
