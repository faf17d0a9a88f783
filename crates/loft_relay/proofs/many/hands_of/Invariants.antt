use Rattle.std.proofs.Common.{◌≡◌, take}
use Rattle.std.specs.List.{All}
use Rattle.loft_relay.specs.Hands.{IsMain, IsReady, actors_of, clients_of}
use Rattle.loft_relay.proofs.many.hands_of.Given as goal

abbrev pub invariant-loop-client : goal.invariant-loop-client
invariant-loop-client l = record {
  main : IsMain l.b l.initial.main.knows.code (actors_of (take l.client-index l.clients)) l.main;
  ready : All (IsReady l.b l.initial.main.knows.code) l.hands.items;
  clients : clients_of l.hands.items ≡ take l.client-index l.clients;
}
