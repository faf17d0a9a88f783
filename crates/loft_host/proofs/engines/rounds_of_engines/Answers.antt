use denote.Param.Send.{param_send, arg_send}
use Rattle.loft_moving.proofs.Engines.{engine}
use Rattle.loft_host.proofs.engines.rounds_of_engines.Goals as goal

pub rounds-requires-send-E : goal.rounds-requires-send-E
rounds-requires-send-E g c κs within = search (param_send, arg_send, engine)
