use denote.Param.Send.{param_send, arg_send}
use Rattle.loft_moving.proofs.Engines.{engine}
use Rattle.loft_run.proofs.run.run_engines.Goals as goal

pub run_all-requires-send-E : goal.run_all-requires-send-E
run_all-requires-send-E g c κs within = search (param_send, arg_send, engine)
