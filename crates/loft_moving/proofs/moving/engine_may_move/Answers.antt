use denote.Param.Send.{param_send, arg_send}
use Rattle.loft_moving.proofs.Engines.{engine}
use Rattle.loft_moving.proofs.moving.engine_may_move.Goals as goal

pub may_move-requires-send-T : goal.may_move-requires-send-T
may_move-requires-send-T c κs = search (param_send, arg_send, engine)
