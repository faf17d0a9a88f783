use denote.Param.Send.{shr_send, mut_send}
use Rattle.std.proofs.Crossing as heap
use Rattle.loft_baton.proofs.baton.Baton.TheSendSync as baton
use Rattle.loft_sharing.proofs.Sharing.{code}
use Rattle.loft_phase.proofs.Crossing.{six_send}
use Rattle.loft_phase.proofs.phases.Actors.TheSendSync as actors
use Rattle.loft_host.proofs.round.all_go_on.Goals as goal

pub join_mut-done-requires-send-F : goal.join_mut-done-requires-send-F
join_mut-done-requires-send-F g c κs within = six_send 1 _ _ _ _ _ _ _ _ (shr_send _ _ _ c.type_bounds.sync-R) (shr_send _ _ _ heap.sync) (shr_send _ _ _ baton.the_sync) (shr_send _ _ _ code) (mut_send _ _ _ (actors.the_send _ _ c.type_bounds.send-E)) (shr_send _ _ _ c.type_bounds.sync-G)
