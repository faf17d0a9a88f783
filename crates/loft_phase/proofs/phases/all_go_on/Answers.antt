use denote.Param.Send.{shr_send, mut_slice_send}
use Rattle.std.proofs.Crossing as heap
use Rattle.loft_baton.proofs.baton.Baton.TheSendSync as baton
use Rattle.loft_sharing.proofs.Sharing.{code}
use Rattle.loft_station.proofs.station.Station.TheSendSync as station
use Rattle.loft_phase.proofs.Crossing.{six_send}
use Rattle.loft_phase.proofs.phases.all_go_on.Goals as goal

pub join_mut-requires-send-F : goal.join_mut-requires-send-F
join_mut-requires-send-F g c κs within = six_send 1 _ _ _ _ _ _ _ _ (shr_send _ _ _ c.type_bounds.sync-R) (shr_send _ _ _ heap.sync) (shr_send _ _ _ baton.the_sync) (shr_send _ _ _ code) (shr_send _ _ _ c.type_bounds.sync-G) (mut_slice_send _ _ _ (station.the_send _ _ c.type_bounds.send-E))
