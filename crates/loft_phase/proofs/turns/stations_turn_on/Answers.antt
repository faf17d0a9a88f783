use denote.Param.Send.{shr_sync}
use Rattle.std.proofs.Crossing as heap
use Rattle.loft_baton.proofs.baton.Baton.TheSendSync as baton
use Rattle.loft_sharing.proofs.Sharing.{code}
use Rattle.loft_phase.proofs.Crossing.{five_sync}
use Rattle.loft_phase.proofs.turns.stations_turn_on.Goals as goal

pub for_each_mut-requires-sync-F : goal.for_each_mut-requires-sync-F
for_each_mut-requires-sync-F g c κs within = five_sync 2 _ _ _ _ _ _ _ (shr_sync _ _ _ c.type_bounds.sync-R) (shr_sync _ _ _ heap.sync) (shr_sync _ _ _ baton.the_sync) (shr_sync _ _ _ code) (shr_sync _ _ _ c.type_bounds.sync-G)
