use Rattle.loft_soundness.proofs.NumberLemmas.{is_numbered}
use Rattle.loft_soundness.proofs.KeptLemmas.{frame_kept}
use Rattle.loft_soundness.proofs.LeftLemmas.{leaves_after}
use Rattle.loft_soundness.proofs.laws.stops_leave_what_comes_after.Goals as goal

pub returns-clause-after : goal.returns-clause-after
returns-clause-after c = leaves_after

pub returns-clause-numbered : goal.returns-clause-numbered
returns-clause-numbered c = is_numbered

pub returns-clause-kept : goal.returns-clause-kept
returns-clause-kept c = frame_kept
