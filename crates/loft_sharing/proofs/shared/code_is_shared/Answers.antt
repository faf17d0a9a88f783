use denote.Param.Send.{sendable}
use Rattle.loft_sharing.proofs.Sharing.{code}
use Rattle.loft_sharing.proofs.shared.code_is_shared.Goals as goal

pub is_shared-requires-sync-T : goal.is_shared-requires-sync-T
is_shared-requires-sync-T c κs = search (sendable, code)
