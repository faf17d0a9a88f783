use Rattle.loft_turn_parts.proofs.ClientLemmas.{left_by_entries}
use Rattle.loft_turn_parts.proofs.laws.orders_follow_their_entries.Goals as goal

pub returns : goal.returns
returns c = left_by_entries
