use Rattle.loft_turn_parts.proofs.TurnLemmas.{opened, shut, replay_given, replay_own}
use Rattle.loft_turn_parts.proofs.laws.turns_follow_their_entries.Goals as goal

pub returns-clause-own : goal.returns-clause-own
returns-clause-own c = replay_own

pub returns-clause-begins : goal.returns-clause-begins
returns-clause-begins c = opened

pub returns-clause-ends : goal.returns-clause-ends
returns-clause-ends c = shut

pub returns-clause-give : goal.returns-clause-give
returns-clause-give c = replay_given
