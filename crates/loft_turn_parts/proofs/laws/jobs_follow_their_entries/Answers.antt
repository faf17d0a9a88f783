use Rattle.loft_turn_parts.proofs.HandLemmas.{left_picked, busy_picked, left_posted, busy_posted}
use Rattle.loft_turn_parts.proofs.laws.jobs_follow_their_entries.Goals as goal

pub returns-clause-pick : goal.returns-clause-pick
returns-clause-pick c = λ x o w es job. (left_picked x o w es job, busy_picked w es job)

pub returns-clause-post : goal.returns-clause-post
returns-clause-post c = λ x o w es m rest is. (left_posted x o w es m rest is, busy_posted w es m)
