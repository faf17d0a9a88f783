use Rattle.loft_parse.proofs.LimitLaws.{some, one, one_stop, never_both, within, expected, too_deep, too_many, at_once}
use Rattle.loft_parse.proofs.law.limits_come_before_stops.Goals as goal

pub returns-clause-some : goal.returns-clause-some
returns-clause-some c = some

pub returns-clause-one : goal.returns-clause-one
returns-clause-one c = one

pub returns-clause-one_stop : goal.returns-clause-one_stop
returns-clause-one_stop c = one_stop

pub returns-clause-never_both : goal.returns-clause-never_both
returns-clause-never_both c = never_both

pub returns-clause-within : goal.returns-clause-within
returns-clause-within c = within

pub returns-clause-expected : goal.returns-clause-expected
returns-clause-expected c = expected

pub returns-clause-too_deep : goal.returns-clause-too_deep
returns-clause-too_deep c = too_deep

pub returns-clause-too_many : goal.returns-clause-too_many
returns-clause-too_many c = too_many

pub returns-clause-at_once : goal.returns-clause-at_once
returns-clause-at_once c = at_once
