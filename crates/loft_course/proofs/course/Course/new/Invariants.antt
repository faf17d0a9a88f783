use Rattle.std.proofs.Common.{◌≡◌, map}
use Rattle.std.specs.List.{range_with_len}
use Rattle.loft_course.proofs.course.Course.new.Given as goal

-- a 0 for each client so far
abbrev pub invariant-loop : goal.invariant-loop
invariant-loop g l = l.given.items ≡ map (λ _. 0) (range_with_len 0 l.counter)
