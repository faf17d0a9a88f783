use Rattle.std.proofs.Common.{◌≡◌, take, map}
use Rattle.loft_mutex.proofs.checks.module_names.Given as goal

-- the names so far
abbrev pub invariant-loop-module : goal.invariant-loop-module
invariant-loop-module l = l.names ≡ map (λ m. m.name) (take l.module-index l.module-items)
