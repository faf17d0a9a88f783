use Rattle.std.proofs.Common.{ℕ, ◌<◌, map}
use Rattle.loft_code.specs.View.{lines_of}
use Rattle.loft_code.specs.Valid.{error_at, NoError}
use Rattle.loft_code.proofs.valid.check_modules.Given as goal

-- no module so far has an error
abbrev pub invariant-loop-number : goal.invariant-loop-number
invariant-loop-number l =
    (k : ℕ) → k < l.number → NoError (error_at (record { heads = l.heads; modules = map lines_of l.modules }) (record { 0 = k }))
