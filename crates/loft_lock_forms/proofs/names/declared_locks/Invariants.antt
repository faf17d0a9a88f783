use Rattle.std.proofs.Common.{◌≡◌, ◌++◌, length}
use Rattle.loft_lex.specs.TextSymbols.{symbols_seen}
use Rattle.loft_lock_forms.specs.Rewriting.{forms}
use Rattle.loft_lock_forms.specs.Seen.{whats, names_seen, locks_of}
use Rattle.loft_lock_forms.proofs.names.declared_locks.Given as goal

-- the locks so far, and those that are left
abbrev pub invariant-loop-rest : goal.invariant-loop-rest
invariant-loop-rest l = names_seen l.locks.items ++ locks_of (forms l.skip (whats (symbols_seen l.rest))) ≡ locks_of (forms 0 (whats (symbols_seen l.symbols)))

abbrev pub decreases-loop-rest : goal.decreases-loop-rest
decreases-loop-rest l = length l.rest
