use Rattle.std.proofs.Common.{◌≡◌, length}
use Rattle.loft_lex.specs.TextSymbols.{symbols_seen}
use Rattle.loft_lock_forms.proofs.NameLemmas.{first_long}
use Rattle.loft_lock_forms.proofs.names.long_name.Given as goal

-- the symbols that are left decide
abbrev pub invariant-loop-rest : goal.invariant-loop-rest
invariant-loop-rest l = first_long l.skip (symbols_seen l.rest) ≡ first_long 0 (symbols_seen l.symbols)

abbrev pub decreases-loop-rest : goal.decreases-loop-rest
decreases-loop-rest l = length l.rest
