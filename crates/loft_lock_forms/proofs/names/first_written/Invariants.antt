use Rattle.std.proofs.Common.{◌≡◌, drop}
use Rattle.loft_lex.specs.TextSymbols.{symbols_seen}
use Rattle.loft_lock_forms.specs.Seen.{first_one}
use Rattle.loft_lock_forms.proofs.names.first_written.Given as goal

-- the symbols that are left decide
abbrev pub invariant-loop-symbol : goal.invariant-loop-symbol
invariant-loop-symbol l = first_one l.locks (symbols_seen (drop l.symbol-index l.symbols)) ≡ first_one l.locks (symbols_seen l.symbols)
