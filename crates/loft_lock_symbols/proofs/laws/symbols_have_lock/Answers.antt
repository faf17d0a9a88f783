use Rattle.loft_lock_symbols.proofs.SpelledLocks.{symbols_have_lock}
use Rattle.loft_lock_symbols.proofs.laws.symbols_have_lock.Goals as goal

pub returns : goal.returns
returns c = symbols_have_lock
