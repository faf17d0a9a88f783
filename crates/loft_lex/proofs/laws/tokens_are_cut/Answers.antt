use Rattle.loft_lex.proofs.Readings.{found_is_cut}
use Rattle.loft_lex.proofs.laws.tokens_are_cut.Goals as goal

pub returns : goal.returns
returns c = found_is_cut
