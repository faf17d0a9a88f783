use Rattle.std.proofs.Common.{◌∙◌}
use Rattle.loft_grammar.proofs.Words.{same_word}
use Rattle.loft_grammar.proofs.symbol.is_word.Goals as goal

pub returns-in-Word : goal.returns-in-Word
returns-in-Word c = rw c.in-Word.is (c.eq.ensures ∙ same_word c.in-Word.found c.args.word)
