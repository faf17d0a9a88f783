use Rattle.loft_arguments.specs.Words.{words_of}
use Rattle.loft_arguments.proofs.InRange.{command_range}
use Rattle.loft_arguments.proofs.command.read_words.Goals as goal

pub returns-clause-in_range : goal.returns-clause-in_range
returns-clause-in_range c = command_range (words_of c.args.words.now)
