use Rattle.std.proofs.Common.{sym, arith}
use Rattle.std.specs.Prelude.{string_bytes}
use Rattle.std.proofs.lemmas.List.{length-map}
use Rattle.loft_arguments.specs.Words.{words_of}
use Rattle.loft_arguments.specs.Parts.{parts_of}
use Rattle.loft_arguments.proofs.ThreeWords.{three_words}
use Rattle.loft_arguments.proofs.parts.Parts.with_plains.Goals as goal

pub returns-in-len3-up : goal.returns-in-len3-up
returns-in-len3-up c = sym (three_words (parts_of c.args.self) (words_of c.args.words.now) (omega (arith, c.in-len3-up.len_at_least, length-map c.args.words.now string_bytes)))
