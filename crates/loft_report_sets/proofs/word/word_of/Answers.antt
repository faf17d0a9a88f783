use Rattle.std.proofs.Common.{rules, ap, ◌∙◌, arith}
use Rattle.std.proofs.lemmas.List.{nil_from_length}
use Rattle.std.specs.List.{find}
use Rattle.std.specs.Str.{bytes_eq}
use Rattle.loft_lex.proofs.Beginning.{find_among}
use Rattle.loft_report_shape.specs.Word.{spelling, all_words, word_of}
use Rattle.loft_report_sets.proofs.word.word_of.Goals as goal

pub returns-in-empty : goal.returns-in-empty
unfolding word_of
returns-in-empty c = search (rules, nil_from_length c.args.bytes.now (omega arith))

pub returns-in-len1-up : goal.returns-in-len1-up
unfolding word_of
returns-in-len1-up c =
    c.find_spelled.ensures
    ∙ ap (find (λ one. bytes_eq (spelling one) c.args.bytes.now)) c.beginning_with.ensures
    ∙ find_among spelling all_words c.args.bytes.now c.in-len1-up.len_at_least
