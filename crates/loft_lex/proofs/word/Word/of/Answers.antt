use Rattle.std.proofs.Common.{rules, ap, ◌∙◌, arith}
use Rattle.std.proofs.lemmas.List.{nil_from_length}
use Rattle.std.specs.List.{find}
use Rattle.std.specs.Str.{bytes_eq}
use Rattle.loft_lex.specs.Word.{spelling, words, word_of}
use Rattle.loft_lex.proofs.Beginning.{find_among, some_spelled}
use Rattle.loft_lex.proofs.word.Word.of.Goals as goal

pub returns-in-empty-clause-value : goal.returns-in-empty-clause-value
unfolding word_of
returns-in-empty-clause-value c = search (rules, nil_from_length c.args.bytes.now (omega arith))

pub returns-in-len1-up-clause-value : goal.returns-in-len1-up-clause-value
unfolding word_of
returns-in-len1-up-clause-value c =
    c.find_spelled.ensures
    ∙ ap (find (λ one. bytes_eq (spelling one) c.args.bytes.now)) c.beginning_with.ensures
    ∙ find_among spelling words c.args.bytes.now c.in-len1-up.len_at_least

pub returns-in-len1-up-clause-spelled : goal.returns-in-len1-up-clause-spelled
unfolding word_of
returns-in-len1-up-clause-spelled c = some_spelled spelling words c.args.bytes.now c.find_spelled.result (returns-in-len1-up-clause-value c)
