use Rattle.std.proofs.Common.{sym, refl}
use Rattle.std.proofs.lemmas.Result.{err_from_is_err_and}
use Rattle.loft_grammar.proofs.Firsts.{no_symbol, refused, nested, stopped, read_first}
use Rattle.loft_grammar.proofs.token.word_at.Goals as goal

pub returns-in-empty-clause-gives : goal.returns-in-empty-clause-gives
returns-in-empty-clause-gives g c = no_symbol _ _ _ _ _ _ c.in-empty.len_below

pub returns-then-not-is_word-clause-gives : goal.returns-then-not-is_word-clause-gives
returns-then-not-is_word-clause-gives g c = refused _ _ _ _ _ _ _ c.in-len1-up.len_at_least (sym c.if-not-is_word.ensures)

pub returns-then-too_deep-clause-gives : goal.returns-then-too_deep-clause-gives
returns-then-too_deep-clause-gives g c = rw c.if-too_deep.true (nested _ _ _ _ _ _ c.in-len1-up.len_at_least (sym c.if-not-is_word.ensures))

pub returns-in_err-counts-in-len1-up-clause-gives : goal.returns-in_err-counts-in-len1-up-clause-gives
returns-in_err-counts-in-len1-up-clause-gives g c =
    let p = err_from_is_err_and c.from_residual.result c.from_residual.ensures.1 in
    stopped _ _ _ _ _ _ _ _ c.in_err-counts-in-len1-up.field-0.0 c.in-len1-up.len_at_least (sym c.if-not-is_word.ensures) c.if-too_deep.false
    (rw (p.1, p.2) refl) c.in_err-counts-in-len1-up.ensures

pub returns-in_ok-counts-in-len1-up-clause-gives : goal.returns-in_ok-counts-in-len1-up-clause-gives
returns-in_ok-counts-in-len1-up-clause-gives g c = rw c.after.ensures
    (read_first _ _ _ _ _ _ _ _ c.in-len1-up.len_at_least (sym c.if-not-is_word.ensures) c.if-too_deep.false c.in_ok-counts-in-len1-up.ensures)
