use Rattle.std.proofs.Common.{◌∙◌, refl, ap, rules}
use Rattle.std.proofs.lemmas.Result.{err_from_is_err_and}
use Rattle.loft_lex.specs.declared.symbol.What.{What}
use Rattle.loft_lex.specs.Seen.{what_seen}
use Rattle.loft_grammar.specs.Language.{is_number, kind_of}
use Rattle.loft_grammar.specs.Symbols.{numeral, value_of}
use Rattle.loft_grammar.specs.View.{symbols_at, state_at}
use Rattle.loft_grammar.proofs.Leaves.{counting_is}
use Rattle.loft_grammar.proofs.Firsts.{no_symbol, stopped_counting, read_counting}
use Rattle.loft_grammar.proofs.token.numeral_at.Goals as goal

pub returns-in-empty : goal.returns-in-empty
returns-in-empty g c = counting_is _ c.args.what numeral (symbols_at c.args.at) (state_at c.args.at) ∙ no_symbol _ _ _ _ _ _ c.in-empty.len_below

pub returns-in_err-counts-in-Number : goal.returns-in_err-counts-in-Number
returns-in_err-counts-in-Number g c =
    let p = err_from_is_err_and c.from_residual.result c.from_residual.ensures.1 in
    stopped_counting _ c.args.what is_number (λ x. (x.at, value_of x.what)) c.args.at.symbols.now (state_at c.args.at) _ _ c.in_err-counts-in-Number.field-0.0 c.in-len1-up.len_at_least
    (ap (λ (w : What). is_number (kind_of (what_seen w))) c.in-Number.is) (rw (p.1, p.2) refl) c.in_err-counts-in-Number.ensures

pub returns-in_ok-counts-in-Number : goal.returns-in_ok-counts-in-Number
returns-in_ok-counts-in-Number g c = rw c.after.ensures
    (read_counting _ c.args.what is_number (λ x. (x.at, value_of x.what)) c.args.at.symbols.now (state_at c.args.at) _ _ c.in-len1-up.len_at_least
    (ap (λ (w : What). is_number (kind_of (what_seen w))) c.in-Number.is) c.in_ok-counts-in-Number.ensures ∙ search rules)
