use Rattle.std.proofs.Common.{subst}
use Rattle.loft_lex.specs.TextSymbols.{symbols_seen, SymbolsOf}
use Rattle.loft_parse.specs.Parsing.{Answers}
use Rattle.loft_parse.proofs.Located.{spelled_is}
use Rattle.loft_parse.proofs.source.parse_short.Goals as goal

pub returns-in-Ok : goal.returns-in-Ok
returns-in-Ok c =
    let of : SymbolsOf c.args.text.now (symbols_seen c.as_slice.result.now) = rw c.as_slice.ensures.value c.in-Ok.ensures.found in
    subst (Answers c.program_of.result) (spelled_is c.args.text.now (symbols_seen c.as_slice.result.now) of) c.program_of.ensures
