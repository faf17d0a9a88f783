use Rattle.std.proofs.Common.{arith, ◌∙◌, ap, sym, Ok, ◌≡◌}
use Rattle.std.proofs.lemmas.List.{length-map}
use Rattle.loft_lex.specs.Symbol.{symbols}
use Rattle.loft_form.specs.Reading.{read}
use Rattle.loft_grammar.specs.Statements.{rules}
use Rattle.loft_grammar.specs.Items.{program}
use Rattle.loft_grammar.specs.Limits.{limits, nesting, beginning}
use Rattle.loft_grammar.specs.View.{place_of, declarations_of}
use Rattle.loft_parse.proofs.Laws.{whole_fits}
use Rattle.loft_parse.proofs.source.program_of.Goals as goal

pub new-requires : goal.new-requires
new-requires c =
    let whole = rw c.new-at.ensures.place at (c.items-declarations.ensures.0 c.in-None.is).1 in
    let ts = c.requires.symbols.0 in
    let h : read rules limits nesting program (symbols c.args.text.now ts) beginning ≡ Ok (declarations_of c.items-declarations.result, place_of c.items-declarations.new.at.cursor) = ap (λ ss. read rules limits nesting program ss beginning) (sym c.requires.symbols.2) ∙ whole in
    whole_fits c.args.text.now ts c.requires.symbols.1 (declarations_of c.items-declarations.result) (place_of c.items-declarations.new.at.cursor) h (simp length-map (omega (arith, c.in-empty.len_below)))
