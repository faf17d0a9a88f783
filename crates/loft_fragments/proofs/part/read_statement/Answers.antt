use Rattle.std.proofs.Common.{subst}
use Rattle.loft_lex.specs.TextSymbols.{symbols_seen, SymbolsOf}
use Rattle.loft_tree.specs.View.{statement_of}
use Rattle.loft_form.specs.Reading.{Gives, read}
use Rattle.loft_grammar.specs.Statements.{rules, statement}
use Rattle.loft_grammar.specs.Limits.{line_limits, nesting, beginning}
use Rattle.loft_grammar.specs.View.{viewed}
use Rattle.loft_fragments.specs.Parts.{IsCut, outcome}
use Rattle.loft_grammar.specs.PartsFit.{LineFits}
use Rattle.loft_productions.proofs.Checked.{statement_checked}
use Rattle.loft_fragments.proofs.PartLaws.{started, taken, part_read, part_only, part_fits}
use Rattle.loft_productions.proofs.fits.Lines.{line_fits}
use Rattle.loft_fragments.proofs.part.read_statement.Goals as goal

pub returns-in-Some-clause-read : goal.returns-in-Some-clause-read
returns-in-Some-clause-read c =
    let ss = symbols_seen c.as_slice.result.now in
    let of : SymbolsOf c.args.text.now ss = rw c.as_slice.ensures.value (subst (IsCut c.args.text.now) c.in-Some.is c.in_ok-found.ensures) in
    let gives : Gives (viewed statement_of) (outcome c.statement-part.new.at.stopped c.statement-part.result c.statement-part.new.at.cursor) (read rules line_limits nesting statement ss beginning) = started statement_of line_limits nesting statement c.start-at.result.cursor ss (outcome c.statement-part.new.at.stopped c.statement-part.result c.statement-part.new.at.cursor) c.start-at.ensures.symbols c.start-at.ensures.state (taken statement_of c.start-at.result c.statement-part.new.at c.statement-part.result _ c.start-at.ensures.going c.statement-part.ensures) in
    part_read statement_checked line_limits c.args.text.now ss of statement_of (outcome c.statement-part.new.at.stopped c.statement-part.result c.statement-part.new.at.cursor) c.all_of.result gives c.all_of.ensures

pub returns-in-Some-clause-only : goal.returns-in-Some-clause-only
returns-in-Some-clause-only c =
    let ss = symbols_seen c.as_slice.result.now in
    let of : SymbolsOf c.args.text.now ss = rw c.as_slice.ensures.value (subst (IsCut c.args.text.now) c.in-Some.is c.in_ok-found.ensures) in
    let gives : Gives (viewed statement_of) (outcome c.statement-part.new.at.stopped c.statement-part.result c.statement-part.new.at.cursor) (read rules line_limits nesting statement ss beginning) = started statement_of line_limits nesting statement c.start-at.result.cursor ss (outcome c.statement-part.new.at.stopped c.statement-part.result c.statement-part.new.at.cursor) c.start-at.ensures.symbols c.start-at.ensures.state (taken statement_of c.start-at.result c.statement-part.new.at c.statement-part.result _ c.start-at.ensures.going c.statement-part.ensures) in
    λ x spells short. part_only statement_checked line_limits c.args.text.now ss of statement_of (outcome c.statement-part.new.at.stopped c.statement-part.result c.statement-part.new.at.cursor) c.all_of.result gives c.all_of.ensures x spells

pub returns-in-Some-clause-fits : goal.returns-in-Some-clause-fits
returns-in-Some-clause-fits c = part_fits statement_of line_limits statement LineFits c.args.text.now line_fits c.all_of.result (returns-in-Some-clause-read c)
