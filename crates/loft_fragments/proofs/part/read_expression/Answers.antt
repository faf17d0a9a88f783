use Rattle.std.proofs.Common.{subst}
use Rattle.loft_lex.specs.TextSymbols.{symbols_seen, SymbolsOf}
use Rattle.loft_tree.specs.View.{expression_of}
use Rattle.loft_form.specs.Reading.{Gives, read}
use Rattle.loft_grammar.specs.Expressions.{whole}
use Rattle.loft_grammar.specs.Statements.{rules}
use Rattle.loft_grammar.specs.Limits.{limits, nesting, beginning}
use Rattle.loft_grammar.specs.View.{viewed}
use Rattle.loft_fragments.specs.Parts.{IsCut, outcome}
use Rattle.loft_tree.specs.Fits.{ExpressionFits}
use Rattle.loft_productions.proofs.Checked.{whole_checked}
use Rattle.loft_fragments.proofs.PartLaws.{started, taken, part_read, part_only, part_fits}
use Rattle.loft_productions.proofs.fits.Expressions.{whole_fits}
use Rattle.loft_productions.proofs.fits.Parts.{limited}
use Rattle.loft_grammar.specs.declared.counts.Counted.TheVariants.{Operand}
use Rattle.loft_fragments.proofs.part.read_expression.Goals as goal

pub returns-in-Some-clause-read : goal.returns-in-Some-clause-read
returns-in-Some-clause-read c =
    let ss = symbols_seen c.as_slice.result.now in
    let of : SymbolsOf c.args.text.now ss = rw c.as_slice.ensures.value (subst (IsCut c.args.text.now) c.in-Some.is c.in_ok-found.ensures) in
    let gives : Gives (viewed expression_of) (outcome c.whole-part.new.at.stopped c.whole-part.result c.whole-part.new.at.cursor) (read rules limits nesting whole ss beginning) = started expression_of limits nesting whole c.start-at.result.cursor ss (outcome c.whole-part.new.at.stopped c.whole-part.result c.whole-part.new.at.cursor) c.start-at.ensures.symbols c.start-at.ensures.state (taken expression_of c.start-at.result c.whole-part.new.at c.whole-part.result _ c.start-at.ensures.going c.whole-part.ensures) in
    part_read whole_checked limits c.args.text.now ss of expression_of (outcome c.whole-part.new.at.stopped c.whole-part.result c.whole-part.new.at.cursor) c.all_of.result gives c.all_of.ensures

pub returns-in-Some-clause-only : goal.returns-in-Some-clause-only
returns-in-Some-clause-only c =
    let ss = symbols_seen c.as_slice.result.now in
    let of : SymbolsOf c.args.text.now ss = rw c.as_slice.ensures.value (subst (IsCut c.args.text.now) c.in-Some.is c.in_ok-found.ensures) in
    let gives : Gives (viewed expression_of) (outcome c.whole-part.new.at.stopped c.whole-part.result c.whole-part.new.at.cursor) (read rules limits nesting whole ss beginning) = started expression_of limits nesting whole c.start-at.result.cursor ss (outcome c.whole-part.new.at.stopped c.whole-part.result c.whole-part.new.at.cursor) c.start-at.ensures.symbols c.start-at.ensures.state (taken expression_of c.start-at.result c.whole-part.new.at c.whole-part.result _ c.start-at.ensures.going c.whole-part.ensures) in
    λ x spells short. part_only whole_checked limits c.args.text.now ss of expression_of (outcome c.whole-part.new.at.stopped c.whole-part.result c.whole-part.new.at.cursor) c.all_of.result gives c.all_of.ensures x spells

pub returns-in-Some-clause-fits : goal.returns-in-Some-clause-fits
returns-in-Some-clause-fits c = part_fits expression_of limits whole (ExpressionFits nesting) c.args.text.now (whole_fits (limited Operand) nesting) c.all_of.result (returns-in-Some-clause-read c)
