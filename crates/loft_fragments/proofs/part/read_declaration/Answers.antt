use Rattle.std.proofs.Common.{subst}
use Rattle.loft_lex.specs.TextSymbols.{symbols_seen, SymbolsOf}
use Rattle.loft_tree.specs.View.{declaration_of}
use Rattle.loft_form.specs.Reading.{Gives, read}
use Rattle.loft_grammar.specs.Statements.{rules}
use Rattle.loft_grammar.specs.Items.{item}
use Rattle.loft_grammar.specs.Limits.{limits, nesting, beginning}
use Rattle.loft_grammar.specs.View.{viewed}
use Rattle.loft_fragments.specs.Parts.{IsCut, outcome}
use Rattle.loft_tree.specs.Fits.{DeclarationFits}
use Rattle.loft_productions.proofs.Checked.{item_checked}
use Rattle.loft_fragments.proofs.PartLaws.{started, taken, part_read, part_only, part_fits}
use Rattle.loft_productions.proofs.fits.Items.{item_fits}
use Rattle.loft_fragments.proofs.part.read_declaration.Goals as goal

pub returns-in-Some-clause-read : goal.returns-in-Some-clause-read
returns-in-Some-clause-read c =
    let ss = symbols_seen c.as_slice.result.now in
    let of : SymbolsOf c.args.text.now ss = rw c.as_slice.ensures.value (subst (IsCut c.args.text.now) c.in-Some.is c.in_ok-found.ensures) in
    let gives : Gives (viewed declaration_of) (outcome c.item-part.new.at.stopped c.item-part.result c.item-part.new.at.cursor) (read rules limits nesting item ss beginning) = started declaration_of limits nesting item c.start-at.result.cursor ss (outcome c.item-part.new.at.stopped c.item-part.result c.item-part.new.at.cursor) c.start-at.ensures.symbols c.start-at.ensures.state (taken declaration_of c.start-at.result c.item-part.new.at c.item-part.result _ c.start-at.ensures.going c.item-part.ensures) in
    part_read item_checked limits c.args.text.now ss of declaration_of (outcome c.item-part.new.at.stopped c.item-part.result c.item-part.new.at.cursor) c.all_of.result gives c.all_of.ensures

pub returns-in-Some-clause-only : goal.returns-in-Some-clause-only
returns-in-Some-clause-only c =
    let ss = symbols_seen c.as_slice.result.now in
    let of : SymbolsOf c.args.text.now ss = rw c.as_slice.ensures.value (subst (IsCut c.args.text.now) c.in-Some.is c.in_ok-found.ensures) in
    let gives : Gives (viewed declaration_of) (outcome c.item-part.new.at.stopped c.item-part.result c.item-part.new.at.cursor) (read rules limits nesting item ss beginning) = started declaration_of limits nesting item c.start-at.result.cursor ss (outcome c.item-part.new.at.stopped c.item-part.result c.item-part.new.at.cursor) c.start-at.ensures.symbols c.start-at.ensures.state (taken declaration_of c.start-at.result c.item-part.new.at c.item-part.result _ c.start-at.ensures.going c.item-part.ensures) in
    λ x spells short. part_only item_checked limits c.args.text.now ss of declaration_of (outcome c.item-part.new.at.stopped c.item-part.result c.item-part.new.at.cursor) c.all_of.result gives c.all_of.ensures x spells

pub returns-in-Some-clause-fits : goal.returns-in-Some-clause-fits
returns-in-Some-clause-fits c = part_fits declaration_of limits item DeclarationFits c.args.text.now item_fits c.all_of.result (returns-in-Some-clause-read c)
