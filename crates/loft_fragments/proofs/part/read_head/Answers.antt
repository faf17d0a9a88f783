use Rattle.std.proofs.Common.{sym, subst}
use Rattle.loft_lex.specs.TextSymbols.{symbols_seen, SymbolsOf}
use Rattle.loft_tree.specs.View.{head_of}
use Rattle.loft_form.specs.Reading.{Gives, read}
use Rattle.loft_grammar.specs.Statements.{rules}
use Rattle.loft_grammar.specs.Items.{head}
use Rattle.loft_grammar.specs.Limits.{limits, nesting, beginning}
use Rattle.loft_grammar.specs.View.{viewed}
use Rattle.loft_fragments.specs.Parts.{IsCut, outcome}
use Rattle.loft_grammar.specs.PartsFit.{HeadFits}
use Rattle.loft_productions.proofs.Flat.{flat_head}
use Rattle.loft_productions.proofs.Checked.{head_checked}
use Rattle.loft_fragments.proofs.PartLaws.{started, taken, part_read, part_only, part_fits}
use Rattle.loft_productions.proofs.fits.Items.{head_fits}
use Rattle.loft_fragments.proofs.part.read_head.Goals as goal

pub returns-in-Some-clause-read : goal.returns-in-Some-clause-read
returns-in-Some-clause-read c =
    let ss = symbols_seen c.as_slice.result.now in
    let of : SymbolsOf c.args.text.now ss = rw c.as_slice.ensures.value (subst (IsCut c.args.text.now) c.in-Some.is c.in_ok-found.ensures) in
    let gives : Gives (viewed head_of) (outcome c.head-part.new.at.stopped c.head-part.result c.head-part.new.at.cursor) (read rules limits nesting head ss beginning) = subst (Gives (viewed head_of) (outcome c.head-part.new.at.stopped c.head-part.result c.head-part.new.at.cursor)) (sym (flat_head ss beginning)) (started head_of limits 0 head c.start-at.result.cursor ss (outcome c.head-part.new.at.stopped c.head-part.result c.head-part.new.at.cursor) c.start-at.ensures.symbols c.start-at.ensures.state (taken head_of c.start-at.result c.head-part.new.at c.head-part.result _ c.start-at.ensures.going c.head-part.ensures)) in
    part_read head_checked limits c.args.text.now ss of head_of (outcome c.head-part.new.at.stopped c.head-part.result c.head-part.new.at.cursor) c.all_of.result gives c.all_of.ensures

pub returns-in-Some-clause-only : goal.returns-in-Some-clause-only
returns-in-Some-clause-only c =
    let ss = symbols_seen c.as_slice.result.now in
    let of : SymbolsOf c.args.text.now ss = rw c.as_slice.ensures.value (subst (IsCut c.args.text.now) c.in-Some.is c.in_ok-found.ensures) in
    let gives : Gives (viewed head_of) (outcome c.head-part.new.at.stopped c.head-part.result c.head-part.new.at.cursor) (read rules limits nesting head ss beginning) = subst (Gives (viewed head_of) (outcome c.head-part.new.at.stopped c.head-part.result c.head-part.new.at.cursor)) (sym (flat_head ss beginning)) (started head_of limits 0 head c.start-at.result.cursor ss (outcome c.head-part.new.at.stopped c.head-part.result c.head-part.new.at.cursor) c.start-at.ensures.symbols c.start-at.ensures.state (taken head_of c.start-at.result c.head-part.new.at c.head-part.result _ c.start-at.ensures.going c.head-part.ensures)) in
    λ x spells short. part_only head_checked limits c.args.text.now ss of head_of (outcome c.head-part.new.at.stopped c.head-part.result c.head-part.new.at.cursor) c.all_of.result gives c.all_of.ensures x spells

pub returns-in-Some-clause-fits : goal.returns-in-Some-clause-fits
returns-in-Some-clause-fits c = part_fits head_of limits head HeadFits c.args.text.now head_fits c.all_of.result (returns-in-Some-clause-read c)
