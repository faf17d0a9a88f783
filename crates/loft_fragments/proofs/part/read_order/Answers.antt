use Rattle.std.proofs.Common.{sym, subst}
use Rattle.loft_lex.specs.TextSymbols.{symbols_seen, SymbolsOf}
use Rattle.loft_tree.specs.View.{order_of}
use Rattle.loft_form.specs.Reading.{Gives, read}
use Rattle.loft_grammar.specs.Statements.{rules}
use Rattle.loft_grammar.specs.Items.{order}
use Rattle.loft_grammar.specs.Limits.{limits, nesting, beginning}
use Rattle.loft_grammar.specs.View.{viewed}
use Rattle.loft_fragments.specs.Parts.{IsCut, outcome}
use Rattle.loft_tree.specs.Fits.{OrderFits}
use Rattle.loft_productions.proofs.Flat.{flat_order}
use Rattle.loft_productions.proofs.Checked.{order_checked}
use Rattle.loft_fragments.proofs.PartLaws.{started, taken, part_read, part_only, part_fits}
use Rattle.loft_productions.proofs.fits.Items.{order_fits}
use Rattle.loft_fragments.proofs.part.read_order.Goals as goal

pub returns-in-Some-clause-read : goal.returns-in-Some-clause-read
returns-in-Some-clause-read c =
    let ss = symbols_seen c.as_slice.result.now in
    let of : SymbolsOf c.args.text.now ss = rw c.as_slice.ensures.value (subst (IsCut c.args.text.now) c.in-Some.is c.in_ok-found.ensures) in
    let gives : Gives (viewed order_of) (outcome c.order-part.new.at.stopped c.order-part.result c.order-part.new.at.cursor) (read rules limits nesting order ss beginning) = subst (Gives (viewed order_of) (outcome c.order-part.new.at.stopped c.order-part.result c.order-part.new.at.cursor)) (sym (flat_order ss beginning)) (started order_of limits 0 order c.start-at.result.cursor ss (outcome c.order-part.new.at.stopped c.order-part.result c.order-part.new.at.cursor) c.start-at.ensures.symbols c.start-at.ensures.state (taken order_of c.start-at.result c.order-part.new.at c.order-part.result _ c.start-at.ensures.going c.order-part.ensures)) in
    part_read order_checked limits c.args.text.now ss of order_of (outcome c.order-part.new.at.stopped c.order-part.result c.order-part.new.at.cursor) c.all_of.result gives c.all_of.ensures

pub returns-in-Some-clause-only : goal.returns-in-Some-clause-only
returns-in-Some-clause-only c =
    let ss = symbols_seen c.as_slice.result.now in
    let of : SymbolsOf c.args.text.now ss = rw c.as_slice.ensures.value (subst (IsCut c.args.text.now) c.in-Some.is c.in_ok-found.ensures) in
    let gives : Gives (viewed order_of) (outcome c.order-part.new.at.stopped c.order-part.result c.order-part.new.at.cursor) (read rules limits nesting order ss beginning) = subst (Gives (viewed order_of) (outcome c.order-part.new.at.stopped c.order-part.result c.order-part.new.at.cursor)) (sym (flat_order ss beginning)) (started order_of limits 0 order c.start-at.result.cursor ss (outcome c.order-part.new.at.stopped c.order-part.result c.order-part.new.at.cursor) c.start-at.ensures.symbols c.start-at.ensures.state (taken order_of c.start-at.result c.order-part.new.at c.order-part.result _ c.start-at.ensures.going c.order-part.ensures)) in
    λ x spells short. part_only order_checked limits c.args.text.now ss of order_of (outcome c.order-part.new.at.stopped c.order-part.result c.order-part.new.at.cursor) c.all_of.result gives c.all_of.ensures x spells

pub returns-in-Some-clause-fits : goal.returns-in-Some-clause-fits
returns-in-Some-clause-fits c = part_fits order_of limits order OrderFits c.args.text.now order_fits c.all_of.result (returns-in-Some-clause-read c)
