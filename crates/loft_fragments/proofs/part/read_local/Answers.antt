use Rattle.std.proofs.Common.{sym, subst}
use Rattle.loft_lex.specs.TextSymbols.{symbols_seen, SymbolsOf}
use Rattle.loft_tree.specs.View.{named_of}
use Rattle.loft_form.specs.Reading.{Gives, read}
use Rattle.loft_grammar.specs.Statements.{rules}
use Rattle.loft_grammar.specs.Items.{local}
use Rattle.loft_grammar.specs.Limits.{limits, nesting, beginning}
use Rattle.loft_grammar.specs.View.{viewed}
use Rattle.loft_fragments.specs.Parts.{IsCut, outcome}
use Rattle.loft_grammar.specs.PartsFit.{NamedFits}
use Rattle.loft_productions.proofs.Flat.{flat_local}
use Rattle.loft_productions.proofs.Checked.{local_checked}
use Rattle.loft_fragments.proofs.PartLaws.{started, taken, part_read, part_only, part_fits}
use Rattle.loft_productions.proofs.fits.Items.{local_fits}
use Rattle.loft_fragments.proofs.part.read_local.Goals as goal

pub returns-in-Some-clause-read : goal.returns-in-Some-clause-read
returns-in-Some-clause-read c =
    let ss = symbols_seen c.as_slice.result.now in
    let of : SymbolsOf c.args.text.now ss = rw c.as_slice.ensures.value (subst (IsCut c.args.text.now) c.in-Some.is c.in_ok-found.ensures) in
    let gives : Gives (viewed named_of) (outcome c.local-part.new.at.stopped c.local-part.result c.local-part.new.at.cursor) (read rules limits nesting local ss beginning) = subst (Gives (viewed named_of) (outcome c.local-part.new.at.stopped c.local-part.result c.local-part.new.at.cursor)) (sym (flat_local ss beginning)) (started named_of limits 0 local c.start-at.result.cursor ss (outcome c.local-part.new.at.stopped c.local-part.result c.local-part.new.at.cursor) c.start-at.ensures.symbols c.start-at.ensures.state (taken named_of c.start-at.result c.local-part.new.at c.local-part.result _ c.start-at.ensures.going c.local-part.ensures)) in
    part_read local_checked limits c.args.text.now ss of named_of (outcome c.local-part.new.at.stopped c.local-part.result c.local-part.new.at.cursor) c.all_of.result gives c.all_of.ensures

pub returns-in-Some-clause-only : goal.returns-in-Some-clause-only
returns-in-Some-clause-only c =
    let ss = symbols_seen c.as_slice.result.now in
    let of : SymbolsOf c.args.text.now ss = rw c.as_slice.ensures.value (subst (IsCut c.args.text.now) c.in-Some.is c.in_ok-found.ensures) in
    let gives : Gives (viewed named_of) (outcome c.local-part.new.at.stopped c.local-part.result c.local-part.new.at.cursor) (read rules limits nesting local ss beginning) = subst (Gives (viewed named_of) (outcome c.local-part.new.at.stopped c.local-part.result c.local-part.new.at.cursor)) (sym (flat_local ss beginning)) (started named_of limits 0 local c.start-at.result.cursor ss (outcome c.local-part.new.at.stopped c.local-part.result c.local-part.new.at.cursor) c.start-at.ensures.symbols c.start-at.ensures.state (taken named_of c.start-at.result c.local-part.new.at c.local-part.result _ c.start-at.ensures.going c.local-part.ensures)) in
    λ x spells short. part_only local_checked limits c.args.text.now ss of named_of (outcome c.local-part.new.at.stopped c.local-part.result c.local-part.new.at.cursor) c.all_of.result gives c.all_of.ensures x spells

pub returns-in-Some-clause-fits : goal.returns-in-Some-clause-fits
returns-in-Some-clause-fits c = part_fits named_of limits local NamedFits c.args.text.now local_fits c.all_of.result (returns-in-Some-clause-read c)
