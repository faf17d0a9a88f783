use Rattle.std.proofs.Common.{◌<◌, length}
use Rattle.std.proofs.lemmas.Option.{slice_get_within}
use Rattle.loft_line.proofs.NameLemmas.{not_named}
use Rattle.loft_line.proofs.slots.position.Goals as goal

pub search-requires : goal.search-requires
search-requires c = λ i r before at.
    let rs = c.args.slots.now in
    let inside : i < length rs = slice_get_within rs i r at in
    not_named c.args.finder.now rs c.args.thread i r c.requires at (c.in-Some.ensures i before inside)

pub returns-in-None : goal.returns-in-None
returns-in-None c = λ i r at.
    let rs = c.args.slots.now in
    let inside : i < length rs = slice_get_within rs i r at in
    not_named c.args.finder.now rs c.args.thread i r c.requires at (c.in-None.ensures i inside)
