use Rattle.std.proofs.Common.{Bool, ap, sym, ◌∙◌}
use Rattle.std.specs.Prelude.{◌||◌, not}
use Rattle.std.specs.BTreeSet.{contains}
use Rattle.loft_finder.specs.declared.key.IdKey.{IdKey}
use Rattle.loft_finder.specs.Finder.{place_cmp}
use Rattle.loft_finder.specs.Keys.{id_key}
use Rattle.loft_finder.proofs.FirstLemmas.{none_listed, none_before}
use Rattle.loft_finder.proofs.finder.Finder.first.Goals as goal

pub returns-in-Some : goal.returns-in-Some
returns-in-Some c = λ i before below.
    let places = c.args.self.now.places in
    ap (λ (b : Bool). not b || contains place_cmp places (id_key c.args.thread, i)) c.if-not-self.false
    ∙ ap (λ (k : IdKey). contains place_cmp places (k, i)) (sym c.of-key.ensures)
    ∙ none_before c.of-key.result c.args.len places c.range-places.result c.in-Some.place.now c.next.new.self (c.range-places.ensures.in_range tt) c.in-Some.ensures.steps i before below

pub returns-in-None : goal.returns-in-None
returns-in-None c = λ i below.
    let places = c.args.self.now.places in
    ap (λ (b : Bool). not b || contains place_cmp places (id_key c.args.thread, i)) c.if-not-self.false
    ∙ ap (λ (k : IdKey). contains place_cmp places (k, i)) (sym c.of-key.ensures)
    ∙ none_listed c.of-key.result c.args.len places c.range-places.result (c.range-places.ensures.in_range tt) c.in-None.ensures.steps.0 i below
