use Rattle.std.proofs.Common.{drop, map}
use Rattle.loft_tree.specs.NamedView.{term_of}
use Rattle.loft_place.specs.Links.{terms_needs}
use Rattle.loft_place.proofs.Rests.{NeedsLeft}
use Rattle.loft_place.proofs.needs.check_terms.Given as goal

-- the expressions that are left decide
abbrev pub invariant-loop-term : goal.invariant-loop-term
invariant-loop-term l =
    NeedsLeft (terms_needs l.heads l.here (map term_of (drop l.term-index l.terms))) (terms_needs l.heads l.here (map term_of l.terms))
