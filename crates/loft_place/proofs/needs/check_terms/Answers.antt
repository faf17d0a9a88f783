use Rattle.std.proofs.Common.{map, refl}
use Rattle.std.proofs.lemmas.Result.{err_from_is_err_and}
use Rattle.loft_tree.specs.NamedView.{term_of}
use Rattle.loft_place.specs.Links.{terms_needs, term_needs}
use Rattle.loft_place.proofs.NeedLemmas.{first_left, left_after, unmet_left}
use Rattle.loft_place.proofs.needs.check_terms.Goals as goal

pub returns-in_err-check_term : goal.returns-in_err-check_term
returns-in_err-check_term c =
    let p = err_from_is_err_and c.from_residual.result c.from_residual.ensures.1 in
    rw (p.1, p.2)
    (unmet_left _ _ _ _ c.in_err-check_term.field-0.0
    (first_left (λ ts. terms_needs c.args.heads.now c.args.here (map term_of ts)) (λ t. term_needs c.args.heads.now c.args.here (term_of t))
    c.args.terms.now c.loop-term.term-index c.term-item.result (λ t ts. refl) c.loop-term-test.true c.term-item.is)
    c.in_err-check_term.ensures c.loop-term.invariant)

pub loop-term-preserved : goal.loop-term-preserved
loop-term-preserved c =
    left_after _ _ _ _
    (first_left (λ ts. terms_needs c.args.heads.now c.args.here (map term_of ts)) (λ t. term_needs c.args.heads.now c.args.here (term_of t))
    c.args.terms.now c.loop-term.term-index c.term-item.result (λ t ts. refl) c.loop-term-test.true c.term-item.is)
    c.in_ok-check_term.ensures c.loop-term.invariant
