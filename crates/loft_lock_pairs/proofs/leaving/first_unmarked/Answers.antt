use Rattle.std.proofs.Common.{◌≡◌, ℕ, inl, inr, List, sym, ap, subst, ◌∙◌, arith}
use Rattle.std.proofs.lemmas.Bool.{false≢true, cases_lt}
use Rattle.loft_tree.specs.declared.named.NamedStmt.{NamedStmt}
use Rattle.loft_tree.specs.NamedView.{statements_of}
use Rattle.loft_tree.specs.Resolved.{Body, body_of}
use Rattle.loft_lock_expansion.specs.Going.{body_goes}
use Rattle.loft_lock_pairs.specs.Leaving.{marked_in, bodies_of, IsUnmarked}
use Rattle.loft_lock_pairs.proofs.TurnLemmas.{as_many, body_is}
use Rattle.loft_lock_pairs.proofs.leaving.first_unmarked.Goals.{else-not-away-number-via-then-not-away-number+else-body_leaves, else-not-away-number-via-else-not-away-number}
use Rattle.loft_lock_pairs.proofs.leaving.first_unmarked.Goals as goal

pub returns-then-body_leaves-clause-some : goal.returns-then-body_leaves-clause-some
returns-then-body_leaves-clause-some c = record {
  there = omega (arith, c.loop-number-test.true, as_many c.args.modules.now);
  unmarked = c.if-not-away-number.true;
  goes = ap (λ (b : Body). body_goes (marked_in c.args.away.now) b) (body_is c.args.modules.now c.loop-number.number c.index-modules-number.result c.loop-number-test.true)
      ∙ (ap (λ (ss : List NamedStmt). body_goes (marked_in c.args.away.now) (body_of (statements_of ss))) (sym c.as_slice.ensures.value) ∙ (sym c.body_leaves.ensures ∙ c.if-body_leaves.true));
}

pub loop-number-preserved : goal.loop-number-preserved
loop-number-preserved c n less unmarked =
    let away = c.args.away.now in
    let modules = c.args.modules.now in
    elim (cases_lt n c.loop-number.number) [
      | inl before ↦ c.loop-number.invariant n before unmarked
      | inr after ↦
          let same : n ≡ c.loop-number.number = omega (arith, less, after) in
          let now : IsUnmarked c.args.away.now (bodies_of c.args.modules.now) c.loop-number.number = subst (λ (k : ℕ). IsUnmarked c.args.away.now (bodies_of c.args.modules.now) k) same unmarked in
          elim c.else-not-away-number.branch [
            | else-not-away-number-via-then-not-away-number+else-body_leaves w ↦
                false≢true (sym w.if-body_leaves.false ∙ (w.body_leaves.ensures
                ∙ (ap (λ (ss : List NamedStmt). body_goes (marked_in c.args.away.now) (body_of (statements_of ss))) w.as_slice.ensures.value
                ∙ (sym (ap (λ (b : Body). body_goes (marked_in c.args.away.now) b)
                (body_is c.args.modules.now c.loop-number.number w.index-modules-number.result c.loop-number-test.true)) ∙ now.goes))))
            | else-not-away-number-via-else-not-away-number w ↦ false≢true (sym now.unmarked ∙ w.if-not-away-number.false)
          ]
    ]
