use Rattle.std.proofs.Common.{◌≡◌, ◌+◌, List, ◌∷◌, inr, drop, drop-cons, add-one, refl, sym, ap, subst, ◌∙◌}
use Rattle.std.proofs.lemmas.List.{drop_all}
use Rattle.loft_tree.specs.declared.heads.Heads.{Heads}
use Rattle.loft_tree.specs.declared.heads.Place.{Place}
use Rattle.loft_tree.specs.declared.named.NamedStmt.{NamedStmt}
use Rattle.loft_tree.specs.NamedTree.{NamedStatement, NamedStatements, Then}
use Rattle.loft_tree.specs.NamedView.{statement_of, statements_of}
use Rattle.loft_place.specs.Links.{GoesThrough, Goes, FaultIn}
use Rattle.loft_place.proofs.Rests.{BodyLeft}
use Rattle.loft_place.proofs.walk.+walk.Goals as goal

-- the thread has gone through one statement more
further : (h : Heads) (begin here there : Place) (whole left rest : NamedStatements) (first : NamedStatement) → left ≡ Then first rest
    → BodyLeft h begin whole here left → GoesThrough h here first there → BodyLeft h begin whole there rest
further h begin here there whole left rest first is body through = record {
  goes = λ q goes. body.goes q (subst (λ (ss : NamedStatements). Goes h here ss q) (sym is) (there, through, goes));
  faults = λ e fault. body.faults e (subst (λ (ss : NamedStatements). FaultIn h here ss e) (sym is) (inr (there, through, fault)));
}

pub walk_body-loop-statement-preserved : goal.walk_body-loop-statement-preserved
walk_body-loop-statement-preserved t c =
    let body = c.args.body.now in
    let i = c.loop-statement.statement-index in
    let split : drop i body ≡ c.statement-item.result ∷ drop (i + 1) body =
    drop-cons body i c.statement-item.result c.loop-statement-test.true ∙ rw (← c.statement-item.is, add-one) refl in
    further c.args.heads.now c.args.begin c.loop-statement.here c.in_ok-here.here (statements_of body) (statements_of (drop i body)) (statements_of (drop (i + 1) body))
    (statement_of c.statement-item.result) (ap statements_of split) c.loop-statement.invariant c.in_ok-here.ensures

pub walk_body-returns : goal.walk_body-returns
walk_body-returns t c =
    let here = c.loop-statement.here in
    c.loop-statement.invariant.goes here
    (subst (λ (l : List NamedStmt). Goes c.args.heads.now here (statements_of l) here)
    (sym (drop_all c.loop-statement.statement-index c.args.body.now c.loop-statement-test.false)) refl)
