use Rattle.std.proofs.Common.{[], ◌∷◌, ◌++◌, ℤ, ap, sym, ◌∙◌, append-nil, rules}
use Rattle.std.specs.Int.{w64}
use Rattle.std.specs.Prelude.{FitsSigned}
use Rattle.std.proofs.lemmas.Int.{to_z-of_z}
use Rattle.loft_walk.proofs.Counts.{counts_step}
use Rattle.loft_walk.proofs.running.counts_in.Goals as goal
use Rattle.loft_walk.proofs.running.counts_in.Goals.{in-Turns+in_ok-push-in-Turns, in-Rest, in-Again}

pub loop-piece-preserved : goal.loop-piece-preserved
loop-piece-preserved c =
    elim c.match-piece.branch [
      | in-Turns+in_ok-push-in-Turns w ↦
          let fits : FitsSigned w64 w.in-Turns.count = search rules in
          counts_step _ _ _ _ _ _ c.loop-piece-test.true c.piece-item.is c.loop-piece.invariant w.in-Turns.is
          (w.counts-is ∙ (w.in_ok-push-in-Turns.ensures.ok ∙ ap (λ (n : ℤ). c.loop-piece.counts ++ n ∷ []) (to_z-of_z w64 w.in-Turns.count fits)))
      | in-Rest w ↦ counts_step _ _ _ _ _ _ c.loop-piece-test.true c.piece-item.is c.loop-piece.invariant w.in-Rest.is (w.counts-is ∙ sym (append-nil _))
      | in-Again w ↦ counts_step _ _ _ _ _ _ c.loop-piece-test.true c.piece-item.is c.loop-piece.invariant w.in-Again.is (w.counts-is ∙ sym (append-nil _))
    ]
