use Rattle.std.proofs.Common.{◌≡◌, [], sym, subst}
use Rattle.crossbeam_queue.specs.Passes.{ruled_capacity}
use Rattle.crossbeam_queue.specs.Fifo.{Pushes, Learns}
use Rattle.loft_baton.specs.declared.knows.Knows.{Knows}
use Rattle.loft_baton.specs.Knowing.{begun, fresh}
use Rattle.loft_baton.specs.Rule.{Kept}
use Rattle.loft_baton.proofs.Moves.{begins, untaken}
use Rattle.loft_baton.proofs.baton.begin.Goals as goal

pub push_as-requires-clause-rule : goal.push_as-requires-clause-rule
push_as-requires-clause-rule g c =
    let number = c.args.inner.id in
    let code = g.J.Argument.code in (
      subst (λ (v : Knows). Pushes Kept (ruled_capacity c.args.queue) number v c.args.world (λ w. w ≡ begun code)) (sym c.requires.queue.1)
          (subst (λ o. Pushes Kept (ruled_capacity c.args.queue) number fresh c.args.world (λ w. w ≡ begun o)) (sym c.requires.name)
          (begins _ number c.args.c.now c.args.world c.requires.empty)),
      subst (λ (v : Knows). Learns Kept number v (λ items. items ≡ [])) (sym c.requires.queue.1) (untaken number),
    )
