use Rattle.std.proofs.Common.{Option, ap, ◌∙◌}
use Rattle.loft_orders.specs.declared.thread.Wait.{Wait}
use Rattle.loft_line.specs.Line.{thread_with, runners_in, IsThreadAt}
use Rattle.loft_line.proofs.CopyLemmas.{copied}
use Rattle.loft_line.proofs.ListLemmas.{thread_there}
use Rattle.loft_line.proofs.line.Line.thread_at.Goals as goal

pub returns : goal.returns
returns c =
    let l = c.args.self.now in
    let x = c.index.result.now in
    copied c.copy_with.result (thread_with c.in_ok-wait.wait x.thread) (IsThreadAt c.args.pos (runners_in l)) c.copy_with.ensures
    (λ r h. ap (λ (w : Option Wait). thread_with w x.thread) c.in_ok-wait.ensures ∙ thread_there l.slots.items l.waits.waits c.args.pos x r c.requires.within c.index.ensures h)
