use Rattle.std.proofs.Common.{List, ap, ◌∙◌, map, sym}
use Rattle.std.specs.Prelude.{filter}
use Rattle.loft_tree.specs.declared.heads.SharedHead.{SharedHead}
use Rattle.loft_tree.specs.Ranks.{is_at}
use Rattle.loft_waits.specs.Told.{Told}
use Rattle.loft_line_engine.proofs.StateLemmas.{first_so, nobody_quiet}
use Rattle.loft_line_engine.proofs.state.State.first.Goals as goal

pub returns-clause-machine : goal.returns-clause-machine
returns-clause-machine c =
    first_so c.args.heads.now c.args.scheduler _ _ _ _ c.in_ok-line.ensures.linked
    (c.in_ok-shared.ensures ∙ ap (λ (l : List SharedHead). map (λ (x : SharedHead). x.value) (filter (is_at c.args.scheduler) l)) c.as_slice.ensures)
    c.new-4.ensures c.first_tally.ensures

pub returns-clause-closed : goal.returns-clause-closed
returns-clause-closed c = record {
  idle = c.in_ok-line.ensures.idle;
  quiet = nobody_quiet c.in_ok-line.line.waits (ap (λ (t : Told). t.waits) c.in_ok-line.ensures.told);
  counts = ap (λ (t : Told). t.counts) c.in_ok-line.ensures.told;
  ended = ap (λ (t : Told). t.ended) c.in_ok-line.ensures.told ∙ sym c.new-4.ensures;
  closes_are = ap (λ (t : Told). t.closes) c.in_ok-line.ensures.told;
  budget_is = c.in_ok-line.ensures.budget;
  no_event = c.in_ok-board.ensures;
}
