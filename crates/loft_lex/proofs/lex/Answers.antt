use Rattle.std.proofs.Common.{◌∙◌, refl, arith, ap}
use Rattle.loft_lex.specs.Front.{front_of}
use Rattle.loft_lex.specs.Scan.{kind_seen}
use Rattle.loft_lex.proofs.Steps.{at_start, at_gap, at_piece, at_fault, at_end}
use Rattle.loft_lex.proofs.Spans.{first_fault, all_fit, all_rise}
use Rattle.loft_lex.proofs.Readable.{all_readable}
use Rattle.loft_lex.proofs.lex.Goals as goal

pub loop-at-init : goal.loop-at-init
loop-at-init c = (omega arith, rw c.new-items.ensures.items (at_start c.args.text.now))

pub loop-at-preserved-in-Gap : goal.loop-at-preserved-in-Gap
loop-at-preserved-in-Gap c = (
  omega (arith, c.in-Gap.ensures.fits, c.split_at.ensures.back_len),
  at_gap c.loop-at.items.items c.args.text.now c.loop-at.at _ c.loop-at-test.true c.loop-at.invariant.1 c.in-Gap.more _ (c.in-Gap.ensures.front ∙ ap front_of c.split_at.ensures.back) refl,
)

pub loop-at-preserved : goal.loop-at-preserved
loop-at-preserved c = (
  omega (arith, c.in-Token.ensures.fits, c.split_at.ensures.back_len),
  rw (c.in_ok-push-in-Token.ensures.items, c.kind.ensures) (at_piece c.loop-at.items.items c.args.text.now c.loop-at.at _ c.loop-at-test.true c.loop-at.invariant.1 (kind_seen c.in-Token.piece) c.in-Token.more _ (c.in-Token.ensures.front ∙ ap front_of c.split_at.ensures.back) refl),
)

pub returns-in-Fault-clause-fault : goal.returns-in-Fault-clause-fault
returns-in-Fault-clause-fault c =
    let found = at_fault c.loop-at.items.items c.args.text.now c.loop-at.at _ c.loop-at-test.true c.loop-at.invariant.1 c.in-Fault.error (c.in-Fault.ensures.front ∙ ap front_of c.split_at.ensures.back) in
    rw c.moved_by.ensures (first_fault c.args.text.now _ found)

pub returns-clause-found : goal.returns-clause-found
returns-clause-found c = rw c.new.ensures (at_end c.loop-at.items.items c.args.text.now c.loop-at.at _ c.loop-at-test.false c.loop-at.invariant.1)

pub returns-clause-fits : goal.returns-clause-fits
returns-clause-fits c = all_fit c.args.text.now c.new.result (returns-clause-found c)

pub returns-clause-rising : goal.returns-clause-rising
returns-clause-rising c = all_rise c.args.text.now c.new.result (returns-clause-found c)

pub returns-clause-readable : goal.returns-clause-readable
returns-clause-readable c = all_readable c.args.text.now c.new.result (returns-clause-fits c)
