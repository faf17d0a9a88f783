use Rattle.std.proofs.Common.{◌∙◌, [], ◌∷◌, ◌++◌, refl, arith, ap}
use Rattle.loft_lex.specs.Front.{front_of}
use Rattle.loft_lex.specs.Scan.{kind_seen}
use Rattle.loft_lex.proofs.SymbolsRead.{one_more}
use Rattle.loft_lex.proofs.Steps.{token, at_start, at_gap, at_piece, at_fault, at_end}
use Rattle.loft_lex.proofs.Spans.{first_fault}
use Rattle.loft_lex.proofs.reading.read_symbols.Goals as goal

pub loop-at-init : goal.loop-at-init
loop-at-init c = (omega arith, ([], at_start c.args.text.now, rw c.new-found.ensures.items refl))

pub loop-at-preserved-in-Gap : goal.loop-at-preserved-in-Gap
loop-at-preserved-in-Gap c =
    let ts = c.loop-at.invariant.1.0 in (
      omega (arith, c.in-Gap.ensures.fits, c.split_at.ensures.back_len),
      (ts, at_gap ts c.args.text.now c.loop-at.at _ c.loop-at-test.true c.loop-at.invariant.1.1 c.in-Gap.more _ (c.in-Gap.ensures.front ∙ ap front_of c.split_at.ensures.back) refl, c.loop-at.invariant.1.2),
    )

pub loop-at-preserved : goal.loop-at-preserved
loop-at-preserved c =
    let ts = c.loop-at.invariant.1.0 in
    let kind = kind_seen c.in-Token.piece in
    let more = c.in-Token.more in (
      omega (arith, c.in-Token.ensures.fits, c.split_at.ensures.back_len),
      (
        ts ++ token kind c.loop-at.at _ ∷ [],
        at_piece ts c.args.text.now c.loop-at.at _ c.loop-at-test.true c.loop-at.invariant.1.1 kind more _ (c.in-Token.ensures.front ∙ ap front_of c.split_at.ensures.back) refl,
        rw c.in_ok-push-in-Token.ensures.items (one_more c.args.text.now c.loop-at.found.items ts c.what.result kind c.loop-at.at more c.loop-at.invariant.1.2 (rw (c.what.ensures, c.split_at-in-Token.ensures.front, ← c.split_at.ensures.back) c.in-Token.ensures.readable)),
      ),
    )

pub returns-in-Fault-clause-fault : goal.returns-in-Fault-clause-fault
returns-in-Fault-clause-fault c =
    let ts = c.loop-at.invariant.1.0 in
    let found = at_fault ts c.args.text.now c.loop-at.at _ c.loop-at-test.true c.loop-at.invariant.1.1 c.in-Fault.error (c.in-Fault.ensures.front ∙ ap front_of c.split_at.ensures.back) in
    rw c.moved_by.ensures (first_fault c.args.text.now _ found)

pub returns-clause-found : goal.returns-clause-found
returns-clause-found c =
    let ts = c.loop-at.invariant.1.0 in
    (ts, at_end ts c.args.text.now c.loop-at.at _ c.loop-at-test.false c.loop-at.invariant.1.1, c.loop-at.invariant.1.2)
