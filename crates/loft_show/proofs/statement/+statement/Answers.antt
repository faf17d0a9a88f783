use Rattle.std.proofs.Common.{◌≡◌, ◌≤◌, ◌*◌, ap, get_or, arith}
use denote.Param.Weighed.{at_most, most}
use Rattle.loft_tree.proofs.statement.Stmt.TheLaws.{the_size}
use Rattle.loft_tree.specs.View.{statement_of, statements_of}
use Rattle.loft_show.specs.Canon.{body_lines, lines_text, statement_lines}
use Rattle.loft_show.proofs.Fitting.{statement_fits}
use Rattle.loft_show.proofs.Texts.{lines_text-append, one_more}
use Rattle.loft_show.proofs.statement.+statement.Goals as goal

pub put_body-put_statement-requires : goal.put_body-put_statement-requires
put_body-put_statement-requires t c =
    let lt = c.loop-statement-test.true in
    let no_deeper : the_size (get_or c.args.body.now c.loop-statement.statement-index c.statement-item.result) ≤ most the_size c.args.body.now = at_most the_size c.args.body.now c.loop-statement.statement-index c.statement-item.result lt in
    let same : the_size c.statement-item.result ≡ the_size (get_or c.args.body.now c.loop-statement.statement-index c.statement-item.result) = ap the_size c.statement-item.is in
    (omega arith, statement_fits c.args.body.now _ c.loop-statement.statement-index c.statement-item.result c.loop-statement-test.true c.statement-item.is c.requires)

pub put_body-loop-statement-preserved : goal.put_body-loop-statement-preserved
put_body-loop-statement-preserved t c = record {
  whole = λ w. c.loop-statement.invariant.whole (c.put_statement.ensures.before w);
  text = λ w. rw (c.put_statement.ensures.text w)
      (one_more (λ ss. lines_text (body_lines (statements_of ss) (2 * c.args.depth))) (λ s. lines_text (statement_lines (statement_of s) (2 * c.args.depth)))
      c.loop-statement.out.text.items c.args.body.now c.loop-statement.statement-index c.statement-item.result _
      (λ s ss. lines_text-append (statement_lines (statement_of s) (2 * c.args.depth)) (body_lines (statements_of ss) (2 * c.args.depth)))
      c.loop-statement-test.true c.statement-item.is (c.loop-statement.invariant.text (c.put_statement.ensures.before w)));
}
