use Rattle.std.proofs.Common.{refl, sym, arith}
use Rattle.loft_tree.specs.View.{statement_of}
use Rattle.loft_grammar.specs.Statements.{statement, value_statement, event_statement, thread_statement, moving_statement, assignment, print, create, generate, await_event, select, choices, choice, get, broadcast, cooperate, join, control, run, halt, link, unlink, conditional, while_loop, repeat, body}
use Rattle.loft_grammar.specs.View.{statement_list_of}
use Rattle.loft_productions.proofs.Taking.{more_listed, fewer_left, all_listed, appended}
use Rattle.loft_productions.proofs.body.+statement.Goals as goal

pub body-all-preserved : goal.body-all-preserved
unfolding statement value_statement event_statement thread_statement moving_statement assignment print create generate await_event select choices choice get broadcast cooperate join control run halt link unlink conditional while_loop repeat body
body-all-preserved g t c =
    more_listed g.L.Limited.limits c.args.deeper statement (statement_list_of c.all.statements) c.args.at.now c.all.at _ (c.all-test.ensures.going refl) c.all.invariant (omega arith)
    (statement_of c.statement-one.result) c.statement-one.new.at c.push.new.self (statement_list_of c.push.new.all) (sym c.if-next_statement.ensures) c.statement-one.ensures
    (λ h. let p = c.push.ensures.item h in (p.0, appended statement_of c.all.statements.items c.push.new.all.items c.statement-one.result p.1)) c.push.ensures.fault c.push.ensures.cursor

pub body-all-smaller : goal.body-all-smaller
unfolding statement value_statement event_statement thread_statement moving_statement assignment print create generate await_event select choices choice get broadcast cooperate join control run halt link unlink conditional while_loop repeat body
body-all-smaller g t c =
    fewer_left g.L.Limited.limits c.args.deeper statement c.all.at c.statement-one.new.at c.push.new.self (statement_of c.statement-one.result) (c.all-test.ensures.going refl) (omega arith) c.statement-one.ensures
    (λ h. (c.push.ensures.item h).0) c.push.ensures.cursor

pub body-returns-else-next_statement : goal.body-returns-else-next_statement
unfolding statement value_statement event_statement thread_statement moving_statement assignment print create generate await_event select choices choice get broadcast cooperate join control run halt link unlink conditional while_loop repeat body
body-returns-else-next_statement g t c = all_listed g.L.Limited.limits c.args.deeper statement (statement_list_of c.all.statements) c.args.at.now c.all.at _ c.all.invariant (omega arith) (λ _. sym c.if-next_statement.ensures)
