use Rattle.loft_lex.proofs.front.next_step.Goals as goal

pub returns-then-b-eq34-clause-readable : goal.returns-then-b-eq34-clause-readable
returns-then-b-eq34-clause-readable c = c.text_step.ensures.readable c.args.rest.now
