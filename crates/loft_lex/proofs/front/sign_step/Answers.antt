use Rattle.loft_lex.proofs.front.sign_step.Goals as goal

pub returns-in_default-clause-readable : goal.returns-in_default-clause-readable
returns-in_default-clause-readable c = c.sign_of_one.ensures.readable c.args.bytes.now

pub returns-in-None-clause-readable : goal.returns-in-None-clause-readable
returns-in-None-clause-readable c = c.sign_of_one-in-None.ensures.readable c.args.bytes.now
