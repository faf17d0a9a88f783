-- The laws are proved in the lemmas on parts.
use Rattle.loft_show.proofs.reads.PartLaw.{expression_reads, statement_reads, declaration_reads, head_reads, local_reads, order_reads}
use Rattle.loft_show.proofs.law.canon_parts_read.Goals as goal

pub returns-clause-expression : goal.returns-clause-expression
returns-clause-expression c = expression_reads

pub returns-clause-statement : goal.returns-clause-statement
returns-clause-statement c = statement_reads

pub returns-clause-declaration : goal.returns-clause-declaration
returns-clause-declaration c = declaration_reads

pub returns-clause-head : goal.returns-clause-head
returns-clause-head c = head_reads

pub returns-clause-local : goal.returns-clause-local
returns-clause-local c = local_reads

pub returns-clause-order : goal.returns-clause-order
returns-clause-order c = order_reads
