use Rattle.std.proofs.Common.{subst}
use Rattle.loft_parse.specs.Parsing.{Answers}
use Rattle.loft_parse.proofs.Laws.{answers_ok, answers_fault, reads_parsed}
use Rattle.loft_parse.proofs.SourceFaults.{fault_parsed}
use Rattle.loft_parse.proofs.source.parse.Goals as goal

pub returns-clause-ok : goal.returns-clause-ok
returns-clause-ok c = answers_ok c.args.text.now c.parse_short.result c.parse_short.ensures

pub returns-clause-only : goal.returns-clause-only
returns-clause-only c = λ p r short. subst (Answers c.parse_short.result) (reads_parsed c.args.text.now p r) c.parse_short.ensures

pub returns-clause-fault : goal.returns-clause-fault
returns-clause-fault c = answers_fault c.args.text.now c.parse_short.result c.parse_short.ensures

pub returns-clause-only_fault : goal.returns-clause-only_fault
returns-clause-only_fault c = λ e f short. subst (Answers c.parse_short.result) (fault_parsed c.args.text.now e f) c.parse_short.ensures
