use Rattle.loft_base.proofs.LineLemmas.{found_first}
use Rattle.loft_base.proofs.writing.first_line_feed.Goals as goal

pub returns-clause-first : goal.returns-clause-first
returns-clause-first c = found_first c.args.text.now c.memchr.result c.memchr.ensures
