use Rattle.loft_lock_rewriting.proofs.MarkLemmas.{marks_tell}
use Rattle.loft_lock_rewriting.proofs.laws.marks_tell_forms.Goals as goal

pub returns : goal.returns
returns c = marks_tell
