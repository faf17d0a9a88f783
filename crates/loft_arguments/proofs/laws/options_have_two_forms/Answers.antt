use Rattle.loft_arguments.proofs.Forms.{two_forms}
use Rattle.loft_arguments.proofs.laws.options_have_two_forms.Goals as goal

pub returns : goal.returns
returns c = λ name value words option end none valued plain. two_forms name value words option end none valued plain
