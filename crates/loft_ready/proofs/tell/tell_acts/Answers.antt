use Rattle.std.proofs.Common.{ap, ◌∙◌}
use Rattle.loft_sense.specs.LawWords.{generated_in}
use Rattle.loft_waits.specs.Told.{Counts}
use Rattle.loft_ready.specs.Telling.{told}
use Rattle.loft_ready.proofs.TellLemmas.{told_after, told_long}
use Rattle.loft_ready.proofs.tell.tell_acts.Goals as goal

pub tell_each-requires : goal.tell_each-requires
tell_each-requires c = told_long (generated_in c.args.acts.now) c.requires.0 c.args.board.now c.args.waits.now.counts c.requires.1 c.requires.2

pub returns : goal.returns
returns c =
    c.tell_each.ensures
    ∙ ap (λ (k : Counts). record c.args.waits.now { counts = told c.args.board.now (generated_in c.args.acts.now) k }) c.requires.1
    ∙ ap (λ (k : Counts). record c.args.waits.now { counts = k }) (told_after (generated_in c.args.acts.now) c.requires.0 c.args.board.now c.requires.2)
