use Rattle.std.proofs.Common.{◌∙◌, sym}
use Rattle.loft_line.specs.Line.{runners_in}
use Rattle.loft_line.proofs.ListLemmas.{length_with}
use Rattle.loft_line.proofs.LineLemmas.{all_present}
use Rattle.loft_line.proofs.line.Line.len.Goals as goal

pub returns : goal.returns
returns c =
    let l = c.args.self.now in
    let line = c.requires.idle.line in
    line.held ∙ all_present (runners_in l) l.ran (line.many ∙ sym (length_with l.slots.items l.waits.waits)) c.requires.idle.unmarked
