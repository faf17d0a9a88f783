use Rattle.std.proofs.Common.{◌∷◌}
use Rattle.loft_report_shape.specs.declared.part.Part.TheVariants.{Lines}
use Rattle.loft_report_draft.specs.Drafts.{told_of}
use Rattle.loft_report_reader.proofs.AheadLemmas.{reads_on}
use Rattle.loft_report_reader.proofs.machine.Machine.spell_lines.Goals as goal

pub returns-clause-spelled : goal.returns-clause-spelled
returns-clause-spelled c = λ whole some.
    let s = c.args.self.now in
    let n = c.saturating_sub-n.result in
    let ahead = c.lines_ahead-next.result in
    let parts = c.put.ensures.parts (c.keep.ensures.before whole) in
    let e = reads_on (Lines c.in-Lines.stage ∷ s.parts) c.args.bytes.now (Lines ahead.0 ∷ s.parts) ahead.1.now (c.lines_ahead-next.ensures s.parts) n c.saturating_sub-n.ensures (told_of s.draft) (told_of c.keep.new.self) (c.keep.ensures.told whole) in
    rw (c.in-Lines.is, c.requires.between, parts) e
