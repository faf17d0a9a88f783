use Rattle.std.proofs.Common.{◌∷◌, refl, sym}
use Rattle.loft_report_draft.specs.Drafts.{told_of}
use Rattle.loft_report_reader.proofs.Spelled.{new_open, new_stops, new_next, some_bytes}
use Rattle.loft_report_reader.proofs.machine.Machine.spell_part.Goals as goal

pub returns-then-n-bytes-clause-spelled : goal.returns-then-n-bytes-clause-spelled
returns-then-n-bytes-clause-spelled c = λ whole.
    let s = c.args.self.now in
    new_open (c.args.p ∷ s.parts) c.args.p s.parts refl (told_of s.draft) s.word c.args.bytes.now c.requires.between c.taken-n.result c.taken-n.ensures
    c.put.new.self c.extend.new.word (c.put.ensures.parts (c.extend.ensures.before whole)) (c.extend.ensures.text whole) c.if-n-bytes.true

pub returns-then-not-is_whole-clause-spelled : goal.returns-then-not-is_whole-clause-spelled
returns-then-not-is_whole-clause-spelled c = λ _.
    let s = c.args.self.now in
    new_stops (c.args.p ∷ s.parts) c.args.p s.parts refl (told_of s.draft) s.word c.args.bytes.now c.requires.between c.taken-n.result c.taken-n.ensures
    c.if-n-bytes.false (sym c.if-not-is_whole.ensures)

pub returns-clause-spelled : goal.returns-clause-spelled
returns-clause-spelled c = λ whole.
    let s = c.args.self.now in
    new_next (c.args.p ∷ s.parts) c.args.p s.parts refl (told_of s.draft) s.word c.args.bytes.now c.requires.between c.taken-n.result c.taken-n.ensures
    c.put_after.new.self (told_of c.note.new.self) s.word c.if-n-bytes.false (sym c.if-not-is_whole.ensures) (c.put_after.ensures.parts (c.note.ensures.before whole)) (c.note.ensures.told whole) c.requires.between

pub returns-clause-on : goal.returns-clause-on
returns-clause-on c = some_bytes c.args.p c.args.bytes.now c.taken-n.result (sym c.if-not-is_whole.ensures)
