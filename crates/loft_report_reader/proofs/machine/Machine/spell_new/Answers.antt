use Rattle.std.proofs.Common.{arith, subst}
use Rattle.loft_report_draft.specs.Drafts.{told_of}
use Rattle.loft_report_reader.specs.declared.machine.Machine.{Machine}
use Rattle.loft_report_reader.specs.Machine.{machine_of, machine_with, Spells}
use Rattle.loft_report_reader.proofs.Spelled.{over}
use Rattle.loft_report_reader.proofs.machine.Machine.spell_new.Goals as goal

pub returns-in_default-clause-spelled : goal.returns-in_default-clause-spelled
returns-in_default-clause-spelled c = λ _. over c.args.self.now.parts (told_of c.args.self.now.draft) c.args.self.now.word c.args.bytes.now c.in_default.ensures c.requires.some

pub returns-then-lines-gt0-clause-spelled : goal.returns-then-lines-gt0-clause-spelled
returns-then-lines-gt0-clause-spelled c = λ whole. rw c.in-Some.ensures (c.spell_lines-lines.ensures.spelled whole c.if-lines-gt0.true)

pub returns-clause-spelled : goal.returns-clause-spelled
returns-clause-spelled c = λ whole.
    let same = c.spell_lines-lines.ensures.none (omega (arith, c.if-lines-gt0.false)) in
    rw c.in-Some.ensures (subst (λ (m : Machine). Spells c.spell_part.result c.args.bytes.now (machine_with c.in-Some.p m) (machine_of c.spell_part.new.self)) same (c.spell_part.ensures.spelled whole))
