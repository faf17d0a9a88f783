use Rattle.std.proofs.Common.{◌≡◌, ◌++◌, take, arith, refl, sym, ap, subst, ◌∙◌}
use Rattle.loft_report_shape.specs.Sets.{set_of}
use Rattle.loft_report_shape.specs.Grammar.{after}
use Rattle.loft_report_shape.specs.Told.{note}
use Rattle.loft_report_sets.specs.Taken.{Taken}
use Rattle.loft_report_draft.specs.Drafts.{told_of}
use Rattle.loft_report_reader.proofs.Spelled.{over, on_open, on_stops, on_next}
use Rattle.loft_report_reader.proofs.machine.Machine.spell_on.Goals as goal

pub returns-in_default-clause-spelled : goal.returns-in_default-clause-spelled
returns-in_default-clause-spelled c = λ _ _. over c.args.self.now.parts (told_of c.args.self.now.draft) c.args.self.now.word c.args.bytes.now c.in_default.ensures c.requires.some

pub returns-then-n-len-clause-spelled : goal.returns-then-n-len-clause-spelled
returns-then-n-len-clause-spelled c = λ whole begun.
    let s = c.args.self.now in
    let all = c.extend.new.word in
    let n = c.taken-n.result in
    let t : Taken (set_of c.in-Some.p) all n = subst (λ v. Taken (set_of c.in-Some.p) v n) c.as_slice.ensures c.taken-n.ensures in
    on_open s.parts c.in-Some.p c.pop.new.self c.in-Some.ensures (told_of s.draft) s.word c.args.bytes.now all (c.extend.ensures.text (c.put.ensures.before whole)) n t begun _ refl
    c.put.new.self (c.put.ensures.parts whole) (omega (arith, c.if-n-len.true, c.len.ensures))

pub returns-then-not-is_whole-clause-spelled : goal.returns-then-not-is_whole-clause-spelled
returns-then-not-is_whole-clause-spelled c = λ whole begun.
    let s = c.args.self.now in
    let all = c.extend.new.word in
    let n = c.taken-n.result in
    let t : Taken (set_of c.in-Some.p) all n = subst (λ v. Taken (set_of c.in-Some.p) v n) c.as_slice.ensures c.taken-n.ensures in
    let first : c.as_slice-2.result.now ≡ take n all = c.as_slice-2.ensures ∙ c.truncate.ensures in
    on_stops s.parts c.in-Some.p c.pop.new.self c.in-Some.ensures (told_of s.draft) s.word c.args.bytes.now all (c.extend.ensures.text whole) n t begun
    c.saturating_sub-more.result (omega (arith, c.saturating_sub-more.ensures, c.len-before.ensures))
    (λ e. omega (arith, c.if-n-len.false, c.len.ensures, e)) (ap (set_of c.in-Some.p).whole (sym first) ∙ sym c.if-not-is_whole.ensures)

pub returns-clause-spelled : goal.returns-clause-spelled
returns-clause-spelled c = λ whole begun.
    let s = c.args.self.now in
    let p = c.in-Some.p in
    let ps = c.pop.new.self in
    let told = told_of s.draft in
    let all = c.extend.new.word in
    let n = c.taken-n.result in
    let t : Taken (set_of p) all n = subst (λ v. Taken (set_of p) v n) c.as_slice.ensures c.taken-n.ensures in
    let first : c.as_slice-2.result.now ≡ take n all = c.as_slice-2.ensures ∙ c.truncate.ensures in
    let second : c.as_slice-3.result.now ≡ take n all = c.as_slice-3.ensures ∙ c.truncate.ensures in
    let third : c.as_slice-4.result.now ≡ take n all = c.as_slice-4.ensures ∙ c.truncate.ensures in
    let before = c.note.ensures.before whole in
    on_next s.parts p ps c.in-Some.ensures told s.word c.args.bytes.now all (c.extend.ensures.text (c.put_after.ensures.before before)) n t begun
    c.saturating_sub-more.result (omega (arith, c.saturating_sub-more.ensures, c.len-before.ensures))
    c.put_after.new.self (told_of c.note.new.self) c.clear.new.self
    (λ e. omega (arith, c.if-n-len.false, c.len.ensures, e)) (ap (set_of p).whole (sym first) ∙ sym c.if-not-is_whole.ensures)
    (c.put_after.ensures.parts before ∙ ap (λ v. after p v ++ ps) second) (c.note.ensures.told whole ∙ ap (λ v. note p v told) third) c.clear.ensures
