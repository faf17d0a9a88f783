use Rattle.std.proofs.Common.{◌≡◌, ◌++◌, List, Some, refl, sym, ap, ◌∙◌, length, append-nil}
use Rattle.std.specs.Prelude.{slice_get}
use Rattle.std.proofs.lemmas.Option.{slice_get_read}
use Rattle.loft_orders.specs.declared.note.Standing.{Standing}
use Rattle.loft_line.proofs.StandingLemmas.{held_standing, gone_standing}
use Rattle.loft_line.proofs.line.Line.push_standing.Goals as goal

pub returns-then-is_held : goal.returns-then-is_held
returns-then-is_held c = λ r h.
    let l = c.args.self.now in
    let p = c.args.pos in
    let x = c.index-runner.result.now in
    let there : slice_get l.slots.items p ≡ Some x = slice_get_read l.slots.items (length l.slots.items) p x refl c.requires.within c.index-runner.ensures in
    c.in_ok-push.ensures.ok
    ∙ ap (λ (s : List Standing). c.args.standings.now ++ s)
    (sym (held_standing l.slots.items l.waits.waits p x r c.in_ok-thread.thread there (sym c.is_held.ensures ∙ c.if-is_held.true) h (c.in_ok-thread.ensures r h)))

pub returns : goal.returns
returns c = λ r h.
    let l = c.args.self.now in
    let p = c.args.pos in
    let x = c.index-runner.result.now in
    let there : slice_get l.slots.items p ≡ Some x = slice_get_read l.slots.items (length l.slots.items) p x refl c.requires.within c.index-runner.ensures in
    sym (ap (λ (s : List Standing). c.args.standings.now ++ s) (gone_standing l.slots.items l.waits.waits p x r there (sym c.is_held.ensures ∙ c.if-is_held.false) h) ∙ append-nil c.args.standings.now)
