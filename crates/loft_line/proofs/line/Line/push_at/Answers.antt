use Rattle.std.proofs.Common.{◌≡◌, ◌<◌, ◌++◌, ◌∷◌, [], List, Some, true, false, refl, sym, ap, ◌∙◌, arith, length, append-nil}
use Rattle.std.specs.Prelude.{nat_lt, slice_get}
use Rattle.std.proofs.lemmas.Option.{slice_get_read}
use Rattle.loft_orders.specs.declared.thread.Thread.{Thread}
use Rattle.loft_line.proofs.EndLemmas.{stands_held, logical_runs, positive}
use Rattle.loft_line.proofs.line.Line.push_at.Goals as goal

pub returns-then-index-eq0 : goal.returns-then-index-eq0
returns-then-index-eq0 c = λ r h held.
    let l = c.args.self.now in
    let p = c.args.pos in
    let x = c.index.result.now in
    let there : slice_get l.slots.items p ≡ Some x = slice_get_read l.slots.items (length l.slots.items) p x refl c.requires.within c.index.ensures in
    let zero = c.if-index-eq0.true in
    let none : x.runs ≡ 0 = omega (arith, zero) in
    sym (ap (λ (s : List Thread). c.args.stands.now ++ s) (stands_held r false held (ap (nat_lt 0) (logical_runs l.slots.items l.waits.waits p x r there h ∙ none))) ∙ append-nil c.args.stands.now)

pub returns : goal.returns
returns c = λ r h held.
    let l = c.args.self.now in
    let p = c.args.pos in
    let x = c.index.result.now in
    let there : slice_get l.slots.items p ≡ Some x = slice_get_read l.slots.items (length l.slots.items) p x refl c.requires.within c.index.ensures in
    let some = c.if-index-eq0.false in
    let ran : 0 < x.runs = omega (arith, some) in
    c.in_ok-push.ensures.ok
    ∙ ap (λ (t : Thread). c.args.stands.now ++ t ∷ []) (c.in_ok-thread.ensures r h)
    ∙ sym (ap (λ (s : List Thread). c.args.stands.now ++ s) (stands_held r true held (ap (nat_lt 0) (logical_runs l.slots.items l.waits.waits p x r there h) ∙ positive x.runs ran)))
