use Rattle.std.proofs.Common.{◌≡◌, ◌<◌, ◌-◌, ◌++◌, ◌∷◌, [], List, Some, refl, sym, ap, ◌∙◌, arith, length, append-nil}
use Rattle.std.specs.Prelude.{slice_get}
use Rattle.std.proofs.lemmas.Option.{slice_get_read}
use Rattle.loft_orders.specs.declared.order.Order.TheVariants.{Arrive}
use Rattle.loft_orders.specs.declared.order.Sent.{Sent}
use Rattle.loft_orders.specs.declared.order.Stop.TheVariants.{Leaves, Ends}
use Rattle.loft_orders.specs.declared.thread.Thread.{Thread}
use Rattle.loft_passes.specs.View.{is_held}
use Rattle.loft_line.specs.declared.line.Line.{Line}
use Rattle.loft_line.proofs.ListLemmas.{length_line}
use Rattle.loft_line.proofs.EndLemmas.{closed_held, closed_gone, many_held, logical_stop, gone_thread, stands_gone, leaves_held, leaves_to, leaves_ended}
use Rattle.loft_line.proofs.line.Line.close_at.Goals as goal

pub close_held-requires-clause-waits : goal.close_held-requires-clause-waits
close_held-requires-clause-waits c =
    let l = c.args.self.now in
    let has = c.requires.within in
    let many = c.requires.line.many in
    let long = length_line l.slots.items l.waits.waits c.requires.line.waits in
    omega (arith, has, many, long)

pub overflow_sub-self : goal.overflow_sub-self
overflow_sub-self c = many_held c.args.self.now c.args.pos c.requires.line c.requires.within c.requires.marked

pub overflow_sub-self-in-Ends : goal.overflow_sub-self-in-Ends
overflow_sub-self-in-Ends c = many_held c.args.self.now c.args.pos c.requires.line c.requires.within c.requires.marked

pub returns-in_ok-close_held-in-Holds-clause-closed : goal.returns-in_ok-close_held-in-Holds-clause-closed
returns-in_ok-close_held-in-Holds-clause-closed c =
    let l = c.args.self.now in
    let p = c.args.pos in
    let x = c.index.result.now in
    let has = c.requires.within in
    let many = c.requires.line.many in
    let within : p < length l.slots.items = omega (arith, has, many) in
    let there : slice_get l.slots.items p ≡ Some x = slice_get_read l.slots.items (length l.slots.items) p x refl within c.index.ensures in
    let mid : Line = record { slots = l.slots; waits = l.waits; ran = c.clear.new.self; held = l.held; budget = l.budget; finder = l.finder } in
    closed_held p l mid c.close_held.new.self x there c.in-Holds.is refl refl c.clear.ensures refl refl refl c.in_ok-close_held-in-Holds.ensures.begun

pub returns-in_ok-close_held-in-Holds-clause-stands : goal.returns-in_ok-close_held-in-Holds-clause-stands
returns-in_ok-close_held-in-Holds-clause-stands c = λ r h.
    let l = c.args.self.now in
    let p = c.args.pos in
    let x = c.index.result.now in
    let has = c.requires.within in
    let many = c.requires.line.many in
    let within : p < length l.slots.items = omega (arith, has, many) in
    let there : slice_get l.slots.items p ≡ Some x = slice_get_read l.slots.items (length l.slots.items) p x refl within c.index.ensures in
    c.in_ok-close_held-in-Holds.ensures.stands r h (ap is_held (logical_stop l.slots.items l.waits.waits p x r there h ∙ c.in-Holds.is))

pub returns-in_ok-close_held-in-Holds-clause-sent : goal.returns-in_ok-close_held-in-Holds-clause-sent
returns-in_ok-close_held-in-Holds-clause-sent c = λ r h.
    let l = c.args.self.now in
    let p = c.args.pos in
    let x = c.index.result.now in
    let has = c.requires.within in
    let many = c.requires.line.many in
    let within : p < length l.slots.items = omega (arith, has, many) in
    let there : slice_get l.slots.items p ≡ Some x = slice_get_read l.slots.items (length l.slots.items) p x refl within c.index.ensures in
    sym (ap (λ (s : List Sent). c.args.sent.now ++ s) (leaves_held r (ap is_held (logical_stop l.slots.items l.waits.waits p x r there h ∙ c.in-Holds.is))) ∙ append-nil c.args.sent.now)

pub returns-in_ok-send-in-Leaves-clause-closed : goal.returns-in_ok-send-in-Leaves-clause-closed
returns-in_ok-send-in-Leaves-clause-closed c =
    let l = c.args.self.now in
    let p = c.args.pos in
    let x = c.index.result.now in
    let has = c.requires.within in
    let many = c.requires.line.many in
    let within : p < length l.slots.items = omega (arith, has, many) in
    let there : slice_get l.slots.items p ≡ Some x = slice_get_read l.slots.items (length l.slots.items) p x refl within c.index.ensures in
    let new : Line = record { slots = c.empty-thread.new.slots; waits = l.waits; ran = c.clear.new.self; held = l.held - 1; budget = l.budget; finder = c.empty-thread.new.finder } in
    let some = many_held l p c.requires.line c.requires.within c.requires.marked in
    closed_gone p l new x c.requires.line there (ap is_held c.in-Leaves.is) c.empty-thread.ensures.slots refl c.clear.ensures (omega (arith, some)) refl c.empty-thread.ensures.finder

pub returns-in_ok-send-in-Leaves-clause-stands : goal.returns-in_ok-send-in-Leaves-clause-stands
returns-in_ok-send-in-Leaves-clause-stands c = λ r h.
    let l = c.args.self.now in
    let p = c.args.pos in
    let x = c.index.result.now in
    let has = c.requires.within in
    let many = c.requires.line.many in
    let within : p < length l.slots.items = omega (arith, has, many) in
    let there : slice_get l.slots.items p ≡ Some x = slice_get_read l.slots.items (length l.slots.items) p x refl within c.index.ensures in
    sym (ap (λ (s : List Thread). c.args.stands.now ++ s) (stands_gone r (Leaves c.in-Leaves.to) (logical_stop l.slots.items l.waits.waits p x r there h ∙ c.in-Leaves.is) refl) ∙ append-nil c.args.stands.now)

pub returns-in_ok-send-in-Leaves-clause-sent : goal.returns-in_ok-send-in-Leaves-clause-sent
returns-in_ok-send-in-Leaves-clause-sent c = λ r h.
    let l = c.args.self.now in
    let p = c.args.pos in
    let x = c.index.result.now in
    let has = c.requires.within in
    let many = c.requires.line.many in
    let within : p < length l.slots.items = omega (arith, has, many) in
    let there : slice_get l.slots.items p ≡ Some x = slice_get_read l.slots.items (length l.slots.items) p x refl within c.index.ensures in
    let to = c.in-Leaves.to in
    let thread = c.empty-thread.ensures.thread x there ∙ sym (gone_thread l p x r c.requires.line there (ap is_held c.in-Leaves.is) h) in
    c.in_ok-send-in-Leaves.ensures
    ∙ ap (λ (t : Thread). c.args.sent.now ++ record { to = to; order = Arrive t } ∷ []) thread
    ∙ sym (ap (λ (s : List Sent). c.args.sent.now ++ s) (leaves_to r to (logical_stop l.slots.items l.waits.waits p x r there h ∙ c.in-Leaves.is)))

pub returns-in-Ends-clause-closed : goal.returns-in-Ends-clause-closed
returns-in-Ends-clause-closed c =
    let l = c.args.self.now in
    let p = c.args.pos in
    let x = c.index.result.now in
    let has = c.requires.within in
    let many = c.requires.line.many in
    let within : p < length l.slots.items = omega (arith, has, many) in
    let there : slice_get l.slots.items p ≡ Some x = slice_get_read l.slots.items (length l.slots.items) p x refl within c.index.ensures in
    let new : Line = record { slots = c.empty.new.slots; waits = l.waits; ran = c.clear.new.self; held = l.held - 1; budget = l.budget; finder = c.empty.new.finder } in
    let some = many_held l p c.requires.line c.requires.within c.requires.marked in
    closed_gone p l new x c.requires.line there (ap is_held c.in-Ends.is) c.empty.ensures.slots refl c.clear.ensures (omega (arith, some)) refl c.empty.ensures.finder

pub returns-in-Ends-clause-stands : goal.returns-in-Ends-clause-stands
returns-in-Ends-clause-stands c = λ r h.
    let l = c.args.self.now in
    let p = c.args.pos in
    let x = c.index.result.now in
    let has = c.requires.within in
    let many = c.requires.line.many in
    let within : p < length l.slots.items = omega (arith, has, many) in
    let there : slice_get l.slots.items p ≡ Some x = slice_get_read l.slots.items (length l.slots.items) p x refl within c.index.ensures in
    sym (ap (λ (s : List Thread). c.args.stands.now ++ s) (stands_gone r (Ends c.in-Ends.field-0) (logical_stop l.slots.items l.waits.waits p x r there h ∙ c.in-Ends.is) refl) ∙ append-nil c.args.stands.now)

pub returns-in-Ends-clause-sent : goal.returns-in-Ends-clause-sent
returns-in-Ends-clause-sent c = λ r h.
    let l = c.args.self.now in
    let p = c.args.pos in
    let x = c.index.result.now in
    let has = c.requires.within in
    let many = c.requires.line.many in
    let within : p < length l.slots.items = omega (arith, has, many) in
    let there : slice_get l.slots.items p ≡ Some x = slice_get_read l.slots.items (length l.slots.items) p x refl within c.index.ensures in
    sym (ap (λ (s : List Sent). c.args.sent.now ++ s) (leaves_ended r c.in-Ends.field-0 (logical_stop l.slots.items l.waits.waits p x r there h ∙ c.in-Ends.is)) ∙ append-nil c.args.sent.now)
