use Rattle.std.proofs.Common.{rules, ◌≡◌, ◌<◌, ◌+◌, ◌++◌, ◌∷◌, [], false, refl, ap, ◌∙◌, arith, List, None, length}
use Rattle.std.proofs.lemmas.List.{length-append}
use Rattle.loft_orders.specs.declared.note.Standing.{Standing}
use Rattle.loft_sense.specs.Instant.{runner_of}
use Rattle.loft_passes.specs.declared.runner.Runner.{Runner}
use Rattle.loft_passes.specs.View.{linked_of}
use Rattle.loft_waits.specs.Told.{Told, wait_at}
use Rattle.loft_ready.proofs.EnterLemmas.{last_none}
use Rattle.loft_line.specs.declared.line.Line.{Line}
use Rattle.loft_line.specs.Line.{runners_in}
use Rattle.loft_line.proofs.ListLemmas.{length_line, length_with}
use Rattle.loft_line.proofs.BatchLemmas.{few_held}
use Rattle.loft_line.proofs.IdleLemmas.{linked_idle, linked_standings, linked_told}
use Rattle.loft_line.proofs.line.Line.push.Goals as goal

pub overflow_add-self : goal.overflow_add-self
overflow_add-self c =
    let l = c.args.self.now in
    let few = few_held (runners_in l) l.ran l.held (length l.slots.items) c.requires.idle.line.held (length_with l.slots.items l.waits.waits) in
    let most : length c.push.new.self.items < 18446744073709551616 = search rules in
    let pushed : c.push.new.self.items ≡ l.slots.items ++ c.begin.new.self ∷ [] = search rules in
    let more = ap (λ (s : List Runner). length s) pushed ∙ length-append l.slots.items (c.begin.new.self ∷ []) in
    omega (arith, few, most, more)

pub enter-requires-clause-waits : goal.enter-requires-clause-waits
enter-requires-clause-waits c =
    let l = c.args.self.now in
    let at = c.len-pos.ensures in
    let long = length_line l.slots.items l.waits.waits c.requires.idle.line.waits in
    let more = ap (λ (t : Told). length t.waits) c.in_ok-grow-2.ensures.ok ∙ length-append l.waits.waits (None ∷ []) in
    omega (arith, at, long, more)

pub enter-requires-clause-free : goal.enter-requires-clause-free
enter-requires-clause-free c =
    let l = c.args.self.now in
    let long = length_line l.slots.items l.waits.waits c.requires.idle.line.waits in
    let here = c.len-pos.ensures in
    ap (λ (t : Told). wait_at t c.len-pos.result) c.in_ok-grow-2.ensures.ok ∙ last_none l.waits.waits c.len-pos.result (omega (arith, here, long))

pub returns-clause-idle : goal.returns-clause-idle
returns-clause-idle c =
    let l = c.args.self.now in
    let n = c.begin.new.self in
    let s : Standing = record { thread = c.args.thread; suspended = false } in
    let new : Line = record { slots = c.enter.new.slots; waits = c.enter.new.waits; ran = c.grow.new.self; held = l.held + 1; budget = l.budget; finder = c.add.new.self } in
    let begun : linked_of n ≡ runner_of l.budget s ∷ [] = c.begin.ensures ∙ ap (λ (q : Standing). runner_of l.budget q ∷ []) c.new-runner.ensures in
    let pushed : c.push.new.self.items ≡ l.slots.items ++ n ∷ [] = search rules in
    let here = c.len-pos.ensures in
    let at : c.len-pos.result ≡ length l.slots.items = omega (arith, here) in
    let ran : c.grow.new.self ≡ l.ran ++ 0 ∷ [] = search rules in
    linked_idle l new n s c.len-pos.result c.push.new.self.items c.grow-2.new.self c.requires.idle begun at pushed c.in_ok-grow-2.ensures.ok c.in_ok-enter.ensures.told c.in_ok-enter.ensures.slots ran refl refl c.add.ensures.keeps c.add.ensures.stands

pub returns-clause-linked : goal.returns-clause-linked
returns-clause-linked c =
    let l = c.args.self.now in
    let n = c.begin.new.self in
    let s : Standing = record { thread = c.args.thread; suspended = false } in
    let new : Line = record { slots = c.enter.new.slots; waits = c.enter.new.waits; ran = c.grow.new.self; held = l.held + 1; budget = l.budget; finder = c.add.new.self } in
    let begun : linked_of n ≡ runner_of l.budget s ∷ [] = c.begin.ensures ∙ ap (λ (q : Standing). runner_of l.budget q ∷ []) c.new-runner.ensures in
    let pushed : c.push.new.self.items ≡ l.slots.items ++ n ∷ [] = search rules in
    let here = c.len-pos.ensures in
    let at : c.len-pos.result ≡ length l.slots.items = omega (arith, here) in
    let ran : c.grow.new.self ≡ l.ran ++ 0 ∷ [] = search rules in
    linked_standings l new n s c.len-pos.result c.push.new.self.items c.grow-2.new.self c.requires.idle begun at pushed c.in_ok-grow-2.ensures.ok c.in_ok-enter.ensures.told c.in_ok-enter.ensures.slots ran refl refl c.add.ensures.keeps c.add.ensures.stands

pub returns-clause-told : goal.returns-clause-told
returns-clause-told c =
    let l = c.args.self.now in
    let n = c.begin.new.self in
    let s : Standing = record { thread = c.args.thread; suspended = false } in
    let new : Line = record { slots = c.enter.new.slots; waits = c.enter.new.waits; ran = c.grow.new.self; held = l.held + 1; budget = l.budget; finder = c.add.new.self } in
    let begun : linked_of n ≡ runner_of l.budget s ∷ [] = c.begin.ensures ∙ ap (λ (q : Standing). runner_of l.budget q ∷ []) c.new-runner.ensures in
    let pushed : c.push.new.self.items ≡ l.slots.items ++ n ∷ [] = search rules in
    let here = c.len-pos.ensures in
    let at : c.len-pos.result ≡ length l.slots.items = omega (arith, here) in
    let ran : c.grow.new.self ≡ l.ran ++ 0 ∷ [] = search rules in
    linked_told l new n s c.len-pos.result c.push.new.self.items c.grow-2.new.self c.requires.idle begun at pushed c.in_ok-grow-2.ensures.ok c.in_ok-enter.ensures.told c.in_ok-enter.ensures.slots ran refl refl c.add.ensures.keeps c.add.ensures.stands
