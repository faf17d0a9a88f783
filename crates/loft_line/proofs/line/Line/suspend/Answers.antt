use Rattle.std.proofs.Common.{◌≡◌, ◌<◌, Some, None, refl, sym, ap, subst, ◌∙◌, arith, length, length-set, set}
use Rattle.std.proofs.lemmas.Option.{slice_get_within, slice_get_read}
use Rattle.std.specs.Prelude.{slice_get, slice_set}
use Rattle.loft_passes.specs.declared.runner.Runner.{Runner}
use Rattle.loft_waits.specs.Told.{Told}
use Rattle.loft_line.specs.declared.line.Line.{Line}
use Rattle.loft_line.specs.Line.{runners_in, without_wait, IsFirstAt, AreNamed}
use Rattle.loft_line.proofs.ListLemmas.{length_line, length_with, length_left}
use Rattle.loft_line.proofs.NameLemmas.{named_slots}
use Rattle.loft_line.proofs.FirstLemmas.{first_in, none_linked, first_linked, none_suspend}
use Rattle.loft_ready.specs.Entered.{wait_of}
use Rattle.loft_line.proofs.IdleLemmas.{found_idle, flagged_idle, flagged_standings, flagged_told}
use Rattle.loft_line.proofs.line.Line.suspend.Goals as goal

pub leave-requires-clause-waits : goal.leave-requires-clause-waits
leave-requires-clause-waits c =
    let l = c.args.self.now in
    let first : IsFirstAt c.in-Some.pos c.args.thread (runners_in l) = first_in (Some c.in-Some.pos) c.args.thread l c.as_slice.result.now c.as_slice.ensures.value c.in-Some.ensures.first in
    let has : c.in-Some.pos < length (runners_in l) = slice_get_within (runners_in l) c.in-Some.pos first.runner first.there in
    let same = length_with l.slots.items l.waits.waits in
    let within : c.in-Some.pos < length l.slots.items = omega (arith, has, same) in
    let long = length_line l.slots.items l.waits.waits c.requires.idle.line.waits in
    omega (arith, within, long)

pub index_mut-requires : goal.index_mut-requires
index_mut-requires c =
    let l = c.args.self.now in
    let first : IsFirstAt c.in-Some.pos c.args.thread (runners_in l) = first_in (Some c.in-Some.pos) c.args.thread l c.as_slice.result.now c.as_slice.ensures.value c.in-Some.ensures.first in
    let has : c.in-Some.pos < length (runners_in l) = slice_get_within (runners_in l) c.in-Some.pos first.runner first.there in
    let same = length_with l.slots.items l.waits.waits in
    let within : c.in-Some.pos < length l.slots.items = omega (arith, has, same) in
    let left = length_left l.slots.items c.leave.new.slots.items l.waits.waits c.in-Some.pos within c.leave.ensures.slots in
    omega (arith, within, left)

pub enter-requires-clause-within : goal.enter-requires-clause-within
enter-requires-clause-within c =
    let l = c.args.self.now in
    let first : IsFirstAt c.in-Some.pos c.args.thread (runners_in l) = first_in (Some c.in-Some.pos) c.args.thread l c.as_slice.result.now c.as_slice.ensures.value c.in-Some.ensures.first in
    let has : c.in-Some.pos < length (runners_in l) = slice_get_within (runners_in l) c.in-Some.pos first.runner first.there in
    let same = length_with l.slots.items l.waits.waits in
    let within : c.in-Some.pos < length l.slots.items = omega (arith, has, same) in
    let left = length_left l.slots.items c.leave.new.slots.items l.waits.waits c.in-Some.pos within c.leave.ensures.slots in
    let long = length-set c.leave.new.slots.items c.in-Some.pos c.set_suspended.new.runner in
    omega (arith, within, left, long)

pub enter-requires-clause-waits : goal.enter-requires-clause-waits
enter-requires-clause-waits c =
    let l = c.args.self.now in
    let first : IsFirstAt c.in-Some.pos c.args.thread (runners_in l) = first_in (Some c.in-Some.pos) c.args.thread l c.as_slice.result.now c.as_slice.ensures.value c.in-Some.ensures.first in
    let has : c.in-Some.pos < length (runners_in l) = slice_get_within (runners_in l) c.in-Some.pos first.runner first.there in
    let same = length_with l.slots.items l.waits.waits in
    let within : c.in-Some.pos < length l.slots.items = omega (arith, has, same) in
    let long = length_line l.slots.items l.waits.waits c.requires.idle.line.waits in
    let less = ap (λ (t : Told). length t.waits) c.leave.ensures.told ∙ length-set l.waits.waits c.in-Some.pos None in
    omega (arith, within, long, less)

pub returns-in_ok-enter-in-Some-clause-idle : goal.returns-in_ok-enter-in-Some-clause-idle
returns-in_ok-enter-in-Some-clause-idle c =
    let l = c.args.self.now in
    let first : IsFirstAt c.in-Some.pos c.args.thread (runners_in l) = first_in (Some c.in-Some.pos) c.args.thread l c.as_slice.result.now c.as_slice.ensures.value c.in-Some.ensures.first in
    let has : c.in-Some.pos < length (runners_in l) = slice_get_within (runners_in l) c.in-Some.pos first.runner first.there in
    let same = length_with l.slots.items l.waits.waits in
    let within : c.in-Some.pos < length l.slots.items = omega (arith, has, same) in
    let new : Line = record { slots = c.enter.new.slots; waits = c.enter.new.waits; ran = l.ran; held = l.held; budget = l.budget; finder = c.find.new.finder } in
    let s1 = c.leave.new.slots.items in
    let p = c.in-Some.pos in
    let x = c.index_mut.result.now in
    let b = c.args.suspended in
    let left = length_left l.slots.items s1 l.waits.waits p within c.leave.ensures.slots in
    let there : slice_get s1 p ≡ Some x = slice_get_read s1 (length s1) p x refl (omega (arith, within, left)) c.index_mut.ensures.value in
    let told = subst (λ (n : Runner). (r : Runner) → slice_get (set s1 p n) p ≡ Some r → new.waits ≡ record c.leave.new.waits { waits = slice_set c.leave.new.waits.waits p (wait_of r) }) c.set_suspended.ensures c.in_ok-enter-in-Some.ensures.told in
    let back = subst (λ (n : Runner). (r : Runner) → slice_get (set s1 p n) p ≡ Some r → new.slots.items ≡ slice_set (set s1 p n) p (without_wait r)) c.set_suspended.ensures c.in_ok-enter-in-Some.ensures.slots in
    flagged_idle l new p c.args.thread b s1 c.leave.new.waits x c.requires.idle first c.leave.ensures.slots c.leave.ensures.told there told back refl refl refl (subst (AreNamed c.find.new.finder) c.as_slice.ensures.value c.in-Some.ensures.named)

pub returns-in_ok-enter-in-Some-clause-linked : goal.returns-in_ok-enter-in-Some-clause-linked
returns-in_ok-enter-in-Some-clause-linked c =
    let l = c.args.self.now in
    let first : IsFirstAt c.in-Some.pos c.args.thread (runners_in l) = first_in (Some c.in-Some.pos) c.args.thread l c.as_slice.result.now c.as_slice.ensures.value c.in-Some.ensures.first in
    let has : c.in-Some.pos < length (runners_in l) = slice_get_within (runners_in l) c.in-Some.pos first.runner first.there in
    let same = length_with l.slots.items l.waits.waits in
    let within : c.in-Some.pos < length l.slots.items = omega (arith, has, same) in
    let new : Line = record { slots = c.enter.new.slots; waits = c.enter.new.waits; ran = l.ran; held = l.held; budget = l.budget; finder = c.find.new.finder } in
    let s1 = c.leave.new.slots.items in
    let p = c.in-Some.pos in
    let x = c.index_mut.result.now in
    let b = c.args.suspended in
    let left = length_left l.slots.items s1 l.waits.waits p within c.leave.ensures.slots in
    let there : slice_get s1 p ≡ Some x = slice_get_read s1 (length s1) p x refl (omega (arith, within, left)) c.index_mut.ensures.value in
    let told = subst (λ (n : Runner). (r : Runner) → slice_get (set s1 p n) p ≡ Some r → new.waits ≡ record c.leave.new.waits { waits = slice_set c.leave.new.waits.waits p (wait_of r) }) c.set_suspended.ensures c.in_ok-enter-in-Some.ensures.told in
    let back = subst (λ (n : Runner). (r : Runner) → slice_get (set s1 p n) p ≡ Some r → new.slots.items ≡ slice_set (set s1 p n) p (without_wait r)) c.set_suspended.ensures c.in_ok-enter-in-Some.ensures.slots in
    flagged_standings l new p c.args.thread b s1 c.leave.new.waits x c.requires.idle first c.leave.ensures.slots c.leave.ensures.told there told back refl refl refl (subst (AreNamed c.find.new.finder) c.as_slice.ensures.value c.in-Some.ensures.named)

pub returns-in_ok-enter-in-Some-clause-told : goal.returns-in_ok-enter-in-Some-clause-told
returns-in_ok-enter-in-Some-clause-told c =
    let l = c.args.self.now in
    let first : IsFirstAt c.in-Some.pos c.args.thread (runners_in l) = first_in (Some c.in-Some.pos) c.args.thread l c.as_slice.result.now c.as_slice.ensures.value c.in-Some.ensures.first in
    let has : c.in-Some.pos < length (runners_in l) = slice_get_within (runners_in l) c.in-Some.pos first.runner first.there in
    let same = length_with l.slots.items l.waits.waits in
    let within : c.in-Some.pos < length l.slots.items = omega (arith, has, same) in
    let new : Line = record { slots = c.enter.new.slots; waits = c.enter.new.waits; ran = l.ran; held = l.held; budget = l.budget; finder = c.find.new.finder } in
    let s1 = c.leave.new.slots.items in
    let p = c.in-Some.pos in
    let x = c.index_mut.result.now in
    let b = c.args.suspended in
    let left = length_left l.slots.items s1 l.waits.waits p within c.leave.ensures.slots in
    let there : slice_get s1 p ≡ Some x = slice_get_read s1 (length s1) p x refl (omega (arith, within, left)) c.index_mut.ensures.value in
    let told = subst (λ (n : Runner). (r : Runner) → slice_get (set s1 p n) p ≡ Some r → new.waits ≡ record c.leave.new.waits { waits = slice_set c.leave.new.waits.waits p (wait_of r) }) c.set_suspended.ensures c.in_ok-enter-in-Some.ensures.told in
    let back = subst (λ (n : Runner). (r : Runner) → slice_get (set s1 p n) p ≡ Some r → new.slots.items ≡ slice_set (set s1 p n) p (without_wait r)) c.set_suspended.ensures c.in_ok-enter-in-Some.ensures.slots in
    flagged_told l new p c.args.thread b s1 c.leave.new.waits x c.requires.idle first c.leave.ensures.slots c.leave.ensures.told there told back refl refl refl (subst (AreNamed c.find.new.finder) c.as_slice.ensures.value c.in-Some.ensures.named)

pub returns-in_ok-enter-in-Some-clause-found : goal.returns-in_ok-enter-in-Some-clause-found
returns-in_ok-enter-in-Some-clause-found c =
    let l = c.args.self.now in
    let first : IsFirstAt c.in-Some.pos c.args.thread (runners_in l) = first_in (Some c.in-Some.pos) c.args.thread l c.as_slice.result.now c.as_slice.ensures.value c.in-Some.ensures.first in
    sym (first_linked c.args.thread (runners_in l) c.in-Some.pos first)

pub returns-in-None-clause-found : goal.returns-in-None-clause-found
returns-in-None-clause-found c =
    let l = c.args.self.now in
    sym (none_linked c.args.thread (runners_in l) (first_in None c.args.thread l c.as_slice.result.now c.as_slice.ensures.value c.in-None.ensures.first))

pub returns-in-None-clause-linked : goal.returns-in-None-clause-linked
returns-in-None-clause-linked c =
    let l = c.args.self.now in
    sym (none_suspend c.args.thread c.args.suspended (runners_in l) (first_in None c.args.thread l c.as_slice.result.now c.as_slice.ensures.value c.in-None.ensures.first))

pub find-requires : goal.find-requires
find-requires c =
    let l = c.args.self.now in
    subst (AreNamed l.finder) (sym c.as_slice.ensures.value) (named_slots l.finder l.slots.items l.waits.waits c.requires.idle.line.named)

pub returns-in-None-clause-idle : goal.returns-in-None-clause-idle
returns-in-None-clause-idle c = found_idle c.args.self.now c.find.new.finder c.requires.idle (subst (AreNamed c.find.new.finder) c.as_slice.ensures.value c.in-None.ensures.named)
