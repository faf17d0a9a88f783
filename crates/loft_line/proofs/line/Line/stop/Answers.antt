use Rattle.std.proofs.Common.{◌<◌, ◌≤◌, ◌-◌, ℕ, Some, None, refl, sym, subst, arith, length}
use Rattle.std.proofs.lemmas.Option.{slice_get_within}
use Rattle.loft_base.specs.declared.ids.ThreadId.{ThreadId}
use Rattle.loft_line.specs.declared.line.Line.{Line}
use Rattle.loft_line.specs.Line.{runners_in, IsFirstAt, AreNamed}
use Rattle.loft_line.proofs.ListLemmas.{length_line, length_with, length_left}
use Rattle.loft_line.proofs.NameLemmas.{named_slots}
use Rattle.loft_line.proofs.FirstLemmas.{first_in, none_linked, first_linked, none_without}
use Rattle.loft_line.proofs.BatchLemmas.{first_held}
use Rattle.loft_line.proofs.LineLemmas.{some_present}
use Rattle.loft_line.proofs.IdleLemmas.{found_idle, many_threads, stopped_idle, stopped_standings, stopped_told}
use Rattle.loft_line.proofs.line.Line.stop.Goals as goal

some_held : (l : Line) (p : ℕ) (t : ThreadId) → Rattle.loft_line.specs.Line.IsIdle l → IsFirstAt p t (runners_in l) → 1 ≤ l.held
some_held l p t idle first =
    let one = some_present (runners_in l) l.ran p first.runner (many_threads l idle) first.there (first_held p t (runners_in l) first) in
    let is = idle.line.held in
    omega (arith, one, is)

pub leave-requires-clause-waits : goal.leave-requires-clause-waits
leave-requires-clause-waits c =
    let l = c.args.self.now in
    let first : IsFirstAt c.in-Some.pos c.args.thread (runners_in l) = first_in (Some c.in-Some.pos) c.args.thread l c.as_slice.result.now c.as_slice.ensures.value c.in-Some.ensures.first in
    let has : c.in-Some.pos < length (runners_in l) = slice_get_within (runners_in l) c.in-Some.pos first.runner first.there in
    let same = length_with l.slots.items l.waits.waits in
    let within : c.in-Some.pos < length l.slots.items = omega (arith, has, same) in
    let long = length_line l.slots.items l.waits.waits c.requires.idle.line.waits in
    omega (arith, within, long)

pub overflow_sub-self : goal.overflow_sub-self
overflow_sub-self c =
    let l = c.args.self.now in
    let first : IsFirstAt c.in-Some.pos c.args.thread (runners_in l) = first_in (Some c.in-Some.pos) c.args.thread l c.as_slice.result.now c.as_slice.ensures.value c.in-Some.ensures.first in
    some_held l c.in-Some.pos c.args.thread c.requires.idle first

pub empty-requires : goal.empty-requires
empty-requires c =
    let l = c.args.self.now in
    let first : IsFirstAt c.in-Some.pos c.args.thread (runners_in l) = first_in (Some c.in-Some.pos) c.args.thread l c.as_slice.result.now c.as_slice.ensures.value c.in-Some.ensures.first in
    let has : c.in-Some.pos < length (runners_in l) = slice_get_within (runners_in l) c.in-Some.pos first.runner first.there in
    let same = length_with l.slots.items l.waits.waits in
    let within : c.in-Some.pos < length l.slots.items = omega (arith, has, same) in
    let left = length_left l.slots.items c.leave.new.slots.items l.waits.waits c.in-Some.pos within c.leave.ensures.slots in
    record { within = omega (arith, within, left) }

pub returns-in-Some-clause-idle : goal.returns-in-Some-clause-idle
returns-in-Some-clause-idle c =
    let l = c.args.self.now in
    let first : IsFirstAt c.in-Some.pos c.args.thread (runners_in l) = first_in (Some c.in-Some.pos) c.args.thread l c.as_slice.result.now c.as_slice.ensures.value c.in-Some.ensures.first in
    let new : Line = record { slots = c.empty.new.slots; waits = c.leave.new.waits; ran = l.ran; held = l.held - 1; budget = l.budget; finder = c.empty.new.finder } in
    let some = some_held l c.in-Some.pos c.args.thread c.requires.idle first in
    stopped_idle l new c.in-Some.pos c.args.thread c.leave.new.slots.items c.requires.idle first c.leave.ensures.slots c.leave.ensures.told c.empty.ensures.slots refl (omega (arith, some)) refl c.find.new.finder (subst (AreNamed c.find.new.finder) c.as_slice.ensures.value c.in-Some.ensures.named) c.empty.ensures.finder

pub returns-in-Some-clause-linked : goal.returns-in-Some-clause-linked
returns-in-Some-clause-linked c =
    let l = c.args.self.now in
    let first : IsFirstAt c.in-Some.pos c.args.thread (runners_in l) = first_in (Some c.in-Some.pos) c.args.thread l c.as_slice.result.now c.as_slice.ensures.value c.in-Some.ensures.first in
    let new : Line = record { slots = c.empty.new.slots; waits = c.leave.new.waits; ran = l.ran; held = l.held - 1; budget = l.budget; finder = c.empty.new.finder } in
    let some = some_held l c.in-Some.pos c.args.thread c.requires.idle first in
    stopped_standings l new c.in-Some.pos c.args.thread c.leave.new.slots.items c.requires.idle first c.leave.ensures.slots c.leave.ensures.told c.empty.ensures.slots refl (omega (arith, some)) refl c.find.new.finder (subst (AreNamed c.find.new.finder) c.as_slice.ensures.value c.in-Some.ensures.named) c.empty.ensures.finder

pub returns-in-Some-clause-told : goal.returns-in-Some-clause-told
returns-in-Some-clause-told c =
    let l = c.args.self.now in
    let first : IsFirstAt c.in-Some.pos c.args.thread (runners_in l) = first_in (Some c.in-Some.pos) c.args.thread l c.as_slice.result.now c.as_slice.ensures.value c.in-Some.ensures.first in
    let new : Line = record { slots = c.empty.new.slots; waits = c.leave.new.waits; ran = l.ran; held = l.held - 1; budget = l.budget; finder = c.empty.new.finder } in
    let some = some_held l c.in-Some.pos c.args.thread c.requires.idle first in
    stopped_told l new c.in-Some.pos c.args.thread c.leave.new.slots.items c.requires.idle first c.leave.ensures.slots c.leave.ensures.told c.empty.ensures.slots refl (omega (arith, some)) refl c.find.new.finder (subst (AreNamed c.find.new.finder) c.as_slice.ensures.value c.in-Some.ensures.named) c.empty.ensures.finder

pub returns-in-Some-clause-found : goal.returns-in-Some-clause-found
returns-in-Some-clause-found c =
    let l = c.args.self.now in
    let first : IsFirstAt c.in-Some.pos c.args.thread (runners_in l) = first_in (Some c.in-Some.pos) c.args.thread l c.as_slice.result.now c.as_slice.ensures.value c.in-Some.ensures.first in
    sym (first_linked c.args.thread (runners_in l) c.in-Some.pos first)

pub returns-in-None-clause-found : goal.returns-in-None-clause-found
returns-in-None-clause-found c =
    let l = c.args.self.now in
    sym (none_linked c.args.thread (runners_in l) (first_in None c.args.thread l c.as_slice.result.now c.as_slice.ensures.value c.in-None.ensures.first))

pub returns-in-None-clause-linked : goal.returns-in-None-clause-linked
returns-in-None-clause-linked c =
    let l = c.args.self.now in
    sym (none_without c.args.thread (runners_in l) (first_in None c.args.thread l c.as_slice.result.now c.as_slice.ensures.value c.in-None.ensures.first))

pub find-requires : goal.find-requires
find-requires c =
    let l = c.args.self.now in
    subst (AreNamed l.finder) (sym c.as_slice.ensures.value) (named_slots l.finder l.slots.items l.waits.waits c.requires.idle.line.named)

pub returns-in-None-clause-idle : goal.returns-in-None-clause-idle
returns-in-None-clause-idle c = found_idle c.args.self.now c.find.new.finder c.requires.idle (subst (AreNamed c.find.new.finder) c.as_slice.ensures.value c.in-None.ensures.named)
