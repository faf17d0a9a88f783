use Rattle.std.proofs.Common.{ap, ◌∙◌, List, refl, length}
use Rattle.loft_passes.specs.declared.runner.Runner.{Runner}
use Rattle.loft_line.specs.declared.line.Line.{Line}
use Rattle.loft_line.proofs.PackLemmas.{long_take}
use Rattle.loft_line.proofs.RoomLemmas.{free_from, cut_idle, cut_linked, cut_told, cut_runners}
use Rattle.loft_line.proofs.line.Line.cut.Goals as goal

pub truncate-requires-2 : goal.truncate-requires-2
truncate-requires-2 c = record { free = free_from c.args.self.now c.args.len c.requires.idle c.requires.empty }

pub returns-clause-idle : goal.returns-clause-idle
returns-clause-idle c =
    let l = c.args.self.now in
    let new : Line = record { slots = c.truncate.new.self; waits = c.truncate-2.new.self; ran = c.truncate-3.new.self; held = l.held; budget = l.budget; finder = l.finder } in
    cut_idle l new c.args.len c.requires.idle c.requires.empty c.truncate.ensures.items c.truncate-2.ensures c.truncate-3.ensures refl refl refl

pub returns-clause-linked : goal.returns-clause-linked
returns-clause-linked c =
    let l = c.args.self.now in
    let new : Line = record { slots = c.truncate.new.self; waits = c.truncate-2.new.self; ran = c.truncate-3.new.self; held = l.held; budget = l.budget; finder = l.finder } in
    cut_linked l new c.args.len c.requires.idle c.requires.empty c.truncate.ensures.items c.truncate-2.ensures c.truncate-3.ensures refl refl refl

pub returns-clause-told : goal.returns-clause-told
returns-clause-told c =
    let l = c.args.self.now in
    let new : Line = record { slots = c.truncate.new.self; waits = c.truncate-2.new.self; ran = c.truncate-3.new.self; held = l.held; budget = l.budget; finder = l.finder } in
    cut_told l new c.args.len c.requires.idle c.requires.empty c.truncate.ensures.items c.truncate-2.ensures c.truncate-3.ensures refl refl refl

pub returns-clause-places : goal.returns-clause-places
returns-clause-places c = ap (λ (s : List Runner). length s) c.truncate.ensures.items ∙ long_take c.args.len c.args.self.now.slots.items c.requires.order

pub returns-clause-first : goal.returns-clause-first
returns-clause-first c =
    let l = c.args.self.now in
    let new : Line = record { slots = c.truncate.new.self; waits = c.truncate-2.new.self; ran = c.truncate-3.new.self; held = l.held; budget = l.budget; finder = l.finder } in
    cut_runners l new c.args.len c.requires.idle c.requires.empty c.truncate.ensures.items c.truncate-2.ensures c.truncate-3.ensures refl refl refl
