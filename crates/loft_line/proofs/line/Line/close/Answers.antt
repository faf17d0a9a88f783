use Rattle.std.proofs.Common.{rules, ◌≡◌, ◌++◌, List, [], sym, ap, subst, ◌∙◌}
use Rattle.std.specs.List.{flat_map}
use Rattle.loft_orders.specs.declared.order.Sent.{Sent}
use Rattle.loft_orders.specs.declared.thread.Thread.{Thread}
use Rattle.loft_waits.specs.Told.{Told}
use Rattle.loft_line.specs.Line.{with_waits, standings_in, stands_if, leaves_if, IsLine}
use Rattle.loft_line.proofs.ClosingLemmas.{still_line, closed_standings, closed_stands, closed_leaves}
use Rattle.loft_line.proofs.RestLemmas.{quiet_closed}
use Rattle.loft_line.proofs.line.Line.close.Goals as goal

pub close_marked-requires : goal.close_marked-requires
close_marked-requires c =
    let l = c.args.self.now in
    record { line = subst (λ (t : Told). IsLine (record l { waits = t })) (sym c.close.ensures) (still_line l c.requires.line) }

pub returns-clause-linked : goal.returns-clause-linked
returns-clause-linked c =
    let l = c.args.self.now in
    c.in_ok-close_marked.ensures.linked ∙ ap (λ (t : Told). standings_in (with_waits l.slots.items t.waits)) c.close.ensures ∙ closed_standings l c.requires.line

pub returns-clause-stands : goal.returns-clause-stands
returns-clause-stands c =
    let l = c.args.self.now in
    let none : c.from_vec-stands.result ≡ [] = search rules in
    c.in_ok-close_marked.ensures.stands
    ∙ ap (λ (s : List Thread). s ++ flat_map stands_if (with_waits l.slots.items c.close.new.self.waits)) none
    ∙ ap (λ (t : Told). flat_map stands_if (with_waits l.slots.items t.waits)) c.close.ensures
    ∙ closed_stands l c.requires.line

pub returns-clause-sent : goal.returns-clause-sent
returns-clause-sent c =
    let l = c.args.self.now in
    c.in_ok-close_marked.ensures.sent
    ∙ ap (λ (t : Told). c.args.sent.now ++ flat_map leaves_if (with_waits l.slots.items t.waits)) c.close.ensures
    ∙ ap (λ (s : List Sent). c.args.sent.now ++ s) (closed_leaves l c.requires.line)

pub returns-clause-quiet : goal.returns-clause-quiet
returns-clause-quiet c = quiet_closed c.args.self.now.waits c.close_marked.new.self.waits c.requires.over (c.in_ok-close_marked.ensures.keeps.told ∙ c.close.ensures)
