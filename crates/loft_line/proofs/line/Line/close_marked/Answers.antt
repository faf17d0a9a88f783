use Rattle.std.proofs.Common.{Some, None, sym, subst, ◌+◌, ◌∙◌}
use Rattle.loft_line.proofs.EndLemmas.{IfMark, mark_from, closed_line, next_stands, next_leaves, next_standings, next_unmarked, last_stands, last_leaves}
use Rattle.loft_line.proofs.line.Line.close_marked.Goals as goal

pub marks-preserved : goal.marks-preserved
marks-preserved c =
    let old = c.marks.self in
    let new = c.close_at.new.self in
    let p = c.in-Some.pos in
    let mark : IfMark old.ran (Some p) = subst (IfMark old.ran) c.in-Some.is c.marks.invariant.mark in
    let d = c.in_ok-close_at.ensures.closed in
    record {
      line = closed_line p old new c.marks.invariant.line mark.1 d;
      mark = mark_from new.ran (p + 1) c.next-next-in-Some.result (next_unmarked p old new mark.2 d) c.next-next-in-Some.ensures;
      linked = next_standings p old new d ∙ c.marks.invariant.linked;
      stands = next_stands p old new c.marks.stands c.close_at.new.stands c.marks.invariant.line mark.2 d (c.in_ok-close_at.ensures.stands d.was d.there) ∙ c.marks.invariant.stands;
      sent = next_leaves p old new c.marks.sent c.close_at.new.sent c.marks.invariant.line mark.2 d (c.in_ok-close_at.ensures.sent d.was d.there) ∙ c.marks.invariant.sent;
      keeps = record { told = d.told ∙ c.marks.invariant.keeps.told; budget = d.budget ∙ c.marks.invariant.keeps.budget };
    }

pub returns-clause-stands : goal.returns-clause-stands
returns-clause-stands c =
    let none : IfMark c.marks.self.ran None = subst (IfMark c.marks.self.ran) c.in_default.is c.marks.invariant.mark in
    sym (last_stands c.marks.self c.marks.stands c.marks.invariant.line none) ∙ c.marks.invariant.stands

pub returns-clause-sent : goal.returns-clause-sent
returns-clause-sent c =
    let none : IfMark c.marks.self.ran None = subst (IfMark c.marks.self.ran) c.in_default.is c.marks.invariant.mark in
    sym (last_leaves c.marks.self c.marks.sent c.marks.invariant.line none) ∙ c.marks.invariant.sent
