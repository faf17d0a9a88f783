use Rattle.std.proofs.Common.{◌≡◌, ◌≤◌, drop}
use Rattle.loft_tree.specs.NamedView.{statements_of}
use Rattle.loft_tree.specs.Stops.{size}
use Rattle.loft_sense.specs.Stands.{leads, stop_in}
use Rattle.loft_standing.specs.Stops.{body_from}
use Rattle.loft_standing.proofs.search.+search.Given as goal

-- the stop is looked for in the rest, which leads where the whole leads
abbrev pub invariant-search_body-loop-statement : goal.invariant-search_body-loop-statement
invariant-search_body-loop-statement l = record {
  few : size (statements_of (drop l.statement-index l.body)) ≤ size (statements_of l.body);
  stop : stop_in l.heads (body_from l.body) l.k l.depth l.fn.place ≡ stop_in l.heads (body_from (drop l.statement-index l.body)) l.k l.depth l.here;
  end : leads l.heads (body_from l.body) l.fn.place ≡ leads l.heads (body_from (drop l.statement-index l.body)) l.here;
}
