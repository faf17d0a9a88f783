use Rattle.std.proofs.Common.{drop, map}
use Rattle.loft_tree.specs.ProgramView.{module_of}
use Rattle.loft_place.proofs.Rests.{LinksLeft}
use Rattle.loft_place.proofs.links.check_links.Given as goal

-- the declarations that are left decide
abbrev pub invariant-loop-link : goal.invariant-loop-link
invariant-loop-link l = LinksLeft l.heads (map module_of l.modules) (drop l.link-index l.links) l.links
