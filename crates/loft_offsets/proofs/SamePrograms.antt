-- Two programs that are the same without offsets are both correct or both not, and do the same.
use Rattle.std.proofs.Common.{◌≡◌, sym, ap, ◌∙◌, subst}
use Rattle.loft_tree.specs.Source.{Source}
use Rattle.loft_tree.specs.Resolved.{resolved_of}
use Rattle.loft_show.specs.Places.{without_places}
use Rattle.loft_scopes.specs.Faults.{NamesFit}
use Rattle.loft_numbers.specs.Numbers.{numbered}
use Rattle.loft_place.specs.Links.{IsPlaced}
use Rattle.loft_offsets.proofs.Uses.{names_from, names_to}
use Rattle.loft_offsets.proofs.Named.{resolved_bare}
use Rattle.loft_offsets.proofs.Heads.{numbered_bare}
use Rattle.loft_offsets.proofs.Placed.{placed_from, placed_to}

pub same_names : (p q : Source) → without_places p ≡ without_places q → NamesFit p → NamesFit q
same_names p q same fit = names_from q (subst NamesFit same (names_to p fit))

pub same_links : (p q : Source) → without_places p ≡ without_places q → IsPlaced (numbered p) → IsPlaced (numbered q)
same_links p q same placed =
    placed_from (numbered q)
    (subst IsPlaced (numbered_bare q)
    (subst (λ (s : Source). IsPlaced (numbered s)) same (subst IsPlaced (sym (numbered_bare p)) (placed_to (numbered p) placed))))

pub same_runs : (p q : Source) → without_places p ≡ without_places q → resolved_of (numbered p) ≡ resolved_of (numbered q)
same_runs p q same =
    sym (ap resolved_of (numbered_bare p) ∙ resolved_bare (numbered p))
    ∙ ap (λ (s : Source). resolved_of (numbered s)) same
    ∙ (ap resolved_of (numbered_bare q) ∙ resolved_bare (numbered q))
