-- What a generated source reads as is its program but for the offsets, and is correct too.
use Rattle.std.proofs.Common.{◌≡◌, ℕ, List, [], ◌∷◌, ◌++◌, map, refl, sym, ap, ◌∙◌, subst}
use Rattle.std.specs.List.{range_with_len}
use Rattle.loft_tree.specs.Source.{Source}
use Rattle.loft_tree.specs.Resolved.{resolved_of}
use Rattle.loft_grammar.specs.Texts.{Reads}
use Rattle.loft_show.specs.Places.{without_places}
use Rattle.loft_show.proofs.reads.Law.{canon_is}
use Rattle.loft_scopes.specs.Faults.{NamesFit}
use Rattle.loft_numbers.specs.Numbers.{numbered}
use Rattle.loft_parse.proofs.TextLaws.{one_program}
use Rattle.loft_place.specs.Links.{IsPlaced}
use Rattle.loft_offsets.proofs.SamePrograms.{same_links, same_names, same_runs}
use Rattle.loft_gen.specs.Generated.{generated, rounds_of, threads_of}
use Rattle.loft_generated.specs.Walks.{walks_of, start, walks}
use Rattle.loft_generated.proofs.Text.{canonical}
use Rattle.loft_generated.proofs.Limits.{limits}
use Rattle.loft_generated.proofs.Names.{names_are}
use Rattle.loft_generated.proofs.Links.{links_are}

pub names : (k : ℕ) → NamesFit (walks_of k)
names k = names_are (rounds_of k) (range_with_len 1 (threads_of k))

pub links : (k : ℕ) → IsPlaced (numbered (walks_of k))
links k = links_are (rounds_of k) (range_with_len 1 (threads_of k))

-- the program has no offsets
starts_bare : (ns : List ℕ) → without_places (map start ns) ≡ map start ns
starts_bare [] = refl
starts_bare (n ∷ ns) = ap (λ (ds : Source). start n ∷ ds) (starts_bare ns)

walks_bare : (rounds : ℕ) (ns : List ℕ) → without_places (walks rounds ns) ≡ walks rounds ns
walks_bare rounds ns = ap (λ (ds : Source). walks rounds [] ++ ds) (starts_bare ns)

program_bare : (k : ℕ) → without_places (walks_of k) ≡ walks_of k
program_bare k = walks_bare (rounds_of k) (range_with_len 1 (threads_of k))

-- the text reads as a program
reads : (k : ℕ) → (q : Source) × Reads (generated k) q × (without_places q ≡ without_places (walks_of k))
reads k =
    let (q, read, same) = canon_is (walks_of k) (limits k) in
    (q, subst (λ (text : List ℕ). Reads text q) (sym (canonical k)) read, same)

pub read : (k : ℕ) → (p : Source) × Reads (generated k) p
read k = let (q, is, same) = reads k in (q, is)

alike : (k : ℕ) (p : Source) → Reads (generated k) p → without_places (walks_of k) ≡ without_places p
alike k p is =
    let (q, other, same) = reads k in
    sym same ∙ ap without_places (one_program (generated k) q p other is)

pub same : (k : ℕ) (p : Source) → Reads (generated k) p → without_places p ≡ walks_of k
same k p is = sym (alike k p is) ∙ program_bare k

pub read_names : (k : ℕ) (p : Source) → Reads (generated k) p → NamesFit p
read_names k p is = same_names (walks_of k) p (alike k p is) (names k)

pub read_links : (k : ℕ) (p : Source) → Reads (generated k) p → IsPlaced (numbered p)
read_links k p is = same_links (walks_of k) p (alike k p is) (links k)

pub read_runs : (k : ℕ) (p : Source) → Reads (generated k) p → resolved_of (numbered p) ≡ resolved_of (numbered (walks_of k))
read_runs k p is = sym (same_runs (walks_of k) p (alike k p is))
