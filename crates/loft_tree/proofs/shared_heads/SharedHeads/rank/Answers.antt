use Rattle.std.proofs.Common.{◌≡◌, List, refl, subst, ◌∙◌}
use Rattle.std.proofs.lemmas.Option.{slice_get_read}
use Rattle.loft_tree.specs.declared.heads.SharedHead.{SharedHead}
use Rattle.loft_tree.proofs.RankLemmas.{rank_found, rank_missing, ranks_of}
use Rattle.loft_tree.proofs.shared_heads.SharedHeads.rank.Goals as goal

pub returns-in-Some : goal.returns-in-Some
returns-in-Some c =
    let are = c.deref.ensures.value ∙ subst (λ (xs : List SharedHead). c.self.inside.ranks.items ≡ ranks_of xs) c.self.view_is c.self.invariant in
    rank_found c.args.self.now c.deref.result.now c.args.number c.in-Some.rank.now are
    (slice_get_read c.deref.result.now _ c.args.number c.in-Some.rank.now refl c.in-Some.ensures.lookup.3.0 c.in-Some.ensures.lookup.1)

pub returns-in-None : goal.returns-in-None
returns-in-None c =
    let are = c.deref.ensures.value ∙ subst (λ (xs : List SharedHead). c.self.inside.ranks.items ≡ ranks_of xs) c.self.view_is c.self.invariant in
    rank_missing c.args.self.now c.deref.result.now c.args.number are c.in-None.ensures.lookup.3
