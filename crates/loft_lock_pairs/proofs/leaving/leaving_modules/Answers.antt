use Rattle.std.proofs.Common.{◌≡◌, ◌<◌, true, List, map, set, refl, sym, ap, subst, ◌∙◌, arith}
use Rattle.loft_tree.specs.NamedTree.{NamedModule}
use Rattle.loft_tree.specs.Resolved.{Body, resolved_of, body_of}
use Rattle.loft_numbers.specs.Numbers.{numbered}
use Rattle.std.specs.Prelude.{Bool, Option, IsNone, ℕ}
use Rattle.loft_lock_pairs.specs.Leaving.{bodies_of, IsUnmarked}
use Rattle.loft_lock_pairs.proofs.TurnLemmas.{unmarked, fewer, same_length, as_many, only_more, all_told}
use Rattle.loft_lock_pairs.proofs.leaving.leaving_modules.Goals as goal

pub loop-number-smaller : goal.loop-number-smaller
loop-number-smaller c =
    let away = c.loop-number.away.items in
    let found : IsUnmarked c.loop-number.away.items (bodies_of c.args.modules.now) c.in-Some.number =
    subst (λ (bs : List Bool). IsUnmarked bs (bodies_of c.args.modules.now) c.in-Some.number) c.as_slice.ensures.value c.in-Some.ensures.some in
    let less : unmarked (set c.loop-number.away.items c.in-Some.number true) < unmarked c.loop-number.away.items =
    fewer away c.in-Some.number (omega (arith, found.there, as_many c.args.modules.now, c.loop-number.invariant.all)) found.unmarked in
    less

pub loop-number-preserved : goal.loop-number-preserved
loop-number-preserved c =
    let away = c.loop-number.away.items in
    let found : IsUnmarked c.loop-number.away.items (bodies_of c.args.modules.now) c.in-Some.number =
    subst (λ (bs : List Bool). IsUnmarked bs (bodies_of c.args.modules.now) c.in-Some.number) c.as_slice.ensures.value c.in-Some.ensures.some in
    record {
      all = same_length away c.in-Some.number true ∙ c.loop-number.invariant.all;
      only = λ p e. only_more p away c.in-Some.number (c.loop-number.invariant.only p e) (subst (λ (ds : List Body). IsUnmarked c.loop-number.away.items ds c.in-Some.number) (sym e) found);
    }

pub returns : goal.returns
returns c s e =
    let away = c.loop-number.away.items in
    let bodies : (resolved_of (numbered s)).bodies ≡ bodies_of c.args.modules.now = ap (λ (ms : List NamedModule). map (λ (m : NamedModule). body_of m.body) ms) e in
    let none = c.first_unmarked.ensures.none (subst (λ (o : Option ℕ). IsNone o) (sym c.in_default.is) refl) in
    λ m. all_told (resolved_of (numbered s)) away (c.loop-number.invariant.only (resolved_of (numbered s)) bodies)
    (λ n h. none n (subst (λ (bs : List Bool). IsUnmarked bs (bodies_of c.args.modules.now) n) (sym c.as_slice.ensures.value) (subst (λ (ds : List Body). IsUnmarked c.loop-number.away.items ds n) bodies h))) m
