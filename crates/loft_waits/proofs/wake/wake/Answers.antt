use Rattle.std.proofs.Common.{◌≡◌, ◌≤◌, ℕ, List, [], ◌∷◌, map, length, length-set, ap, sym, subst, ◌∙◌, arith, Bor}
use Rattle.std.specs.List.{list_any}
use Rattle.std.specs.BTreeMap.{is_at}
use Rattle.std.proofs.lemmas.List.{map-append}
use Rattle.std.proofs.lemmas.Iterator.Consumers.{YieldsList-from_rest, YieldsList-end}
use Rattle.loft_waits.specs.Told.{ready_at}
use Rattle.loft_waits.specs.Places.{Place, place_cmp, flag}
use Rattle.loft_waits.proofs.RangeLemmas.{SetsDone, woken_some, woken_done, found}
use Rattle.loft_waits.proofs.wake.wake.Goals as goal

pub loop-place-preserved : goal.loop-place-preserved
loop-place-preserved c =
    let t = c.args.plain.now in
    let start = c.args.ready.now in
    let now = c.loop-place.ready in
    let new = c.set_flag.new.ready in
    let i = c.loop-place.invariant in
    let q : Place = c.in-Some.place.now in
    let many : length now ≡ length start = i.2 in
    let le : length t.waits ≤ length now = let m = c.requires.many in omega (arith, m, many) in
    let f : Bor Place → Place = λ y. y.now in (
      tt,
      tt,
      ap (λ (l : List ℕ). length l) c.set_flag.ensures ∙ length-set now q.1 (flag (ready_at t q.1)) ∙ many,
      woken_some t start now new q.1 i.3 c.set_flag.ensures le,
      subst (λ (l : List Place). SetsDone t l new) (sym (map-append f c.loop-place.yielded (c.in-Some.place ∷ []))) (woken_done t (map f c.loop-place.yielded) q now new i.4 c.set_flag.ensures le),
    )

pub returns-clause-listed : goal.returns-clause-listed
returns-clause-listed c =
    let t = c.args.plain.now in
    let all = YieldsList-end (YieldsList-from_rest _ (c.into_iter-place-iterator.ensures.into_iter_gives ∙ c.range-place-items.ensures.between tt)) c.loop-place.yielded _ c.loop-place.yielded_by _ _ c.in-None.is c.next.ensures.steps in
    λ k from to i lt h.
    c.loop-place.invariant.4 k i
    (ap (λ (l : List Place). list_any (is_at (place_cmp (k, i))) l) all.0
    ∙ found c.args.set.now c.args.first c.args.last k c.len.result i from to (let e = c.len.ensures in omega (arith, e, lt)) h)
