-- The example is an expanded program.
use Rattle.std.proofs.Common.{◌≡◌, ℕ, zero, suc, false, [], ◌∷◌, refl}
use Rattle.loft_sense.specs.Tree.{body_at}
use Rattle.loft_locks.specs.Locks.{Other, call_of, BodyPairs, IsExpanded}
use Rattle.std.specs.Prelude.{pos}
use Rattle.loft_sense.specs.Run.{go}
use Rattle.loft_sense.specs.Passes.{passes}
use Rattle.loft_sense.specs.Tally.{tally_after}
use Rattle.std.specs.Fmt.{digits}
use Rattle.loft_sense.specs.Instant.{instant}
use Rattle.loft_locks.specs.Example.{lock, example, broken, shared_after, inside_after_instants}

module_pairs : (n : ℕ) → call_of lock (record { 0 = n }) ≡ Other → BodyPairs example lock false false (body_at example (record { 0 = n }))
module_pairs zero e = absurd cc
module_pairs (suc zero) e = absurd cc
module_pairs (suc (suc zero)) e = (((refl, refl), tt), (tt, ((tt, λ away. absurd cc), (tt, (((refl, refl), tt), refl)))))
module_pairs (suc (suc (suc n))) e = refl

pub is_expanded : IsExpanded example lock
is_expanded = record {
  variable = _;
  declared = refl;
  there = refl;
  begins = refl;
  takes = refl;
  gives = refl;
  takes_there = (refl, refl);
  gives_there = (refl, refl);
  others = λ m e. module_pairs m.0 e;
  starts = (refl, (refl, tt));
  clients = tt;
}

pub first_instant : (shared_after example 1 ≡ pos 1 ∷ []) × (inside_after_instants example 1 ≡ 1)
unfolding instant passes go tally_after digits
first_instant = (refl, refl)

pub second_instant : (shared_after example 2 ≡ pos 1 ∷ []) × (inside_after_instants example 2 ≡ 1)
unfolding instant passes go tally_after digits
second_instant = (refl, refl)

pub third_instant : (shared_after example 3 ≡ pos 0 ∷ []) × (inside_after_instants example 3 ≡ 0)
unfolding instant passes go tally_after digits
third_instant = (refl, refl)

pub both_inside : inside_after_instants broken 1 ≡ 2
unfolding instant passes go tally_after digits
both_inside = refl
