-- Engines in the order of their schedulers.
use Rattle.std.proofs.Common.{◌≡◌, arith, ℕ, ◌+◌, Bool, List, [], ◌∷◌, length, map, refl, ap, ◌∙◌}
use Rattle.std.specs.List.{range_with_len}
use Rattle.loft_base.specs.declared.ids.SchedId.{SchedId}
use Rattle.loft_base.specs.declared.options.Limits.{Limits}
use Rattle.loft_orders.specs.declared.entry.Entry.{Entry}
use Rattle.loft_orders.specs.declared.note.FinalState.{FinalState}
use Rattle.loft_sense.specs.Heads.{scheduler}
use Rattle.loft_sense.specs.Machine.{Prog, Mach, heads}
use Rattle.loft_history.specs.History.{replayed}
use Rattle.loft_history.specs.Report.{schedulers, schedulers_from}
use Rattle.loft_world.specs.Replay.{stand_of}
use Rattle.loft_actor.specs.Engines.{Shown, shown, engine_after}

pub from_none : (k : ℕ) → 0 + k ≡ k
from_none k = omega arith

pub shown_is : (x y : Prog) (s q : SchedId) (l k : Limits) (m n : Mach) (f g : Bool) → x ≡ y → s ≡ q → l ≡ k → m ≡ n → f ≡ g → shown x s l m f ≡ shown y q k n g
shown_is x y s q l k m n f g a b c d e =
    ap (λ z. shown z s l m f) a ∙ ap (λ z. shown y z l m f) b ∙ ap (λ z. shown y q z m f) c ∙ ap (λ z. shown y q k z f) d ∙ ap (λ z. shown y q k n z) e

pub stand_is : (f : FinalState) (m : Mach) → f.linked ≡ m.linked → f.shared ≡ m.shared → f ≡ stand_of m
stand_is f m a b = ap (λ z. record { linked = z; shared = f.shared }) a ∙ ap (λ z. record { linked = m.linked; shared = z }) b

module _ {A : Type 0} where
  by_shown : (of : A → Shown) (es : List A) → map (λ e. stand_of (of e).machine) es ≡ map (λ v. stand_of v.machine) (map of es)
  by_shown of [] = refl
  by_shown of (e ∷ es) = ap (λ z. stand_of (of e).machine ∷ z) (by_shown of es)

  after_each : (x : Prog) (l : Limits) (h : List Entry) (k : ℕ) (names : List A)
      → map (λ v. stand_of v.machine) (map (engine_after x l h) (range_with_len k (length names))) ≡ map (λ s. stand_of (replayed x l s h).machine) (schedulers_from k names)
  after_each x l h k [] = refl
  after_each x l h k (n ∷ names) = ap (λ z. stand_of (replayed x l (scheduler k) h).machine ∷ z) (after_each x l h (k + 1) names)

-- the engines that a run leaves stand as the replay of the history says
pub stands_are : {A : Type 0} (of : A → Shown) (x : Prog) (l : Limits) (h : List Entry) (es : List A) → map of es ≡ map (engine_after x l h) (range_with_len 0 (length (heads x).schedulers))
    → map (λ e. stand_of (of e).machine) es ≡ map (λ s. stand_of (replayed x l s h).machine) (schedulers x)
stands_are of x l h es is = by_shown of es ∙ ap (map (λ (v : Shown). stand_of v.machine)) is ∙ after_each x l h 0 (heads x).schedulers
