-- A run of the code of a program is one of the program.
use Rattle.std.proofs.Common.{◌≡◌, ℕ, ◌+◌, ◌<◌, List, [], ◌∷◌, map, length, Result, Ok, Err, IfOk, arith, refl, sym, ap, ◌∙◌}
use Rattle.loft_base.specs.declared.ids.SchedId.{SchedId}
use Rattle.loft_base.specs.declared.options.RunOptions.{RunOptions}
use Rattle.loft_tree.specs.declared.heads.Heads.{Heads}
use Rattle.loft_orders.specs.declared.entry.Entry.{Entry}
use Rattle.loft_orders.specs.declared.note.FinalState.{FinalState}
use Rattle.loft_orders.specs.declared.note.InstantNote.{InstantNote}
use Rattle.loft_sense.specs.Instant.{Replayed}
use Rattle.loft_sense.specs.Machine.{Prog, heads}
use Rattle.loft_history.specs.History.{replayed}
use Rattle.loft_history.specs.Report.{schedulers, schedulers_from}
use Rattle.loft_world.specs.Replay.{IsReplayOf, stand_of}

pub if_ok : {A E : Type 0} {P Q : A → Type 0} (r : Result A E) → ((x : A) → P x → Q x) → IfOk r P → IfOk r Q
if_ok (Ok x) f p = f x p
if_ok (Err e) f p = tt

-- functions that agree on each of these schedulers
agree_from : {A : Type 0} (f g : SchedId → A) (k : ℕ) (names : List (List ℕ)) (many : ℕ)
    → k + length names ≡ many → ((s : SchedId) → s.0 < many → f s ≡ g s) → map f (schedulers_from k names) ≡ map g (schedulers_from k names)
agree_from f g k [] many is same = refl
agree_from f g k (name ∷ names) many is same = λ i.
    same (record { 0 = k }) (omega (arith, is)) i ∷ agree_from f g (k + 1) names many (omega (arith, is)) same i

agree : {A : Type 0} (x : Prog) (f g : SchedId → A) → ((s : SchedId) → s.0 < length (heads x).schedulers → f s ≡ g s) → map f (schedulers x) ≡ map g (schedulers x)
agree x f g same = agree_from f g 0 (heads x).schedulers (length (heads x).schedulers) (omega arith) same

-- notes and last states of y's replay are those of x's, where each scheduler's replay is the same
pub replay_told : (x y : Prog) (o : RunOptions) (es : List Entry) (notes : List (List InstantNote)) (finals : List FinalState)
    → heads x ≡ heads y
    → ((s : SchedId) → s.0 < length (heads x).schedulers → replayed x o.limits s es ≡ replayed y o.limits s es)
    → IsReplayOf y o.limits es notes finals → IsReplayOf x o.limits es notes finals
replay_told x y o es notes finals declared same is = record {
  told = is.told
      ∙ ap (λ (names : List (List ℕ)). map (λ (s : SchedId). (replayed y o.limits s es).notes) (schedulers_from 0 names)) (sym (ap (λ (h : Heads). h.schedulers) declared))
      ∙ sym (agree x (λ s. (replayed x o.limits s es).notes) (λ s. (replayed y o.limits s es).notes) (λ s lt. ap (λ (r : Replayed). r.notes) (same s lt)));
  stands = is.stands
      ∙ ap (λ (names : List (List ℕ)). map (λ (s : SchedId). stand_of (replayed y o.limits s es).machine) (schedulers_from 0 names)) (sym (ap (λ (h : Heads). h.schedulers) declared))
      ∙ sym (agree x (λ s. stand_of (replayed x o.limits s es).machine) (λ s. stand_of (replayed y o.limits s es).machine) (λ s lt. ap (λ (r : Replayed). stand_of r.machine) (same s lt)));
}
