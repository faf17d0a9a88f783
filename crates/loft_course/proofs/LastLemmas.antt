-- What a run leaves.
use Rattle.std.proofs.Common.{◌≡◌, ℕ, ◌+◌, List, [], ◌∷◌, map, length, refl, ◌∙◌, ap}
use Rattle.std.specs.List.{range_with_len}
use Rattle.loft_base.specs.declared.ids.SchedId.{SchedId}
use Rattle.loft_orders.specs.declared.entry.Entry.{Entry}
use Rattle.loft_base.specs.declared.options.RunOptions.{RunOptions}
use Rattle.loft_orders.specs.declared.note.InstantNote.{InstantNote}
use Rattle.loft_orders.specs.declared.note.FinalState.{FinalState}
use Rattle.loft_sense.specs.Machine.{Prog, heads}
use Rattle.loft_history.specs.Report.{schedulers_from}
use Rattle.loft_world.specs.Replay.{stand_of, IsReplayOf}
use Rattle.loft_course.specs.Course.{Stand, stand_after, Course, IsRun}

-- what is told of each scheduler, by its index and by its number
by_number : {A : Type 0} (tell : Stand → A) (x : Prog) (o : RunOptions) (h : List Entry) (k : ℕ) (names : List (List ℕ))
    → map tell (map (stand_after x o h) (range_with_len k (length names))) ≡ map (λ (s : SchedId). tell (stand_after x o h s.0)) (schedulers_from k names)
by_number tell x o h k [] = refl
by_number {A} tell x o h k (name ∷ names) = ap (λ (l : List A). tell (stand_after x o h k) ∷ l) (by_number tell x o h (k + 1) names)

pub lasts : (x : Prog) (o : RunOptions) (r : Course) (notes : List (List InstantNote)) (finals : List FinalState) → IsRun x o r
    → notes ≡ map (λ (s : Stand). s.notes) r.stations → finals ≡ map (λ (s : Stand). stand_of s.machine) r.stations
    → IsReplayOf x o.limits r.world.history notes finals
lasts x o r notes finals run told stands = record {
  told = told ∙ (ap (map (λ (s : Stand). s.notes)) run.stations ∙ by_number (λ (s : Stand). s.notes) x o r.world.history 0 (heads x).schedulers);
  stands = stands ∙ (ap (map (λ (s : Stand). stand_of s.machine)) run.stations ∙ by_number (λ (s : Stand). stand_of s.machine) x o r.world.history 0 (heads x).schedulers);
}
