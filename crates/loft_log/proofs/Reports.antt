-- The report of a world is that of its history.
use Rattle.std.proofs.Common.{◌≡◌, List, [], ◌∷◌, ◌++◌, map, refl, ap, ◌∙◌, codes}
use Rattle.std.specs.List.{flat_map}
use Rattle.loft_base.specs.declared.ids.SchedId.{SchedId}
use Rattle.loft_orders.specs.declared.entry.Entry.{Entry}
use Rattle.loft_base.specs.declared.options.Limits.{Limits}
use Rattle.loft_base.specs.declared.options.RunOptions.{RunOptions}
use Rattle.loft_orders.specs.declared.note.FinalState.{FinalState}
use Rattle.loft_orders.specs.declared.note.InstantNote.{InstantNote}
use Rattle.loft_sense.specs.Machine.{Prog, heads}
use Rattle.loft_history.specs.History.{choice_of, replayed}
use Rattle.loft_orders.specs.Lines.{text_of}
use Rattle.loft_history.specs.Report.{head_lines, scheduler_lines, left_part, schedulers, report_lines, report}
use Rattle.loft_world.specs.Replay.{stand_of, IsReplayOf}
use Rattle.loft_log.specs.WorldReport.{world_blocks, world_left, world_report}

-- the blocks of schedulers with the notes and states of the replay
blocks-replayed : (x : Prog) (limits : Limits) (es : List Entry) (ss : List SchedId) → world_blocks (heads x) es ss (map (λ s. (replayed x limits s es).notes) ss) (map (λ s. stand_of (replayed x limits s es).machine) ss) ≡ flat_map (scheduler_lines x limits es) ss
blocks-replayed x limits es [] = refl
blocks-replayed x limits es (s ∷ ss) = ap (λ rest. scheduler_lines x limits es s ++ rest) (blocks-replayed x limits es ss)

pub report-world : (x : Prog) (o : RunOptions) (es : List Entry) (notes : List (List InstantNote)) (finals : List FinalState) → IsReplayOf x o.limits es notes finals → world_report (heads x) o es notes finals ≡ report x o es
unfolding report_lines
report-world x o es notes finals replay =
    let ss = schedulers x in
    let blocks = ap (λ ns. world_blocks (heads x) es ss ns finals) replay.told
    ∙ (ap (λ fs. world_blocks (heads x) es ss (map (λ s. (replayed x o.limits s es).notes) ss) fs) replay.stands
    ∙ blocks-replayed x o.limits es ss) in
    ap (λ lines. text_of (head_lines (heads x) o (map choice_of es) ++ (lines ++ (left_part (world_left (heads x) es) ++ codes "end" ∷ [])))) blocks
