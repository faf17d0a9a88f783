-- The report of a history, and of what was kept of its instants (docs/REPORT.md, "The report").
use Rattle.std.specs.Prelude.{List, [], ◌∷◌, ◌++◌, ℕ, map, codes}
use Rattle.std.specs.List.{flat_map}
use Rattle.loft_base.specs.declared.ids.SchedId.{SchedId}
use Rattle.loft_tree.specs.declared.heads.Heads.{Heads}
use Rattle.loft_orders.specs.declared.entry.Entry.{Entry}
use Rattle.loft_base.specs.declared.options.RunOptions.{RunOptions}
use Rattle.loft_orders.specs.declared.note.FinalState.{FinalState}
use Rattle.loft_orders.specs.declared.note.InstantNote.{InstantNote}
use Rattle.loft_history.specs.History.{choice_of, log, waiting}
use Rattle.loft_orders.specs.Lines.{text_of}
use Rattle.loft_history.specs.Report.{head_lines, instants_lines, final_lines, left_line, left_part, schedulers_from}
use Rattle.loft_orders.specs.Text.{scheduler_name}

-- a scheduler's block: the batches that it took with the notes of its instants, and how it stands in the end
abbrev pub world_block : Heads → List Entry → SchedId → List InstantNote → FinalState → List (List ℕ)
world_block h es s notes last = (codes "scheduler " ++ scheduler_name h s) ∷ instants_lines h (log s es) notes ++ final_lines h s last.linked last.shared

-- a block for each scheduler that has notes and a last state
abbrev pub world_blocks : Heads → List Entry → List SchedId → List (List InstantNote) → List FinalState → List (List ℕ)
world_blocks h es [] notes finals = []
world_blocks h es (s ∷ ss) [] finals = []
world_blocks h es (s ∷ ss) (n ∷ ns) [] = []
world_blocks h es (s ∷ ss) (n ∷ ns) (last ∷ finals) = world_block h es s n last ++ world_blocks h es ss ns finals

-- what waits in the end, for these schedulers
abbrev pub left_of_each : Heads → List Entry → List SchedId → List (List ℕ)
left_of_each h es ss = flat_map (λ s. map (left_line h s) (waiting h s es)) ss

-- what waits in the end, scheduler by scheduler
abbrev pub world_left : Heads → List Entry → List (List ℕ)
world_left h es = left_of_each h es (schedulers_from 0 h.schedulers)

-- options and choices, a block for each scheduler, what is left over
abbrev pub world_lines : Heads → RunOptions → List Entry → List (List InstantNote) → List FinalState → List (List ℕ)
world_lines h o es notes finals =
    head_lines h o (map choice_of es)
    ++ (world_blocks h es (schedulers_from 0 h.schedulers) notes finals
    ++ (left_part (world_left h es)
    ++ codes "end" ∷ []))

-- the bytes of that report
abbrev pub world_report : Heads → RunOptions → List Entry → List (List InstantNote) → List FinalState → List ℕ
world_report h o es notes finals = text_of (world_lines h o es notes finals)
