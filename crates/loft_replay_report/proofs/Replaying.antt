-- From a history that was followed, and what was compared with it, to the answer.
use Rattle.std.proofs.Common.{◌≡◌, ℕ, List, ap, subst, ◌∙◌}
use Rattle.loft_base.specs.declared.options.RunOptions.{RunOptions}
use Rattle.loft_tree.specs.declared.heads.Heads.{Heads}
use Rattle.loft_orders.specs.declared.entry.Entry.{Entry}
use Rattle.loft_orders.specs.declared.note.FinalState.{FinalState}
use Rattle.loft_orders.specs.declared.note.InstantNote.{InstantNote}
use Rattle.loft_sense.specs.Machine.{Prog, heads}
use Rattle.loft_history.specs.History.{HasEnded}
use Rattle.loft_history.specs.Report.{report}
use Rattle.loft_world.specs.declared.results.Finished.{Finished}
use Rattle.loft_world.specs.Replay.{IsReplayOf}
use Rattle.loft_log.specs.WorldReport.{world_report}
use Rattle.loft_report_shape.specs.Told.{Report}
use Rattle.loft_report_shape.specs.Text.{text_of}
use Rattle.loft_replay.specs.Named.{IsFollowed}
use Rattle.loft_replay.specs.Whole.{IsWhole}
use Rattle.loft_replay_error.specs.Difference.{DifferAt}
use Rattle.loft_replay_error.specs.declared.error.ReplayError.TheVariants.{Differs}
use Rattle.loft_replay_report.specs.Replays.{IsReportOf, IsRefusal}

-- what is written of a history, and of the notes and last states of its replay, is the report of that history
abbrev pub IsTold : Type 0
IsTold = (x : Prog) (o : RunOptions) (es : List Entry) (notes : List (List InstantNote)) (finals : List FinalState) → IsReplayOf x o.limits es notes finals
    → world_report (heads x) o es notes finals ≡ report x o es

-- what is written of a run
abbrev pub written : Heads → RunOptions → Finished → List ℕ
written h o run = world_report h o run.world.history run.notes.of run.finals.of

written_is : (x : Prog) (r : Report) (run : Finished) (h : Heads) → IsTold → h ≡ heads x → IsFollowed x r.options r.choices run → written h r.options run ≡ report x r.options run.world.history
written_is x r run h told declared followed =
    ap (λ (q : Heads). written q r.options run) declared ∙ told x r.options run.world.history run.notes.of run.finals.of followed.replay

whole_of : (x : Prog) (r : Report) (run : Finished) → IsFollowed x r.options r.choices run → HasEnded x r.options run.world.history → IsWhole x r.options r.choices run.world.history
whole_of x r run followed ended = record { made = followed.history; ended = ended }

pub same_report : (x : Prog) (r : Report) (run : Finished) (h : Heads) → IsTold → h ≡ heads x → IsFollowed x r.options r.choices run → HasEnded x r.options run.world.history
    → text_of r ≡ written h r.options run → IsReportOf x (text_of r) r run.world.history
same_report x r run h told declared followed ended same = record { whole = whole_of x r run followed ended; same = same ∙ written_is x r run h told declared followed }

pub other_report : (x : Prog) (r : Report) (run : Finished) (h : Heads) (k : ℕ) → IsTold → h ≡ heads x → IsFollowed x r.options r.choices run → HasEnded x r.options run.world.history
    → DifferAt (text_of r) (written h r.options run) k → IsRefusal x (text_of r) r (Differs k)
other_report x r run h k told declared followed ended d =
    (run.world.history, whole_of x r run followed ended, subst (λ (t : List ℕ). DifferAt (text_of r) t k) (written_is x r run h told declared followed) d)
