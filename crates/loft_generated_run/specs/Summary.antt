-- The summary of a run of a generated source (docs/GENERATED.md, "The summary").
use Rattle.std.specs.Prelude.{◌≡◌, ℕ, List}
use Rattle.loft_base.specs.declared.options.RunOptions.{RunOptions}
use Rattle.loft_tree.specs.Resolved.{resolved_of}
use Rattle.loft_orders.specs.declared.entry.Entry.{Entry}
use Rattle.loft_orders.specs.declared.note.InstantNote.{InstantNote}
use Rattle.loft_orders.specs.declared.note.FinalState.{FinalState}
use Rattle.loft_sense.specs.Machine.{Prog, Tree, heads}
use Rattle.loft_history.specs.History.{HasEnded}
use Rattle.loft_history.specs.Legal.{HasNoCallers, IsLegal}
use Rattle.loft_numbers.specs.Numbers.{numbered}
use Rattle.loft_world.specs.Replay.{IsReplayOf}
use Rattle.loft_generated.specs.Walks.{walks_of}
use Rattle.loft_summary.specs.Lines.{summary_text}

-- the program of K, by its statements
abbrev pub prog_of : ℕ → Prog
prog_of k = Tree (resolved_of (numbered (walks_of k)))

-- the options of its run
abbrev pub run_options : RunOptions
run_options = record { limits = record { instants = 2000; budget = 10000; block = 1000000 }; workers = 2 }

-- the history is one of a run of x: no caller has an entry in it, it is legal, and it has ended
pub record IsRunBy (x : Prog) (history : List Entry) : Type 0 where
  pub callers : HasNoCallers (heads x) history
  pub legal : IsLegal x run_options history
  pub ended : HasEnded x run_options history

-- the history is one of a run of the program of K
abbrev pub IsRunOf : ℕ → List Entry → Type 0
IsRunOf k history = IsRunBy (prog_of k) history

-- the text is the summary of a run of the program of K: of the notes and last states of its replay
pub record IsSummary (k : ℕ) (text : List ℕ) : Type 0 where
  pub history : List Entry
  pub run : IsRunOf k history
  pub notes : List (List InstantNote)
  pub finals : List FinalState
  pub replay : IsReplayOf (prog_of k) run_options.limits history notes finals
  pub whole : text ≡ summary_text k notes finals
