-- From a run to the promise of its report.
use Rattle.std.proofs.Common.{◌≡◌, ℕ, List, [], ◌∷◌, ◌++◌, map, refl, sym, ◌∙◌, ap, subst, append_assoc}
use Rattle.std.specs.Prelude.{◌↔◌, Ok}
use Rattle.loft_tree.specs.declared.heads.Heads.{Heads}
use Rattle.loft_orders.specs.declared.entry.Entry.{Entry}
use Rattle.loft_base.specs.declared.options.RunOptions.{RunOptions}
use Rattle.loft_orders.specs.declared.note.FinalState.{FinalState}
use Rattle.loft_orders.specs.declared.note.InstantNote.{InstantNote}
use Rattle.loft_sense.specs.Machine.{Prog, heads}
use Rattle.loft_history.specs.History.{Choice, choice_of, hist, HasEnded}
use Rattle.loft_history.specs.Legal.{IsLegal}
use Rattle.loft_orders.specs.Lines.{text_of}
use Rattle.loft_history.specs.Report.{head_lines, report}
use Rattle.loft_world.specs.declared.results.Finished.{Finished}
use Rattle.loft_world.specs.Replay.{IsReplayOf}
use Rattle.loft_course.specs.Running.{IsWholeRun}
use Rattle.loft_log.specs.WorldReport.{world_report}
use Rattle.loft_commands.specs.Promise.{BeginsWith, IsReport}

text_of-append : (xs ys : List (List ℕ)) → text_of (xs ++ ys) ≡ text_of xs ++ text_of ys
text_of-append [] ys = refl
text_of-append (x ∷ xs) ys = ap (λ (t : List ℕ). (x ++ 10 ∷ []) ++ t) (text_of-append xs ys) ∙ sym (append_assoc (x ++ 10 ∷ []) (text_of xs) (text_of ys))

-- what is written of a history, and of the notes and last states of its replay, is the report of that history
abbrev pub IsTold : Type 0
IsTold = (x : Prog) (o : RunOptions) (es : List Entry) (notes : List (List InstantNote)) (finals : List FinalState) → IsReplayOf x o.limits es notes finals
    → world_report (heads x) o es notes finals ≡ report x o es

-- the history of a list of choices is legal
abbrev pub AreLegal : Type 0
AreLegal = (x : Prog) (o : RunOptions) (choices : List Choice) (h : List Entry) → hist x o choices ≡ Ok h → IsLegal x o h

-- what is written of a whole run
abbrev pub text_of_run : Heads → RunOptions → Finished → List ℕ
text_of_run h o run = world_report h o run.world.history run.notes.of run.finals.of

-- the report of a whole run keeps the promise
promised : (x : Prog) (o : RunOptions) (run : Finished) → IsTold → AreLegal → IsWholeRun x o run → IsReport x o (text_of_run (heads x) o run)
promised x o run told made_legal whole = record {
  choices = map choice_of run.world.history;
  history = run.world.history;
  named = (_, text_of-append (head_lines (heads x) o (map choice_of run.world.history)) _);
  made = whole.history;
  legal = made_legal x o (map choice_of run.world.history) run.world.history whole.history;
  whole = told x o run.world.history run.notes.of run.finals.of whole.replay;
  ended = whole.ended;
}

-- what is written of it is a report of x, where these are its heads
pub written_report : (x : Prog) (o : RunOptions) (run : Finished) (h : Heads) → IsTold → AreLegal → h ≡ heads x → IsWholeRun x o run → IsReport x o (text_of_run h o run)
written_report x o run h told made_legal declared is = subst (λ (q : Heads). IsReport x o (text_of_run q o run)) (sym declared) (promised x o run told made_legal is)

-- nothing that is told of a run tells whether x or y was run
pub record ToldAlike (x y : Prog) : Type 0 where
  pub declared : heads y ≡ heads x
  pub histories : (o : RunOptions) (choices : List Choice) → hist x o choices ≡ hist y o choices
  pub legal : (o : RunOptions) (es : List Entry) → IsLegal x o es ↔ IsLegal y o es
  pub ended : (o : RunOptions) (es : List Entry) → IsLegal x o es → HasEnded x o es ↔ HasEnded y o es
  pub reports : (o : RunOptions) (es : List Entry) → IsLegal x o es → report x o es ≡ report y o es

-- then a report of y is one of x
pub report_told : (x y : Prog) (o : RunOptions) (text : List ℕ) → ToldAlike x y → IsReport y o text → IsReport x o text
report_told x y o text alike is =
    let legal : IsLegal x o is.history = (alike.legal o is.history).1 is.legal in record {
      choices = is.choices;
      history = is.history;
      named = subst (λ (h : Heads). BeginsWith h o is.choices text) alike.declared is.named;
      made = alike.histories o is.choices ∙ is.made;
      legal = legal;
      whole = is.whole ∙ sym (alike.reports o is.history legal);
      ended = (alike.ended o is.history legal).1 is.ended;
    }
