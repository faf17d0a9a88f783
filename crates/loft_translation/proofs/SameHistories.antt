-- Code that implements a program runs alike, so a placed program and its code have the same histories.
use Rattle.std.proofs.Common.{◌≡◌, List, refl, sym}
use Rattle.std.specs.Prelude.{◌↔◌}
use Rattle.loft_tree.specs.NamedTree.{NamedProgram}
use Rattle.loft_tree.specs.NamedFits.{NamedFits}
use Rattle.loft_tree.specs.Resolved.{Resolved, resolved_of}
use Rattle.loft_place.specs.Links.{IsPlaced}
use Rattle.loft_code.specs.Operations.{Automata}
use Rattle.loft_orders.specs.declared.entry.Entry.{Entry}
use Rattle.loft_base.specs.declared.options.RunOptions.{RunOptions}
use Rattle.loft_sense.specs.Machine.{Prog, Tree, Code}
use Rattle.loft_history.specs.History.{Choice, hist, HasEnded}
use Rattle.loft_history.specs.Legal.{IsLegal}
use Rattle.loft_history.specs.Report.{report}
use Rattle.loft_soundness.specs.WellFormed.{IsWellFormed}
use Rattle.loft_soundness.specs.Alike.{RunsAlike}
use Rattle.loft_soundness.proofs.HistoryAlike.{histories_same, legal_same, ended_same, reports_same}
use Rattle.loft_translation.specs.Compiled.{compiled}
use Rattle.loft_translation.specs.Implements.{Implements}
use Rattle.loft_translation.proofs.Placed.{placed_implements}

pub runs_alike : (c : Automata) (p : Resolved) → Implements c p → RunsAlike (Tree p) (Code c)
runs_alike c p is = record { heads = sym is.heads; runs = λ t place around left stands fits. sym (is.goes t place stands.0 around left) }

module _ (n : NamedProgram) (fits : NamedFits n) (placed : IsPlaced n) where
  abbrev source : Prog
  source = Tree (resolved_of n)

  abbrev its_code : Prog
  its_code = Code (compiled (resolved_of n))

  well : IsWellFormed source
  well = record { source = n; names = fits; links = placed; same = refl }

  pub code_alike : RunsAlike source its_code
  code_alike = runs_alike (compiled (resolved_of n)) (resolved_of n) (placed_implements n fits placed)

  pub code_histories : (o : RunOptions) (choices : List Choice) → hist source o choices ≡ hist its_code o choices
  code_histories = histories_same source its_code well code_alike

  pub code_legal : (o : RunOptions) (es : List Entry) → IsLegal source o es ↔ IsLegal its_code o es
  code_legal = legal_same source its_code well code_alike

  pub code_ended : (o : RunOptions) (es : List Entry) → IsLegal source o es → HasEnded source o es ↔ HasEnded its_code o es
  code_ended = ended_same source its_code well code_alike

  pub code_reports : (o : RunOptions) (es : List Entry) → IsLegal source o es → report source o es ≡ report its_code o es
  code_reports = reports_same source its_code well code_alike
