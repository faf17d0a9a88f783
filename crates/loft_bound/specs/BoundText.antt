-- The lines of verdicts (docs/COMMANDS.md, "bound").
use Rattle.std.specs.Prelude.{◌≡◌, ℕ, ◌+◌, List, [], ◌∷◌, ◌++◌, codes}
use Rattle.std.specs.Fmt.{decimal}
use Rattle.loft_base.specs.declared.ids.ModuleId.{ModuleId}
use Rattle.loft_tree.specs.declared.heads.Heads.{Heads}
use Rattle.loft_tree.specs.NamedTree.{NamedProgram}
use Rattle.loft_orders.specs.Text.{module_name}
use Rattle.loft_orders.specs.Lines.{text_of}
use Rattle.loft_budget.specs.Verdicts.{AreVerdicts}
use Rattle.loft_budget.specs.declared.verdict.Verdict.{Verdict}
use Rattle.loft_budget.specs.declared.verdict.Verdict.TheVariants.{Bound, Recursive, Runs, Endless, Large}

-- a word, the module, and where
abbrev pub place_line : List ℕ → Heads → ModuleId → ℕ → List ℕ
place_line word h m at = word ++ (module_name h m ++ (codes " at " ++ decimal at))

abbrev pub verdict_line : Heads → ModuleId → Verdict → List ℕ
verdict_line h m (Bound n) = codes "bound " ++ (module_name h m ++ (codes " " ++ decimal n))
verdict_line h m (Recursive at) = place_line (codes "recursive ") h m at
verdict_line h m (Runs at) = place_line (codes "runs ") h m at
verdict_line h m (Endless at) = place_line (codes "endless ") h m at
verdict_line h m Large = codes "large " ++ module_name h m

-- the lines of the modules from this number on
abbrev pub verdict_lines : Heads → ℕ → List Verdict → List (List ℕ)
verdict_lines h k [] = []
verdict_lines h k (v ∷ vs) = verdict_line h (record { 0 = k }) v ∷ verdict_lines h (k + 1) vs

-- the text is the lines of a program's verdicts, one for each module
abbrev pub IsBoundText : NamedProgram → List ℕ → Type 0
IsBoundText n text = (vs : List Verdict) × AreVerdicts n vs × (text ≡ text_of (verdict_lines n.heads 0 vs))
