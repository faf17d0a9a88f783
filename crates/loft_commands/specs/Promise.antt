-- What the program promises of its answers.
use Rattle.std.specs.Prelude.{◌≡◌, ℕ, List, ◌++◌, Ok, codes}
use Rattle.loft_tree.specs.declared.heads.Heads.{Heads}
use Rattle.loft_tree.specs.Source.{Source}
use Rattle.loft_tree.specs.Resolved.{resolved_of}
use Rattle.loft_numbers.specs.Numbers.{numbered}
use Rattle.loft_show.specs.Canon.{Canon}
use Rattle.loft_base.specs.declared.options.RunOptions.{RunOptions}
use Rattle.loft_code.specs.Operations.{Automata}
use Rattle.loft_sense.specs.Machine.{Prog, Tree, Code, heads}
use Rattle.loft_orders.specs.declared.entry.Entry.{Entry}
use Rattle.loft_history.specs.History.{Choice, hist, HasEnded}
use Rattle.loft_history.specs.Legal.{IsLegal}
use Rattle.loft_orders.specs.Lines.{text_of}
use Rattle.loft_history.specs.Report.{head_lines, report}
use Rattle.loft_translation.specs.Compiled.{compiled}
use Rattle.loft_listing.specs.Listing.{listing_text}
use Rattle.loft_bound.specs.BoundText.{IsBoundText}
use Rattle.loft_arguments.specs.Command.{FileCommand, Run, Exec, Show, Check, Compile, Bound, Expand}
use Rattle.loft_refusal.specs.Input.{Input, ASource, AListing, AnExpansion}
use Rattle.loft_commands.specs.Written.{IsLineOf}
use Rattle.loft_refusal.specs.Refusals.{IsTextOf}
use Rattle.loft_commands.specs.Asks.{Takes}

-- the text begins with these options and these choices
abbrev pub BeginsWith : Heads → RunOptions → List Choice → List ℕ → Type 0
BeginsWith h o choices text = (rest : List ℕ) × (text ≡ text_of (head_lines h o choices) ++ rest)

-- The text is the report of one history of the program: that of the choices which stand in it.
-- The history is legal, and has ended: nothing was left to do, or the bounds were used up.
pub record IsReport (x : Prog) (o : RunOptions) (text : List ℕ) : Type 0 where
  pub choices : List Choice
  pub history : List Entry
  pub named : BeginsWith (heads x) o choices text
  pub made : hist x o choices ≡ Ok history
  pub legal : IsLegal x o history
  pub whole : text ≡ report x o history
  pub ended : HasEnded x o history

-- what a command answers of a source: the report of a run by its statements, the canonical text, `ok`, the listing of
-- its code, or the lines of its step bounds
abbrev pub IsSourceAnswer : FileCommand → Source → List ℕ → Type 0
IsSourceAnswer (Run file o) p text = IsReport (Tree (resolved_of (numbered p))) o text
IsSourceAnswer (Exec file o) p text = ⊥
IsSourceAnswer (Show file) p text = text ≡ Canon p
IsSourceAnswer (Check file) p text = IsLineOf (codes "ok") text
IsSourceAnswer (Compile file) p text = text ≡ listing_text (compiled (resolved_of (numbered p)))
IsSourceAnswer (Bound file) p text = IsBoundText (numbered p) text
IsSourceAnswer (Expand file) p text = ⊥

-- and of code: the report of a run by its operations
abbrev pub IsCodeAnswer : FileCommand → Automata → List ℕ → Type 0
IsCodeAnswer (Run file o) c text = ⊥
IsCodeAnswer (Exec file o) c text = IsReport (Code c) o text
IsCodeAnswer (Show file) c text = ⊥
IsCodeAnswer (Check file) c text = ⊥
IsCodeAnswer (Compile file) c text = ⊥
IsCodeAnswer (Bound file) c text = ⊥
IsCodeAnswer (Expand file) c text = ⊥

-- and of a text with locks: the canonical text of the program that it stands for
abbrev pub IsExpansionAnswer : FileCommand → Source → List ℕ → Type 0
IsExpansionAnswer (Run file o) p text = ⊥
IsExpansionAnswer (Exec file o) p text = ⊥
IsExpansionAnswer (Show file) p text = ⊥
IsExpansionAnswer (Check file) p text = ⊥
IsExpansionAnswer (Compile file) p text = ⊥
IsExpansionAnswer (Bound file) p text = ⊥
IsExpansionAnswer (Expand file) p text = text ≡ Canon p

abbrev pub IsAnswerText : FileCommand → Input → List ℕ → Type 0
IsAnswerText k (ASource p) text = IsSourceAnswer k p text
IsAnswerText k (AListing c) text = IsCodeAnswer k c text
IsAnswerText k (AnExpansion p) text = IsExpansionAnswer k p text

-- the command can be done for what was read, and this is the answer
abbrev pub IsAnswerFor : FileCommand → Input → List ℕ → Type 0
IsAnswerFor k x text = Takes k x × IsAnswerText k x text

-- the contents say so, and this is the answer for it
abbrev pub IsFileAnswer : FileCommand → List ℕ → List ℕ → Type 0
IsFileAnswer k contents text = (x : Input) × IsTextOf contents x × IsAnswerFor k x text
