-- Operations keep their limits with numbers in place of names.
use Rattle.std.proofs.Common.{ℕ, List, [], ◌∷◌, ◌+◌, map}
use Rattle.loft_tree.specs.Source.{Statement, Assign, AssignCreate, Create, PrintText, PrintValue, Cooperate, Generate, Await, Select, Get, Join, ControlThread, Broadcast, Link, Unlink, Run, Halt, If, While, Repeat}
use Rattle.loft_tree.specs.Fits.{Each}
use Rattle.loft_scopes.specs.Scopes.{Declared}
use Rattle.loft_scopes.specs.declared.scope.Scope.{Scope}
use Rattle.loft_grammar.specs.PartsFit.{LineFits}
use Rattle.loft_code.specs.Fits as code
use Rattle.loft_code.specs.Fits.{OperationFits}
use Rattle.loft_listing_line.specs.Instructions as instruction
use Rattle.loft_listing_line.specs.Instructions.{Instruction}
use Rattle.loft_listing_line.specs.RowsFit.{InstructionFits}
use Rattle.loft_listing_draft.specs.Drafts.{DraftOperation, operation_lines}
use Rattle.loft_listing_line.specs.RowsFit.{ListingLineFits}
use Rattle.loft_listing_reader.specs.Numbered.{numbered_statement, numbered_instruction, numbered_line}
use Rattle.loft_listing_reader.proofs.KeepsValues.{exp_keeps, value_keeps, values_keep}

-- the declarations of a listing, and where its names are used
module _ (ds : List Declared) (scope : Scope) where
  statement_keeps : (k : ℕ) (s : Statement) → LineFits s → OperationFits (numbered_statement ds scope k s)
  statement_keeps k (Assign target value) fits = exp_keeps ds scope value fits.1
  statement_keeps k (AssignCreate target at creation) fits = values_keep ds scope creation.arguments fits.1.2
  statement_keeps k (Create at creation) fits = values_keep ds scope creation.arguments fits.2
  statement_keeps k (PrintText at line value) fits = (fits.0, value_keeps ds scope value fits.1)
  statement_keeps k (PrintValue at value) fits = exp_keeps ds scope value fits
  statement_keeps k (Cooperate at instants) fits = value_keeps ds scope instants fits
  statement_keeps k (Generate at event value) fits = value_keeps ds scope value fits.1
  statement_keeps k (Await at event limit) fits = value_keeps ds scope limit fits.1
  statement_keeps k (Select at events limit) fits = value_keeps ds scope limit fits.2
  statement_keeps k (Get at event index target) fits = exp_keeps ds scope index fits.1
  statement_keeps k (Join at thread limit) fits = (exp_keeps ds scope thread fits.0, value_keeps ds scope limit fits.1)
  statement_keeps k (ControlThread at control thread scheduler) fits = exp_keeps ds scope thread fits.0
  statement_keeps k (Broadcast at event value) fits = value_keeps ds scope value fits.1
  statement_keeps k (Link at scheduler) fits = tt
  statement_keeps k (Unlink at) fits = tt
  statement_keeps k (Run at called arguments) fits = values_keep ds scope arguments fits.1
  statement_keeps k (Halt at) fits = tt
  statement_keeps k (If at test first second) fits = tt
  statement_keeps k (While at test body) fits = tt
  statement_keeps k (Repeat at count body) fits = tt

  pub operation_keeps : (i : Instruction) → InstructionFits i → OperationFits (numbered_instruction ds scope i)
  operation_keeps (instruction.Do s) fits = statement_keeps 0 s fits.1
  operation_keeps (instruction.Stop k s) fits = statement_keeps k s fits.1.1
  operation_keeps (instruction.Branch t test) fits = exp_keeps ds scope test fits.1
  operation_keeps instruction.Enter fits = tt
  operation_keeps (instruction.Count count) fits = exp_keeps ds scope count fits
  operation_keeps (instruction.Turn t) fits = tt
  operation_keeps (instruction.Jump t) fits = tt
  operation_keeps instruction.End fits = tt

  -- the operations of a module, where their lines fit
  pub operations_keep : (number : ℕ) (os : List DraftOperation) → Each ListingLineFits (operation_lines number os) → Each code.LineFits (map (numbered_line ds scope) os)
  operations_keep number [] fits = tt
  operations_keep number (o ∷ os) fits = (operation_keeps o.instruction fits.0.3, operations_keep (number + 1) os fits.1)
