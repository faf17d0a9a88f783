-- The code of a listing: numbers in place of its names (docs/CODE.md, "Names in a listing").
use Rattle.std.specs.Prelude.{ℕ, List, [], ◌∷◌, ◌++◌, map}
use Rattle.loft_tree.specs.Source.{Statement, Declaration, Scheduler, Event, Shared, Module, Start, Outside}
use Rattle.loft_tree.specs.Resolved as resolved
use Rattle.loft_tree.specs.Resolved.{Step, exp_of, step_of}
use Rattle.loft_scopes.specs.declared.scope.Scope.{Scope}
use Rattle.loft_scopes.specs.declared.scope.Scope.TheVariants.{Within}
use Rattle.loft_scopes.specs.Scopes.{Declared, declared}
use Rattle.loft_scopes.specs.Modules.{next_module}
use Rattle.loft_numbers.specs.Numbers.{heads_of, place_of, statement_of, term_of}
use Rattle.loft_code.specs.Operations.{Operation, Do, Hold, Call, Branch, Enter, Count, Turn, Jump, End, Line, Automata}
use Rattle.loft_listing_line.specs.Instructions as instruction
use Rattle.loft_listing_line.specs.Instructions.{Instruction}
use Rattle.loft_listing_draft.specs.Drafts.{Draft, DraftOperation, source_of}

-- A statement as an operation, with this number if it is a stop. No operation is a statement with bodies.
abbrev pub operation_of : ℕ → Step → Operation
operation_of k (resolved.Do action) = Do action
operation_of k (resolved.Hold stop pause) = Hold k pause
operation_of k (resolved.Call stop m arguments) = Call k m arguments
operation_of k (resolved.Choose test first second) = End
operation_of k (resolved.Loop test body) = End
operation_of k (resolved.Times count body) = End

-- the declarations of a listing, and where its names are used
module _ (ds : List Declared) (scope : Scope) where
  abbrev pub numbered_statement : ℕ → Statement → Operation
  numbered_statement k s = operation_of k (step_of (statement_of ds scope s 0))

  abbrev pub numbered_instruction : Instruction → Operation
  numbered_instruction (instruction.Do s) = numbered_statement 0 s
  numbered_instruction (instruction.Stop k s) = numbered_statement k s
  numbered_instruction (instruction.Branch t test) = Branch t (exp_of (term_of ds scope test))
  numbered_instruction instruction.Enter = Enter
  numbered_instruction (instruction.Count count) = Count (exp_of (term_of ds scope count))
  numbered_instruction (instruction.Turn t) = Turn t
  numbered_instruction (instruction.Jump t) = Jump t
  numbered_instruction instruction.End = End

  abbrev pub numbered_line : DraftOperation → Line
  numbered_line o = record { place = place_of ds scope o.place; depth = o.depth; operation = numbered_instruction o.instruction }

-- the operations of a declaration, where the next module has this number
abbrev pub module_lines : List Declared → ℕ → Declaration → List DraftOperation → List (List Line)
module_lines ds m (Scheduler name) os = []
module_lines ds m (Event name scheduler) os = []
module_lines ds m (Shared name scheduler value) os = []
module_lines ds m (Module head locals body) os = map (numbered_line ds (Within m)) os ∷ []
module_lines ds m (Start scheduler called arguments name) os = []
module_lines ds m (Outside name orders) os = []

abbrev pub modules_from : List Declared → ℕ → Draft → List (List Line)
modules_from ds m [] = []
modules_from ds m (i ∷ is) = module_lines ds m i.declaration i.operations ++ modules_from ds (next_module m i.declaration) is

-- what a listing declares, and its operations, with numbers in place of names
abbrev pub numbered : Draft → Automata
numbered d =
    let p = source_of d in
    record { heads = heads_of (declared p) p; modules = modules_from (declared p) 0 d }
