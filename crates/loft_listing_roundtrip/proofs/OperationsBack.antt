-- Operations whose names are right are written as they were read.
use Rattle.std.proofs.Common.{◌≡◌, ℕ, ◌+◌, ◌≤◌, Bool, true, false, List, [], ◌∷◌, ◌++◌, length, Option, Some, map, refl, ap, arith}
use Rattle.std.specs.Prelude.{slice_get, if◌then◌else◌}
use Rattle.std.proofs.lemmas.Bool.{and_parts}
use Rattle.loft_tree.specs.declared.heads.Signature.{Signature}
use Rattle.loft_tree.specs.declared.heads.Heads.{Heads}
use Rattle.loft_tree.specs.Source.{Assign, AssignCreate, Await, Broadcast, ControlThread, Cooperate, Create, Creation, Expression, EventName, Generate, Get, Halt, InScheduler, Join, Link, PlaceName, PrintText, PrintValue, Run, Select, Statement, Unlink, Unlinked}
use Rattle.loft_tree.specs.Fits.{Each}
use Rattle.loft_show.specs.Places.{bare_creation, bare_place, bare_statement}
use Rattle.loft_scopes.specs.Scopes.{Declared}
use Rattle.loft_scopes.specs.declared.scope.Scope.TheVariants.{Within}
use Rattle.loft_names.specs.HeadOf.{HasHead}
use Rattle.loft_numbers.specs.Numbers.{module_of, place_of, scheduler_of, terms_of}
use Rattle.loft_tree.specs.Resolved.{exps_of}
use Rattle.loft_listing_line.specs.Instructions as instruction
use Rattle.loft_listing_line.specs.Instructions.{Instruction, bare_instruction}
use Rattle.loft_listing_line.specs.Rows as rows
use Rattle.loft_listing_line.specs.Rows.{bare_line}
use Rattle.loft_listing_line.specs.RowsFit.{InstructionFits, IsStatementOf}
use Rattle.loft_listing_line.specs.Sorts.{sort_of_statement}
use Rattle.loft_listing_line.specs.declared.sort.StatementSort.TheVariants.{Action, Stop}
use Rattle.loft_listing_draft.specs.Drafts as drafts
use Rattle.loft_listing_draft.specs.Drafts.{DraftOperation}
use Rattle.loft_listing_line.specs.RowsFit.{ListingLineFits}
use Rattle.loft_listing.specs.Called.{called_creation, called_place}
use Rattle.loft_listing.specs.Lines.{called_operation, operation_lines}
use Rattle.loft_listing_names.specs.Named.{creation_names, instruction_names, operation_names, place_names, statement_names}
use Rattle.loft_listing_names.specs.Wrong.{operations_wrong}
use Rattle.loft_listing_reader.specs.Numbered.{numbered_instruction, numbered_line, numbered_statement}
use Rattle.loft_listing_roundtrip.proofs.ValuesBack.{event_read, events_read, expression_read, module_read, scheduler_read, target_read, value_read, values_read}

-- what stands in the module with this number and this signature
module _ (ds : List Declared) (h : Heads) (each : Each (HasHead h) ds) (m : ℕ) (signature : Signature) (is : slice_get h.modules m ≡ Some signature) where
  -- ---- statements

  creation_read : (c : Creation) → creation_names ds (Within m) c ≡ true
      → called_creation h signature (scheduler_of ds (Within m) c.scheduler) (module_of ds (Within m) c.called) (exps_of (terms_of ds (Within m) c.arguments)) ≡ bare_creation c
  creation_read c right =
      let one = and_parts _ _ right in
      let two = and_parts _ _ one.1 in
      (λ i. record { scheduler = scheduler_read ds h each m signature is c.scheduler one.0 i; called = module_read ds h each m signature is c.called two.0 i; arguments = values_read ds h each m signature is c.arguments two.1 i })

  action_read : (k : ℕ) (s : Statement) → sort_of_statement s ≡ Action → statement_names ds (Within m) s ≡ true
      → called_operation h signature (numbered_statement ds (Within m) k s) ≡ instruction.Do (bare_statement s)
  action_read k (Assign target value) sort right =
      let parts = and_parts _ _ right in
      (λ i. instruction.Do (Assign (target_read ds h each m signature is target parts.0 i) (expression_read ds h each m signature is value parts.1 i)))
  action_read k (AssignCreate target at creation) sort right =
      let parts = and_parts _ _ right in
      (λ i. instruction.Do (AssignCreate (target_read ds h each m signature is target parts.0 i) 0 (creation_read creation parts.1 i)))
  action_read k (Create at creation) sort right = (λ i. instruction.Do (Create 0 (creation_read creation right i)))
  action_read k (PrintText at line value) sort right = (λ i. instruction.Do (PrintText 0 line (value_read ds h each m signature is value right i)))
  action_read k (PrintValue at value) sort right = (λ i. instruction.Do (PrintValue 0 (expression_read ds h each m signature is value right i)))
  action_read k (Generate at event value) sort right =
      let parts = and_parts _ _ right in
      (λ i. instruction.Do (Generate 0 (event_read ds h each m signature is event parts.0 i) (value_read ds h each m signature is value parts.1 i)))
  action_read k (ControlThread at control thread scheduler) sort right =
      let parts = and_parts _ _ right in
      (λ i. instruction.Do (ControlThread 0 control (expression_read ds h each m signature is thread parts.0 i) (scheduler_read ds h each m signature is scheduler parts.1 i)))
  action_read k (Broadcast at event value) sort right =
      let parts = and_parts _ _ right in
      (λ i. instruction.Do (Broadcast 0 (event_read ds h each m signature is event parts.0 i) (value_read ds h each m signature is value parts.1 i)))
  action_read k s sort right = absurd cc

  select_read : (k at : ℕ) (events : List EventName) (limit : Option Expression) → 2 ≤ length events → statement_names ds (Within m) (Select at events limit) ≡ true
      → called_operation h signature (numbered_statement ds (Within m) k (Select at events limit)) ≡ instruction.Stop k (bare_statement (Select at events limit))
  select_read k at [] limit several right = absurd (omega arith)
  select_read k at (event ∷ []) limit several right = absurd (omega arith)
  select_read k at (event ∷ other ∷ events) limit several right =
      let parts = and_parts _ _ right in
      (λ i. instruction.Stop k (Select 0 (events_read ds h each m signature is (event ∷ other ∷ events) parts.0 i) (value_read ds h each m signature is limit parts.1 i)))

  stop_read : (k : ℕ) (s : Statement) → IsStatementOf Stop s → statement_names ds (Within m) s ≡ true
      → called_operation h signature (numbered_statement ds (Within m) k s) ≡ instruction.Stop k (bare_statement s)
  stop_read k (Cooperate at instants) fits right = (λ i. instruction.Stop k (Cooperate 0 (value_read ds h each m signature is instants right i)))
  stop_read k (Await at event limit) fits right =
      let parts = and_parts _ _ right in
      (λ i. instruction.Stop k (Await 0 (event_read ds h each m signature is event parts.0 i) (value_read ds h each m signature is limit parts.1 i)))
  stop_read k (Select at events limit) fits right = select_read k at events limit fits.1.1 right
  stop_read k (Get at event index target) fits right =
      let one = and_parts _ _ right in
      let two = and_parts _ _ one.1 in
      (λ i. instruction.Stop k (Get 0 (event_read ds h each m signature is event one.0 i) (expression_read ds h each m signature is index two.0 i) (target_read ds h each m signature is target two.1 i)))
  stop_read k (Join at thread limit) fits right =
      let parts = and_parts _ _ right in
      (λ i. instruction.Stop k (Join 0 (expression_read ds h each m signature is thread parts.0 i) (value_read ds h each m signature is limit parts.1 i)))
  stop_read k (Link at scheduler) fits right = (λ i. instruction.Stop k (Link 0 (scheduler_read ds h each m signature is scheduler right i)))
  stop_read k (Unlink at) fits right = refl
  stop_read k (Run at called arguments) fits right =
      let parts = and_parts _ _ right in
      (λ i. instruction.Stop k (Run 0 (module_read ds h each m signature is called parts.0 i) (values_read ds h each m signature is arguments parts.1 i)))
  stop_read k (Halt at) fits right = refl
  stop_read k s fits right = let never = fits.0 in absurd cc

  -- ---- operations

  instruction_read : (i : Instruction) → InstructionFits i → instruction_names ds (Within m) i ≡ true → called_operation h signature (numbered_instruction ds (Within m) i) ≡ bare_instruction i
  instruction_read (instruction.Do s) fits right = action_read 0 s fits.0 right
  instruction_read (instruction.Stop k s) fits right = stop_read k s fits.1 right
  instruction_read (instruction.Branch t test) fits right = ap (instruction.Branch t) (expression_read ds h each m signature is test right)
  instruction_read instruction.Enter fits right = refl
  instruction_read (instruction.Count count) fits right = ap instruction.Count (expression_read ds h each m signature is count right)
  instruction_read (instruction.Turn t) fits right = refl
  instruction_read (instruction.Jump t) fits right = refl
  instruction_read instruction.End fits right = refl

  place_read : (p : PlaceName) → place_names ds (Within m) p ≡ true → called_place h (place_of ds (Within m) p) ≡ bare_place p
  place_read (InScheduler name) right = ap InScheduler (scheduler_read ds h each m signature is name right)
  place_read Unlinked right = refl

  is_right : (b : Bool) (at : ℕ) (rest : List ℕ) → (if b then [] else at ∷ []) ++ rest ≡ [] → (b ≡ true) × (rest ≡ [])
  is_right true at rest none = (refl, none)
  is_right false at rest none = absurd cc

  -- the operations of a module, where their lines fit and none of them is wrong
  pub operations_read : (number at : ℕ) (os : List DraftOperation) → Each ListingLineFits (drafts.operation_lines number os) → operations_wrong ds (Within m) (drafts.operations_at at number os) ≡ []
      → operation_lines h signature number (map (numbered_line ds (Within m)) os) ≡ map bare_line (drafts.operation_lines number os)
  operations_read number at [] fit none = refl
  operations_read number at (o ∷ os) fit none =
      let next : ℕ = at + length (rows.line_text (drafts.operation_line number o)) in
      let right = is_right (operation_names ds (Within m) o) at (operations_wrong ds (Within m) (drafts.operations_at next (number + 1) os)) none in
      let parts = and_parts (place_names ds (Within m) o.place) (instruction_names ds (Within m) o.instruction) right.0 in
      (λ i. rows.Operation number (place_read o.place parts.0 i) o.depth (instruction_read o.instruction fit.0.3 parts.1 i) ∷ operations_read (number + 1) next os fit.1 right.1 i)
