-- What never fails and fits meets no fault.
use Rattle.std.proofs.Common.{◌≡◌, ◌≢◌, ℕ, ◌≤◌, ◌⊎◌, inl, inr, Bool, true, false, ◌&&◌, is_some, List, ◌∷◌, [], ◌++◌, length, codes, Option, Some, None, IsTrue, refl, ap, ◌∙◌, arith}
use Rattle.std.specs.Prelude.{option_and_then}
use Rattle.std.specs.Option.{option_map}
use Rattle.std.specs.List.{Contains}
use Rattle.loft_arguments.specs.Command.{Command, OfFile, Replay, Gen, GenRun, file_of, files_of}
use Rattle.loft_commands.specs.Written.{HasNoRoom, IsLineOf}
use Rattle.loft_top.specs.declared.status.Status.{Status}
use Rattle.loft_top.specs.declared.status.Status.TheVariants as status
use Rattle.loft_top.specs.Status.{IsAccepted}
use Rattle.loft_top.specs.Reads.{contents_of}
use Rattle.loft_top.specs.Answer.{IsText}
use Rattle.loft_in_memory.specs.NoFault.{MeetsNoFault, EndsWell}

-- ---- contents

is_there : (unplanned : Bool) (o : Option (List ℕ)) → IsTrue (unplanned && is_some o) → (contents : List ℕ) × (o ≡ Some contents)
is_there true (Some contents) sure = (contents, refl)
is_there true None sure = absurd cc
is_there false o sure = absurd cc

module _ (unplanned : Bool) (told : List ℕ → Option (List ℕ)) where
  -- what is known of the files of a command, where none of them can fail
  pub all_told : (c : Command) → ((file : List ℕ) → Contains (files_of c) file → IsTrue (unplanned && is_some (told file))) → (contents : List (List ℕ)) × (contents_of told (files_of c) ≡ Some contents)
  all_told (OfFile c) sure =
      let (contents, is) = is_there unplanned (told (file_of c)) (sure (file_of c) (0, omega arith, refl)) in
      (contents ∷ [], ap (λ (o : Option (List ℕ)). option_and_then (λ first. Some (first ∷ [])) o) is)
  all_told (Replay source report only) sure =
      let (s, is) = is_there unplanned (told source) (sure source (0, omega arith, refl)) in
      let (r, are) = is_there unplanned (told report) (sure report (1, omega arith, refl)) in
      let first_told = λ (o : Option (List ℕ)). option_and_then (λ first. option_map (λ others. first ∷ others) (contents_of told (report ∷ []))) o in
      let second_told = λ (o : Option (List ℕ)). option_map (λ others. s ∷ others) (option_and_then (λ second. Some (second ∷ [])) o) in
      (s ∷ r ∷ [], ap first_told is ∙ ap second_told are)
  all_told (Gen number) sure = ([], refl)
  all_told (GenRun number) sure = ([], refl)

-- ---- room

fits_not : (P : List ℕ → Type 0) (room : ℕ) → ((text : List ℕ) → P text → length text ≤ room) → HasNoRoom room P → ⊥
fits_not P room fits (text, holds, longer) = omega (arith, fits text holds, longer)

line_fits_not : (line : List ℕ) (room : ℕ) → length (line ++ 10 ∷ []) ≤ room → HasNoRoom room (IsLineOf line) → ⊥
line_fits_not line room fits (text, is, longer) = omega (arith, fits, longer, ap length is)

-- ---- the end

ends_well : (end : Status) → end ≢ status.FileFault → end ≢ status.SinkFault → EndsWell end
ends_well status.Done file sink = tt
ends_well status.Usage file sink = tt
ends_well status.Source file sink = tt
ends_well status.Log file sink = tt
ends_well status.FileFault file sink = file refl
ends_well status.SinkFault file sink = sink refl
ends_well status.NoMemory file sink = tt

pub accepted_well : (end : Status) → EndsWell end → IsAccepted end → end ≡ status.Done ⊎ end ≡ status.NoMemory
accepted_well status.Done well taken = inl refl
accepted_well status.Usage well taken = absurd taken
accepted_well status.Source well taken = absurd taken
accepted_well status.Log well taken = absurd taken
accepted_well status.FileFault well taken = absurd well
accepted_well status.SinkFault well taken = absurd well
accepted_well status.NoMemory well taken = inr refl

no_usage_fault : (end : Status) → end ≡ status.Usage ⊎ end ≡ status.SinkFault → end ≢ status.FileFault
no_usage_fault end (inl is) = λ e. cc
no_usage_fault end (inr is) = λ e. cc

-- What a call says of its faults: `before` and `after` are the counts of faults of its files.
module _ (end : Status) (unplanned : Bool) (told : List ℕ → Option (List ℕ)) (room before after : ℕ)
    (asked : Option Command)
    (file_sure : (c : Command) → asked ≡ Some c → ((file : List ℕ) → Contains (files_of c) file → IsTrue (unplanned && is_some (told file))) → end ≢ status.FileFault)
    (no_room : (c : Command) (contents : List (List ℕ)) → asked ≡ Some c → contents_of told (files_of c) ≡ Some contents → end ≡ status.SinkFault → HasNoRoom room (IsText c contents before after))
    (no_command : asked ≡ None → end ≡ status.Usage ⊎ end ≡ status.SinkFault)
    (usage_no_room : asked ≡ None → end ≡ status.SinkFault → HasNoRoom room (IsLineOf (codes "loft: usage"))) where
  by_asked : (k : Option Command) → asked ≡ k → MeetsNoFault asked (λ file. unplanned && is_some (told file)) told room → EndsWell end
  by_asked (Some c) is meets =
      let (contents, known) = all_told unplanned told c (λ file has. meets.parts c file is has) in
      ends_well end (file_sure c is (λ file has. meets.parts c file is has))
      (λ e. fits_not (IsText c contents before after) room (λ text may. meets.fits c contents is known text before after may) (no_room c contents is known e))
  by_asked None is meets =
      ends_well end (no_usage_fault end (no_command is)) (λ e. line_fits_not (codes "loft: usage") room (meets.usage_fits is) (usage_no_room is e))

  pub meets_no_fault : MeetsNoFault asked (λ file. unplanned && is_some (told file)) told room → EndsWell end
  meets_no_fault meets = by_asked asked refl meets
