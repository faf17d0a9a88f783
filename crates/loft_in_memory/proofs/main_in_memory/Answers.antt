use Rattle.std.proofs.Common.{not}
use Rattle.loft_base.specs.MemFiles.{is_planned, contents_of, faults_of}
use Rattle.loft_base.specs.MemSink.{known_room}
use Rattle.loft_arguments.specs.Words.{words_of}
use Rattle.loft_arguments.specs.Command.{command, OfFile, Run}
use Rattle.loft_refusal.specs.Input.{ASource}
use Rattle.std.proofs.Common.{◌∷◌, [], ap, List, ℕ, Option, Some}
use Rattle.std.specs.Prelude.{option_and_then}
use Rattle.loft_in_memory.proofs.NoFault.{meets_no_fault, accepted_well}
use Rattle.loft_in_memory.proofs.main_in_memory.Goals as goal

pub returns-clause-no_fault : goal.returns-clause-no_fault
returns-clause-no_fault g c = λ meets.
    let ends = c.loft_main.ensures in
    meets_no_fault c.loft_main.result (not (is_planned c.args.files.now)) (contents_of c.args.files.now) (known_room c.args.sink.now) (faults_of c.args.files.now) (faults_of c.loft_main.new.files)
    (command (words_of c.args.words.now)) ends.files_are_sure ends.no_room ends.no_command ends.usage_no_room meets

pub returns-clause-taken : goal.returns-clause-taken
returns-clause-taken g c = λ k contents meets is known taken.
    let ends = c.loft_main.ensures in
    accepted_well c.loft_main.result
    (meets_no_fault c.loft_main.result (not (is_planned c.args.files.now)) (contents_of c.args.files.now) (known_room c.args.sink.now) (faults_of c.args.files.now) (faults_of c.loft_main.new.files)
    (command (words_of c.args.words.now)) ends.files_are_sure ends.no_room ends.no_command ends.usage_no_room meets)
    (ends.accepted k contents is known taken)

pub returns-clause-run : goal.returns-clause-run
returns-clause-run g c = λ file contents o p meets is known source well.
    let ends = c.loft_main.ensures in
    accepted_well c.loft_main.result
    (meets_no_fault c.loft_main.result (not (is_planned c.args.files.now)) (contents_of c.args.files.now) (known_room c.args.sink.now) (faults_of c.args.files.now) (faults_of c.loft_main.new.files)
    (command (words_of c.args.words.now)) ends.files_are_sure ends.no_room ends.no_command ends.usage_no_room meets)
    (ends.accepted (OfFile (Run file o)) (contents ∷ []) is (ap (λ (found : Option (List ℕ)). option_and_then (λ first. Some (first ∷ [])) found) known) (ASource p, source, well))
