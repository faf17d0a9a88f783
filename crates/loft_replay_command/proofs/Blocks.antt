-- What the check of a block comes to.
use Rattle.std.proofs.Common.{◌≡◌, ℕ, List, Result, Ok, Err, ap}
use Rattle.loft_base.specs.declared.ids.SchedId.{SchedId}
use Rattle.loft_sense.specs.Machine.{Prog}
use Rattle.loft_report_shape.specs.Told.{Report}
use Rattle.loft_report_reader.specs.declared.error.LogError.{LogError}
use Rattle.loft_report_reader.specs.declared.error.LogError.TheVariants as log
use Rattle.loft_replay_error.specs.declared.error.ReplayError.{ReplayError}
use Rattle.loft_replay_error.specs.declared.error.ReplayError.TheVariants as error
use Rattle.loft_replay_report.specs.Replays.{Tells}
use Rattle.loft_block_replay.specs.Answer.{IsAnswer, HasAnswer, HasCause, Gives, in_range, TextCause}
use Rattle.loft_block_replay.proofs.TextLemmas.{read_cause, read_exact}
use Rattle.loft_replay_command.specs.declared.refusal.LogRefusal.{LogRefusal}
use Rattle.loft_replay_command.specs.declared.refusal.LogRefusal.TheVariants.{NoReport, Entry, Instant, Byte}
use Rattle.loft_replay_command.specs.Replay.{BlockComesTo}
use Rattle.loft_replay_command.specs.Stops.{stop_of_block}
use Rattle.loft_replay_command.specs.Finding.{Found}
use Rattle.loft_replay_command.proofs.Reports.{Laws, told_is_report}

abbrev Judgement : Type 0
Judgement = Result (List ℕ) ReplayError

-- what is answered of the report is that, and nothing else
pub record Exact (x : Prog) (r : Report) (s : SchedId) (j : Judgement) : Type 0 where
  pub cause : HasCause x r s j
  pub exact : (answer : Judgement) → IsAnswer x r s answer → Gives j (in_range answer)

-- what the text comes to is answered
gives : (laws : Laws) (x : Prog) (text : List ℕ) (r : Report) (s : SchedId) → Tells text r → (j : Judgement) → Exact x r s j → (answer : Judgement) → HasAnswer x text s answer → Gives j answer
gives laws x text r s tells j exact answer h = read_exact x text r h.report s laws.text tells.0 h.shape (laws.report text r h.report tells.1 h.shape) j exact.exact answer h.is

same_block : (a b : List ℕ) → Gives (Ok a) (Ok b) → b ≡ a
same_block a b same = cc

same_instant : (n m : ℕ) → Gives (Err (error.NotAllowed n)) (Err (error.NotAllowed m)) → m ≡ n
same_instant n m same = cc

same_byte : (k j : ℕ) → Gives (Err (error.Differs k)) (Err (error.Differs j)) → j ≡ k
same_byte k j same = cc

only_block : (laws : Laws) (x : Prog) (text : List ℕ) (r : Report) (s : SchedId) → Tells text r → (bytes : List ℕ) → Exact x r s (Ok bytes) → (b : Result (List ℕ) LogRefusal) → BlockComesTo x s.0 text b → b ≡ Ok bytes
only_block laws x text r s tells bytes exact (Ok other) is = ap (λ (t : List ℕ). Ok t) (same_block bytes other (gives laws x text r s tells (Ok bytes) exact (Ok other) is))
only_block laws x text r s tells bytes exact (Err (NoReport e)) isnt = absurd (told_is_report laws text r e tells isnt)
only_block laws x text r s tells bytes exact (Err (Entry n)) never = absurd never
only_block laws x text r s tells bytes exact (Err (Instant n)) is = absurd (let same = gives laws x text r s tells (Ok bytes) exact (Err (error.NotAllowed n)) is in cc)
only_block laws x text r s tells bytes exact (Err (Byte k)) is = absurd (let same = gives laws x text r s tells (Ok bytes) exact (Err (error.Differs k)) is in cc)

only_instant : (laws : Laws) (x : Prog) (text : List ℕ) (r : Report) (s : SchedId) → Tells text r → (n : ℕ) → Exact x r s (Err (error.NotAllowed n)) → (b : Result (List ℕ) LogRefusal) → BlockComesTo x s.0 text b → b ≡ Err (Instant n)
only_instant laws x text r s tells n exact (Ok other) is = absurd (let same = gives laws x text r s tells (Err (error.NotAllowed n)) exact (Ok other) is in cc)
only_instant laws x text r s tells n exact (Err (NoReport e)) isnt = absurd (told_is_report laws text r e tells isnt)
only_instant laws x text r s tells n exact (Err (Entry m)) never = absurd never
only_instant laws x text r s tells n exact (Err (Instant m)) is = ap (λ (i : ℕ). Err (Instant i)) (same_instant n m (gives laws x text r s tells (Err (error.NotAllowed n)) exact (Err (error.NotAllowed m)) is))
only_instant laws x text r s tells n exact (Err (Byte k)) is = absurd (let same = gives laws x text r s tells (Err (error.NotAllowed n)) exact (Err (error.Differs k)) is in cc)

only_byte : (laws : Laws) (x : Prog) (text : List ℕ) (r : Report) (s : SchedId) → Tells text r → (k : ℕ) → Exact x r s (Err (error.Differs k)) → (b : Result (List ℕ) LogRefusal) → BlockComesTo x s.0 text b → b ≡ Err (Byte k)
only_byte laws x text r s tells k exact (Ok other) is = absurd (let same = gives laws x text r s tells (Err (error.Differs k)) exact (Ok other) is in cc)
only_byte laws x text r s tells k exact (Err (NoReport e)) isnt = absurd (told_is_report laws text r e tells isnt)
only_byte laws x text r s tells k exact (Err (Entry m)) never = absurd never
only_byte laws x text r s tells k exact (Err (Instant m)) is = absurd (let same = gives laws x text r s tells (Err (error.Differs k)) exact (Err (error.NotAllowed m)) is in cc)
only_byte laws x text r s tells k exact (Err (Byte j)) is = ap (λ (i : ℕ). Err (Byte i)) (same_byte k j (gives laws x text r s tells (Err (error.Differs k)) exact (Err (error.Differs j)) is))

-- the cause in the text
cause : (laws : Laws) (x : Prog) (text : List ℕ) (r : Report) (s : SchedId) → Tells text r → (j : Judgement) → Exact x r s j → TextCause x text s j
cause laws x text r s tells j exact = read_cause x text r s laws.text tells.0 tells.1 j exact.cause

pub block_right : (laws : Laws) (x : Prog) (text : List ℕ) (r : Report) (s : SchedId) (bytes : List ℕ) → Tells text r → Exact x r s (Ok bytes) → Found (BlockComesTo x s.0 text) (Ok bytes)
block_right laws x text r s bytes tells exact = record { is = cause laws x text r s tells (Ok bytes) exact; only = only_block laws x text r s tells bytes exact }

-- a report that was read is a report
no_log : (laws : Laws) (text : List ℕ) (r : Report) (x : Prog) (s : SchedId) (e : LogError) → Tells text r → TextCause x text s (Err (error.Log e)) → ⊥
no_log laws text r x s (log.Line n k) tells fault = laws.both text r k tells.1 fault.0
no_log laws text r x s (log.Ends k) tells fault = laws.both text r k tells.1 fault.1
no_log laws text r x s log.TooLong tells fault = told_is_report laws text r log.TooLong tells fault
no_log laws text r x s log.NoMemory tells fault = fault

pub block_wrong : (laws : Laws) (x : Prog) (text : List ℕ) (r : Report) (s : SchedId) (e : ReplayError) → Tells text r → Exact x r s (Err e) → Found (BlockComesTo x s.0 text) (Err (stop_of_block e))
block_wrong laws x text r s (error.Log e) tells exact = absurd (no_log laws text r x s e tells (cause laws x text r s tells (Err (error.Log e)) exact))
block_wrong laws x text r s (error.NotAllowed n) tells exact = record { is = cause laws x text r s tells (Err (error.NotAllowed n)) exact; only = only_instant laws x text r s tells n exact }
block_wrong laws x text r s (error.Differs k) tells exact = record { is = cause laws x text r s tells (Err (error.Differs k)) exact; only = only_byte laws x text r s tells k exact }
block_wrong laws x text r s error.NoMemory tells exact = tt
