-- What the replay of one scheduler's block of a report answers (docs/REPORT.md, "Replay").
use Rattle.std.specs.Prelude.{◌≡◌, ℕ, ◌+◌, ◌≤◌, min, List, length, take, ◌++◌, Some, None, Option, Result, Ok, Err, slice_get, ◌⊎◌}
use Rattle.std.specs.List.{position, flat_map}
use Rattle.std.specs.Str.{bytes_eq}
use Rattle.loft_base.specs.declared.ids.SchedId.{SchedId}
use Rattle.loft_orders.specs.declared.order.Order.{Order}
use Rattle.loft_orders.specs.Text.{scheduler_name}
use Rattle.loft_sense.specs.Machine.{Prog, heads, empty}
use Rattle.loft_report_shape.specs.declared.raw.RawBlock.{RawBlock}
use Rattle.loft_report_shape.specs.Told.{Report}
use Rattle.loft_report_shape.specs.Text.{head_text, block_text}
use Rattle.loft_report_shape.specs.Report.{Shape, longest}
use Rattle.loft_report_reader.specs.Answer.{Fault}
use Rattle.loft_report_reader.specs.declared.error.LogError.TheVariants as log
use Rattle.loft_replay_error.specs.Difference.{DifferAt}
use Rattle.loft_replay_error.specs.declared.error.ReplayError.{ReplayError}
use Rattle.loft_replay_error.specs.declared.error.ReplayError.TheVariants.{Log, NotAllowed, Differs, NoMemory}
use Rattle.loft_raw_block.specs.Offsets.{last_place}
use Rattle.loft_block_replay.specs.Block.{Follow, FailsAt, block_bytes}

-- the index of the first block of the scheduler
abbrev pub index_of_block : Prog → SchedId → List RawBlock → Option ℕ
index_of_block x s blocks = position (λ b. bytes_eq b.name (scheduler_name (heads x) s)) blocks

-- where the block with this index begins in the text of the report, or what comes after the last one
abbrev pub offset_of_block : Report → ℕ → ℕ
offset_of_block r k = length (head_text r ++ flat_map block_text (take k r.blocks))

-- the first block of the scheduler is this one
pub record IsFirstBlock (x : Prog) (r : Report) (s : SchedId) (k : ℕ) (b : RawBlock) : Type 0 where
  pub first : index_of_block x s r.blocks ≡ Some k
  pub there : slice_get r.blocks k ≡ Some b

-- the block is that of the scheduler on the batches that it prints
pub record IsRight (x : Prog) (r : Report) (s : SchedId) (bytes : List ℕ) : Type 0 where
  pub index : ℕ
  pub block : RawBlock
  pub batches : List (List Order)
  pub first : IsFirstBlock x r s index block
  pub follow : Follow x r.options.limits s (empty x s) block.instants batches
  pub right : block_text block ≡ block_bytes x r.options.limits s batches
  pub same : bytes ≡ block_text block

-- the instant with this number is the first of the block that isn't allowed
pub record IsStopped (x : Prog) (r : Report) (s : SchedId) (n : ℕ) : Type 0 where
  pub index : ℕ
  pub block : RawBlock
  pub first : IsFirstBlock x r s index block
  pub fails : FailsAt x r.options.limits s (empty x s) block.instants n

-- all instants of the block are allowed, and the text of the report differs from the right one at this byte
pub record IsOther (x : Prog) (r : Report) (s : SchedId) (byte : ℕ) : Type 0 where
  pub index : ℕ
  pub block : RawBlock
  pub batches : List (List Order)
  pub within : ℕ
  pub first : IsFirstBlock x r s index block
  pub follow : Follow x r.options.limits s (empty x s) block.instants batches
  pub differ : DifferAt (block_text block) (block_bytes x r.options.limits s batches) within
  pub is : byte ≡ offset_of_block r index + within

-- there is no block of the scheduler, and the left-over part begins at this byte
pub record IsMissing (x : Prog) (r : Report) (s : SchedId) (byte : ℕ) : Type 0 where
  pub none : index_of_block x s r.blocks ≡ None
  pub is : byte ≡ offset_of_block r (length r.blocks)

-- what is answered, with the byte of a difference whatever its size
abbrev pub IsAnswer : Prog → Report → SchedId → Result (List ℕ) ReplayError → Type 0
IsAnswer x r s (Ok bytes) = IsRight x r s bytes
IsAnswer x r s (Err (NotAllowed n)) = IsStopped x r s n
IsAnswer x r s (Err (Differs byte)) = IsOther x r s byte ⊎ IsMissing x r s byte
IsAnswer x r s (Err NoMemory) = ⊥
IsAnswer x r s (Err (Log e)) = ⊥

-- the same answer, where the byte of a difference stops at the largest place
abbrev pub in_range : Result (List ℕ) ReplayError → Result (List ℕ) ReplayError
in_range (Ok bytes) = Ok bytes
in_range (Err (Differs byte)) = Err (Differs (min last_place byte))
in_range (Err (NotAllowed n)) = Err (NotAllowed n)
in_range (Err NoMemory) = Err NoMemory
in_range (Err (Log e)) = Err (Log e)

-- this is answered, or memory ran out
abbrev pub Gives : Result (List ℕ) ReplayError → Result (List ℕ) ReplayError → Type 0
Gives (Err NoMemory) answer = Unit {0}
Gives result answer = result ≡ answer

-- What is answered has its cause in the report. Out of memory has none.
abbrev pub HasCause : Prog → Report → SchedId → Result (List ℕ) ReplayError → Type 0
HasCause x r s (Err NoMemory) = Unit {0}
HasCause x r s result = (answer : Result (List ℕ) ReplayError) × IsAnswer x r s answer × (result ≡ in_range answer)

-- the bytes that a call answers
abbrev pub seen : {A : Type 0} → (A → List ℕ) → Result A ReplayError → Result (List ℕ) ReplayError
seen bytes_of (Ok answer) = Ok (bytes_of answer)
seen bytes_of (Err e) = Err e

-- ---- of a text

-- the text is a report of at most 1 GiB, and this is its answer
pub record HasAnswer (x : Prog) (text : List ℕ) (s : SchedId) (answer : Result (List ℕ) ReplayError) : Type 0 where
  pub report : Report
  pub within : length text ≤ longest
  pub shape : Shape text report
  pub is : IsAnswer x report s answer

-- what is answered has its cause in the text
abbrev pub TextCause : Prog → List ℕ → SchedId → Result (List ℕ) ReplayError → Type 0
TextCause x text s (Err (Log log.NoMemory)) = ⊥
TextCause x text s (Err (Log e)) = Fault text e
TextCause x text s (Err NoMemory) = Unit {0}
TextCause x text s result = HasAnswer x text s result
