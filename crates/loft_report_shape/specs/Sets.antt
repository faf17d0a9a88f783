-- Which spellings each part of a report has (docs/REPORT.md).
use Rattle.std.specs.Prelude.{ℕ, Bool, true, false, nat_le, ◌==◌, ◌&&◌, List, [], ◌∷◌, length, map, codes, if◌then◌else◌}
use Rattle.std.specs.List.{list_all}
use Rattle.loft_lex.specs.Bytes.{is_letter, is_name_byte, max_number}
use Rattle.loft_lex.specs.Fits.{is_name}
use Rattle.loft_spelling.specs.Sets.{Set, words, either, numbers, signed_numbers, lines}
use Rattle.loft_report_shape.specs.Word.{spelling}
use Rattle.loft_report_shape.specs.declared.word.Word.{Word}
use Rattle.loft_report_shape.specs.declared.word.Word.TheVariants as word
use Rattle.loft_report_shape.specs.declared.part.NumberKind.{NumberKind}
use Rattle.loft_report_shape.specs.declared.part.NumberKind.TheVariants as number
use Rattle.loft_report_shape.specs.declared.part.Stage.{Stage}
use Rattle.loft_report_shape.specs.declared.part.Stage.TheVariants as stage
use Rattle.loft_report_shape.specs.declared.part.Part.{Part}
use Rattle.loft_report_shape.specs.declared.part.Part.TheVariants as part

-- the first bytes of a name
abbrev pub is_name_part : List ℕ → Bool
is_name_part [] = true
is_name_part (b ∷ bs) = is_letter b && list_all is_name_byte bs && nat_le (length (b ∷ bs)) 64

abbrev pub names : Set
names = record { whole = is_name; begun = is_name_part }

abbrev pub menu : List Word → Set
menu ws = words (map spelling ws)

-- this byte
abbrev pub sign : ℕ → Set
sign b = words ((b ∷ []) ∷ [])

-- one of two bytes
abbrev pub signs : ℕ → ℕ → Set
signs b c = words ((b ∷ []) ∷ (c ∷ []) ∷ [])

-- the source, a scheduler or a client
abbrev pub makers : Set
makers = either names (words (codes "start" ∷ []))

-- 2^63
abbrev pub least : ℕ
least = 9223372036854775808

-- from 0 to 2^63 - 1
abbrev pub counts : Set
counts = numbers true max_number

-- from -2^63 to 2^63 - 1
abbrev pub integers : Set
integers = signed_numbers max_number least

abbrev pub values : Set
values = either integers makers

abbrev pub number_set : NumberKind → Set
number_set number.Instants = numbers false 1000000
number_set number.Budget = numbers false 1000000
number_set number.Block = numbers false 100000000
number_set number.Workers = numbers false 16
number_set number.History = counts
number_set number.Pick = numbers true 15
number_set number.Post = numbers true 15
number_set number.Stop = numbers true 4294967295
number_set number.States = counts
number_set number.Left = counts
number_set number.Count = counts
number_set number.Any = integers

abbrev pub choice_words : List Word
choice_words = word.Take ∷ word.Give ∷ word.Pick ∷ word.Post ∷ word.Client ∷ []

abbrev pub block_words : List Word
block_words = word.Scheduler ∷ word.Left ∷ []

abbrev pub final_words : List Word
final_words = word.Shared ∷ block_words

abbrev pub thread_words : List Word
thread_words = word.Linked ∷ word.Suspended ∷ []

abbrev pub changed_words : List Word
changed_words = word.Shared ∷ word.Instant ∷ word.State ∷ []

abbrev pub standing_words : List Word
standing_words = word.At ∷ changed_words

abbrev pub leaving_words : List Word
leaving_words = word.Leave ∷ standing_words

abbrev pub act_words : List Word
act_words = word.Print ∷ word.Gen ∷ word.Out ∷ word.End ∷ leaving_words

abbrev pub batch_words : List Word
batch_words = word.In ∷ word.Void ∷ word.Full ∷ act_words

abbrev pub line_words : Stage → List Word
line_words stage.Fresh = word.Instant ∷ word.State ∷ []
line_words stage.Batch = batch_words
line_words stage.Ordered = batch_words
line_words stage.Acts = act_words
line_words stage.Leaving = leaving_words
line_words stage.Standing = standing_words
line_words stage.Changed = changed_words

abbrev pub order_words : List Word
order_words = word.Create ∷ word.Arrive ∷ word.Stop ∷ word.Suspend ∷ word.Resume ∷ word.Broadcast ∷ word.Ended ∷ []

abbrev pub wait_words : List Word
wait_words = word.New ∷ word.Coop ∷ word.Await ∷ word.Select ∷ word.Next ∷ word.Join ∷ word.Halt ∷ []

abbrev pub reason_words : List Word
reason_words = word.Done ∷ word.Stopped ∷ word.Full ∷ word.Div ∷ word.Deep ∷ word.Over ∷ word.Flood ∷ []

abbrev pub set_of : Part → Set
set_of (part.Fixed w) = menu (w ∷ [])
set_of (part.Sign b) = sign b
set_of (part.Number n) = number_set n
set_of (part.Name r) = names
set_of part.Maker = makers
set_of part.Value = values
set_of part.FirstValue = either values (sign 41)
set_of part.MoreValues = signs 44 41
set_of part.FirstCount = either counts (sign 93)
set_of part.MoreCounts = signs 44 93
set_of part.Limit = either integers (sign 45)
set_of part.MoreEvents = signs 44 32
set_of part.Sent = signs 32 10
set_of part.Goal = either names (menu (word.Unlinked ∷ []))
set_of part.Text = lines 256
set_of part.MoreFrames = signs 32 10
set_of part.Order = menu order_words
set_of part.Wait = menu wait_words
set_of part.Reason = menu reason_words
set_of (part.Choices n) = menu (if n == 0 then block_words else choice_words)
set_of (part.Lines s) = menu (line_words s)
set_of (part.States n) = menu (if n == 0 then final_words else thread_words)
set_of (part.Left n) = if n == 0 then menu (word.End ∷ []) else names
set_of part.Close = sign 10
