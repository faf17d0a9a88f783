-- The grammar of reports: which parts come after a spelling of each part (docs/REPORT.md).
use Rattle.std.specs.Prelude.{ℕ, ◌-◌, Bool, false, ◌==◌, ◌||◌, List, [], ◌∷◌, ◌++◌, Option, Some, if◌then◌else◌}
use Rattle.loft_spelling.specs.Sets.{is_digit, value_of}
use Rattle.loft_report_shape.specs.Word.{word_of}
use Rattle.loft_report_shape.specs.declared.word.Word.{Word}
use Rattle.loft_report_shape.specs.declared.word.Word.TheVariants as word
use Rattle.loft_report_shape.specs.declared.part.NumberKind.{NumberKind}
use Rattle.loft_report_shape.specs.declared.part.NumberKind.TheVariants as number
use Rattle.loft_report_shape.specs.declared.part.NameRole.TheVariants as role
use Rattle.loft_report_shape.specs.declared.part.Stage.{Stage}
use Rattle.loft_report_shape.specs.declared.part.Stage.TheVariants as stage
use Rattle.loft_report_shape.specs.declared.part.Part.{Part}
use Rattle.loft_report_shape.specs.declared.part.Part.TheVariants.{Fixed, Sign, Number, Name, Maker, Value, FirstValue, MoreValues, FirstCount, MoreCounts, Limit, MoreEvents, Sent, Goal, Text, MoreFrames, Order, Wait, Reason, Choices, Lines, States, Left, Close}

abbrev pub blank : Part
blank = Sign 32

-- the line's end
abbrev pub feed : Part
feed = Sign 10

abbrev pub colon : Part
colon = Sign 58

abbrev pub other_name : Part
other_name = Name role.Other

-- after the part of an id before its dot: the dot, and a number
abbrev pub after_maker : List Part
after_maker = Sign 46 ∷ Number number.Count ∷ []

abbrev pub id : List Part
id = Maker ∷ after_maker

-- a blank and an id
abbrev pub blank_id : List Part
blank_id = blank ∷ id

-- MODULE:STOP
abbrev pub stop : List Part
stop = other_name ∷ colon ∷ Number number.Stop ∷ []

-- frames, to the line's end: MODULE:STOP[C,C](V,V), with a blank between them
abbrev pub frames : List Part
frames = stop ++ Sign 91 ∷ FirstCount ∷ Sign 40 ∷ FirstValue ∷ MoreFrames ∷ []

-- ID CODE MASK WAIT FRAME, to the line's end
abbrev pub thread : List Part
thread = id ++ blank ∷ Number number.Any ∷ blank ∷ Number number.Any ∷ blank ∷ Wait ∷ frames

-- a line of a word and a number, but for the line's end
abbrev pub number_line : Word → NumberKind → List Part
number_line w n = Fixed w ∷ blank ∷ Number n ∷ []

-- a report begins with its options and the number of its choices
abbrev pub start : List Part
start =
    Fixed word.Report ∷ feed ∷
    number_line word.Instants number.Instants ++ feed ∷
    number_line word.Budget number.Budget ++ feed ∷
    number_line word.Block number.Block ++ feed ∷
    number_line word.Workers number.Workers ++ feed ∷
    number_line word.History number.History

-- so many choices, threads or orders come after their number
abbrev pub after_number : NumberKind → List ℕ → List Part
after_number number.History w = feed ∷ Choices (value_of w) ∷ []
after_number number.States w = feed ∷ States (value_of w) ∷ []
after_number number.Left w = feed ∷ Left (value_of w) ∷ []
after_number n w = []

-- the first byte is this one
abbrev pub head_is : ℕ → List ℕ → Bool
head_is c [] = false
head_is c (b ∷ bs) = b == c

abbrev pub begins_number : List ℕ → Bool
begins_number [] = false
begins_number (b ∷ bs) = is_digit b || b == 45

-- a number is a whole value, and an id goes on with its dot
abbrev pub after_value : List ℕ → List Part
after_value w = if begins_number w then [] else after_maker

-- a line NAME V
abbrev pub shared : List Part
shared = blank ∷ other_name ∷ blank ∷ Value ∷ feed ∷ []

-- the block of a scheduler, or the left-over part
abbrev pub after_blocks : Option Word → List Part
after_blocks (Some word.Scheduler) = blank ∷ Name role.Block ∷ feed ∷ Lines stage.Fresh ∷ []
after_blocks (Some word.Left) = blank ∷ Number number.Left ∷ []
after_blocks w = []

-- a shared variable of a final state, a further block, or the left-over part
abbrev pub after_final : Option Word → List Part
after_final (Some word.Shared) = shared ++ States 0 ∷ []
after_final w = after_blocks w

-- a choice, where n choices follow it
abbrev pub after_choice : Option Word → ℕ → List Part
after_choice (Some word.Take) n = blank ∷ Name role.Take ∷ feed ∷ Choices n ∷ []
after_choice (Some word.Give) n = blank ∷ Name role.Give ∷ feed ∷ Choices n ∷ []
after_choice (Some word.Client) n = blank ∷ Name role.Client ∷ feed ∷ Choices n ∷ []
after_choice (Some word.Pick) n = blank ∷ Number number.Pick ∷ feed ∷ Choices n ∷ []
after_choice (Some word.Post) n = blank ∷ Number number.Post ∷ feed ∷ Choices n ∷ []
after_choice w n = []

-- The first `end` line after an order belongs to the order; each other one is an act.
abbrev pub after_end : Stage → Stage
after_end stage.Ordered = stage.Batch
after_end s = stage.Acts

-- a line of an instant, a further instant, or the final state
abbrev pub after_line : Stage → Option Word → List Part
after_line s (Some word.In) = blank ∷ Order ∷ Lines stage.Ordered ∷ []
after_line s (Some word.Void) = blank ∷ Order ∷ Lines stage.Ordered ∷ []
after_line s (Some word.Full) = blank ∷ Order ∷ Lines stage.Ordered ∷ []
after_line s (Some word.Print) = blank_id ++ blank ∷ Text ∷ Lines stage.Acts ∷ []
after_line s (Some word.Gen) = blank_id ++ blank ∷ other_name ∷ Sent ∷ Lines stage.Acts ∷ []
after_line s (Some word.Out) = blank_id ++ blank ∷ other_name ∷ blank ∷ Order ∷ Lines stage.Acts ∷ []
after_line s (Some word.End) = blank_id ++ blank ∷ Reason ∷ Lines (after_end s) ∷ []
after_line s (Some word.Leave) = blank_id ++ blank ∷ Goal ∷ feed ∷ Lines stage.Leaving ∷ []
after_line s (Some word.At) = blank ∷ thread ++ Lines stage.Standing ∷ []
after_line s (Some word.Shared) = shared ++ Lines stage.Changed ∷ []
after_line s (Some word.Instant) = blank ∷ Number number.Count ∷ feed ∷ Lines stage.Batch ∷ []
after_line s (Some word.State) = blank ∷ Number number.States ∷ []
after_line s w = []

abbrev pub after_order : Option Word → List Part
after_order (Some word.Create) = blank_id ++ blank ∷ other_name ∷ Sign 40 ∷ FirstValue ∷ feed ∷ []
after_order (Some word.Arrive) = blank ∷ thread
after_order (Some word.Stop) = blank_id ++ feed ∷ []
after_order (Some word.Suspend) = blank_id ++ feed ∷ []
after_order (Some word.Resume) = blank_id ++ feed ∷ []
after_order (Some word.Broadcast) = blank ∷ other_name ∷ Sent ∷ []
after_order (Some word.Ended) = blank_id ++ blank ∷ Reason ∷ []
after_order w = []

-- `new`, `coop:L`, `await:L:EVENT`, `select:L:EVENT,EVENT`, `next`, `join:L:ID`, `halt`, each with a blank
abbrev pub after_wait : Option Word → List Part
after_wait (Some word.New) = blank ∷ []
after_wait (Some word.Coop) = colon ∷ Limit ∷ blank ∷ []
after_wait (Some word.Await) = colon ∷ Limit ∷ colon ∷ other_name ∷ blank ∷ []
after_wait (Some word.Select) = colon ∷ Limit ∷ colon ∷ other_name ∷ Sign 44 ∷ other_name ∷ MoreEvents ∷ []
after_wait (Some word.Next) = blank ∷ []
after_wait (Some word.Join) = colon ∷ Limit ∷ colon ∷ id ++ blank ∷ []
after_wait (Some word.Halt) = blank ∷ []
after_wait w = []

-- the line's end, or a blank, MODULE:STOP and the line's end
abbrev pub after_reason : Option Word → List Part
after_reason (Some word.Done) = feed ∷ []
after_reason (Some word.Stopped) = feed ∷ []
after_reason (Some word.Full) = feed ∷ []
after_reason (Some word.Div) = blank ∷ stop ++ feed ∷ []
after_reason (Some word.Deep) = blank ∷ stop ++ feed ∷ []
after_reason (Some word.Over) = blank ∷ stop ++ feed ∷ []
after_reason (Some word.Flood) = blank ∷ stop ++ feed ∷ []
after_reason w = []

-- what comes after a spelling of each part
abbrev pub after : Part → List ℕ → List Part
after (Number n) w = after_number n w
after Value w = after_value w
after FirstValue w = if head_is 41 w then [] else (after_value w ++ MoreValues ∷ [])
after MoreValues w = if head_is 44 w then Value ∷ MoreValues ∷ [] else []
after FirstCount w = if head_is 93 w then [] else MoreCounts ∷ []
after MoreCounts w = if head_is 44 w then Number number.Count ∷ MoreCounts ∷ [] else []
after MoreEvents w = if head_is 44 w then other_name ∷ MoreEvents ∷ [] else []
after Sent w = if head_is 32 w then Value ∷ feed ∷ [] else []
after MoreFrames w = if head_is 32 w then frames else []
after Order w = after_order (word_of w)
after Wait w = after_wait (word_of w)
after Reason w = after_reason (word_of w)
after (Choices n) w = if n == 0 then after_blocks (word_of w) else after_choice (word_of w) (n - 1)
after (Lines s) w = after_line s (word_of w)
after (States n) w = if n == 0 then after_final (word_of w) else (blank ∷ thread ++ States (n - 1) ∷ [])
after (Left n) w = if n == 0 then Close ∷ [] else (blank ∷ Order ∷ Left (n - 1) ∷ [])
after p w = []
