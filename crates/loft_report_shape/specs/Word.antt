-- How each word of a report is spelled (docs/REPORT.md).
use Rattle.std.specs.Prelude.{ℕ, Option, List, [], ◌∷◌, codes}
use Rattle.std.specs.List.{find}
use Rattle.std.specs.Str.{bytes_eq}
use Rattle.loft_report_shape.specs.declared.word.Word.{Word}
use Rattle.loft_report_shape.specs.declared.word.Word.TheVariants as word

abbrev pub spelling : Word → List ℕ
spelling word.Report = codes "loft-report 1"
spelling word.Instants = codes "instants"
spelling word.Budget = codes "budget"
spelling word.Block = codes "block"
spelling word.Workers = codes "workers"
spelling word.History = codes "history"
spelling word.Take = codes "take"
spelling word.Give = codes "give"
spelling word.Pick = codes "pick"
spelling word.Post = codes "post"
spelling word.Client = codes "client"
spelling word.Scheduler = codes "scheduler"
spelling word.Instant = codes "instant"
spelling word.In = codes "in"
spelling word.Void = codes "void"
spelling word.Full = codes "full"
spelling word.Print = codes "print"
spelling word.Gen = codes "gen"
spelling word.Out = codes "out"
spelling word.End = codes "end"
spelling word.Leave = codes "leave"
spelling word.At = codes "at"
spelling word.Shared = codes "shared"
spelling word.State = codes "state"
spelling word.Linked = codes "linked"
spelling word.Suspended = codes "suspended"
spelling word.Left = codes "left"
spelling word.Create = codes "create"
spelling word.Arrive = codes "arrive"
spelling word.Stop = codes "stop"
spelling word.Suspend = codes "suspend"
spelling word.Resume = codes "resume"
spelling word.Broadcast = codes "broadcast"
spelling word.Ended = codes "ended"
spelling word.New = codes "new"
spelling word.Coop = codes "coop"
spelling word.Await = codes "await"
spelling word.Select = codes "select"
spelling word.Next = codes "next"
spelling word.Join = codes "join"
spelling word.Halt = codes "halt"
spelling word.Done = codes "done"
spelling word.Stopped = codes "stopped"
spelling word.Div = codes "div"
spelling word.Deep = codes "deep"
spelling word.Over = codes "over"
spelling word.Flood = codes "flood"
spelling word.Unlinked = codes "unlinked"

abbrev pub all_words : List Word
all_words =
    word.Report ∷ word.Instants ∷ word.Budget ∷ word.Block ∷ word.Workers ∷ word.History ∷ word.Take ∷ word.Give ∷
    word.Pick ∷ word.Post ∷ word.Client ∷ word.Scheduler ∷ word.Instant ∷ word.In ∷ word.Void ∷ word.Full ∷
    word.Print ∷ word.Gen ∷ word.Out ∷ word.End ∷ word.Leave ∷ word.At ∷ word.Shared ∷ word.State ∷ word.Linked ∷
    word.Suspended ∷ word.Left ∷ word.Create ∷ word.Arrive ∷ word.Stop ∷ word.Suspend ∷ word.Resume ∷
    word.Broadcast ∷ word.Ended ∷ word.New ∷ word.Coop ∷ word.Await ∷ word.Select ∷ word.Next ∷ word.Join ∷
    word.Halt ∷ word.Done ∷ word.Stopped ∷ word.Div ∷ word.Deep ∷ word.Over ∷ word.Flood ∷ word.Unlinked ∷ []

-- the word that the bytes spell, if they spell one
unfoldable pub word_of : List ℕ → Option Word
word_of bytes = find (λ one. bytes_eq (spelling one) bytes) all_words
