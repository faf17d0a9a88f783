-- How each word of the language is spelled (docs/LANGUAGE.md, "Words of the language").
use Rattle.std.specs.Prelude.{ℕ, Bool, Option, is_some, List, [], ◌∷◌, codes}
use Rattle.std.specs.List.{find}
use Rattle.std.specs.Str.{bytes_eq}
use Rattle.loft_lex.specs.declared.word.Word.{Word}
use Rattle.loft_lex.specs.declared.word.Word.TheVariants as word

-- the bytes of a word
abbrev pub spelling : Word → List ℕ
spelling word.Scheduler = codes "scheduler"
spelling word.Event = codes "event"
spelling word.In = codes "in"
spelling word.Shared = codes "shared"
spelling word.Module = codes "module"
spelling word.To = codes "to"
spelling word.Local = codes "local"
spelling word.Int = codes "int"
spelling word.Thread = codes "thread"
spelling word.Start = codes "start"
spelling word.As = codes "as"
spelling word.Outside = codes "outside"
spelling word.End = codes "end"
spelling word.Print = codes "print"
spelling word.Cooperate = codes "cooperate"
spelling word.Generate = codes "generate"
spelling word.Await = codes "await"
spelling word.For = codes "for"
spelling word.Select = codes "select"
spelling word.Get = codes "get"
spelling word.At = codes "at"
spelling word.Into = codes "into"
spelling word.Join = codes "join"
spelling word.Create = codes "create"
spelling word.Stop = codes "stop"
spelling word.Suspend = codes "suspend"
spelling word.Resume = codes "resume"
spelling word.Broadcast = codes "broadcast"
spelling word.Link = codes "link"
spelling word.Unlink = codes "unlink"
spelling word.If = codes "if"
spelling word.Then = codes "then"
spelling word.Else = codes "else"
spelling word.While = codes "while"
spelling word.Do = codes "do"
spelling word.Repeat = codes "repeat"
spelling word.Run = codes "run"
spelling word.Halt = codes "halt"
spelling word.SelfWord = codes "self"
spelling word.Code = codes "code"
spelling word.Mask = codes "mask"
spelling word.Unlinked = codes "unlinked"

-- every word of the language
abbrev pub words : List Word
words =
    word.Scheduler ∷ word.Event ∷ word.In ∷ word.Shared ∷ word.Module ∷ word.To ∷ word.Local ∷
    word.Int ∷ word.Thread ∷ word.Start ∷ word.As ∷ word.Outside ∷ word.End ∷ word.Print ∷
    word.Cooperate ∷ word.Generate ∷ word.Await ∷ word.For ∷ word.Select ∷ word.Get ∷ word.At ∷
    word.Into ∷ word.Join ∷ word.Create ∷ word.Stop ∷ word.Suspend ∷ word.Resume ∷
    word.Broadcast ∷ word.Link ∷ word.Unlink ∷ word.If ∷ word.Then ∷ word.Else ∷ word.While ∷
    word.Do ∷ word.Repeat ∷ word.Run ∷ word.Halt ∷ word.SelfWord ∷ word.Code ∷ word.Mask ∷
    word.Unlinked ∷ []

-- the word that the bytes spell, if they spell one
unfoldable pub word_of : List ℕ → Option Word
word_of bytes = find (λ one. bytes_eq (spelling one) bytes) words

-- the bytes spell a word
abbrev pub is_word : List ℕ → Bool
is_word bytes = is_some (word_of bytes)
