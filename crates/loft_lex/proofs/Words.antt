-- Each word is found by its spelling.
use Rattle.std.proofs.Common.{◌≡◌, Some, refl}
use Rattle.loft_lex.specs.Word.{spelling, word_of}
use Rattle.loft_lex.specs.declared.word.Word.{Word}
use Rattle.loft_lex.specs.declared.word.Word.TheVariants as word

pub word_of-spelling : (word : Word) → word_of (spelling word) ≡ Some word
unfolding word_of
word_of-spelling word.Scheduler = refl
word_of-spelling word.Event = refl
word_of-spelling word.In = refl
word_of-spelling word.Shared = refl
word_of-spelling word.Module = refl
word_of-spelling word.To = refl
word_of-spelling word.Local = refl
word_of-spelling word.Int = refl
word_of-spelling word.Thread = refl
word_of-spelling word.Start = refl
word_of-spelling word.As = refl
word_of-spelling word.Outside = refl
word_of-spelling word.End = refl
word_of-spelling word.Print = refl
word_of-spelling word.Cooperate = refl
word_of-spelling word.Generate = refl
word_of-spelling word.Await = refl
word_of-spelling word.For = refl
word_of-spelling word.Select = refl
word_of-spelling word.Get = refl
word_of-spelling word.At = refl
word_of-spelling word.Into = refl
word_of-spelling word.Join = refl
word_of-spelling word.Create = refl
word_of-spelling word.Stop = refl
word_of-spelling word.Suspend = refl
word_of-spelling word.Resume = refl
word_of-spelling word.Broadcast = refl
word_of-spelling word.Link = refl
word_of-spelling word.Unlink = refl
word_of-spelling word.If = refl
word_of-spelling word.Then = refl
word_of-spelling word.Else = refl
word_of-spelling word.While = refl
word_of-spelling word.Do = refl
word_of-spelling word.Repeat = refl
word_of-spelling word.Run = refl
word_of-spelling word.Halt = refl
word_of-spelling word.SelfWord = refl
word_of-spelling word.Code = refl
word_of-spelling word.Mask = refl
word_of-spelling word.Unlinked = refl
