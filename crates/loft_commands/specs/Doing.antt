-- What a command does for what was read, and for the contents of its file.
use Rattle.std.specs.Prelude.{◌≡◌, ◌≢◌, ℕ, ◌⊎◌, Bool, List, Option, Some, Result, Ok, Err, IsTrue}
use Rattle.loft_refusal.specs.Input.{Input}
use Rattle.loft_refusal.specs.declared.refusal.Refusal.{Refusal}
use Rattle.loft_refusal.specs.declared.refusal.Stopped.{Stopped}
use Rattle.loft_refusal.specs.declared.refusal.Stopped.TheVariants as stopped
use Rattle.loft_arguments.specs.Command.{FileCommand}
use Rattle.loft_commands.specs.Written.{AppendsSome, IsPrefix, HasNoRoom}
use Rattle.loft_refusal.specs.Refusals.{IsTextOf, IsRefusedFor, IsCause}
use Rattle.loft_commands.specs.Asks.{Asks, Takes}
use Rattle.loft_commands.specs.Promise.{IsAnswerFor, IsFileAnswer}

-- The command did this for what was read; the sink tells of `old` before it and of `new` after it. It is known to take `room` more bytes before
-- it, and `left` after it; whether each piece that it took was a line is known as `lines` before it, and as `still` after it.
pub record Does (c : FileCommand) (x : Input) (result : Result (Unit {0}) Stopped) (old new : Option (List ℕ)) (room left : ℕ) (lines still : Bool) : Type 0 where
  pub takes : result ≡ Ok tt → Takes c x
  pub written : result ≡ Ok tt → AppendsSome old new (IsAnswerFor c x)
  pub refused : (r : Refusal) → result ≡ Err (stopped.Refused r) → Asks c r × IsRefusedFor x r
  pub silent : (r : Refusal) → result ≡ Err (stopped.Refused r) → new ≡ old
  pub no_file : result ≢ Err stopped.FileFault
  pub cut : result ≡ Err stopped.SinkFault ⊎ result ≡ Err stopped.NoMemory → AppendsSome old new (IsPrefix (IsAnswerFor c x))
  pub no_room : result ≡ Err stopped.SinkFault → HasNoRoom room (IsAnswerFor c x)
  pub same_room : (r : Refusal) → result ≡ Err (stopped.Refused r) → left ≡ room
  pub by_lines : IsTrue lines → IsTrue still

-- The same of a call that was handed a sink: `written`, `room` and `by_lines` are what the sink's type means by these words.
abbrev pub DoesTo : {S : Type 0} → (S → Option (List ℕ)) → (S → ℕ) → (S → Bool) → S → S → Result (Unit {0}) Stopped → FileCommand → Input → Type 0
DoesTo written room by_lines old new result c x = Does c x result (written old) (written new) (room old) (room new) (by_lines old) (by_lines new)

-- The same for the contents of its file, where these are known.
pub record Attempts (c : FileCommand) (known : Option (List ℕ)) (result : Result (Unit {0}) Stopped) (old new : Option (List ℕ)) (room left : ℕ) (lines still : Bool) : Type 0 where
  pub takes : (contents : List ℕ) → known ≡ Some contents → result ≡ Ok tt → (x : Input) × IsTextOf contents x × Takes c x
  pub written : (contents : List ℕ) → known ≡ Some contents → result ≡ Ok tt → AppendsSome old new (IsFileAnswer c contents)
  pub refused : (contents : List ℕ) (r : Refusal) → known ≡ Some contents → result ≡ Err (stopped.Refused r) → Asks c r × IsCause contents r
  pub silent : (r : Refusal) → result ≡ Err (stopped.Refused r) → new ≡ old
  pub no_file : result ≡ Err stopped.FileFault → new ≡ old
  pub cut : (contents : List ℕ) → known ≡ Some contents → result ≡ Err stopped.SinkFault ⊎ result ≡ Err stopped.NoMemory → AppendsSome old new (IsPrefix (IsFileAnswer c contents))
  pub no_room : (contents : List ℕ) → known ≡ Some contents → result ≡ Err stopped.SinkFault → HasNoRoom room (IsFileAnswer c contents)
  pub same_room : (r : Refusal) → result ≡ Err (stopped.Refused r) → left ≡ room
  pub file_room : result ≡ Err stopped.FileFault → left ≡ room
  pub by_lines : IsTrue lines → IsTrue still

-- and of a call that was handed a sink
abbrev pub AttemptsTo : {S : Type 0} → (S → Option (List ℕ)) → (S → ℕ) → (S → Bool) → S → S → Result (Unit {0}) Stopped → FileCommand → Option (List ℕ) → Type 0
AttemptsTo written room by_lines old new result c known = Attempts c known result (written old) (written new) (room old) (room new) (by_lines old) (by_lines new)
