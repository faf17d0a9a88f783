-- What the command `replay` promises, where its source and its report are known (docs/COMMANDS.md, "replay").
use Rattle.std.specs.Prelude.{◌≡◌, ℕ, ◌⊎◌, Bool, List, Option, Some, Result, Ok, Err, IsTrue}
use Rattle.loft_base.specs.Outside.{appended, GrowsByPrefix}
use Rattle.loft_commands.specs.Written.{AppendsSome, IsPrefix, HasNoRoom}
use Rattle.loft_replay_command.specs.declared.refusal.LogRefusal.{LogRefusal}
use Rattle.loft_replay_command.specs.declared.refusal.ReplayStop.{ReplayStop}
use Rattle.loft_replay_command.specs.declared.refusal.ReplayStop.TheVariants as stop
use Rattle.loft_replay_command.specs.Replay.{IsSourceStop, ReplayComesTo}

-- The command ends so where this is what it comes to: the text was written, or it is refused for this; or a fault or want of memory comes in
-- its place. The sink fails only where there is a text to write. The sink tells of `old` before and of `new` after it.
abbrev pub EndsBy : Option (List ℕ) → Option (List ℕ) → Result (List ℕ) ReplayStop → Result (Unit {0}) ReplayStop → Type 0
EndsBy old new (Ok text) (Ok done) = new ≡ appended old text
EndsBy old new (Ok text) (Err stop.FileFault) = new ≡ old
EndsBy old new (Ok text) (Err stop.SinkFault) = GrowsByPrefix old new text
EndsBy old new (Ok text) (Err stop.NoMemory) = GrowsByPrefix old new text
EndsBy old new (Ok text) (Err e) = ⊥
EndsBy old new (Err e) (Ok done) = ⊥
EndsBy old new (Err e) (Err stop.FileFault) = new ≡ old
EndsBy old new (Err e) (Err stop.SinkFault) = ⊥
EndsBy old new (Err e) (Err stop.NoMemory) = new ≡ old
EndsBy old new (Err e) (Err other) = (other ≡ e) × (new ≡ old)

-- the source stopped the command
abbrev pub IsOfSource : ReplayStop → Type 0
IsOfSource (stop.Source r) = Unit {0}
IsOfSource stop.UnknownScheduler = Unit {0}
IsOfSource (stop.Log r) = ⊥
IsOfSource stop.FileFault = ⊥
IsOfSource stop.SinkFault = ⊥
IsOfSource stop.NoMemory = ⊥

-- nothing was written before this stop
abbrev pub IsSilent : ReplayStop → Type 0
IsSilent (stop.Source r) = Unit {0}
IsSilent stop.UnknownScheduler = Unit {0}
IsSilent (stop.Log r) = Unit {0}
IsSilent stop.FileFault = Unit {0}
IsSilent stop.SinkFault = ⊥
IsSilent stop.NoMemory = ⊥

-- The command did this, by what is known of its two files; the sink tells of `old` before it and of `new` after it. It is known to take `room`
-- more bytes before it, and `left` after it; whether each piece that it took was a line is known as `lines` before it, and as `still` after it.
pub record Replays (only : Option (List ℕ)) (source report : Option (List ℕ)) (result : Result (Unit {0}) ReplayStop) (old new : Option (List ℕ)) (room left : ℕ) (lines still : Bool) : Type 0 where
  -- what was written, or refused, is what the command comes to
  pub done : (s r : List ℕ) → source ≡ Some s → report ≡ Some r → result ≡ Ok tt → AppendsSome old new (λ text. ReplayComesTo only s r (Ok text))
  pub source_refused : (s : List ℕ) (e : ReplayStop) → source ≡ Some s → result ≡ Err e → IsOfSource e → IsSourceStop only s e
  pub report_refused : (s r : List ℕ) (l : LogRefusal) → source ≡ Some s → report ≡ Some r → result ≡ Err (stop.Log l) → ReplayComesTo only s r (Err (stop.Log l))
  -- and the other way round; a source is refused whatever is known of the report
  pub ends : (s r : List ℕ) (outcome : Result (List ℕ) ReplayStop) → source ≡ Some s → report ≡ Some r → ReplayComesTo only s r outcome → EndsBy old new outcome result
  pub source_ends : (s : List ℕ) (e : ReplayStop) → source ≡ Some s → IsSourceStop only s e → EndsBy old new (Err e) result
  -- what was written before another stop
  pub silent : (e : ReplayStop) → result ≡ Err e → IsSilent e → new ≡ old
  pub cut : (s r : List ℕ) → source ≡ Some s → report ≡ Some r → result ≡ Err stop.SinkFault ⊎ result ≡ Err stop.NoMemory → AppendsSome old new (IsPrefix (λ text. ReplayComesTo only s r (Ok text)))
  -- the sink fails only where a text has more bytes than it was known to take
  pub no_room : (s r : List ℕ) → source ≡ Some s → report ≡ Some r → result ≡ Err stop.SinkFault → HasNoRoom room (λ text. ReplayComesTo only s r (Ok text))
  pub same_room : (e : ReplayStop) → result ≡ Err e → IsSilent e → left ≡ room
  pub by_lines : IsTrue lines → IsTrue still
