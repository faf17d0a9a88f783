-- What a part of the command found, before anything is written.
use Rattle.std.specs.Prelude.{◌≡◌, ℕ, ◌<◌, List, [], ◌∷◌, ◌++◌, length, codes, Option, Some, None, Result, Ok, Err}
use Rattle.loft_base.specs.declared.ids.SchedId.{SchedId}
use Rattle.loft_tree.specs.declared.heads.Heads.{Heads}
use Rattle.loft_sense.specs.Machine.{Prog}
use Rattle.loft_refusal.specs.Refusals.{IsCause}
use Rattle.loft_commands.specs.Asks.{asks_well}
use Rattle.loft_replay.specs.Named.{scheduler_named}
use Rattle.loft_replay_command.specs.declared.answer.Answer.{Answer}
use Rattle.loft_replay_command.specs.declared.answer.Answer.TheVariants as answer
use Rattle.loft_replay_command.specs.declared.refusal.LogRefusal.{LogRefusal}
use Rattle.loft_replay_command.specs.declared.refusal.ReplayStop.{ReplayStop}
use Rattle.loft_replay_command.specs.declared.refusal.ReplayStop.TheVariants as stop
use Rattle.loft_replay_command.specs.Replay.{WholeComesTo, BlockComesTo, IsSourceStop, ReplayComesTo}

-- ---- answers

-- the text of an answer
abbrev pub answer_text : Answer → List ℕ
answer_text answer.Whole = codes "ok" ++ 10 ∷ []
answer_text (answer.Block bytes) = bytes.items

-- what a part answers, with the text that is to be written
abbrev pub seen : Result Answer ReplayStop → Result (List ℕ) ReplayStop
seen (Ok a) = Ok (answer_text a)
seen (Err e) = Err e

-- ---- a report

-- the name is that of this scheduler, the first of the name, where one is given
abbrev pub IsNamed : Heads → Option (List ℕ) → Option SchedId → Type 0
IsNamed h None None = Unit {0}
IsNamed h None (Some s) = ⊥
IsNamed h (Some name) None = ⊥
IsNamed h (Some name) (Some s) = (scheduler_named h name ≡ Some s.0) × (s.0 < length h.schedulers)

-- what the check of a report comes to, of all of it or of the block of this scheduler
abbrev pub CheckComesTo : Prog → Option SchedId → List ℕ → Result (List ℕ) LogRefusal → Type 0
CheckComesTo x None report a = WholeComesTo x report a
CheckComesTo x (Some s) report a = BlockComesTo x s.0 report a

-- it is so, and nothing else is
pub record IsOnly {A : Type 0} (P : A → Type 0) (a : A) : Type 0 where
  pub is : P a
  pub only : (b : A) → P b → b ≡ a

-- what was found is the one thing to which something comes; a fault of a file or want of memory may be in its place
abbrev pub Found : (Result (List ℕ) LogRefusal → Type 0) → Result (List ℕ) ReplayStop → Type 0
Found comes (Ok text) = IsOnly comes (Ok text)
Found comes (Err (stop.Source r)) = ⊥
Found comes (Err stop.UnknownScheduler) = ⊥
Found comes (Err (stop.Log l)) = IsOnly comes (Err l)
Found comes (Err stop.FileFault) = Unit {0}
Found comes (Err stop.SinkFault) = ⊥
Found comes (Err stop.NoMemory) = Unit {0}

-- the report stops the command, or memory runs out
abbrev pub IsOfCheck : ReplayStop → Type 0
IsOfCheck (stop.Source r) = ⊥
IsOfCheck stop.UnknownScheduler = ⊥
IsOfCheck (stop.Log l) = Unit {0}
IsOfCheck stop.FileFault = ⊥
IsOfCheck stop.SinkFault = ⊥
IsOfCheck stop.NoMemory = Unit {0}

-- the same, or its file fails
abbrev pub IsOfReport : ReplayStop → Type 0
IsOfReport stop.FileFault = Unit {0}
IsOfReport e = IsOfCheck e

-- ---- a source

-- there is no source in a file with these contents; a fault and want of memory say nothing of them
abbrev pub IsUnsound : List ℕ → ReplayStop → Type 0
IsUnsound contents (stop.Source r) = asks_well r × IsCause contents r
IsUnsound contents stop.UnknownScheduler = ⊥
IsUnsound contents (stop.Log l) = ⊥
IsUnsound contents stop.FileFault = Unit {0}
IsUnsound contents stop.SinkFault = ⊥
IsUnsound contents stop.NoMemory = Unit {0}

-- ---- both

-- this was found, or a fault of a file or want of memory is in its place
abbrev pub Shows : Result (List ℕ) ReplayStop → Result (List ℕ) ReplayStop → Type 0
Shows (Err stop.FileFault) outcome = Unit {0}
Shows (Err stop.NoMemory) outcome = Unit {0}
Shows found outcome = outcome ≡ found

-- what was found is what the command comes to; a fault of a file and want of memory say nothing of it
abbrev pub IsOutcome : Option (List ℕ) → (source report : List ℕ) → Result (List ℕ) ReplayStop → Type 0
IsOutcome only s r (Err stop.FileFault) = Unit {0}
IsOutcome only s r (Err stop.NoMemory) = Unit {0}
IsOutcome only s r found = ReplayComesTo only s r found

-- what the source says where it stops the command
abbrev pub IsOfThis : Option (List ℕ) → (source : List ℕ) → Result (List ℕ) ReplayStop → Type 0
IsOfThis only s (Err (stop.Source r)) = IsSourceStop only s (stop.Source r)
IsOfThis only s (Err stop.UnknownScheduler) = IsSourceStop only s stop.UnknownScheduler
IsOfThis only s found = Unit {0}

-- This was found, by what is known of the two files.
pub record Finds (only : Option (List ℕ)) (source report : Option (List ℕ)) (found : Result (List ℕ) ReplayStop) : Type 0 where
  pub source_says : (s : List ℕ) → source ≡ Some s → IsOfThis only s found
  pub both_say : (s r : List ℕ) → source ≡ Some s → report ≡ Some r → IsOutcome only s r found
  pub source_only : (s : List ℕ) (e : ReplayStop) → source ≡ Some s → IsSourceStop only s e → Shows found (Err e)
  pub no_other : (s r : List ℕ) (outcome : Result (List ℕ) ReplayStop) → source ≡ Some s → report ≡ Some r → ReplayComesTo only s r outcome → Shows found outcome
