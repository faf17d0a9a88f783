-- Histories of choices that are made by name (docs/SEMANTICS.md, "Choices by name").
use Rattle.std.specs.Prelude.{◌≡◌, ℕ, Bool, true, false, List, [], ◌∷◌, ◌++◌, Option, Some, None, Result, Ok, Err, MatchOption}
use Rattle.std.specs.List.{position}
use Rattle.std.specs.Option.{option_map}
use Rattle.std.specs.Str.{bytes_eq}
use Rattle.loft_tree.specs.declared.heads.Client.{Client as ClientHead}
use Rattle.loft_tree.specs.declared.heads.Heads.{Heads}
use Rattle.loft_orders.specs.declared.entry.Entry.{Entry}
use Rattle.loft_base.specs.declared.options.RunOptions.{RunOptions}
use Rattle.loft_sense.specs.Machine.{Prog, heads}
use Rattle.loft_history.specs.History.{Choice, TakeBy, GiveBy, PickBy, PostBy, ClientBy, entry_of, with_entry}
use Rattle.loft_sense.specs.Heads.{scheduler}
use Rattle.loft_world.specs.declared.results.Finished.{Finished}
use Rattle.loft_world.specs.Replay.{IsReplayOf}
use Rattle.loft_report_shape.specs.declared.raw.Choice.{Choice as ByName}
use Rattle.loft_report_shape.specs.declared.raw.Choice.TheVariants.{Take, Give, Pick, Post, Client}
use Rattle.loft_replay.specs.declared.replay.FollowError.{FollowError}
use Rattle.loft_replay.specs.declared.replay.FollowError.TheVariants.{NotAllowed, NoMemory}

-- the index of the first scheduler of this name, and of the first client
abbrev pub scheduler_named : Heads → List ℕ → Option ℕ
scheduler_named h name = position (λ other. bytes_eq other name) h.schedulers

abbrev pub client_named : Heads → List ℕ → Option ℕ
client_named h name = position (λ (c : ClientHead). bytes_eq c.name name) h.clients

-- the choice that is meant; none where nobody has the name
abbrev pub meant : Heads → ByName → Option Choice
meant h (Take name) = option_map (λ k. TakeBy (scheduler k)) (scheduler_named h name)
meant h (Give name) = option_map (λ k. GiveBy (scheduler k)) (scheduler_named h name)
meant h (Pick w) = Some (PickBy w)
meant h (Post w) = Some (PostBy w)
meant h (Client name) = option_map ClientBy (client_named h name)

-- the entry that it makes after a history, where it is allowed
abbrev pub entry_meant : Prog → RunOptions → List Entry → Option Choice → Option Entry
entry_meant x o h None = None
entry_meant x o h (Some c) = entry_of x o h c

-- the history that these choices make after h
abbrev pub follows_on : Prog → RunOptions → List ByName → List Entry → Result (List Entry) ℕ
follows_on x o [] h = Ok h
follows_on x o (c ∷ cs) h = with_entry h (entry_meant x o h (meant (heads x) c)) (follows_on x o cs)

-- the history of a list of choices by name, or the number of the first that isn't allowed, from 1
abbrev pub follows : Prog → RunOptions → List ByName → Result (List Entry) ℕ
follows x o choices = follows_on x o choices []

-- the world is the program's and has that history; the notes and the last states are those of its replay
pub record IsFollowed (x : Prog) (o : RunOptions) (choices : List ByName) (r : Finished) : Type 0 where
  pub heads : r.world.heads ≡ heads x
  pub history : follows x o choices ≡ Ok r.world.history
  pub replay : IsReplayOf x o.limits r.world.history r.notes.of r.finals.of

-- a choice isn't allowed, and this is the number of the first; nothing is said where it is out of memory
abbrev pub IsRefused : Prog → RunOptions → List ByName → FollowError → Type 0
IsRefused x o choices (NotAllowed entry) = follows x o choices ≡ Err entry
IsRefused x o choices NoMemory = Unit {0}

-- the history has gone on by what was meant, where that is allowed, and is as before where it isn't
abbrev pub MovesBy : Prog → RunOptions → List Entry → Option Choice → Bool → List Entry → Type 0
MovesBy x o before choice moved after = MatchOption (entry_meant x o before choice)
    ((moved ≡ false) × (after ≡ before))
    (λ e. (moved ≡ true) × (after ≡ before ++ e ∷ []))
