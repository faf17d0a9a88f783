-- The rule that the queue and all passes keep (docs/BATON.md, "The rule").
use Rattle.std.specs.Prelude.{◌≡◌, ◌≢◌, ◌⊎◌, ℕ, ◌<◌, true, List, [], ◌∷◌, length, Some}
use Rattle.std.specs.List.{All}
use mathlib.Core.List.{IsPrefix}
use mathlib.Core.Option.{Option, some, none}
use lib.ListN.{get_elem?}
use Rattle.loft_code.specs.declared.raw.CodeProgram.{CodeProgram}
use Rattle.loft_orders.specs.declared.entry.Actor.{Actor}
use Rattle.loft_orders.specs.declared.entry.Entry.{Entry}
use Rattle.loft_history.specs.Legal.{actor_of, of}
use Rattle.loft_world.specs.State.{State}
use Rattle.loft_baton.specs.declared.knows.Own.{Own}
use Rattle.loft_baton.specs.declared.knows.Knows.{Knows}
use Rattle.loft_baton.specs.declared.knows.Stage.TheVariants.{Fresh, Live}
use Rattle.loft_baton.specs.OfCode.{IsOfCode}
use Rattle.loft_baton.specs.Knowing.{among, has, fresh}

-- What all passes share: the world as it lies or as it was taken, the code, the actors given out, the giving pass, the pass that
-- holds the world, if one does, and the pass of each actor. Passes are named by their numbers.
pub record Facts : Type 0 where
  pub state : State
  pub code : CodeProgram
  pub given : List Actor
  pub giver : ℕ
  pub holder : Option ℕ
  pub owner : Actor → ℕ

-- an actor of the pass with this number: no other pass has it, it was given out, and it has just these entries
pub record FitsOwn (history : List Entry) (given : List Actor) (owner : Actor → ℕ) (number : ℕ) (o : Own) : Type 0 where
  pub entries : of o.actor history ≡ o.entries
  pub owned : owner o.actor ≡ number
  pub was_given : among given o.actor ≡ true

-- what the pass with this number knows is so
pub record FitsPass (f : Facts) (number : ℕ) (v : Knows) : Type 0 where
  pub begun : v.stage ≢ Fresh
  pub code : v.stage ≡ Live → v.code ≡ Some f.code
  pub holds : v.holds ≡ true → (f.holder ≡ some number) × (v.seen ≡ f.state.history)
  pub gives : v.gives ≡ true → (f.giver ≡ number) × (v.given ≡ f.given)
  pub serves : v.stage ≡ Live → (v.gives ≡ true) ⊎ (0 < length v.own)
  pub seen : IsPrefix v.seen f.state.history
  pub olds : All (λ s. IsPrefix s f.state.history) v.olds
  pub own : All (FitsOwn f.state.history f.given f.owner number) v.own

-- the queue holds the world exactly where no pass does
abbrev pub LiesAt : State → Option ℕ → List State → Type 0
LiesAt s none items = items ≡ s ∷ []
LiesAt s (some number) items = items ≡ []

-- there is a pass with this number, and it is such
abbrev pub There : List Knows → ℕ → (Knows → Type 0) → Type 0
There views number P = (v : Knows) × (get_elem? views number ≡ some v) × P v

abbrev pub Gives : Knows → Type 0
Gives v = (v.stage ≡ Live) × (v.gives ≡ true)

-- from the moment in which the world was put in
pub record Runs (f : Facts) (items : List State) (views : List Knows) : Type 0 where
  pub lies : LiesAt f.state f.holder items
  pub of_code : IsOfCode f.code f.state
  pub names : All (λ e. among f.given (actor_of e) ≡ true) f.state.history
  pub passes : (number : ℕ) (v : Knows) → get_elem? views number ≡ some v → FitsPass f number v
  pub has_holder : (number : ℕ) → f.holder ≡ some number → There views number (λ v. v.holds ≡ true)
  pub has_giver : There views f.giver Gives
  pub has_owner : (a : Actor) → among f.given a ≡ true → There views (f.owner a) (λ v. has v.own a ≡ true)

-- the rule: before the world is put in the queue is empty and the one pass is fresh
abbrev pub Kept : List State → List Knows → Type 0
Kept items views = ((items ≡ []) × (views ≡ fresh ∷ [])) ⊎ ((f : Facts) × Runs f items views)
