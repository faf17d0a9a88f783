-- What a pass knows, and how a step changes it (docs/BATON.md, "What a pass knows").
use Rattle.std.specs.Prelude.{◌≡◌, Bool, true, false, cond, ◌||◌, ltb, List, [], ◌∷◌, ◌++◌, map, length, drop, Option, Some, None}
use Rattle.std.specs.List.{All, list_any}
use mathlib.Core.List.{IsPrefix}
use Rattle.loft_code.specs.View.{automata_of}
use Rattle.loft_code.specs.declared.raw.CodeProgram.{CodeProgram}
use Rattle.loft_orders.specs.declared.entry.Actor.{Actor}
use Rattle.loft_orders.specs.declared.entry.Entry.{Entry}
use Rattle.loft_sense.specs.Machine.{Code}
use Rattle.loft_history.specs.History.{sent_in}
use Rattle.loft_history.specs.Legal.{actor_of, same_actor, of}
use Rattle.loft_soundness.specs.Machines.{SentFits}
use Rattle.loft_world.specs.State.{State}
use Rattle.loft_baton.specs.declared.knows.Own.{Own}
use Rattle.loft_baton.specs.declared.knows.Knows.{Knows}
use Rattle.loft_baton.specs.declared.knows.Stage.TheVariants.{Fresh, Live, Spent}
use Rattle.loft_baton.specs.OfCode.{IsOfCode}

-- the actor is one of these
abbrev pub among : List Actor → Actor → Bool
among actors a = list_any (λ b. same_actor a b) actors

-- the actor is one of the pass's own
abbrev pub has : List Own → Actor → Bool
has own a = list_any (λ o. same_actor a o.actor) own

abbrev pub own_of : Actor → List Entry → Own
own_of a entries = record { actor = a; entries = entries }

-- ---- passes

-- the one pass before the world is put in
abbrev pub fresh : Knows
fresh = record { stage = Fresh; holds = false; gives = false; code = None; given = []; own = []; seen = []; olds = [] }

-- a pass that was joined into another
abbrev pub spent : Knows
spent = record { stage = Spent; holds = false; gives = false; code = None; given = []; own = []; seen = []; olds = [] }

-- the giving pass, before an actor is given out
abbrev pub begun : Option CodeProgram → Knows
begun code = record { stage = Live; holds = false; gives = true; code = code; given = []; own = []; seen = []; olds = [] }

-- it is in use, and doesn't hold the world
abbrev pub IsIdle : Knows → Type 0
IsIdle v = (v.stage ≡ Live) × (v.holds ≡ false)

-- it holds the world
abbrev pub IsHolding : Knows → Type 0
IsHolding v = (v.stage ≡ Live) × (v.holds ≡ true)

-- ---- taking the world

-- the pass that has taken a world with this history
abbrev pub holding : Knows → List Entry → Knows
holding v h = record v { holds = true; seen = h }

-- What a pass is told of the world that it takes: the history begins with all that it has seen and that passes joined into it
-- had seen, its actors have just the entries that it knows, the world is one of the code, and where it is the giving pass, each
-- entry is of an actor given out.
pub record Follows (v : Knows) (w : State) : Type 0 where
  pub seen : IsPrefix v.seen w.history
  pub olds : All (λ s. IsPrefix s w.history) v.olds
  pub own : All (λ o. of o.actor w.history ≡ o.entries) v.own
  pub code : (c : CodeProgram) → v.code ≡ Some c → IsOfCode c w
  pub given : v.gives ≡ true → All (λ e. among v.given (actor_of e) ≡ true) w.history

-- ---- giving it back

-- what was added to the history that the pass took
abbrev pub added : Knows → List Entry → List Entry
added v h = drop (length v.seen) h

-- What a pass owes for the world that it gives back: it has added entries of its own actors and changed no other, and what they
-- send fits as it is addressed.
pub record Adds (v : Knows) (w : State) : Type 0 where
  pub seen : IsPrefix v.seen w.history
  pub own : All (λ e. has v.own (actor_of e) ≡ true) (added v w.history)
  pub heads : (c : CodeProgram) → v.code ≡ Some c → w.heads ≡ c.heads
  pub fits : (c : CodeProgram) → v.code ≡ Some c → All (SentFits (Code (automata_of c))) (sent_in (added v w.history))

-- each actor has those of these entries that are its own besides
abbrev pub own_with : List Entry → List Own → List Own
own_with new own = map (λ o. record { actor = o.actor; entries = o.entries ++ of o.actor new }) own

-- the pass that has given back a world with this history
abbrev pub released : Knows → List Entry → Knows
released v h = record v { holds = false; seen = h; own = own_with (added v h) v.own }

-- ---- new passes, and two in one

-- the giving pass, after it gave out an actor
abbrev pub gave : Knows → Actor → Knows
gave v a = record v { given = v.given ++ a ∷ [] }

-- the pass for an actor that another has given out; it has no olds: what it begins with is the giver's `seen`
abbrev pub newcomer : Knows → Actor → Knows
newcomer v a = record v { gives = false; given = []; own = own_of a [] ∷ []; olds = [] }

-- the longer of two prefixes
abbrev pub longer : List Entry → List Entry → List Entry
longer a b = cond (ltb (length a) (length b)) b a

-- two passes in one
abbrev pub joined : Knows → Knows → Knows
joined v w = record v {
  gives = v.gives || w.gives;
  given = cond v.gives v.given w.given;
  own = v.own ++ w.own;
  seen = longer v.seen w.seen;
  olds = v.seen ∷ w.seen ∷ v.olds ++ w.olds;
}
