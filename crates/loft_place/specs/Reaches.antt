-- Which statements a thread may meet, and where it is linked there (docs/LANGUAGE.md, "Links").
use Rattle.std.specs.Prelude.{◌≡◌, ℕ, zero, suc, ◌⊎◌, List, Option, Some, None, slice_get}
use Rattle.loft_base.specs.declared.ids.SchedId.{SchedId}
use Rattle.loft_base.specs.declared.ids.ModuleId.{ModuleId}
use Rattle.loft_base.specs.declared.ids.Value.{Value}
use Rattle.loft_tree.specs.declared.heads.Place.{Place}
use Rattle.loft_tree.specs.declared.heads.Place.TheVariants.{Sched}
use Rattle.loft_tree.specs.declared.heads.Signature.{Signature}
use Rattle.loft_tree.specs.declared.heads.Start.{Start}
use Rattle.loft_tree.specs.declared.heads.ClientOrder.TheVariants as order
use Rattle.loft_tree.specs.declared.heads.Client.{Client}
use Rattle.loft_tree.specs.declared.heads.Heads.{Heads}
use Rattle.loft_tree.specs.declared.named.Target.{Target}
use Rattle.loft_tree.specs.NamedTree.{NamedExpression, NamedCreation, Make, NamedStatement, Do, Hold, Run, If, While, Repeat, NamedStatements, Done, Then, NamedModule, NamedProgram}
use Rattle.loft_place.specs.Links.{end_of, left_by_pause}

-- so many times one after the other
abbrev pub Times : (Place → Place → Type 0) → ℕ → Place → Place → Type 0
Times One zero p q = q ≡ p
Times One (suc n) p q = (r : Place) × One p r × Times One n r q

-- A thread that begins a statement at p may be linked at q after it, whichever branch is taken and however often a loop turns.
abbrev mutual
  pub MayLead : Heads → NamedStatement → Place → Place → Type 0
  MayLead h (Do at action) p q = q ≡ p
  MayLead h (Hold at stop pause) p q = q ≡ left_by_pause p pause
  MayLead h (Run at stop called m arguments) p q = q ≡ end_of (slice_get h.modules m.0)
  MayLead h (If at test first second) p q = BodyLeads h first p q ⊎ BodyLeads h second p q
  MayLead h (While at test body) p q = (n : ℕ) × Times (BodyLeads h body) n p q
  MayLead h (Repeat at count body) p q = (n : ℕ) × Times (BodyLeads h body) n p q

  pub BodyLeads : Heads → NamedStatements → Place → Place → Type 0
  BodyLeads h Done p q = q ≡ p
  BodyLeads h (Then first rest) p q = (r : Place) × MayLead h first p r × BodyLeads h rest r q

-- A thread that begins a body at p may meet the statement s linked at q: at its front, or inside its first statement, in any
-- turn of a loop, or after its first statement.
abbrev mutual
  pub MayMeetInside : Heads → NamedStatement → Place → NamedStatement → Place → Type 0
  MayMeetInside h (Do at action) p s q = ⊥
  MayMeetInside h (Hold at stop pause) p s q = ⊥
  MayMeetInside h (Run at stop called m arguments) p s q = ⊥
  MayMeetInside h (If at test first second) p s q = MayMeet h first p s q ⊎ MayMeet h second p s q
  MayMeetInside h (While at test body) p s q = (n : ℕ) × (r : Place) × Times (BodyLeads h body) n p r × MayMeet h body r s q
  MayMeetInside h (Repeat at count body) p s q = (n : ℕ) × (r : Place) × Times (BodyLeads h body) n p r × MayMeet h body r s q

  pub MayMeet : Heads → NamedStatements → Place → NamedStatement → Place → Type 0
  MayMeet h Done p s q = ⊥
  MayMeet h (Then first rest) p s q =
      ((s ≡ first) × (q ≡ p)) ⊎ (MayMeetInside h first p s q ⊎ ((r : Place) × MayLead h first p r × MayMeet h rest r s q))

-- ---- programs

abbrev pub statements_in : Option NamedModule → NamedStatements
statements_in None = Done
statements_in (Some m) = m.body

-- the statements of a module
abbrev pub body_at : NamedProgram → ModuleId → NamedStatements
body_at n m = statements_in (slice_get n.modules m.0)

-- the module m is declared, with this head and this body
pub record IsModule (n : NamedProgram) (m : ModuleId) (signature : Signature) (x : NamedModule) : Type 0 where
  pub head : slice_get n.heads.modules m.0 ≡ Some signature
  pub body : slice_get n.modules m.0 ≡ Some x

-- A thread that begins the module m linked at p may meet the statement s linked at q, so many modules deep: in m itself, or
-- in one that is run.
abbrev pub MeetsWithin : NamedProgram → ℕ → ModuleId → Place → NamedStatement → Place → Type 0
MeetsWithin n zero m p s q = MayMeet n.heads (body_at n m) p s q
MeetsWithin n (suc depth) m p s q =
    (at : ℕ) × (stop : ℕ) × (called : ℕ) × (k : ModuleId) × (arguments : List NamedExpression) × (r : Place)
    × MayMeet n.heads (body_at n m) p (Run at stop called k arguments) r × MeetsWithin n depth k r s q

-- the statement makes this thread
abbrev pub Makes : NamedStatement → NamedCreation → Type 0
Makes s creation = (at : ℕ) × (target : Option Target) × (s ≡ Do at (Make target creation))

-- a start, or a create among the orders of a client
abbrev pub IsStart : Heads → SchedId → ModuleId → List Value → Type 0
IsStart h s m arguments =
    (number : ℕ) × (t : Start) × (slice_get h.starts number ≡ Some t)
    × (t.scheduler ≡ s) × (t.module ≡ m) × (t.arguments ≡ arguments)

abbrev pub IsOrdered : Heads → SchedId → ModuleId → List Value → Type 0
IsOrdered h s m arguments =
    (client : ℕ) × (c : Client) × (slice_get h.clients client ≡ Some c)
    × (number : ℕ) × (slice_get c.orders number ≡ Some (order.Create s m arguments))

-- outside module bodies, a thread of the module m is made in the scheduler s with these arguments
abbrev pub IsMadeOutside : Heads → SchedId → ModuleId → List Value → Type 0
IsMadeOutside h s m arguments = IsStart h s m arguments ⊎ IsOrdered h s m arguments

-- A thread of the program may begin the module m linked at p: a start or a client makes it, or a thread does that is so many
-- threads away from one of those.
abbrev pub BeginsWithin : NamedProgram → ℕ → ModuleId → Place → Type 0
BeginsWithin n zero m p = (s : SchedId) × (arguments : List Value) × IsMadeOutside n.heads s m arguments × (Sched s ≡ p)
BeginsWithin n (suc away) m p =
    (maker : ModuleId) × (begin : Place) × BeginsWithin n away maker begin
    × (depth : ℕ) × (s : NamedStatement) × (q : Place) × MeetsWithin n depth maker begin s q
    × (creation : NamedCreation) × Makes s creation × (creation.«module» ≡ m) × (Sched creation.scheduler ≡ p)
