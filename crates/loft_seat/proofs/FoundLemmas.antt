-- Facts of the history that an actor finds.
use Rattle.std.proofs.Common.{◌≡◌, Bool, true, false, List, [], ◌∷◌, refl, subst, Some, None}
use Rattle.std.specs.Prelude.{if◌then◌else◌, slice_get}
use Rattle.std.specs.List.{All}
use Rattle.std.proofs.lemmas.List.Elements.{All-head}
use Rattle.loft_orders.specs.declared.order.Order.{Order}
use Rattle.loft_orders.specs.declared.thread.Thread.{Thread}

-- what was taken is what waited, where a turn is to be made on that
pub due_some : (t : Bool) (orders batch : List Order) → Some batch ≡ (if t then Some orders else None) → (t ≡ true) × (batch ≡ orders)
due_some true orders batch is = let same : batch ≡ orders = cc in (refl, same)
due_some false orders batch is = absurd (cc)

pub due_none : (t : Bool) (orders : List Order) → None ≡ (if t then Some orders else None) → t ≡ false
due_none true orders is = absurd (cc)
due_none false orders is = refl

-- the first of these threads
pub first_holds : (P : Thread → Type 0) (jobs : List Thread) (t : Thread) → All P jobs → Some t ≡ slice_get jobs 0 → P t
first_holds P [] t all is = let found : Some t ≡ None = is in absurd (cc)
first_holds P (job ∷ jobs) t all is = let found : Some t ≡ Some job = is in let same : job ≡ t = cc in subst P same (All-head P job jobs all)

pub no_first : (jobs : List Thread) → None ≡ slice_get jobs 0 → jobs ≡ []
no_first [] is = refl
no_first (job ∷ jobs) is = let found : None ≡ Some job = is in absurd (cc)
