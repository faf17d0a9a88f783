-- The orders of clients, one by one.
use Rattle.std.proofs.Common.{arith, ◌≡◌, ℕ, zero, suc, ◌+◌, ◌==◌, Bool, true, false, List, [], ◌∷◌, length, refl, sym, ◌∙◌, ap, subst, Some, None, slice_get}
use Rattle.std.specs.Prelude.{◌&&◌, drop, if◌then◌else◌}
use Rattle.loft_tree.specs.declared.kinds.Control.TheVariants as control
use Rattle.loft_tree.specs.declared.heads.ClientOrder.{ClientOrder}
use Rattle.loft_tree.specs.declared.heads.ClientOrder.TheVariants as client
use Rattle.loft_tree.specs.declared.heads.Heads.{Heads}
use Rattle.loft_orders.specs.declared.entry.Actor.TheVariants as actor
use Rattle.loft_orders.specs.declared.entry.Entry.{Entry}
use Rattle.loft_orders.specs.declared.entry.Entry.TheVariants.{Take, Give, Pick, Post, Client}
use Rattle.loft_orders.specs.declared.order.Sent.{Sent}
use Rattle.loft_history.specs.Clients.{orders_from, outside_of, orders_of}
use Rattle.loft_history.specs.History.{is_create, creates_after, creates, unsent}
use Rattle.loft_history.specs.Legal.{of, Gives}
use Rattle.loft_history.proofs.OwnLemmas.{given}
use Rattle.loft_turn_parts.specs.Clients.{orders_at}

one_on : (i : ℕ) → suc (i + 1) ≡ suc i + 1
one_on i = omega arith

-- the elements from an index on
pub from_there : {A : Type 0} (xs : List A) (i : ℕ) (a : A) → slice_get xs i ≡ Some a → drop i xs ≡ a ∷ drop (i + 1) xs
from_there [] i a e = cc
from_there (x ∷ xs) zero a e = cc
from_there (x ∷ xs) (suc i) a e = from_there xs i a e ∙ ap (λ (n : ℕ). a ∷ drop n (x ∷ xs)) (one_on i)

pub none_there : {A : Type 0} (xs : List A) (i : ℕ) → slice_get xs i ≡ None → drop i xs ≡ []
none_there [] zero e = refl
none_there [] (suc i) e = refl
none_there (x ∷ xs) zero e = cc
none_there (x ∷ xs) (suc i) e = none_there xs i e

abbrev pub Continues : Heads → ℕ → ℕ → ClientOrder → List ClientOrder → Sent → Type 0
Continues h c k q os m = orders_from h c k (q ∷ os) ≡ m ∷ orders_from h c (if is_create m.order then k + 1 else k) os

goes_on : (h : Heads) (c k : ℕ) (q : ClientOrder) (os : List ClientOrder) (own m : Sent) → Continues h c k q os own → own ≡ m → Continues h c k q os m
goes_on h c k q os own m first same = subst (Continues h c k q os) same first

-- the first of some orders, and those after it
pub first_sent : (h : Heads) (c k : ℕ) (q : ClientOrder) (os : List ClientOrder) (m : Sent) → orders_from h c k (q ∷ []) ≡ m ∷ [] → Continues h c k q os m
first_sent h c k (client.Create s m arguments) os sent e = goes_on h c k (client.Create s m arguments) os _ sent refl cc
first_sent h c k (client.Control control.Stop t s) os sent e = goes_on h c k (client.Control control.Stop t s) os _ sent refl cc
first_sent h c k (client.Control control.Suspend t s) os sent e = goes_on h c k (client.Control control.Suspend t s) os _ sent refl cc
first_sent h c k (client.Control control.Resume t s) os sent e = goes_on h c k (client.Control control.Resume t s) os _ sent refl cc
first_sent h c k (client.Broadcast event v) os sent e = goes_on h c k (client.Broadcast event v) os _ sent refl cc

-- ---- the orders after those that were given

-- by an order more the list of what was given is longer by one, and its creates by one where it is a create
abbrev Goes : Heads → ℕ → ℕ → List ClientOrder → List Entry → Type 0
Goes h c k os es = drop (length (of (actor.Client c) es)) (orders_from h c k os) ≡ orders_from h c (creates_after c k es) (drop (length (of (actor.Client c) es)) os)

abbrev GoesOn : Heads → ℕ → List Entry → Type 0
GoesOn h c es = (k : ℕ) (os : List ClientOrder) → Gives (orders_from h c k os) (of (actor.Client c) es) → Goes h c k os es

-- an order of the client
own_order : (h : Heads) (c d k : ℕ) (os : List ClientOrder) (sent : Sent) (es : List Entry) → GoesOn h c es → Gives (orders_from h c k os) (Client d sent ∷ of (actor.Client c) es)
    → drop (suc (length (of (actor.Client c) es))) (orders_from h c k os) ≡ orders_from h c (creates_after c (if is_create sent.order then k + 1 else k) es) (drop (suc (length (of (actor.Client c) es))) os)
own_order h c d k [] sent es on gives = absurd gives
own_order h c d k (client.Create s m arguments ∷ os) sent es on gives =
    on (k + 1) os gives.1 ∙ ap (λ (q : Sent). orders_from h c (creates_after c (if is_create q.order then k + 1 else k) es) (drop (length (of (actor.Client c) es)) os)) (sym gives.0)
own_order h c d k (client.Control control.Stop t s ∷ os) sent es on gives =
    on k os gives.1 ∙ ap (λ (q : Sent). orders_from h c (creates_after c (if is_create q.order then k + 1 else k) es) (drop (length (of (actor.Client c) es)) os)) (sym gives.0)
own_order h c d k (client.Control control.Suspend t s ∷ os) sent es on gives =
    on k os gives.1 ∙ ap (λ (q : Sent). orders_from h c (creates_after c (if is_create q.order then k + 1 else k) es) (drop (length (of (actor.Client c) es)) os)) (sym gives.0)
own_order h c d k (client.Control control.Resume t s ∷ os) sent es on gives =
    on k os gives.1 ∙ ap (λ (q : Sent). orders_from h c (creates_after c (if is_create q.order then k + 1 else k) es) (drop (length (of (actor.Client c) es)) os)) (sym gives.0)
own_order h c d k (client.Broadcast event v ∷ os) sent es on gives =
    on k os gives.1 ∙ ap (λ (q : Sent). orders_from h c (creates_after c (if is_create q.order then k + 1 else k) es) (drop (length (of (actor.Client c) es)) os)) (sym gives.0)

-- an order of this client or of another
any_order : (h : Heads) (c d k : ℕ) (os : List ClientOrder) (sent : Sent) (es : List Entry) (own : Bool) → GoesOn h c es
    → Gives (orders_from h c k os) (if own then Client d sent ∷ of (actor.Client c) es else of (actor.Client c) es)
    → drop (length (if own then Client d sent ∷ of (actor.Client c) es else of (actor.Client c) es)) (orders_from h c k os)
    ≡ orders_from h c (creates_after c (if own && is_create sent.order then k + 1 else k) es) (drop (length (if own then Client d sent ∷ of (actor.Client c) es else of (actor.Client c) es)) os)
any_order h c d k os sent es true on gives = own_order h c d k os sent es on gives
any_order h c d k os sent es false on gives = on k os gives

gives_on : (h : Heads) (c : ℕ) (es : List Entry) → GoesOn h c es
gives_on h c [] k os gives = refl
gives_on h c (Take s batch ∷ es) k os gives = gives_on h c es k os gives
gives_on h c (Give s sent ∷ es) k os gives = gives_on h c es k os gives
gives_on h c (Pick w job ∷ es) k os gives = gives_on h c es k os gives
gives_on h c (Post w sent ∷ es) k os gives = gives_on h c es k os gives
gives_on h c (Client d sent ∷ es) k os gives = any_order h c d k os sent es (c == d) (gives_on h c es) gives

-- what a client has still to give is what comes after the orders that it has given
pub left_by_entries : (h : Heads) (c : ℕ) (es : List Entry) → Gives (outside_of h c) (of (actor.Client c) es) → unsent h c es ≡ orders_at h c (length (of (actor.Client c) es)) (creates c es)
left_by_entries h c es gives = given h c es ∙ gives_on h c es 0 (orders_of h c) gives
