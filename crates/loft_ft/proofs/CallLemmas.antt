-- What a call says of its caller, and of the order that it gives.
use Rattle.std.proofs.Common.{◌≡◌, ℕ, ◌≤◌, List, [], ◌∷◌, length, refl, sym, subst, Option, Some, None}
use Rattle.loft_tree.specs.declared.heads.Heads.{Heads}
use Rattle.loft_tree.specs.declared.kinds.Control.TheVariants as control
use Rattle.loft_code.specs.View.{automata_of}
use Rattle.loft_code.specs.declared.raw.CodeProgram.{CodeProgram}
use Rattle.loft_orders.specs.declared.entry.Actor.{Actor}
use Rattle.loft_orders.specs.declared.entry.Actor.TheVariants.{Sched, Worker, Client}
use Rattle.loft_orders.specs.declared.entry.Entry.{Entry}
use Rattle.loft_orders.specs.declared.order.To.TheVariants as to
use Rattle.loft_base.specs.declared.ids.ThreadId.{ThreadId}
use Rattle.loft_sense.specs.Machine.{Code}
use Rattle.loft_history.specs.Clients.{made_by}
use Rattle.loft_history.specs.Legal.{FitsOne, IsCallersOrder}
use Rattle.loft_world.specs.State.{IsToOne, IsForClients}
use Rattle.loft_baton.specs.declared.knows.Own.{Own}
use Rattle.loft_baton.specs.Knowing.{own_of}
use Rattle.loft_ft.specs.declared.call.Call.{Call}
use Rattle.loft_ft.specs.declared.call.Call.TheVariants.{Create, Control, Broadcast}
use Rattle.loft_ft.specs.Calls.{ForCode, IsCaller, HasCaller, client_number, number_in, entries_in, IsDeclared, address, address_in, order_of}

-- ---- the code that a pass is for

pub code_there : (P : CodeProgram → Type 0) (code : Option CodeProgram) → ForCode P code → (x : CodeProgram) × (code ≡ Some x) × P x
code_there P None is = absurd is
code_there P (Some x) is = (x, refl, is)

pub of_code : (P : CodeProgram → Type 0) (code : Option CodeProgram) (x : CodeProgram) → code ≡ Some x → ForCode P code → P x
of_code P code x known is = subst (ForCode P) known is

pub for_code : (P : CodeProgram → Type 0) (code : Option CodeProgram) (x : CodeProgram) → code ≡ Some x → P x → ForCode P code
for_code P code x known is = subst (ForCode P) (sym known) is

-- ---- the caller

named : (a : Actor) (h : Heads) (es : List Entry) → IsCaller h a → own_of a es ∷ [] ≡ own_of (Client (client_number a)) es ∷ []
named (Sched s) h es is = absurd is
named (Worker w) h es is = absurd is
named (Client c) h es is = refl

-- a pass of one caller has its number and its entries
pub own_is : (own : List Own) (h : Heads) → HasCaller own h → own ≡ own_of (Client (number_in own)) (entries_in own) ∷ []
own_is [] h is = absurd is
own_is (o ∷ []) h is = named o.actor h o.entries is
own_is (o ∷ p ∷ own) h is = absurd is

beyond : (a : Actor) (h : Heads) → IsCaller h a → length h.clients ≤ client_number a
beyond (Sched s) h is = absurd is
beyond (Worker w) h is = absurd is
beyond (Client c) h is = is

pub number_beyond : (own : List Own) (h : Heads) → HasCaller own h → length h.clients ≤ number_in own
number_beyond [] h is = absurd is
number_beyond (o ∷ []) h is = beyond o.actor h is
number_beyond (o ∷ p ∷ own) h is = absurd is

-- ---- the order

pub to_one : (h : Heads) (call : Call) → IsDeclared call h → IsToOne h (to.Sched (address h call))
to_one h (Create s m arguments) is = is.0.0
to_one h (Control c s t) is = is.0
to_one h (Broadcast e value) is = is.board

pub for_clients : (next : ThreadId) (call : Call) → IsForClients (order_of next call)
for_clients next (Create s m arguments) = tt
for_clients next (Control control.Stop s t) = tt
for_clients next (Control control.Suspend s t) = tt
for_clients next (Control control.Resume s t) = tt
for_clients next (Broadcast e value) = tt

pub callers_order : (next : ThreadId) (call : Call) → IsCallersOrder next (order_of next call)
callers_order next (Create s m arguments) = refl
callers_order next (Control control.Stop s t) = tt
callers_order next (Control control.Suspend s t) = tt
callers_order next (Control control.Resume s t) = tt
callers_order next (Broadcast e value) = tt

pub call_fits : (x : CodeProgram) (c k : ℕ) (call : Call) → IsDeclared call x.heads → FitsOne (Code (automata_of x)) (to.Sched (address x.heads call)) (order_of (made_by c k) call)
call_fits x c k (Create s m arguments) is = (is.0.0, (tt, is.0, is.1))
call_fits x c k (Control control.Stop s t) is = is
call_fits x c k (Control control.Suspend s t) is = is
call_fits x c k (Control control.Resume s t) is = is
call_fits x c k (Broadcast e value) is = (is.board, record { declared = is.declared; there = refl })

pub address_known : (x : CodeProgram) (call : Call) → address_in (Some x) call ≡ address x.heads call
address_known x (Create s m arguments) = refl
address_known x (Control c s t) = refl
address_known x (Broadcast e value) = refl
