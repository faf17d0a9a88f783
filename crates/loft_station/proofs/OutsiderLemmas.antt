-- A client's turn, by its own list.
use Rattle.std.proofs.Common.{◌≡◌, ℕ, zero, suc, ◌+◌, ◌<◌, ◌≤◌, arith, Bool, true, false, List, [], ◌∷◌, ◌++◌, length, refl, sym, ap, ◌∙◌, subst, Some, None, Option, slice_get, eq-eqb}
use Rattle.std.specs.Prelude.{if◌then◌else◌, ◌&&◌, drop}
use Rattle.std.specs.List.{All}
use Rattle.std.proofs.lemmas.List.{length-append}
use Rattle.std.proofs.lemmas.List.Sums.{fold-append}
use Rattle.atomic_table.specs.Seated.{TableId}
use Rattle.loft_base.specs.declared.options.RunOptions.{RunOptions}
use Rattle.loft_tree.specs.declared.heads.ClientOrder.{ClientOrder}
use Rattle.loft_tree.specs.declared.heads.ClientOrder.TheVariants as client
use Rattle.loft_tree.specs.declared.heads.Heads.{Heads}
use Rattle.loft_tree.specs.declared.kinds.Control.TheVariants as control
use Rattle.loft_tree.specs.Fits.{Each}
use Rattle.loft_code.specs.View.{automata_of}
use Rattle.loft_code.specs.declared.raw.CodeProgram.{CodeProgram}
use Rattle.loft_orders.specs.declared.entry.Actor.TheVariants as actor
use Rattle.loft_orders.specs.declared.entry.Entry.{Entry}
use Rattle.loft_orders.specs.declared.entry.Entry.TheVariants as entry
use Rattle.loft_orders.specs.declared.order.Order.{Order}
use Rattle.loft_orders.specs.declared.order.Sent.{Sent}
use Rattle.loft_orders.specs.declared.order.To.{To}
use Rattle.loft_orders.specs.declared.order.To.TheVariants as to
use Rattle.loft_sense.specs.Machine.{Prog, Code, heads}
use Rattle.loft_history.specs.Clients.{orders_from, orders_of, outside_of}
use Rattle.loft_history.specs.History.{is_create, creates, creates_step, unsent}
use Rattle.loft_history.specs.Legal.{of, FitsOne, Gives, IsFirst, IsFaithful}
use Rattle.loft_history.proofs.GrowthLemmas.{own_grows}
use Rattle.loft_history.proofs.LegalLemmas.{faithful_none}
use Rattle.loft_history.proofs.OwnLemmas.{given}
use Rattle.loft_soundness.specs.Machines.{SentFits}
use Rattle.loft_soundness.specs.WellFormed.{IsWellFormed}
use Rattle.loft_soundness.proofs.OrderLemmas.{outside_for_one, one_fits}
use Rattle.loft_turn_parts.specs.Clients.{orders_at, HasEvent}
use Rattle.loft_turn_parts.proofs.ClientLemmas.{left_by_entries}
use Rattle.loft_world.specs.State.{IsToOne, IsForClients}
use Rattle.loft_seat.specs.Seats.{entries_of, IsOf, IsSeat, HasSame, HasMore, IsNewPass}
use Rattle.loft_seat.proofs.SeatLemmas.{entries_is, reseat, new_seat}
use Rattle.loft_seat.proofs.StepLemmas.{of_mine}
use Rattle.loft_station.specs.declared.outsider.Outsider.{Outsider}
use Rattle.loft_station.specs.Outsiders.{IsReady, IsNext, HasGivenAll, GaveOrder}

-- ---- what a client of a well-formed program may give

abbrev IsFine : Prog → Sent → Type 0
IsFine x m = FitsOne x m.to m.order

each_drop : {A : Type 0} (P : A → Type 0) (n : ℕ) (l : List A) → Each P l → Each P (drop n l)
each_drop P zero l f = f
each_drop P (suc n) [] f = tt
each_drop P (suc n) (a ∷ l) f = each_drop P n l f.1

events_there : (x : Prog) (c k : ℕ) (os : List ClientOrder) → Each (IsFine x) (orders_from (heads x) c k os) → Each (HasEvent (heads x)) os
events_there x c k [] f = tt
events_there x c k (client.Create s m arguments ∷ os) f = (tt, events_there x c (k + 1) os f.1)
events_there x c k (client.Control control t s ∷ os) f = (tt, events_there x c k os f.1)
events_there x c k (client.Broadcast e v ∷ os) f = (f.0.1.declared, events_there x c k os f.1)

-- what it has still to broadcast is declared
pub events_declared : (x : CodeProgram) → IsWellFormed (Code (automata_of x)) → (c n : ℕ) (h : Heads) → h ≡ x.heads → Each (HasEvent h) (drop n (orders_of h c))
events_declared x well c n h same =
    subst (λ (k : Heads). Each (HasEvent k) (drop n (orders_of k c))) (sym same) (each_drop (HasEvent x.heads) n (orders_of x.heads c) (events_there (Code (automata_of x)) c 0 (orders_of x.heads c) (outside_for_one (Code (automata_of x)) well c)))

kinds : (h : Heads) (c k : ℕ) (os : List ClientOrder) → Each (λ (m : Sent). IsForClients m.order) (orders_from h c k os)
kinds h c k [] = tt
kinds h c k (client.Create s m arguments ∷ os) = (tt, kinds h c (k + 1) os)
kinds h c k (client.Control control.Stop t s ∷ os) = (tt, kinds h c k os)
kinds h c k (client.Control control.Suspend t s ∷ os) = (tt, kinds h c k os)
kinds h c k (client.Control control.Resume t s ∷ os) = (tt, kinds h c k os)
kinds h c k (client.Broadcast e v ∷ os) = (tt, kinds h c k os)

of_first : {A : Type 0} (P : A → Type 0) (l : List A) (a : A) → Each P l → IsFirst a l → P a
of_first P [] a f first = absurd first
of_first P (b ∷ l) a f first = subst P (sym first) f.0

to_one : (x : Prog) (to : To) (q : Order) → FitsOne x to q → IsToOne (heads x) to
to_one x (to.Sched s) q f = f.0
to_one x (to.Others s) q f = f
to_one x to.All q f = f
to_one x to.Workers q f = f

-- what holds of each of a client's orders holds of its next
next_is : (x : CodeProgram) (P : Sent → Type 0) (v : Outsider) (m : Sent) → Each P (outside_of x.heads v.client) → IsNext x v m → P m
next_is x P v m all next =
    of_first P (unsent x.heads v.client (entries_of v.seat)) m
    (subst (Each P) (sym (given x.heads v.client (entries_of v.seat)))
    (each_drop P (length (of (actor.Client v.client) (entries_of v.seat))) (outside_of x.heads v.client) all))
    next

pub next_to_one : (x : CodeProgram) (v : Outsider) (m : Sent) → IsWellFormed (Code (automata_of x)) → IsNext x v m → IsToOne x.heads m.to
next_to_one x v m well next = to_one (Code (automata_of x)) m.to m.order (next_is x (IsFine (Code (automata_of x))) v m (outside_for_one (Code (automata_of x)) well v.client) next)

pub next_fits : (x : CodeProgram) (v : Outsider) (m : Sent) → IsWellFormed (Code (automata_of x)) → IsNext x v m → SentFits (Code (automata_of x)) m
next_fits x v m well next = one_fits (Code (automata_of x)) m.to m.order (next_is x (IsFine (Code (automata_of x))) v m (outside_for_one (Code (automata_of x)) well v.client) next)

pub next_kind : (x : CodeProgram) (v : Outsider) (m : Sent) → IsNext x v m → IsForClients m.order
next_kind x v m next = next_is x (λ (q : Sent). IsForClients q.order) v m (kinds x.heads v.client 0 (orders_of x.heads v.client)) next

-- ---- its next order, by what it counts

left_by_counts : (b : TableId) (x : CodeProgram) (v : Outsider) → IsReady b x v → unsent x.heads v.client (entries_of v.seat) ≡ orders_at x.heads v.client v.given v.creates
left_by_counts b x v ready =
    let h : Heads = x.heads in
    let c : ℕ = v.client in
    let list : List Entry = entries_of v.seat in
    let own : of (actor.Client c) list ≡ list = of_mine (actor.Client c) list ready.seat.mine in
    let any : RunOptions = record { limits = record { instants = 1; budget = 1; block = 1 }; workers = 1 } in
    left_by_entries h c list (subst (Gives (outside_of h c)) (sym own) ((ready.faithful any).source ready.declared))
    ∙ ap (λ (n : ℕ). orders_at h c n (creates c list)) (ap length own ∙ sym ready.given)
    ∙ ap (orders_at h c v.given) (sym ready.creates)

first_there : {A : Type 0} (l : List A) (a : A) → Some a ≡ slice_get l 0 → IsFirst a l
first_there [] a e = absurd cc
first_there (b ∷ l) a e = let same : a ≡ b = cc in same

none_there : {A : Type 0} (l : List A) → None ≡ slice_get l 0 → l ≡ []
none_there [] e = refl
none_there (b ∷ l) e = cc

abbrev FirstAt : Heads → Outsider → Option Sent → Type 0
FirstAt h v next = next ≡ slice_get (orders_at h v.client v.given v.creates) 0

pub next_given : (b : TableId) (x : CodeProgram) (v : Outsider) (m : Sent) (h : Heads) (next : Option Sent) → IsReady b x v → h ≡ x.heads → FirstAt h v next → next ≡ Some m → IsNext x v m
next_given b x v m h next ready same first some =
    let is : FirstAt x.heads v (Some m) = subst (FirstAt x.heads v) some (subst (λ (k : Heads). FirstAt k v next) same first) in
    first_there (unsent x.heads v.client (entries_of v.seat)) m (is ∙ ap (λ (l : List Sent). slice_get l 0) (sym (left_by_counts b x v ready)))

pub all_given : (b : TableId) (x : CodeProgram) (v : Outsider) (h : Heads) (next : Option Sent) → IsReady b x v → h ≡ x.heads → FirstAt h v next → next ≡ None → HasGivenAll x v
all_given b x v h next ready same first none =
    let is : FirstAt x.heads v None = subst (FirstAt x.heads v) none (subst (λ (k : Heads). FirstAt k v next) same first) in
    none_there (unsent x.heads v.client (entries_of v.seat)) (is ∙ ap (λ (l : List Sent). slice_get l 0) (sym (left_by_counts b x v ready)))

-- ---- after an order

creates_more : (c : ℕ) (list : List Entry) (m : Sent) → creates c (list ++ entry.Client c m ∷ []) ≡ (if is_create m.order then creates c list + 1 else creates c list)
creates_more c list m = fold-append (creates_step c) 0 list (entry.Client c m ∷ []) ∙ ap (λ (own : Bool). if own && is_create m.order then creates c list + 1 else creates c list) (eq-eqb c c refl)

few_more : (t : Bool) (k n : ℕ) → k ≤ n → (if t then k + 1 else k) ≤ n + 1
few_more true k n few = omega (arith, few)
few_more false k n few = omega (arith, few)

client_faithful : (x : Prog) (c : ℕ) (list : List Entry) (m : Sent) → c < length (heads x).clients → All (IsOf (actor.Client c)) list → ((o : RunOptions) → IsFaithful x o (actor.Client c) list)
    → IsFirst m (unsent (heads x) c list) → (o : RunOptions) → IsFaithful x o (actor.Client c) (list ++ entry.Client c m ∷ [])
client_faithful x c list m declared mine faithful next o =
    (own_grows x o (actor.Client c) list (entry.Client c m) mine).1
    (faithful o, record { source = λ there. next; caller = λ beyond. absurd (omega (arith, declared, beyond)) })

pub ready_more : (b : TableId) (x : CodeProgram) (v w : Outsider) (m : Sent) → IsReady b x v → IsNext x v m → HasMore b x (actor.Client v.client) (entry.Client v.client m) v.seat w.seat
    → w.client ≡ v.client → w.given ≡ v.given + 1 → w.creates ≡ (if is_create m.order then v.creates + 1 else v.creates) → IsReady b x w
ready_more b x v w m ready next more same one counts =
    let c : ℕ = v.client in
    let list : List Entry = entries_of v.seat in
    let is : entries_of w.seat ≡ list ++ entry.Client c m ∷ [] = entries_is more in
    record {
      declared = subst (λ (k : ℕ). k < length x.heads.clients) (sym same) ready.declared;
      seat = subst (λ (k : ℕ). HasSame b x (actor.Client k) w.seat w.seat) (sym same) (reseat more);
      faithful = subst (λ (k : ℕ). (o : RunOptions) → IsFaithful (Code (automata_of x)) o (actor.Client k) (entries_of w.seat)) (sym same)
          (subst (λ (l : List Entry). (o : RunOptions) → IsFaithful (Code (automata_of x)) o (actor.Client c) l) (sym is)
          (client_faithful (Code (automata_of x)) c list m ready.declared ready.seat.mine ready.faithful next));
      given = one ∙ ap (λ (n : ℕ). n + 1) ready.given ∙ sym (length-append list (entry.Client c m ∷ [])) ∙ ap length (sym is);
      creates = counts ∙ ap (λ (n : ℕ). if is_create m.order then n + 1 else n) ready.creates ∙ sym (creates_more c list m) ∙ ap (creates c) (sym is) ∙ ap (λ (k : ℕ). creates k (entries_of w.seat)) (sym same);
      few = subst (λ (n : ℕ). w.creates ≤ n) (sym one) (subst (λ (n : ℕ). n ≤ v.given + 1) (sym counts) (few_more (is_create m.order) v.creates v.given ready.few));
    }

pub gave_more : (b : TableId) (x : CodeProgram) (v w : Outsider) (m : Sent) → IsNext x v m → HasMore b x (actor.Client v.client) (entry.Client v.client m) v.seat w.seat → w.client ≡ v.client → w.given ≡ v.given + 1
    → GaveOrder x v w m
gave_more b x v w m next more same one = record {
  first = next;
  entries = entries_is more ∙ ap (λ (k : ℕ). entries_of v.seat ++ entry.Client k m ∷ []) (sym same);
  one = one;
}

-- it has the entries that it had
pub ready_still : (b : TableId) (x : CodeProgram) (v w : Outsider) → IsReady b x v → HasSame b x (actor.Client v.client) v.seat w.seat → w.client ≡ v.client → w.given ≡ v.given → w.creates ≡ v.creates → IsReady b x w
ready_still b x v w ready still same many counts =
    let is : entries_of w.seat ≡ entries_of v.seat = entries_is still in
    record {
      declared = subst (λ (k : ℕ). k < length x.heads.clients) (sym same) ready.declared;
      seat = subst (λ (k : ℕ). HasSame b x (actor.Client k) w.seat w.seat) (sym same) (reseat still);
      faithful = subst (λ (k : ℕ). (o : RunOptions) → IsFaithful (Code (automata_of x)) o (actor.Client k) (entries_of w.seat)) (sym same)
          (subst (λ (l : List Entry). (o : RunOptions) → IsFaithful (Code (automata_of x)) o (actor.Client v.client) l) (sym is) ready.faithful);
      given = many ∙ ready.given ∙ ap length (sym is);
      creates = counts ∙ ready.creates ∙ ap (creates v.client) (sym is) ∙ ap (λ (k : ℕ). creates k (entries_of w.seat)) (sym same);
      few = subst (λ (n : ℕ). w.creates ≤ n) (sym many) (subst (λ (n : ℕ). n ≤ v.given) (sym counts) ready.few);
    }

-- ---- before the first order

pub ready_new : (x : CodeProgram) (v : Outsider) → IsNewPass (actor.Client v.client) v.seat.pass → v.seat.pass.knows.code ≡ Some x → v.client < length x.heads.clients → v.given ≡ 0 → v.creates ≡ 0
    → IsReady v.seat.pass.baton x v
ready_new x v new code declared none zeros =
    let b : TableId = v.seat.pass.baton in
    let seat : IsSeat b x (actor.Client v.client) [] v.seat = new_seat x (actor.Client v.client) v.seat new code in
    let is : [] ≡ entries_of v.seat = sym (entries_is seat) in
    record {
      declared = declared;
      seat = reseat seat;
      faithful = subst (λ (l : List Entry). (o : RunOptions) → IsFaithful (Code (automata_of x)) o (actor.Client v.client) l) is (λ o. faithful_none (Code (automata_of x)) o (actor.Client v.client));
      given = none ∙ ap length is;
      creates = zeros ∙ ap (creates v.client) is;
      few = subst (λ (n : ℕ). n ≤ v.given) (sym zeros) (omega arith);
    }
