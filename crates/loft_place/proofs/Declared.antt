-- What holds of each link holds of each module, start and create that is declared.
use Rattle.std.proofs.Common.{◌≡◌, ℕ, zero, suc, ◌+◌, ◌<◌, ◌≤◌, inl, inr, List, [], ◌∷◌, ◌++◌, map, Option, Some, None, slice_get, refl, ap, subst, ◌∙◌, arith}
use Rattle.std.specs.List.{flat_map}
use Rattle.std.proofs.lemmas.Bool.{cases_eq}
use Rattle.std.proofs.lemmas.Option.{slice_get_within}
use Rattle.loft_base.specs.declared.ids.SchedId.{SchedId}
use Rattle.loft_base.specs.declared.ids.ModuleId.{ModuleId}
use Rattle.loft_base.specs.declared.ids.Value.{Value}
use Rattle.loft_tree.specs.declared.heads.Place.TheVariants.{Sched}
use Rattle.loft_tree.specs.declared.heads.Signature.{Signature}
use Rattle.loft_tree.specs.declared.heads.Start.{Start}
use Rattle.loft_tree.specs.declared.heads.ClientOrder.{ClientOrder}
use Rattle.loft_tree.specs.declared.heads.ClientOrder.TheVariants as order
use Rattle.loft_tree.specs.declared.heads.Client.{Client}
use Rattle.loft_tree.specs.declared.heads.HeadItem.{HeadItem}
use Rattle.loft_tree.specs.declared.heads.HeadItem.TheVariants as item
use Rattle.loft_tree.specs.declared.heads.Heads.{Heads}
use Rattle.loft_tree.specs.declared.named.LinkItem.{LinkItem}
use Rattle.loft_tree.specs.declared.named.LinkItem.TheVariants as link
use Rattle.loft_tree.specs.NamedTree.{NamedModule, NamedProgram}
use Rattle.loft_tree.specs.Fits.{Each}
use Rattle.loft_tree.specs.HeadsFit.{TakesIn, HeadsFit}
use Rattle.loft_tree.specs.NamedFits.{CallHolds, TakesArguments, StartHolds, OrderHolds, ClientHolds, Tally, AreCounted, no_items, tally_of, BodiesHold, Linked, AModule, AStart, ACreate, linked_of, creates_from, creates_of, linked_in, NamedFits}
use Rattle.loft_place.specs.Links.{begin_of, Goes, AreMet, ModuleGoes, start_needs, order_needs, order_at, LinkHolds, LinksHold, IsPlaced}
use Rattle.loft_place.specs.Reaches.{IsModule}

-- ---- lists

each_parts : {A : Type 0} (P : A → Type 0) (xs ys : List A) → Each P (xs ++ ys) → Each P xs × Each P ys
each_parts P [] ys all = (tt, all)
each_parts P (x ∷ xs) ys all = let parts = each_parts P xs ys all.1 in ((all.0, parts.0), parts.1)

each_list : {A B : Type 0} (P : B → Type 0) (f : A → List B) (xs : List A) → Each P (flat_map f xs) → Each (λ x. Each P (f x)) xs
each_list P f [] all = tt
each_list P f (x ∷ xs) all =
    let parts = each_parts P (f x) (flat_map f xs) all in (parts.0, each_list P f xs parts.1)

each_at : {A : Type 0} (P : A → Type 0) (xs : List A) (k : ℕ) (x : A) → Each P xs → slice_get xs k ≡ Some x → P x
each_at P [] k x all at = absurd cc
each_at P (y ∷ ys) zero x all at = let same : y ≡ x = cc in subst P same all.0
each_at P (y ∷ ys) (suc k) x all at = each_at P ys k x all.1 at

-- ---- links, whatever the offsets of their names

abbrev BeginsIn : Heads → SchedId → ModuleId → Type 0
BeginsIn h s m = begin_of (slice_get h.modules m.0) ≡ Sched s

abbrev StartBegins : Heads → Option Start → Type 0
StartBegins h None = Unit {0}
StartBegins h (Some t) = BeginsIn h t.scheduler t.module

abbrev OrderBegins : Heads → Option ClientOrder → Type 0
OrderBegins h None = Unit {0}
OrderBegins h (Some (order.Create scheduler m arguments)) = BeginsIn h scheduler m
OrderBegins h (Some (order.Control control thread scheduler)) = Unit {0}
OrderBegins h (Some (order.Broadcast event value)) = Unit {0}

abbrev IsCorrect : Heads → List NamedModule → Linked → Type 0
IsCorrect h ms (AModule m) = ModuleGoes h (slice_get h.modules m.0) (slice_get ms m.0)
IsCorrect h ms (AStart start) = StartBegins h (slice_get h.starts start)
IsCorrect h ms (ACreate client number) = OrderBegins h (order_at (slice_get h.clients client) number)

start_begins : (h : Heads) (at : ℕ) (t : Option Start) → AreMet (start_needs h at t) → StartBegins h t
start_begins h at None met = tt
start_begins h at (Some t) met = met.0

order_begins : (h : Heads) (at : ℕ) (o : Option ClientOrder) → AreMet (order_needs h at o) → OrderBegins h o
order_begins h at None met = tt
order_begins h at (Some (order.Create scheduler m arguments)) met = met.0
order_begins h at (Some (order.Control control thread scheduler)) met = tt
order_begins h at (Some (order.Broadcast event value)) met = tt

link_correct : (h : Heads) (ms : List NamedModule) (l : LinkItem) → LinkHolds h ms l → IsCorrect h ms (linked_of l)
link_correct h ms (link.Module m) holds = holds
link_correct h ms (link.Start at start) holds = start_begins h at (slice_get h.starts start) holds
link_correct h ms (link.Create at client number) holds = order_begins h at (order_at (slice_get h.clients client) number) holds

links_correct : (h : Heads) (ms : List NamedModule) (ls : List LinkItem) → LinksHold h ms ls → Each (IsCorrect h ms) (map linked_of ls)
links_correct h ms [] hold = tt
links_correct h ms (l ∷ ls) hold = (link_correct h ms l hold.0, links_correct h ms ls hold.1)

-- each declaration of the program
abbrev AreCorrect : Heads → (Linked → Type 0) → List HeadItem → Type 0
AreCorrect h P is = Each (λ i. Each P (linked_in h i)) is

declarations_correct : (n : NamedProgram) → NamedFits n → IsPlaced n → AreCorrect n.heads (IsCorrect n.heads n.modules) n.heads.items
declarations_correct n fits placed =
    each_list (IsCorrect n.heads n.modules) (linked_in n.heads) n.heads.items
    (subst (Each (IsCorrect n.heads n.modules)) fits.links (links_correct n.heads n.modules n.links placed))

-- ---- each number that is declared is that of one of the declarations

counted_module : (is : List HeadItem) (h : Heads) (P : Linked → Type 0) (k : ℕ) (n all : Tally) → AreCounted n is all → n.modules ≤ k → k < all.modules
    → AreCorrect h P is → (m : ModuleId) × (m.0 ≡ k) × P (AModule m)
counted_module [] h P k n all counted from to correct = absurd (omega (arith, ap (λ (t : Tally). t.modules) counted))
counted_module (item.Module m ∷ is) h P k n all counted from to correct =
    elim (cases_eq n.modules k) as (λ _. (x : ModuleId) × (x.0 ≡ k) × P (AModule x)) [
      | inl same ↦ (m, counted.0 ∙ same, correct.0.0)
      | inr differ ↦ counted_module is h P k (record n { modules = n.modules + 1 }) all counted.1 (omega (arith, differ)) to correct.1
    ]
counted_module (item.Scheduler x ∷ is) h P k n all counted from to correct = counted_module is h P k (record n { schedulers = n.schedulers + 1 }) all counted.1 from to correct.1
counted_module (item.Event x ∷ is) h P k n all counted from to correct = counted_module is h P k (record n { events = n.events + 1 }) all counted.1 from to correct.1
counted_module (item.Shared x ∷ is) h P k n all counted from to correct = counted_module is h P k (record n { shared = n.shared + 1 }) all counted.1 from to correct.1
counted_module (item.Start x ∷ is) h P k n all counted from to correct = counted_module is h P k (record n { starts = n.starts + 1 }) all counted.1 from to correct.1
counted_module (item.Client x ∷ is) h P k n all counted from to correct = counted_module is h P k (record n { clients = n.clients + 1 }) all counted.1 from to correct.1

counted_start : (is : List HeadItem) (h : Heads) (P : Linked → Type 0) (k : ℕ) (n all : Tally) → AreCounted n is all → n.starts ≤ k → k < all.starts
    → AreCorrect h P is → P (AStart k)
counted_start [] h P k n all counted from to correct = absurd (omega (arith, ap (λ (t : Tally). t.starts) counted))
counted_start (item.Start t ∷ is) h P k n all counted from to correct =
    elim (cases_eq n.starts k) as (λ _. P (AStart k)) [
      | inl same ↦ subst (λ j. P (AStart j)) (counted.0 ∙ same) correct.0.0
      | inr differ ↦ counted_start is h P k (record n { starts = n.starts + 1 }) all counted.1 (omega (arith, differ)) to correct.1
    ]
counted_start (item.Scheduler x ∷ is) h P k n all counted from to correct = counted_start is h P k (record n { schedulers = n.schedulers + 1 }) all counted.1 from to correct.1
counted_start (item.Event x ∷ is) h P k n all counted from to correct = counted_start is h P k (record n { events = n.events + 1 }) all counted.1 from to correct.1
counted_start (item.Shared x ∷ is) h P k n all counted from to correct = counted_start is h P k (record n { shared = n.shared + 1 }) all counted.1 from to correct.1
counted_start (item.Module x ∷ is) h P k n all counted from to correct = counted_start is h P k (record n { modules = n.modules + 1 }) all counted.1 from to correct.1
counted_start (item.Client x ∷ is) h P k n all counted from to correct = counted_start is h P k (record n { clients = n.clients + 1 }) all counted.1 from to correct.1

counted_client : (is : List HeadItem) (h : Heads) (P : Linked → Type 0) (k : ℕ) (n all : Tally) → AreCounted n is all → n.clients ≤ k → k < all.clients
    → AreCorrect h P is → Each P (creates_of k (slice_get h.clients k))
counted_client [] h P k n all counted from to correct = absurd (omega (arith, ap (λ (t : Tally). t.clients) counted))
counted_client (item.Client c ∷ is) h P k n all counted from to correct =
    elim (cases_eq n.clients k) as (λ _. Each P (creates_of k (slice_get h.clients k))) [
      | inl same ↦ subst (λ j. Each P (creates_of j (slice_get h.clients j))) (counted.0 ∙ same) correct.0
      | inr differ ↦ counted_client is h P k (record n { clients = n.clients + 1 }) all counted.1 (omega (arith, differ)) to correct.1
    ]
counted_client (item.Scheduler x ∷ is) h P k n all counted from to correct = counted_client is h P k (record n { schedulers = n.schedulers + 1 }) all counted.1 from to correct.1
counted_client (item.Event x ∷ is) h P k n all counted from to correct = counted_client is h P k (record n { events = n.events + 1 }) all counted.1 from to correct.1
counted_client (item.Shared x ∷ is) h P k n all counted from to correct = counted_client is h P k (record n { shared = n.shared + 1 }) all counted.1 from to correct.1
counted_client (item.Module x ∷ is) h P k n all counted from to correct = counted_client is h P k (record n { modules = n.modules + 1 }) all counted.1 from to correct.1
counted_client (item.Start x ∷ is) h P k n all counted from to correct = counted_client is h P k (record n { starts = n.starts + 1 }) all counted.1 from to correct.1

-- a create among the orders of a client
create_listed : (os : List ClientOrder) (P : Linked → Type 0) (client first number : ℕ) (s : SchedId) (m : ModuleId) (arguments : List Value)
    → Each P (creates_from client first os) → slice_get os number ≡ Some (order.Create s m arguments) → P (ACreate client (first + number))
create_listed [] P client first number s m arguments all at = absurd cc
create_listed (order.Create x y z ∷ os) P client first zero s m arguments all at =
    let here : first ≡ first + 0 = omega arith in subst (λ j. P (ACreate client j)) here all.0
create_listed (order.Create x y z ∷ os) P client first (suc number) s m arguments all at =
    let next : first + 1 + number ≡ first + suc number = omega arith in
    subst (λ j. P (ACreate client j)) next (create_listed os P client (first + 1) number s m arguments all.1 at)
create_listed (order.Control x y z ∷ os) P client first zero s m arguments all at = absurd cc
create_listed (order.Control x y z ∷ os) P client first (suc number) s m arguments all at =
    let next : first + 1 + number ≡ first + suc number = omega arith in
    subst (λ j. P (ACreate client j)) next (create_listed os P client (first + 1) number s m arguments all at)
create_listed (order.Broadcast x y ∷ os) P client first zero s m arguments all at = absurd cc
create_listed (order.Broadcast x y ∷ os) P client first (suc number) s m arguments all at =
    let next : first + 1 + number ≡ first + suc number = omega arith in
    subst (λ j. P (ACreate client j)) next (create_listed os P client (first + 1) number s m arguments all at)

-- ---- modules

declared_goes : (h : Heads) (signature : Signature) (x : NamedModule) (declared : Option Signature) (body : Option NamedModule)
    → declared ≡ Some signature → body ≡ Some x → ModuleGoes h declared body → Goes h signature.begin x.body signature.end
declared_goes h signature x declared body declared_is body_is goes =
    let with_body : ModuleGoes h declared (Some x) = subst (ModuleGoes h declared) body_is goes in
    subst (λ (d : Option Signature). ModuleGoes h d (Some x)) declared_is with_body

-- the body of a module goes from its begin place to its end place
pub module_goes : (n : NamedProgram) (m : ModuleId) (signature : Signature) (x : NamedModule)
    → NamedFits n → IsPlaced n → IsModule n m signature x → Goes n.heads signature.begin x.body signature.end
module_goes n m signature x fits placed is =
    let listed = counted_module n.heads.items n.heads (IsCorrect n.heads n.modules) m.0 no_items (tally_of n.heads) fits.heads.within.items
    (omega arith) (slice_get_within n.heads.modules m.0 signature is.head) (declarations_correct n fits placed) in
    declared_goes n.heads signature x (slice_get n.heads.modules m.0) (slice_get n.modules m.0) is.head is.body
    (subst (λ k. ModuleGoes n.heads (slice_get n.heads.modules k) (slice_get n.modules k)) listed.1 listed.2)

head_of_body : (h : Heads) (ms : List Signature) (xs : List NamedModule) (k : ℕ) (x : NamedModule) → BodiesHold h ms xs → slice_get xs k ≡ Some x
    → (signature : Signature) × (slice_get ms k ≡ Some signature)
head_of_body h [] [] k x hold at = absurd cc
head_of_body h [] (y ∷ ys) k x hold at = absurd hold
head_of_body h (m ∷ ms) [] k x hold at = absurd hold
head_of_body h (m ∷ ms) (y ∷ ys) zero x hold at = (m, refl)
head_of_body h (m ∷ ms) (y ∷ ys) (suc k) x hold at = head_of_body h ms ys k x hold.1 at

-- each body is that of a module
pub body_is_declared : (n : NamedProgram) (m : ModuleId) (x : NamedModule) → NamedFits n → slice_get n.modules m.0 ≡ Some x
    → (signature : Signature) × IsModule n m signature x
body_is_declared n m x fits at =
    let head = head_of_body n.heads n.heads.modules n.modules m.0 x fits.bodies at in
    (head.0, record { head = head.1; body = at })

-- ---- threads that are made outside module bodies

takes_in : (s : SchedId) (declared : Option Signature) (arguments : List Value) → TakesArguments declared arguments → begin_of declared ≡ Sched s
    → TakesIn s declared arguments
takes_in s None arguments takes begins = absurd takes
takes_in s (Some m) arguments takes begins = (begins, takes)

call_fits : (h : Heads) (s : SchedId) (m : ModuleId) (arguments : List Value) → CallHolds h s m arguments → BeginsIn h s m → HeadsFit h s m arguments
call_fits h s m arguments call begins = (call.scheduler, takes_in s (slice_get h.modules m.0) arguments call.takes begins)

-- each start
pub start_fits : (n : NamedProgram) (number : ℕ) (t : Start) → NamedFits n → IsPlaced n → slice_get n.heads.starts number ≡ Some t
    → HeadsFit n.heads t.scheduler t.module t.arguments
start_fits n number t fits placed at =
    let holds : StartHolds n.heads t = each_at (StartHolds n.heads) n.heads.starts number t fits.heads.within.starts at in
    let begins = counted_start n.heads.items n.heads (IsCorrect n.heads n.modules) number no_items (tally_of n.heads) fits.heads.within.items
    (omega arith) (slice_get_within n.heads.starts number t at) (declarations_correct n fits placed) in
    call_fits n.heads t.scheduler t.module t.arguments holds.call (subst (StartBegins n.heads) at begins)

-- each create among the orders of a client
pub create_fits : (n : NamedProgram) (client : ℕ) (c : Client) (number : ℕ) (s : SchedId) (m : ModuleId) (arguments : List Value)
    → NamedFits n → IsPlaced n → slice_get n.heads.clients client ≡ Some c → slice_get c.orders number ≡ Some (order.Create s m arguments)
    → HeadsFit n.heads s m arguments
create_fits n client c number s m arguments fits placed at ordered =
    let holds : ClientHolds n.heads c = each_at (ClientHolds n.heads) n.heads.clients client c fits.heads.within.clients at in
    let call : CallHolds n.heads s m arguments = each_at (OrderHolds n.heads) c.orders number (order.Create s m arguments) holds.orders ordered in
    let creates = counted_client n.heads.items n.heads (IsCorrect n.heads n.modules) client no_items (tally_of n.heads) fits.heads.within.items
    (omega arith) (slice_get_within n.heads.clients client c at) (declarations_correct n fits placed) in
    let listed = create_listed c.orders (IsCorrect n.heads n.modules) client 0 number s m arguments
    (subst (λ o. Each (IsCorrect n.heads n.modules) (creates_of client o)) at creates) ordered in
    let there : 0 + number ≡ number = omega arith in
    let begins : OrderBegins n.heads (order_at (slice_get n.heads.clients client) number) =
    subst (λ k. OrderBegins n.heads (order_at (slice_get n.heads.clients client) k)) there listed in
    let client_known : OrderBegins n.heads (slice_get c.orders number) = subst (λ o. OrderBegins n.heads (order_at o number)) at begins in
    call_fits n.heads s m arguments call (subst (OrderBegins n.heads) ordered client_known)
