-- Well-formed programs lead on, what a stop waits for is found under its number, and their starts can begin.
use Rattle.std.proofs.Common.{◌≡◌, ℕ, suc, ◌+◌, List, [], ◌∷◌, Some, slice_get, refl, sym, subst, arith}
use Rattle.loft_base.specs.declared.ids.ModuleId.{ModuleId}
use Rattle.loft_base.specs.declared.ids.Value.{Value}
use Rattle.loft_base.specs.declared.ids.Value.TheVariants as value
use Rattle.loft_tree.specs.declared.heads.Start.{Start}
use Rattle.loft_tree.specs.declared.heads.ClientOrder.{ClientOrder}
use Rattle.loft_tree.specs.declared.heads.ClientOrder.TheVariants as order
use Rattle.loft_tree.specs.declared.heads.Client.{Client}
use Rattle.loft_tree.specs.declared.heads.Heads.{Heads}
use Rattle.loft_tree.specs.Fits.{Each}
use Rattle.loft_tree.specs.HeadsFit.{HeadsFit}
use Rattle.loft_tree.specs.NamedTree.{NamedProgram}
use Rattle.loft_tree.specs.NamedFits.{EventHolds, ArgumentHolds, StartHolds, OrderHolds, ClientHolds, NamedFits}
use Rattle.loft_tree.specs.Resolved.{Pause, Resolved}
use Rattle.loft_place.specs.Links.{IsPlaced}
use Rattle.loft_place.proofs.Declared.{start_fits, create_fits}
use Rattle.loft_code.specs.Fits.{StartFits, ClientOrderFits, ClientFits}
use Rattle.loft_sense.specs.Machine.{Prog, Tree, Code, heads}
use Rattle.loft_sense.specs.Stands.{StopKind, Pauses, StopAt, program_stop}
use Rattle.loft_sense.specs.Fits.{IsMaker, IsValue}
use Rattle.loft_soundness.specs.WellFormed.{IsWellFormed, control}
use Rattle.loft_soundness.proofs.LeadsToPoints.{IsPauseOf, LeadsToPoints}
use Rattle.loft_soundness.proofs.StopLemmas.{tree_pauses}
use Rattle.loft_soundness.proofs.TreeLemmas.{tree_leads}
use Rattle.loft_soundness.proofs.CodeLemmas.{code_pauses, code_leads}

pub leads_to_points : (x : Prog) → IsWellFormed x → LeadsToPoints x
leads_to_points (Tree p) is = subst (λ (q : Resolved). LeadsToPoints (Tree q)) is.same (tree_leads is.source is.names is.links)
leads_to_points (Code c) is = code_leads c is

pub stop_pauses : (x : Prog) (m : ModuleId) (k : ℕ) (at : StopAt) → program_stop x m k ≡ Some at → IsPauseOf at.kind ((control x).pause m k)
stop_pauses (Tree p) m k at e = tree_pauses p m k at e
stop_pauses (Code c) m k at e = code_pauses c m k at e

pub pause_found : (x : Prog) (m : ModuleId) (k : ℕ) (at : StopAt) (pause : Pause) → program_stop x m k ≡ Some at → at.kind ≡ Pauses pause → (control x).pause m k ≡ Some pause
pause_found x m k at pause e kind = subst (λ (q : StopKind). IsPauseOf q ((control x).pause m k)) kind (stop_pauses x m k at e)

-- ---- starts

-- a start can begin where it is made, and names only threads that are declared
abbrev pub Begins : Heads → Start → Type 0
Begins h t = HeadsFit h t.scheduler t.module t.arguments × Each (IsValue h) t.arguments

pub argument_names : (h : Heads) (args : List Value) → Each (ArgumentHolds h) args → Each (IsValue h) args
argument_names h [] f = tt
argument_names h (value.Int i ∷ args) f = (tt, argument_names h args f.1)
argument_names h (value.Thread t ∷ args) f = (subst (IsMaker h) (sym f.0.0) tt, argument_names h args f.1)

-- each of a list, by its index in a list that it ends
tree_starts : (n : NamedProgram) → NamedFits n → IsPlaced n → (k : ℕ) (ts : List Start) → ((i : ℕ) (t : Start) → slice_get ts i ≡ Some t → slice_get n.heads.starts (k + i) ≡ Some t) → Each (StartHolds n.heads) ts
    → Each (Begins n.heads) ts
tree_starts n fits placed k [] at f = tt
tree_starts n fits placed k (t ∷ ts) at f = (
  (start_fits n (k + 0) t fits placed (at 0 t refl), argument_names n.heads t.arguments f.0.call.arguments),
  tree_starts n fits placed (k + 1) ts (λ i u e. let next : k + suc i ≡ k + 1 + i = omega arith in subst (λ j. slice_get n.heads.starts j ≡ Some u) next (at (suc i) u e)) f.1,
)

code_starts : (h : Heads) (ts : List Start) → Each (StartFits h) ts → Each (StartHolds h) ts → Each (Begins h) ts
code_starts h [] f g = tt
code_starts h (t ∷ ts) f g = ((f.0, argument_names h t.arguments g.0.call.arguments), code_starts h ts f.1 g.1)

pub starts_begin : (x : Prog) → IsWellFormed x → Each (Begins (heads x)) (heads x).starts
starts_begin (Tree p) is =
    let n = is.source in
    let each : Each (Begins n.heads) n.heads.starts =
    tree_starts n is.names is.links 0 n.heads.starts (λ i t e. let same : i ≡ 0 + i = omega arith in subst (λ j. slice_get n.heads.starts j ≡ Some t) same e) is.names.heads.within.starts in
    subst (λ (q : Resolved). Each (Begins q.heads) q.heads.starts) is.same each
starts_begin (Code c) is = code_starts c.heads c.heads.starts is.limits.heads.starts_fit is.limits.heads.within.starts

-- ---- clients

-- a client's order: what it names is declared, and what a create makes can begin where it is made
abbrev pub IsOrdered : Heads → ClientOrder → Type 0
IsOrdered h o = OrderHolds h o × ClientOrderFits h o

abbrev pub Orders : Heads → Client → Type 0
Orders h c = Each (IsOrdered h) c.orders

-- the orders of the client with number c, of which the first here has number k
module _ (n : NamedProgram) (fits : NamedFits n) (placed : IsPlaced n) (c : ℕ) (client : Client) (there : slice_get n.heads.clients c ≡ Some client) where
  one_order : (k : ℕ) (o : ClientOrder) → slice_get client.orders k ≡ Some o → ClientOrderFits n.heads o
  one_order k (order.Create s m arguments) at = create_fits n c client k s m arguments fits placed there at
  one_order k (order.Control control t s) at = tt
  one_order k (order.Broadcast event value) at = tt

  tree_orders : (k : ℕ) (os : List ClientOrder) → ((i : ℕ) (o : ClientOrder) → slice_get os i ≡ Some o → slice_get client.orders (k + i) ≡ Some o) → Each (OrderHolds n.heads) os → Each (IsOrdered n.heads) os
  tree_orders k [] at f = tt
  tree_orders k (o ∷ os) at f = (
    (f.0, one_order (k + 0) o (at 0 o refl)),
    tree_orders (k + 1) os (λ i p e. let next : k + suc i ≡ k + 1 + i = omega arith in subst (λ j. slice_get client.orders j ≡ Some p) next (at (suc i) p e)) f.1,
  )

tree_clients : (n : NamedProgram) → NamedFits n → IsPlaced n → (k : ℕ) (cs : List Client) → ((i : ℕ) (c : Client) → slice_get cs i ≡ Some c → slice_get n.heads.clients (k + i) ≡ Some c) → Each (ClientHolds n.heads) cs
    → Each (Orders n.heads) cs
tree_clients n fits placed k [] at f = tt
tree_clients n fits placed k (c ∷ cs) at f = (
  tree_orders n fits placed (k + 0) c (at 0 c refl) 0 c.orders (λ i o e. let same : i ≡ 0 + i = omega arith in subst (λ j. slice_get c.orders j ≡ Some o) same e) f.0.orders,
  tree_clients n fits placed (k + 1) cs (λ i d e. let next : k + suc i ≡ k + 1 + i = omega arith in subst (λ j. slice_get n.heads.clients j ≡ Some d) next (at (suc i) d e)) f.1,
)

code_orders : (h : Heads) (os : List ClientOrder) → Each (ClientOrderFits h) os → Each (OrderHolds h) os → Each (IsOrdered h) os
code_orders h [] f g = tt
code_orders h (o ∷ os) f g = ((g.0, f.0), code_orders h os f.1 g.1)

code_clients : (h : Heads) (cs : List Client) → Each (ClientFits h) cs → Each (ClientHolds h) cs → Each (Orders h) cs
code_clients h [] f g = tt
code_clients h (c ∷ cs) f g = (code_orders h c.orders f.0 g.0.orders, code_clients h cs f.1 g.1)

pub clients_order : (x : Prog) → IsWellFormed x → Each (Orders (heads x)) (heads x).clients
clients_order (Tree p) is =
    let n = is.source in
    let each : Each (Orders n.heads) n.heads.clients =
    tree_clients n is.names is.links 0 n.heads.clients (λ i c e. let same : i ≡ 0 + i = omega arith in subst (λ j. slice_get n.heads.clients j ≡ Some c) same e) is.names.heads.within.clients in
    subst (λ (q : Resolved). Each (Orders q.heads) q.heads.clients) is.same each
clients_order (Code c) is = code_clients c.heads c.heads.clients is.limits.heads.clients_fit is.limits.heads.within.clients

-- ---- events

pub events_hold : (x : Prog) → IsWellFormed x → Each (EventHolds (heads x)) (heads x).events
events_hold (Tree p) is = subst (λ (q : Resolved). Each (EventHolds q.heads) q.heads.events) is.same is.names.heads.within.events
events_hold (Code c) is = is.limits.heads.within.events
