-- A statement, a body or a program is correct, or has a fault.
use Rattle.std.proofs.Common.{◌≡◌, ℕ, ◌⊎◌, inl, inr, Bool, true, false, List, [], ◌∷◌, Option, Some, None, slice_get, refl, ap, subst}
use Rattle.std.specs.Prelude.{◌≢◌}
use Rattle.std.proofs.lemmas.Bool.{cases_eq}
use Rattle.loft_base.specs.declared.ids.SchedId.{SchedId}
use Rattle.loft_tree.specs.declared.heads.Place.{Place}
use Rattle.loft_tree.specs.declared.heads.Place.TheVariants.{Sched, Unlinked}
use Rattle.loft_tree.specs.declared.heads.Heads.{Heads}
use Rattle.loft_tree.specs.declared.heads.Signature.{Signature}
use Rattle.loft_tree.specs.declared.named.LinkItem.{LinkItem}
use Rattle.loft_tree.specs.declared.named.LinkItem.TheVariants as link
use Rattle.loft_tree.specs.NamedTree.{NamedStatement, Do, Hold, Run, If, While, Repeat, NamedStatements, Done, Then, NamedModule, NamedProgram}
use Rattle.loft_place.specs.declared.error.PlaceError.{PlaceError}
use Rattle.loft_place.specs.declared.error.PlaceError.TheVariants.{Unlinked as NotUnlinked, Branches, LoopEnds, ModuleEnds}
use Rattle.loft_place.specs.Links.{Need, IsThere, IsMet, AreMet, FirstUnmet, fault_of, end_of, left_by_pause, MayStand, AllowedAt, linked_only, needs_of, MayNotStand, GoesThrough, Goes, LoopFault, BranchesFault, FaultThrough, FaultIn, ModuleGoes, ModuleFault, start_needs, order_needs, order_at, LinkHolds, LinkFault, LinksHold, LinksFault, IsPlaced, PlaceFault}

-- ---- one statement

same_number : (s t : SchedId) → (s.0 ≡ t.0) ⊎ (s.0 ≡ t.0 → ⊥) → (Sched s ≡ Sched t) ⊎ (Sched s ≢ Sched t)
same_number s t (inl same) = inl (ap (λ k. Sched (record { 0 = k })) same)
same_number s t (inr differ) = inr (λ e. let same : s ≡ t = cc in differ (ap (λ (k : SchedId). k.0) same))

-- two places are one, or they differ
same_place : (p q : Place) → (p ≡ q) ⊎ (p ≢ q)
same_place Unlinked Unlinked = inl refl
same_place Unlinked (Sched t) = inr (λ e. absurd cc)
same_place (Sched s) Unlinked = inr (λ e. absurd cc)
same_place (Sched s) (Sched t) = same_number s t (cases_eq s.0 t.0)

there_or_not : (needs has : Place) (is_shared : Bool) → IsThere needs has is_shared ⊎ (IsThere needs has is_shared → ⊥)
there_or_not needs has false = same_place needs has
there_or_not needs (Sched s) true = same_place needs (Sched s)
there_or_not needs Unlinked true = inr (λ e. e)

met_then : (n : Need) (ns : List Need) → IsMet n ⊎ (IsMet n → ⊥) → AreMet ns ⊎ ((e : PlaceError) × FirstUnmet ns e)
    → AreMet (n ∷ ns) ⊎ ((e : PlaceError) × FirstUnmet (n ∷ ns) e)
met_then n ns (inr unmet) others = inr (fault_of n, inl (unmet, refl))
met_then n ns (inl met) (inl others) = inl (met, others)
met_then n ns (inl met) (inr (e, unmet)) = inr (e, inr (met, unmet))

needs_answered : (ns : List Need) → AreMet ns ⊎ ((e : PlaceError) × FirstUnmet ns e)
needs_answered [] = inl tt
needs_answered (n ∷ ns) = met_then n ns (there_or_not n.needs n.has n.is_shared) (needs_answered ns)

allowed_or_not : (p : Place) (word : Option ℕ) → AllowedAt p word ⊎ ((at : ℕ) × (word ≡ Some at) × (p ≡ Unlinked))
allowed_or_not p None = inl tt
allowed_or_not (Sched s) (Some at) = inl (λ e. absurd cc)
allowed_or_not Unlinked (Some at) = inr (at, refl, refl)

allowed_then : (h : Heads) (p : Place) (s : NamedStatement) → AllowedAt p (linked_only s) ⊎ ((at : ℕ) × (linked_only s ≡ Some at) × (p ≡ Unlinked))
    → AreMet (needs_of h p s) ⊎ ((e : PlaceError) × FirstUnmet (needs_of h p s) e) → MayStand h p s ⊎ ((e : PlaceError) × MayNotStand h p s e)
allowed_then h p s (inr (at, word, nowhere)) needs = inr (NotUnlinked at, inl (at, word, nowhere, refl))
allowed_then h p s (inl allowed) (inl met) = inl (record { allowed = allowed; met = met })
allowed_then h p s (inl allowed) (inr (e, unmet)) = inr (e, inr (allowed, unmet))

stands_or_not : (h : Heads) (p : Place) (s : NamedStatement) → MayStand h p s ⊎ ((e : PlaceError) × MayNotStand h p s e)
stands_or_not h p s = allowed_then h p s (allowed_or_not p (linked_only s)) (needs_answered (needs_of h p s))

-- ---- bodies

-- a way somewhere, or a fault
abbrev Answered : (Place → Type 0) → (PlaceError → Type 0) → Type 0
Answered Ends Faults = ((q : Place) × Ends q) ⊎ ((e : PlaceError) × Faults e)

-- a statement without a body of its own
simple_answered : (Stands : Type 0) (Faults : PlaceError → Type 0) (to : Place) → Stands ⊎ ((e : PlaceError) × Faults e)
    → Answered (λ q. Stands × (q ≡ to)) Faults
simple_answered Stands Faults to (inl stands) = inl (to, (stands, refl))
simple_answered Stands Faults to (inr fault) = inr fault

loop_end : (Stands : Type 0) (Not Faults : PlaceError → Type 0) (Ends : Place → Type 0) (at : ℕ) (p end : Place)
    → Stands → Ends end → (end ≡ p) ⊎ (end ≢ p)
    → Answered (λ q. Stands × Ends p × (q ≡ p)) (λ e. Not e ⊎ (Stands × LoopFault Faults Ends at p e))
loop_end Stands Not Faults Ends at p end stands ends (inl same) = inl (p, (stands, subst Ends same ends, refl))
loop_end Stands Not Faults Ends at p end stands ends (inr differ) = inr (LoopEnds at p end, inr (stands, inr (end, ends, differ, refl)))

loop_answered : (Stands : Type 0) (Not Faults : PlaceError → Type 0) (Ends : Place → Type 0) (at : ℕ) (p : Place)
    → Stands ⊎ ((e : PlaceError) × Not e) → Answered Ends Faults
    → Answered (λ q. Stands × Ends p × (q ≡ p)) (λ e. Not e ⊎ (Stands × LoopFault Faults Ends at p e))
loop_answered Stands Not Faults Ends at p (inr (e, refused)) body = inr (e, inl refused)
loop_answered Stands Not Faults Ends at p (inl stands) (inr (e, fault)) = inr (e, inr (stands, inl fault))
loop_answered Stands Not Faults Ends at p (inl stands) (inl (end, ends)) =
    loop_end Stands Not Faults Ends at p end stands ends (same_place end p)

branches_end : (Stands : Type 0) (Not LeftFaults RightFaults : PlaceError → Type 0) (LeftEnds RightEnds : Place → Type 0) (at : ℕ) (left right : Place)
    → Stands → LeftEnds left → RightEnds right → (left ≡ right) ⊎ (left ≢ right)
    → Answered (λ q. Stands × LeftEnds q × RightEnds q) (λ e. Not e ⊎ (Stands × BranchesFault LeftFaults LeftEnds RightFaults RightEnds at e))
branches_end Stands Not LeftFaults RightFaults LeftEnds RightEnds at left right stands goes also (inl same) =
    inl (right, (stands, subst LeftEnds same goes, also))
branches_end Stands Not LeftFaults RightFaults LeftEnds RightEnds at left right stands goes also (inr differ) =
    inr (Branches at left right, inr (stands, inr (left, goes, inr (right, also, differ, refl))))

branches_answered : (Stands : Type 0) (Not LeftFaults RightFaults : PlaceError → Type 0) (LeftEnds RightEnds : Place → Type 0) (at : ℕ)
    → Stands ⊎ ((e : PlaceError) × Not e) → Answered LeftEnds LeftFaults → Answered RightEnds RightFaults
    → Answered (λ q. Stands × LeftEnds q × RightEnds q) (λ e. Not e ⊎ (Stands × BranchesFault LeftFaults LeftEnds RightFaults RightEnds at e))
branches_answered Stands Not LeftFaults RightFaults LeftEnds RightEnds at (inr (e, refused)) left right = inr (e, inl refused)
branches_answered Stands Not LeftFaults RightFaults LeftEnds RightEnds at (inl stands) (inr (e, fault)) right = inr (e, inr (stands, inl fault))
branches_answered Stands Not LeftFaults RightFaults LeftEnds RightEnds at (inl stands) (inl (l, goes)) (inr (e, fault)) =
    inr (e, inr (stands, inr (l, goes, inl fault)))
branches_answered Stands Not LeftFaults RightFaults LeftEnds RightEnds at (inl stands) (inl (l, goes)) (inl (r, also)) =
    branches_end Stands Not LeftFaults RightFaults LeftEnds RightEnds at l r stands goes also (same_place l r)

-- the first statement of a body that goes on
then_answered : (h : Heads) (p r : Place) (first : NamedStatement) (rest : NamedStatements) → GoesThrough h p first r
    → Answered (Goes h r rest) (FaultIn h r rest) → Answered (Goes h p (Then first rest)) (FaultIn h p (Then first rest))
then_answered h p r first rest goes (inl (q, on)) = inl (q, (r, goes, on))
then_answered h p r first rest goes (inr (e, fault)) = inr (e, inr (r, goes, fault))

mutual
  through_answered : (s : NamedStatement) (h : Heads) (p : Place) → Answered (GoesThrough h p s) (FaultThrough h p s)
  through_answered (If at test first second) h p =
      branches_answered (MayStand h p (If at test first second)) (MayNotStand h p (If at test first second))
      (FaultIn h p first) (FaultIn h p second) (Goes h p first) (Goes h p second) at
      (stands_or_not h p (If at test first second)) (body_answered first h p) (body_answered second h p)
  through_answered (While at test body) h p =
      loop_answered (MayStand h p (While at test body)) (MayNotStand h p (While at test body)) (FaultIn h p body) (Goes h p body) at p
      (stands_or_not h p (While at test body)) (body_answered body h p)
  through_answered (Repeat at count body) h p =
      loop_answered (MayStand h p (Repeat at count body)) (MayNotStand h p (Repeat at count body)) (FaultIn h p body) (Goes h p body) at p
      (stands_or_not h p (Repeat at count body)) (body_answered body h p)
  through_answered (Do at action) h p =
      simple_answered (MayStand h p (Do at action)) (MayNotStand h p (Do at action)) p (stands_or_not h p (Do at action))
  through_answered (Hold at stop pause) h p =
      simple_answered (MayStand h p (Hold at stop pause)) (MayNotStand h p (Hold at stop pause)) (left_by_pause p pause)
      (stands_or_not h p (Hold at stop pause))
  through_answered (Run at stop called m arguments) h p =
      simple_answered (MayStand h p (Run at stop called m arguments)) (MayNotStand h p (Run at stop called m arguments))
      (end_of (slice_get h.modules m.0)) (stands_or_not h p (Run at stop called m arguments))

  body_answered : (body : NamedStatements) (h : Heads) (p : Place) → Answered (Goes h p body) (FaultIn h p body)
  body_answered Done h p = inl (p, refl)
  body_answered (Then first rest) h p =
      elim (through_answered first h p) as (λ _. Answered (Goes h p (Then first rest)) (FaultIn h p (Then first rest))) [
        | inl way ↦ then_answered h p way.0 first rest way.1 (body_answered rest h way.0)
        | inr fault ↦ inr (fault.0, inl fault.1)
      ]

-- ---- declarations

module_end : (h : Heads) (signature : Signature) (m : NamedModule) (end : Place) → Goes h signature.begin m.body end
    → (signature.end ≡ end) ⊎ (signature.end ≢ end)
    → Goes h signature.begin m.body signature.end ⊎ ((e : PlaceError) × ModuleFault h (Some signature) (Some m) e)
module_end h signature m end goes (inl same) = inl (rw same goes)
module_end h signature m end goes (inr differ) = inr (ModuleEnds m.at signature.end end, inr (end, goes, differ, refl))

module_body : (h : Heads) (signature : Signature) (m : NamedModule) → Answered (Goes h signature.begin m.body) (FaultIn h signature.begin m.body)
    → Goes h signature.begin m.body signature.end ⊎ ((e : PlaceError) × ModuleFault h (Some signature) (Some m) e)
module_body h signature m (inl (end, goes)) = module_end h signature m end goes (same_place signature.end end)
module_body h signature m (inr (e, fault)) = inr (e, inl fault)

module_answered : (h : Heads) (signature : Option Signature) (m : Option NamedModule)
    → ModuleGoes h signature m ⊎ ((e : PlaceError) × ModuleFault h signature m e)
module_answered h None m = inl tt
module_answered h (Some signature) None = inl tt
module_answered h (Some signature) (Some m) = module_body h signature m (body_answered m.body h signature.begin)

link_answered : (h : Heads) (ms : List NamedModule) (l : LinkItem) → LinkHolds h ms l ⊎ ((e : PlaceError) × LinkFault h ms l e)
link_answered h ms (link.Module m) = module_answered h (slice_get h.modules m.0) (slice_get ms m.0)
link_answered h ms (link.Start at start) = needs_answered (start_needs h at (slice_get h.starts start))
link_answered h ms (link.Create at client number) = needs_answered (order_needs h at (order_at (slice_get h.clients client) number))

link_then : (h : Heads) (ms : List NamedModule) (l : LinkItem) (ls : List LinkItem)
    → LinkHolds h ms l ⊎ ((e : PlaceError) × LinkFault h ms l e) → LinksHold h ms ls ⊎ ((e : PlaceError) × LinksFault h ms ls e)
    → LinksHold h ms (l ∷ ls) ⊎ ((e : PlaceError) × LinksFault h ms (l ∷ ls) e)
link_then h ms l ls (inr (e, fault)) others = inr (e, inl fault)
link_then h ms l ls (inl holds) (inl others) = inl (holds, others)
link_then h ms l ls (inl holds) (inr (e, fault)) = inr (e, inr (holds, fault))

links_answered : (h : Heads) (ms : List NamedModule) (ls : List LinkItem) → LinksHold h ms ls ⊎ ((e : PlaceError) × LinksFault h ms ls e)
links_answered h ms [] = inl tt
links_answered h ms (l ∷ ls) = link_then h ms l ls (link_answered h ms l) (links_answered h ms ls)

-- the links of a program are correct, or have a fault
pub placed_or_not : (n : NamedProgram) → IsPlaced n ⊎ ((e : PlaceError) × PlaceFault n e)
placed_or_not n = links_answered n.heads n.modules n.links
