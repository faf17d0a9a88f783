-- A statement, a body or a program has at most one answer.
use Rattle.std.proofs.Common.{◌≡◌, ℕ, inl, inr, List, [], ◌∷◌, Option, Some, None, slice_get, sym, ap, subst, ◌∙◌}
use Rattle.loft_tree.specs.declared.heads.Place.{Place}
use Rattle.loft_tree.specs.declared.heads.Place.TheVariants.{Unlinked}
use Rattle.loft_tree.specs.declared.heads.Heads.{Heads}
use Rattle.loft_tree.specs.declared.heads.Signature.{Signature}
use Rattle.loft_tree.specs.declared.named.LinkItem.{LinkItem}
use Rattle.loft_tree.specs.declared.named.LinkItem.TheVariants as link
use Rattle.loft_tree.specs.NamedTree.{NamedStatement, If, While, Repeat, NamedStatements, Done, Then, NamedModule, NamedProgram}
use Rattle.loft_place.specs.declared.error.PlaceError.{PlaceError}
use Rattle.loft_place.specs.declared.error.PlaceError.TheVariants.{Unlinked as NotUnlinked, Branches, LoopEnds, ModuleEnds}
use Rattle.loft_place.specs.Links.{Need, AreMet, FirstUnmet, MayStand, AllowedAt, linked_only, needs_of, MayNotStand, GoesThrough, Goes, LoopFault, BranchesFault, FaultThrough, FaultIn, ModuleGoes, ModuleFault, start_needs, order_needs, order_at, LinkHolds, LinkFault, LinksHold, LinksFault, IsPlaced, PlaceFault}

-- ---- one statement

met_or_unmet : (ns : List Need) (e : PlaceError) → AreMet ns → FirstUnmet ns e → ⊥
met_or_unmet [] e met unmet = unmet
met_or_unmet (n ∷ ns) e met (inl here) = here.0 met.0
met_or_unmet (n ∷ ns) e met (inr later) = met_or_unmet ns e met.1 later.1

one_unmet : (ns : List Need) (d e : PlaceError) → FirstUnmet ns d → FirstUnmet ns e → d ≡ e
one_unmet [] d e unmet other = absurd unmet
one_unmet (n ∷ ns) d e (inl here) (inl there) = here.1 ∙ sym there.1
one_unmet (n ∷ ns) d e (inl here) (inr later) = absurd (here.0 later.0)
one_unmet (n ∷ ns) d e (inr later) (inl here) = absurd (here.0 later.0)
one_unmet (n ∷ ns) d e (inr later) (inr further) = one_unmet ns d e later.1 further.1

-- a place that allows a statement isn't one that doesn't
not_allowed : (p : Place) (word : Option ℕ) (at : ℕ) → AllowedAt p word → word ≡ Some at → p ≡ Unlinked → ⊥
not_allowed p None at allowed is unlinked = absurd cc
not_allowed p (Some n) at allowed is unlinked = allowed unlinked

stands_or_not : (h : Heads) (p : Place) (s : NamedStatement) (e : PlaceError) → MayStand h p s → MayNotStand h p s e → ⊥
stands_or_not h p s e stands (inl unlinked) = not_allowed p (linked_only s) unlinked.0 stands.allowed unlinked.1 unlinked.2
stands_or_not h p s e stands (inr unmet) = met_or_unmet (needs_of h p s) e stands.met unmet.1

one_reason : (h : Heads) (p : Place) (s : NamedStatement) (d e : PlaceError) → MayNotStand h p s d → MayNotStand h p s e → d ≡ e
one_reason h p s d e (inl one) (inl other) =
    let same : Some one.0 ≡ Some other.0 = sym one.1 ∙ other.1 in
    let at : one.0 ≡ other.0 = cc in
    one.3 ∙ ap NotUnlinked at ∙ sym other.3
one_reason h p s d e (inl one) (inr other) = absurd (not_allowed p (linked_only s) one.0 other.0 one.1 one.2)
one_reason h p s d e (inr one) (inl other) = absurd (not_allowed p (linked_only s) other.0 one.0 other.1 other.2)
one_reason h p s d e (inr one) (inr other) = one_unmet (needs_of h p s) d e one.1 other.1

-- ---- bodies

-- a body goes from one place to one place
mutual
  through_one_way : (s : NamedStatement) (h : Heads) (p q r : Place) → GoesThrough h p s q → GoesThrough h p s r → q ≡ r
  through_one_way (If at test first second) h p q r one other = one_way first h p q r one.1 other.1
  through_one_way (While at test body) h p q r one other = one.2 ∙ sym other.2
  through_one_way (Repeat at count body) h p q r one other = one.2 ∙ sym other.2
  through_one_way s h p q r one other = one.1 ∙ sym other.1

  pub one_way : (body : NamedStatements) (h : Heads) (p q r : Place) → Goes h p body q → Goes h p body r → q ≡ r
  one_way Done h p q r one other = one ∙ sym other
  one_way (Then first rest) h p q r one other =
      one_way rest h other.0 q r
      (subst (λ (k : Place). Goes h k rest q) (through_one_way first h p one.0 other.0 one.1 other.1) one.2) other.2

-- a loop whose body has no fault, and ends where it begins, has none
loop_excluded : (Faults : PlaceError → Type 0) (Ends : Place → Type 0) (at : ℕ) (p : Place) (e : PlaceError)
    → ((d : PlaceError) → Faults d → ⊥) → ((q : Place) → Ends q → q ≡ p) → LoopFault Faults Ends at p e → ⊥
loop_excluded Faults Ends at p e none ends (inl inside) = none e inside
loop_excluded Faults Ends at p e none ends (inr elsewhere) = elsewhere.2 (ends elsewhere.0 elsewhere.1)

-- an `if` whose branches have no fault, and end in one place, has none
branches_excluded : (LeftFaults : PlaceError → Type 0) (LeftEnds : Place → Type 0) (RightFaults : PlaceError → Type 0) (RightEnds : Place → Type 0) (at : ℕ) (p : Place) (e : PlaceError)
    → ((d : PlaceError) → LeftFaults d → ⊥) → ((q : Place) → LeftEnds q → q ≡ p)
    → ((d : PlaceError) → RightFaults d → ⊥) → ((q : Place) → RightEnds q → q ≡ p)
    → BranchesFault LeftFaults LeftEnds RightFaults RightEnds at e → ⊥
branches_excluded LeftFaults LeftEnds RightFaults RightEnds at p e no_left left no_right right (inl inside) = no_left e inside
branches_excluded LeftFaults LeftEnds RightFaults RightEnds at p e no_left left no_right right (inr (l, goes, inl inside)) = no_right e inside
branches_excluded LeftFaults LeftEnds RightFaults RightEnds at p e no_left left no_right right (inr (l, goes, inr (r, also_goes, differ, is))) =
    differ (left l goes ∙ sym (right r also_goes))

-- what goes through has no fault
mutual
  through_excludes : (s : NamedStatement) (h : Heads) (p q : Place) (e : PlaceError) → GoesThrough h p s q → FaultThrough h p s e → ⊥
  through_excludes (If at test first second) h p q e goes (inl fault) = stands_or_not h p (If at test first second) e goes.0 fault
  through_excludes (If at test first second) h p q e goes (inr fault) =
      branches_excluded (FaultIn h p first) (Goes h p first) (FaultIn h p second) (Goes h p second) at q e
      (λ d inside. excludes first h p q d goes.1 inside) (λ r other. one_way first h p r q other goes.1)
      (λ d inside. excludes second h p q d goes.2 inside) (λ r other. one_way second h p r q other goes.2) fault.1
  through_excludes (While at test body) h p q e goes (inl fault) = stands_or_not h p (While at test body) e goes.0 fault
  through_excludes (While at test body) h p q e goes (inr fault) =
      loop_excluded (FaultIn h p body) (Goes h p body) at p e
      (λ d inside. excludes body h p p d goes.1 inside) (λ r other. one_way body h p r p other goes.1) fault.1
  through_excludes (Repeat at count body) h p q e goes (inl fault) = stands_or_not h p (Repeat at count body) e goes.0 fault
  through_excludes (Repeat at count body) h p q e goes (inr fault) =
      loop_excluded (FaultIn h p body) (Goes h p body) at p e
      (λ d inside. excludes body h p p d goes.1 inside) (λ r other. one_way body h p r p other goes.1) fault.1
  through_excludes s h p q e goes fault = stands_or_not h p s e goes.0 fault

  pub excludes : (body : NamedStatements) (h : Heads) (p q : Place) (e : PlaceError) → Goes h p body q → FaultIn h p body e → ⊥
  excludes Done h p q e goes fault = fault
  excludes (Then first rest) h p q e goes (inl fault) = through_excludes first h p goes.0 e goes.1 fault
  excludes (Then first rest) h p q e goes (inr fault) =
      excludes rest h fault.0 q e
      (subst (λ (k : Place). Goes h k rest q) (through_one_way first h p goes.0 fault.0 goes.1 fault.1) goes.2) fault.2

loop_one : (Faults : PlaceError → Type 0) (Ends : Place → Type 0) (at : ℕ) (p : Place) (d e : PlaceError)
    → ((b c : PlaceError) → Faults b → Faults c → b ≡ c) → ((q : Place) (c : PlaceError) → Ends q → Faults c → ⊥)
    → ((q r : Place) → Ends q → Ends r → q ≡ r) → LoopFault Faults Ends at p d → LoopFault Faults Ends at p e → d ≡ e
loop_one Faults Ends at p d e one not_both way (inl inside) (inl other) = one d e inside other
loop_one Faults Ends at p d e one not_both way (inl inside) (inr other) = absurd (not_both other.0 d other.1 inside)
loop_one Faults Ends at p d e one not_both way (inr later) (inl other) = absurd (not_both later.0 e later.1 other)
loop_one Faults Ends at p d e one not_both way (inr later) (inr other) =
    later.3 ∙ ap (LoopEnds at p) (way later.0 other.0 later.1 other.1) ∙ sym other.3

branches_one : (LeftFaults : PlaceError → Type 0) (LeftEnds : Place → Type 0) (RightFaults : PlaceError → Type 0) (RightEnds : Place → Type 0) (at : ℕ) (d e : PlaceError)
    → ((b c : PlaceError) → LeftFaults b → LeftFaults c → b ≡ c) → ((q : Place) (c : PlaceError) → LeftEnds q → LeftFaults c → ⊥)
    → ((q r : Place) → LeftEnds q → LeftEnds r → q ≡ r)
    → ((b c : PlaceError) → RightFaults b → RightFaults c → b ≡ c) → ((q : Place) (c : PlaceError) → RightEnds q → RightFaults c → ⊥)
    → ((q r : Place) → RightEnds q → RightEnds r → q ≡ r)
    → BranchesFault LeftFaults LeftEnds RightFaults RightEnds at d → BranchesFault LeftFaults LeftEnds RightFaults RightEnds at e → d ≡ e
branches_one LeftFaults LeftEnds RightFaults RightEnds at d e one_left not_left left one_right not_right right (inl x) (inl y) = one_left d e x y
branches_one LeftFaults LeftEnds RightFaults RightEnds at d e one_left not_left left one_right not_right right (inl x) (inr (k, goes, y)) = absurd (not_left k d goes x)
branches_one LeftFaults LeftEnds RightFaults RightEnds at d e one_left not_left left one_right not_right right (inr (l, goes, x)) (inl y) = absurd (not_left l e goes y)
branches_one LeftFaults LeftEnds RightFaults RightEnds at d e one_left not_left left one_right not_right right (inr (l, goes, inl x)) (inr (k, also, inl y)) = one_right d e x y
branches_one LeftFaults LeftEnds RightFaults RightEnds at d e one_left not_left left one_right not_right right (inr (l, goes, inl x)) (inr (k, also, inr (r, ends, differ, y))) = absurd (not_right r d ends x)
branches_one LeftFaults LeftEnds RightFaults RightEnds at d e one_left not_left left one_right not_right right (inr (l, goes, inr (r, ends, differ, x))) (inr (k, also, inl y)) = absurd (not_right r e ends y)
branches_one LeftFaults LeftEnds RightFaults RightEnds at d e one_left not_left left one_right not_right right (inr (l, goes, inr (r, ends, differ, x))) (inr (k, also, inr (t, other, differs, y))) =
    x ∙ ap (λ z. Branches at z r) (left l k goes also) ∙ ap (Branches at k) (right r t ends other) ∙ sym y

-- there is one first fault
mutual
  through_one_fault : (s : NamedStatement) (h : Heads) (p : Place) (d e : PlaceError) → FaultThrough h p s d → FaultThrough h p s e → d ≡ e
  through_one_fault (If at test first second) h p d e (inl one) (inl other) = one_reason h p (If at test first second) d e one other
  through_one_fault (If at test first second) h p d e (inl one) (inr other) = absurd (stands_or_not h p (If at test first second) d other.0 one)
  through_one_fault (If at test first second) h p d e (inr one) (inl other) = absurd (stands_or_not h p (If at test first second) e one.0 other)
  through_one_fault (If at test first second) h p d e (inr one) (inr other) =
      branches_one (FaultIn h p first) (Goes h p first) (FaultIn h p second) (Goes h p second) at d e
      (one_fault first h p) (λ q c. excludes first h p q c) (one_way first h p)
      (one_fault second h p) (λ q c. excludes second h p q c) (one_way second h p) one.1 other.1
  through_one_fault (While at test body) h p d e (inl one) (inl other) = one_reason h p (While at test body) d e one other
  through_one_fault (While at test body) h p d e (inl one) (inr other) = absurd (stands_or_not h p (While at test body) d other.0 one)
  through_one_fault (While at test body) h p d e (inr one) (inl other) = absurd (stands_or_not h p (While at test body) e one.0 other)
  through_one_fault (While at test body) h p d e (inr one) (inr other) =
      loop_one (FaultIn h p body) (Goes h p body) at p d e
      (one_fault body h p) (λ q c. excludes body h p q c) (one_way body h p) one.1 other.1
  through_one_fault (Repeat at count body) h p d e (inl one) (inl other) = one_reason h p (Repeat at count body) d e one other
  through_one_fault (Repeat at count body) h p d e (inl one) (inr other) = absurd (stands_or_not h p (Repeat at count body) d other.0 one)
  through_one_fault (Repeat at count body) h p d e (inr one) (inl other) = absurd (stands_or_not h p (Repeat at count body) e one.0 other)
  through_one_fault (Repeat at count body) h p d e (inr one) (inr other) =
      loop_one (FaultIn h p body) (Goes h p body) at p d e
      (one_fault body h p) (λ q c. excludes body h p q c) (one_way body h p) one.1 other.1
  through_one_fault s h p d e one other = one_reason h p s d e one other

  pub one_fault : (body : NamedStatements) (h : Heads) (p : Place) (d e : PlaceError) → FaultIn h p body d → FaultIn h p body e → d ≡ e
  one_fault Done h p d e one other = absurd one
  one_fault (Then first rest) h p d e (inl one) (inl other) = through_one_fault first h p d e one other
  one_fault (Then first rest) h p d e (inl one) (inr other) = absurd (through_excludes first h p other.0 d other.1 one)
  one_fault (Then first rest) h p d e (inr one) (inl other) = absurd (through_excludes first h p one.0 e one.1 other)
  one_fault (Then first rest) h p d e (inr one) (inr other) =
      one_fault rest h other.0 d e
      (subst (λ (k : Place). FaultIn h k rest d) (through_one_way first h p one.0 other.0 one.1 other.1) one.2) other.2

-- ---- declarations

module_excludes : (h : Heads) (signature : Option Signature) (body : Option NamedModule) (e : PlaceError) → ModuleGoes h signature body → ModuleFault h signature body e → ⊥
module_excludes h None body e goes fault = fault
module_excludes h (Some signature) None e goes fault = fault
module_excludes h (Some signature) (Some m) e goes (inl inside) = excludes m.body h signature.begin signature.end e goes inside
module_excludes h (Some signature) (Some m) e goes (inr elsewhere) = elsewhere.2 (one_way m.body h signature.begin signature.end elsewhere.0 goes elsewhere.1)

module_one : (h : Heads) (signature : Option Signature) (body : Option NamedModule) (d e : PlaceError) → ModuleFault h signature body d → ModuleFault h signature body e → d ≡ e
module_one h None body d e one other = absurd one
module_one h (Some signature) None d e one other = absurd one
module_one h (Some signature) (Some m) d e (inl one) (inl other) = one_fault m.body h signature.begin d e one other
module_one h (Some signature) (Some m) d e (inl one) (inr other) = absurd (excludes m.body h signature.begin other.0 d other.1 one)
module_one h (Some signature) (Some m) d e (inr one) (inl other) = absurd (excludes m.body h signature.begin one.0 e one.1 other)
module_one h (Some signature) (Some m) d e (inr one) (inr other) =
    one.3 ∙ ap (ModuleEnds m.at signature.end) (one_way m.body h signature.begin one.0 other.0 one.1 other.1) ∙ sym other.3

link_excludes : (h : Heads) (ms : List NamedModule) (l : LinkItem) (e : PlaceError) → LinkHolds h ms l → LinkFault h ms l e → ⊥
link_excludes h ms (link.Module m) e holds fault = module_excludes h (slice_get h.modules m.0) (slice_get ms m.0) e holds fault
link_excludes h ms (link.Start at start) e holds fault = met_or_unmet (start_needs h at (slice_get h.starts start)) e holds fault
link_excludes h ms (link.Create at client number) e holds fault =
    met_or_unmet (order_needs h at (order_at (slice_get h.clients client) number)) e holds fault

link_one : (h : Heads) (ms : List NamedModule) (l : LinkItem) (d e : PlaceError) → LinkFault h ms l d → LinkFault h ms l e → d ≡ e
link_one h ms (link.Module m) d e one other = module_one h (slice_get h.modules m.0) (slice_get ms m.0) d e one other
link_one h ms (link.Start at start) d e one other = one_unmet (start_needs h at (slice_get h.starts start)) d e one other
link_one h ms (link.Create at client number) d e one other =
    one_unmet (order_needs h at (order_at (slice_get h.clients client) number)) d e one other

links_exclude : (h : Heads) (ms : List NamedModule) (ls : List LinkItem) (e : PlaceError) → LinksHold h ms ls → LinksFault h ms ls e → ⊥
links_exclude h ms [] e hold fault = fault
links_exclude h ms (l ∷ ls) e hold (inl here) = link_excludes h ms l e hold.0 here
links_exclude h ms (l ∷ ls) e hold (inr later) = links_exclude h ms ls e hold.1 later.1

links_one : (h : Heads) (ms : List NamedModule) (ls : List LinkItem) (d e : PlaceError) → LinksFault h ms ls d → LinksFault h ms ls e → d ≡ e
links_one h ms [] d e one other = absurd one
links_one h ms (l ∷ ls) d e (inl one) (inl other) = link_one h ms l d e one other
links_one h ms (l ∷ ls) d e (inl one) (inr other) = absurd (link_excludes h ms l d other.0 one)
links_one h ms (l ∷ ls) d e (inr one) (inl other) = absurd (link_excludes h ms l e one.0 other)
links_one h ms (l ∷ ls) d e (inr one) (inr other) = links_one h ms ls d e one.1 other.1

-- a program whose links are correct has no fault
pub placed_excludes : (n : NamedProgram) (e : PlaceError) → IsPlaced n → PlaceFault n e → ⊥
placed_excludes n e placed fault = links_exclude n.heads n.modules n.links e placed fault

-- a program has at most one fault
pub one_place_fault : (n : NamedProgram) (d e : PlaceError) → PlaceFault n d → PlaceFault n e → d ≡ e
one_place_fault n d e one other = links_one n.heads n.modules n.links d e one other

pub ruleset decided = (placed_excludes, one_place_fault, one_way)
