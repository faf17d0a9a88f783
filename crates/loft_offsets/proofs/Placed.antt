-- The links of a program don't depend on offsets.
use Rattle.std.proofs.Common.{◌≡◌, ℕ, List, [], ◌∷◌, map, Option, Some, None, option_map, slice_get, refl, sym, subst, ◌∙◌}
use Rattle.std.proofs.lemmas.Option.{slice_get-map}
use Rattle.loft_tree.specs.declared.heads.Place.{Place}
use Rattle.loft_tree.specs.declared.heads.Signature.{Signature}
use Rattle.loft_tree.specs.declared.heads.Start.{Start}
use Rattle.loft_tree.specs.declared.heads.ClientOrder.{ClientOrder}
use Rattle.loft_tree.specs.declared.heads.ClientOrder.TheVariants as order
use Rattle.loft_tree.specs.declared.heads.Heads.{Heads}
use Rattle.loft_tree.specs.declared.named.Target.{Target}
use Rattle.loft_tree.specs.declared.named.Target.TheVariants as target
use Rattle.loft_tree.specs.declared.named.LinkItem.{LinkItem}
use Rattle.loft_tree.specs.declared.named.LinkItem.TheVariants as link
use Rattle.loft_tree.specs.NamedTree.{EventUse, NamedExpression, Number, Slot, Shared, Special, Unary, Binary, NamedCreation, NamedAction, Assign, Make, PrintText, PrintValue, Generate, ControlThread, Broadcast, NamedPause, Cooperate, Await, Get, Join, Link, Unlink, Halt, NamedStatement, Do, Hold, Run, If, While, Repeat, NamedStatements, Done, Then, NamedModule, NamedProgram}
use Rattle.loft_place.specs.Links.{AllowedAt, AreMet, Goes, GoesThrough, IsPlaced, LinkHolds, LinksHold, MayStand, ModuleGoes, Need, action_needs, creation_needs, events_needs, left_by_pause, linked_action, linked_only, linked_pause, made_needs, needs_of, order_at, order_needs, pause_needs, start_needs, target_needs, term_needs, terms_needs, value_needs}
use Rattle.loft_offsets.proofs.Alike.{Alike, both, flipped, more, none}
use Rattle.loft_offsets.proofs.Named.{bare_action, bare_body, bare_creation, bare_if, bare_link, bare_module, bare_pause, bare_program, bare_statement, bare_target, bare_term, bare_use}

-- ---- needs

abbrev bare_need : Need → Need
bare_need n = record { at = 0; needs = n.needs; has = n.has; is_shared = n.is_shared }

met_to : (ns : List Need) → AreMet ns → AreMet (map bare_need ns)
met_to [] met = tt
met_to (n ∷ ns) met = (met.0, met_to ns met.1)

met_from : (ns : List Need) → AreMet (map bare_need ns) → AreMet ns
met_from [] met = tt
met_from (n ∷ ns) met = (met.0, met_from ns met.1)

met_alike : {ms ns : List Need} → Alike bare_need ms ns → AreMet ms → AreMet ns
met_alike {ms} {ns} alike met = met_from ns (subst AreMet alike.same (met_to ms met))

-- a thread of a program with these heads, which is linked here
module _ (h : Heads) (here : Place) where
  term_bare : (e : NamedExpression) → Alike bare_need (term_needs h here (bare_term e)) (term_needs h here e)
  term_bare (Number value) = none
  term_bare (Slot slot) = none
  term_bare (Shared at shared) = more refl none
  term_bare (Special builtin) = none
  term_bare (Unary operator operand) = term_bare operand
  term_bare (Binary operator left right) = both (term_bare left) (term_bare right)

  value_bare : (e : Option NamedExpression) → Alike bare_need (value_needs h here (bare_if e)) (value_needs h here e)
  value_bare None = none
  value_bare (Some e) = term_bare e

  terms_bare : (es : List NamedExpression) → Alike bare_need (terms_needs h here (map bare_term es)) (terms_needs h here es)
  terms_bare [] = none
  terms_bare (e ∷ es) = both (term_bare e) (terms_bare es)

  target_bare : (t : Target) → Alike bare_need (target_needs h here (bare_target t)) (target_needs h here t)
  target_bare (target.Slot slot) = none
  target_bare (target.Shared at shared) = more refl none

  events_bare : (es : List EventUse) → Alike bare_need (events_needs h here (map bare_use es)) (events_needs h here es)
  events_bare [] = none
  events_bare (e ∷ es) = more refl (events_bare es)

  creation_bare : (c : NamedCreation) → Alike bare_need (creation_needs h here (bare_creation c)) (creation_needs h here c)
  creation_bare c = more refl (terms_bare c.arguments)

  made_bare : (t : Option Target) → Alike bare_need (made_needs h here (option_map bare_target t)) (made_needs h here t)
  made_bare None = none
  made_bare (Some t) = target_bare t

  action_bare : (a : NamedAction) → Alike bare_need (action_needs h here (bare_action a)) (action_needs h here a)
  action_bare (Assign target value) = both (target_bare target) (term_bare value)
  action_bare (Make target creation) = both (made_bare target) (creation_bare creation)
  action_bare (PrintText line value) = value_bare value
  action_bare (PrintValue value) = term_bare value
  action_bare (Generate event value) = more refl (value_bare value)
  action_bare (ControlThread control thread scheduler) = term_bare thread
  action_bare (Broadcast event value) = value_bare value

  pause_bare : (p : NamedPause) → Alike bare_need (pause_needs h here (bare_pause p)) (pause_needs h here p)
  pause_bare (Cooperate instants) = value_bare instants
  pause_bare (Await events limit) = both (events_bare events) (value_bare limit)
  pause_bare (Get event index target) = more refl (both (term_bare index) (target_bare target))
  pause_bare (Join thread limit) = both (term_bare thread) (value_bare limit)
  pause_bare (Link scheduler) = none
  pause_bare Unlink = none
  pause_bare Halt = none

  needs_bare : (s : NamedStatement) → Alike bare_need (needs_of h here (bare_statement s)) (needs_of h here s)
  needs_bare (Do at action) = action_bare action
  needs_bare (Hold at stop pause) = pause_bare pause
  needs_bare (Run at stop called m arguments) = more refl (terms_bare arguments)
  needs_bare (If at test first second) = term_bare test
  needs_bare (While at test body) = term_bare test
  needs_bare (Repeat at count body) = term_bare count

-- ---- places

linked_action_bare : (at : ℕ) (a : NamedAction) → linked_action 0 (bare_action a) ≡ option_map (λ (_ : ℕ). 0) (linked_action at a)
linked_action_bare at (Assign target value) = refl
linked_action_bare at (Make target creation) = refl
linked_action_bare at (PrintText line value) = refl
linked_action_bare at (PrintValue value) = refl
linked_action_bare at (Generate event value) = refl
linked_action_bare at (ControlThread control thread scheduler) = refl
linked_action_bare at (Broadcast event value) = refl

linked_pause_bare : (at : ℕ) (p : NamedPause) → linked_pause 0 (bare_pause p) ≡ option_map (λ (_ : ℕ). 0) (linked_pause at p)
linked_pause_bare at (Cooperate instants) = refl
linked_pause_bare at (Await events limit) = refl
linked_pause_bare at (Get event index target) = refl
linked_pause_bare at (Join thread limit) = refl
linked_pause_bare at (Link scheduler) = refl
linked_pause_bare at Unlink = refl
linked_pause_bare at Halt = refl

linked_bare : (s : NamedStatement) → linked_only (bare_statement s) ≡ option_map (λ (at : ℕ). 0) (linked_only s)
linked_bare (Do at action) = linked_action_bare at action
linked_bare (Hold at stop pause) = linked_pause_bare at pause
linked_bare (Run at stop called m arguments) = refl
linked_bare (If at test first second) = refl
linked_bare (While at test body) = refl
linked_bare (Repeat at count body) = refl

allowed_to : (here : Place) (o : Option ℕ) → AllowedAt here o → AllowedAt here (option_map (λ (at : ℕ). 0) o)
allowed_to here None allowed = allowed
allowed_to here (Some at) allowed = allowed

allowed_from : (here : Place) (o : Option ℕ) → AllowedAt here (option_map (λ (at : ℕ). 0) o) → AllowedAt here o
allowed_from here None allowed = allowed
allowed_from here (Some at) allowed = allowed

stand_to : (h : Heads) (here : Place) (s : NamedStatement) → MayStand h here s → MayStand h here (bare_statement s)
stand_to h here s stands = record {
  allowed = subst (AllowedAt here) (sym (linked_bare s)) (allowed_to here (linked_only s) stands.allowed);
  met = met_alike (flipped (needs_bare h here s)) stands.met;
}

stand_from : (h : Heads) (here : Place) (s : NamedStatement) → MayStand h here (bare_statement s) → MayStand h here s
stand_from h here s stands = record {
  allowed = allowed_from here (linked_only s) (subst (AllowedAt here) (linked_bare s) stands.allowed);
  met = met_alike (needs_bare h here s) stands.met;
}

-- ---- bodies and declarations

left_bare : (here : Place) (p : NamedPause) → left_by_pause here (bare_pause p) ≡ left_by_pause here p
left_bare here (Cooperate instants) = refl
left_bare here (Await events limit) = refl
left_bare here (Get event index target) = refl
left_bare here (Join thread limit) = refl
left_bare here (Link scheduler) = refl
left_bare here Unlink = refl
left_bare here Halt = refl

mutual
  goes_to : (h : Heads) (p : Place) (s : NamedStatement) (q : Place) → GoesThrough h p s q → GoesThrough h p (bare_statement s) q
  goes_to h p (Do at action) q goes = (stand_to h p (Do at action) goes.0, goes.1)
  goes_to h p (Hold at stop pause) q goes = (stand_to h p (Hold at stop pause) goes.0, goes.1 ∙ sym (left_bare p pause))
  goes_to h p (Run at stop called m arguments) q goes = (stand_to h p (Run at stop called m arguments) goes.0, goes.1)
  goes_to h p (If at test first second) q goes = (stand_to h p (If at test first second) goes.0, body_to h p first q goes.1, body_to h p second q goes.2)
  goes_to h p (While at test body) q goes = (stand_to h p (While at test body) goes.0, body_to h p body p goes.1, goes.2)
  goes_to h p (Repeat at count body) q goes = (stand_to h p (Repeat at count body) goes.0, body_to h p body p goes.1, goes.2)

  body_to : (h : Heads) (p : Place) (body : NamedStatements) (q : Place) → Goes h p body q → Goes h p (bare_body body) q
  body_to h p Done q goes = goes
  body_to h p (Then first rest) q goes = (goes.0, goes_to h p first goes.0 goes.1, body_to h goes.0 rest q goes.2)

mutual
  goes_from : (h : Heads) (p : Place) (s : NamedStatement) (q : Place) → GoesThrough h p (bare_statement s) q → GoesThrough h p s q
  goes_from h p (Do at action) q goes = (stand_from h p (Do at action) goes.0, goes.1)
  goes_from h p (Hold at stop pause) q goes = (stand_from h p (Hold at stop pause) goes.0, goes.1 ∙ left_bare p pause)
  goes_from h p (Run at stop called m arguments) q goes = (stand_from h p (Run at stop called m arguments) goes.0, goes.1)
  goes_from h p (If at test first second) q goes = (stand_from h p (If at test first second) goes.0, body_from h p first q goes.1, body_from h p second q goes.2)
  goes_from h p (While at test body) q goes = (stand_from h p (While at test body) goes.0, body_from h p body p goes.1, goes.2)
  goes_from h p (Repeat at count body) q goes = (stand_from h p (Repeat at count body) goes.0, body_from h p body p goes.1, goes.2)

  body_from : (h : Heads) (p : Place) (body : NamedStatements) (q : Place) → Goes h p (bare_body body) q → Goes h p body q
  body_from h p Done q goes = goes
  body_from h p (Then first rest) q goes = (goes.0, goes_from h p first goes.0 goes.1, body_from h goes.0 rest q goes.2)

start_met : (h : Heads) (at other : ℕ) (o : Option Start) → AreMet (start_needs h at o) → AreMet (start_needs h other o)
start_met h at other None met = met
start_met h at other (Some t) met = met

order_met : (h : Heads) (at other : ℕ) (o : Option ClientOrder) → AreMet (order_needs h at o) → AreMet (order_needs h other o)
order_met h at other None met = met
order_met h at other (Some (order.Create scheduler m arguments)) met = met
order_met h at other (Some (order.Control control thread scheduler)) met = met
order_met h at other (Some (order.Broadcast event value)) met = met

module_to : (h : Heads) (signature : Option Signature) (o : Option NamedModule) → ModuleGoes h signature o → ModuleGoes h signature (option_map bare_module o)
module_to h None o goes = tt
module_to h (Some signature) None goes = tt
module_to h (Some signature) (Some m) goes = body_to h signature.begin m.body signature.end goes

link_to : (h : Heads) (ms : List NamedModule) (l : LinkItem) → LinkHolds h ms l → LinkHolds h (map bare_module ms) (bare_link l)
link_to h ms (link.Module m) holds =
    subst (λ (o : Option NamedModule). ModuleGoes h (slice_get h.modules m.0) o) (sym (slice_get-map bare_module ms m.0))
    (module_to h (slice_get h.modules m.0) (slice_get ms m.0) holds)
link_to h ms (link.Start at start) holds = start_met h at 0 (slice_get h.starts start) holds
link_to h ms (link.Create at client number) holds = order_met h at 0 (order_at (slice_get h.clients client) number) holds

links_to : (h : Heads) (ms : List NamedModule) (ls : List LinkItem) → LinksHold h ms ls → LinksHold h (map bare_module ms) (map bare_link ls)
links_to h ms [] hold = tt
links_to h ms (l ∷ ls) hold = (link_to h ms l hold.0, links_to h ms ls hold.1)

module_from : (h : Heads) (signature : Option Signature) (o : Option NamedModule) → ModuleGoes h signature (option_map bare_module o) → ModuleGoes h signature o
module_from h None o goes = tt
module_from h (Some signature) None goes = tt
module_from h (Some signature) (Some m) goes = body_from h signature.begin m.body signature.end goes

link_from : (h : Heads) (ms : List NamedModule) (l : LinkItem) → LinkHolds h (map bare_module ms) (bare_link l) → LinkHolds h ms l
link_from h ms (link.Module m) holds =
    module_from h (slice_get h.modules m.0) (slice_get ms m.0)
    (subst (λ (o : Option NamedModule). ModuleGoes h (slice_get h.modules m.0) o) (slice_get-map bare_module ms m.0) holds)
link_from h ms (link.Start at start) holds = start_met h 0 at (slice_get h.starts start) holds
link_from h ms (link.Create at client number) holds = order_met h 0 at (order_at (slice_get h.clients client) number) holds

links_from : (h : Heads) (ms : List NamedModule) (ls : List LinkItem) → LinksHold h (map bare_module ms) (map bare_link ls) → LinksHold h ms ls
links_from h ms [] hold = tt
links_from h ms (l ∷ ls) hold = (link_from h ms l hold.0, links_from h ms ls hold.1)

pub placed_to : (n : NamedProgram) → IsPlaced n → IsPlaced (bare_program n)
placed_to n placed = links_to n.heads n.modules n.links placed

pub placed_from : (n : NamedProgram) → IsPlaced (bare_program n) → IsPlaced n
placed_from n placed = links_from n.heads n.modules n.links placed
