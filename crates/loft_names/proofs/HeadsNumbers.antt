-- The number of each declaration stands for the head with its name.
use Rattle.std.proofs.Common.{◌≡◌, ℕ, ◌+◌, suc, List, [], ◌∷◌, ◌++◌, length, Option, Some, None, refl, sym, ap, subst, append-nil, ◌∙◌, arith}
use Rattle.std.specs.Prelude.{slice_get}
use Rattle.std.specs.Option.{option_map}
use Rattle.std.specs.List.{Contains}
use Rattle.loft_tree.specs.Source.{Ident, Named, Declaration, Scheduler, Event, Shared, Module, Start, Outside, Source}
use Rattle.loft_tree.specs.Fits.{Each}
use Rattle.loft_tree.specs.declared.heads.SlotHead.{SlotHead}
use Rattle.loft_tree.specs.declared.heads.Signature.{Signature}
use Rattle.loft_tree.specs.declared.heads.Start.{Start as StartHead}
use Rattle.loft_tree.specs.declared.heads.Heads.{Heads}
use Rattle.loft_tree.specs.HeadsFit.{kinds_of as slot_kinds}
use Rattle.loft_scopes.specs.declared.counts.DeclarationCounts.{DeclarationCounts}
use Rattle.loft_scopes.specs.Scopes.{Declared, kinds_of, variables, start_name, after, none_yet, declared_by, declared_from, declared}
use Rattle.loft_numbers.specs.Numbers.{schedulers_in, events_in, shared_in, slots_of, signature_of, signatures_in, starts_in, clients_in, name_text, heads_of}
use Rattle.loft_names.specs.HeadOf.{HasHead}
use Rattle.loft_names.proofs.HeadsLists.{Follows, follows_all, follows_head, follows_tail, each-append, each_contained}

-- after so many declarations, the heads have those of the rest
pub record HasRest (h : Heads) (ds : List Declared) (n : DeclarationCounts) (rest : Source) : Type 0 where
  pub schedulers : Follows h.schedulers n.schedulers (schedulers_in rest)
  pub events : Follows h.events n.events (events_in ds rest)
  pub shared : Follows h.shared n.shared (shared_in ds rest)
  pub modules : Follows h.modules n.modules (signatures_in ds n.modules rest)
  pub starts : Follows h.starts n.starts (starts_in ds rest)
  pub clients : Follows h.clients n.clients (clients_in ds rest)

pub has_all : (ds : List Declared) (p : Source) → HasRest (heads_of ds p) ds none_yet p
has_all ds p = record {
  schedulers = follows_all (schedulers_in p);
  events = follows_all (events_in ds p);
  shared = follows_all (shared_in ds p);
  modules = follows_all (signatures_in ds 0 p);
  starts = follows_all (starts_in ds p);
  clients = follows_all (clients_in ds p);
}

pub slot-kinds : (vs : List Named) → slot_kinds (slots_of vs) ≡ kinds_of vs
slot-kinds [] = refl
slot-kinds (v ∷ vs) = ap (λ ks. v.kind ∷ ks) (slot-kinds vs)

module _ (h : Heads) (ds : List Declared) where
  -- one declaration more
  pub has_later : (n : DeclarationCounts) (d : Declaration) (rest : Source) → HasRest h ds n (d ∷ rest) → HasRest h ds (after n d) rest
  has_later n (Scheduler name) rest r =
      record { schedulers = follows_tail _ _ _ _ r.schedulers; events = r.events; shared = r.shared; modules = r.modules; starts = r.starts; clients = r.clients }
  has_later n (Event name scheduler) rest r =
      record { schedulers = r.schedulers; events = follows_tail _ _ _ _ r.events; shared = r.shared; modules = r.modules; starts = r.starts; clients = r.clients }
  has_later n (Shared name scheduler value) rest r =
      record { schedulers = r.schedulers; events = r.events; shared = follows_tail _ _ _ _ r.shared; modules = r.modules; starts = r.starts; clients = r.clients }
  has_later n (Module head locals body) rest r =
      record { schedulers = r.schedulers; events = r.events; shared = r.shared; modules = follows_tail _ _ _ _ r.modules; starts = r.starts; clients = r.clients }
  has_later n (Start scheduler called arguments name) rest r =
      record { schedulers = r.schedulers; events = r.events; shared = r.shared; modules = r.modules; starts = follows_tail _ _ _ _ r.starts; clients = r.clients }
  has_later n (Outside name orders) rest r =
      record { schedulers = r.schedulers; events = r.events; shared = r.shared; modules = r.modules; starts = r.starts; clients = follows_tail _ _ _ _ r.clients }

  -- the slots of a module from this number on
  variables_have : (m : ℕ) (head : Signature) → slice_get h.modules m ≡ Some head → (k : ℕ) (vs : List Named) (more : List SlotHead)
      → Follows (head.parameters ++ head.locals) k (slots_of vs ++ more)
      → Each (HasHead h) (variables m k vs) × Follows (head.parameters ++ head.locals) (k + length vs) more
  variables_have m head there k [] more f = let e : k ≡ k + 0 = omega arith in (tt, subst (λ n. Follows (head.parameters ++ head.locals) n more) e f)
  variables_have m head there k (v ∷ vs) more f =
      let rest = variables_have m head there (k + 1) vs more (follows_tail _ _ _ _ f) in
      let e : k + 1 + length vs ≡ k + suc (length vs) = omega arith in
      ((record { head = head; there = there; slot = follows_head _ _ _ _ f }, rest.0), subst (λ n. Follows (head.parameters ++ head.locals) n more) e rest.1)

  start_has : (n : DeclarationCounts) (start : StartHead) (name : Option Ident) → slice_get h.starts n.starts ≡ Some start → start.name ≡ name_text name → Each (HasHead h) (start_name name n.starts)
  start_has n start None there named = tt
  start_has n start (Some name) there named = (ap (option_map (λ x. x.name)) there ∙ ap Some named, tt)

  -- what one declaration declares
  by_one : (n : DeclarationCounts) (d : Declaration) (rest : Source) → HasRest h ds n (d ∷ rest) → Each (HasHead h) (declared_by n d)
  by_one n (Scheduler name) rest r = (follows_head _ _ _ _ r.schedulers, tt)
  by_one n (Event name scheduler) rest r = (ap (option_map (λ x. x.name)) (follows_head _ _ _ _ r.events), tt)
  by_one n (Shared name scheduler value) rest r = (ap (option_map (λ x. x.name)) (follows_head _ _ _ _ r.shared), tt)
  by_one n (Module head locals body) rest r =
      let there = follows_head _ _ _ _ r.modules in
      let signature = signature_of ds n.modules head locals in
      let first = variables_have n.modules signature there 0 head.parameters (slots_of locals) (follows_all (signature.parameters ++ signature.locals)) in
      let e : 0 + length head.parameters ≡ length head.parameters = omega arith in
      let seam = subst (λ (k : ℕ). Follows (signature.parameters ++ signature.locals) k (slots_of locals)) e first.1 in
      let second = variables_have n.modules signature there (length head.parameters) locals []
      (subst (λ (vs : List SlotHead). Follows (signature.parameters ++ signature.locals) (length head.parameters) vs) (sym (append-nil (slots_of locals))) seam) in
      (record { head = signature; there = there; named = refl; takes = slot-kinds head.parameters }, each-append (HasHead h) (variables n.modules 0 head.parameters) (variables n.modules (length head.parameters) locals) first.0 second.0)
  by_one n (Start scheduler called arguments name) rest r = start_has n _ name (follows_head _ _ _ _ r.starts) refl
  by_one n (Outside name orders) rest r = (ap (option_map (λ x. x.name)) (follows_head _ _ _ _ r.clients), tt)

  pub each_has : (n : DeclarationCounts) (rest : Source) → HasRest h ds n rest → Each (HasHead h) (declared_from n rest)
  each_has n [] r = tt
  each_has n (d ∷ rest) r = each-append (HasHead h) (declared_by n d) (declared_from (after n d) rest) (by_one n d rest r) (each_has (after n d) rest (has_later n d rest r))

pub each_declared_has : (p : Source) → Each (HasHead (heads_of (declared p) p)) (declared p)
each_declared_has p = each_has (heads_of (declared p) p) (declared p) none_yet p (has_all (declared p) p)

pub numbers_name_heads : (p : Source) (d : Declared) → Contains (declared p) d → HasHead (heads_of (declared p) p) d
numbers_name_heads p d there = each_contained (HasHead (heads_of (declared p) p)) (declared p) d (each_declared_has p) there
