-- What the names mean that code writes in place of its numbers.
use Rattle.std.proofs.Common.{◌≡◌, ℕ, ◌<◌, zero, suc, true, List, [], ◌∷◌, ◌++◌, length, Option, Some, None, refl, sym, subst, ap, ◌∙◌, arith}
use Rattle.std.specs.Prelude.{slice_get, is_some, unwrap_or}
use Rattle.std.specs.Option.{option_map}
use Rattle.loft_base.specs.declared.ids.SchedId.{SchedId}
use Rattle.loft_base.specs.declared.ids.EventId.{EventId}
use Rattle.loft_base.specs.declared.ids.SharedId.{SharedId}
use Rattle.loft_base.specs.declared.ids.ModuleId.{ModuleId}
use Rattle.loft_base.specs.declared.ids.Maker.{Maker}
use Rattle.loft_base.specs.declared.ids.Maker.TheVariants as maker
use Rattle.loft_base.specs.declared.ids.ThreadId.{ThreadId}
use Rattle.loft_tree.specs.declared.kinds.Kind.{Kind}
use Rattle.loft_tree.specs.declared.heads.SlotHead.{SlotHead}
use Rattle.loft_tree.specs.declared.heads.Signature.{Signature}
use Rattle.loft_tree.specs.declared.heads.Start.{Start}
use Rattle.loft_tree.specs.declared.heads.Heads.{Heads}
use Rattle.loft_tree.specs.HeadsFit.{kinds_of}
use Rattle.loft_tree.specs.Source.{Ident}
use Rattle.loft_scopes.specs.Scopes.{Sort, AScheduler, AnEvent, AShared, AModule, AStart, AVariable, Declared, meaning}
use Rattle.loft_scopes.specs.declared.scope.Scope.{Scope}
use Rattle.loft_scopes.specs.declared.scope.Scope.TheVariants.{Everywhere, Within}
use Rattle.loft_names.specs.NamesHold.{MeansA}
use Rattle.loft_numbers.specs.Numbers.{number_of, number_or_0, InShared, InSlot, holder_of, if_shared, shared_or}
use Rattle.loft_listing_draft.specs.Lined.{name_at}
use Rattle.loft_listing.specs.Called.{called_scheduler, called_event, called_shared, called_module, called_thread, called_slot, start_name}
use Rattle.loft_listing_roundtrip.specs.ThreadsNamed.{IsNamedThread}
use Rattle.loft_listing_roundtrip.proofs.OneMeaning.{Meant, Says, meant}
use Rattle.std.proofs.lemmas.Bool.{eq-eqb}

-- ---- lists

-- what is called at a number
called_there : {A : Type 0} (of : A → List ℕ) (xs : List A) (k : ℕ) → k < length xs → option_map of (slice_get xs k) ≡ Some (unwrap_or (option_map of (slice_get xs k)) [])
called_there of [] k less = absurd (omega arith)
called_there of (x ∷ xs) zero less = refl
called_there of (x ∷ xs) (suc k) less = called_there of xs k (omega arith)

pub there_at : {A : Type 0} (xs : List A) (k : ℕ) → k < length xs → (x : A) × (slice_get xs k ≡ Some x)
there_at [] k less = absurd (omega arith)
there_at (x ∷ xs) zero less = (x, refl)
there_at (x ∷ xs) (suc k) less = there_at xs k (omega arith)

itself : (o : Option (List ℕ)) → option_map (λ x. x) o ≡ o
itself None = refl
itself (Some x) = refl

-- a slot of these kinds is one of these slots
pub slot_there : (vs ws : List SlotHead) (k : ℕ) → is_some (slice_get (kinds_of vs ++ kinds_of ws) k) ≡ true → (v : SlotHead) × (slice_get (vs ++ ws) k ≡ Some v)
slot_there [] [] k is = absurd cc
slot_there [] (w ∷ ws) zero is = (w, refl)
slot_there [] (w ∷ ws) (suc k) is = slot_there [] ws k is
slot_there (v ∷ vs) ws zero is = (v, refl)
slot_there (v ∷ vs) ws (suc k) is = slot_there vs ws k is

module _ (ds : List Declared) where
  -- ---- what is meant, used in the ways of a listing

  -- at each offset it means the same
  pub placed : (from : Scope) (sort : Sort) (number : ℕ) (name : Ident) (line : ℕ) → Meant ds from sort number name → Meant ds from sort number (name_at line name)
  placed from sort number name line m = record { declaration = m.declaration; means = m.means; sorted = m.sorted; numbered = m.numbered }

  pub means_a : (from : Scope) (sort : Sort) (number : ℕ) (name : Ident) → Meant ds from sort number name → MeansA ds from sort name
  means_a from sort number name m = record { declaration = m.declaration; means = m.means; sorted = m.sorted }

  pub number_meant : (from : Scope) (sort : Sort) (number : ℕ) (name : Ident) → Meant ds from sort number name → number_of ds from name ≡ number
  number_meant from sort number name m = ap number_or_0 m.means ∙ m.numbered

  pub slot_held : (from : Scope) (kind : Kind) (number : ℕ) (name : Ident) → Meant ds from (AVariable kind) number name → holder_of (meaning ds from name) ≡ InSlot number
  slot_held from kind number name m =
      ap holder_of m.means ∙ ap (λ s. shared_or (if_shared s m.declaration.number) m.declaration.number) m.sorted ∙ ap InSlot m.numbered

  pub shared_held : (from : Scope) (x : SharedId) (name : Ident) → Meant ds from AShared x.0 name → holder_of (meaning ds from name) ≡ InShared x
  shared_held from x name m =
      ap holder_of m.means ∙ ap (λ s. shared_or (if_shared s m.declaration.number) m.declaration.number) m.sorted ∙ (λ i. InShared (record { 0 = m.numbered i }))

  module _ (h : Heads) (says : Says ds h) where
    -- ---- names of declarations

    pub scheduler_meant : (from : Scope) (s : SchedId) → s.0 < length h.schedulers → Meant ds from AScheduler s.0 (called_scheduler h s)
    scheduler_meant from s less =
        meant ds h says from Everywhere AScheduler s.0 (called_scheduler h s) refl (sym (itself (slice_get h.schedulers s.0)) ∙ called_there (λ x. x) h.schedulers s.0 less)

    pub event_meant : (from : Scope) (e : EventId) → e.0 < length h.events → Meant ds from AnEvent e.0 (called_event h e).name
    event_meant from e less = meant ds h says from Everywhere AnEvent e.0 (called_event h e).name refl (called_there (λ x. x.name) h.events e.0 less)

    pub shared_meant : (from : Scope) (x : SharedId) → x.0 < length h.shared → Meant ds from AShared x.0 (called_shared h x)
    shared_meant from x less = meant ds h says from Everywhere AShared x.0 (called_shared h x) refl (called_there (λ y. y.name) h.shared x.0 less)

    pub module_meant : (from : Scope) (m : ModuleId) (signature : Signature) → slice_get h.modules m.0 ≡ Some signature
        → Meant ds from (AModule (kinds_of signature.parameters)) m.0 (called_module h m)
    module_meant from m signature is =
        meant ds h says from Everywhere (AModule (kinds_of signature.parameters)) m.0 (called_module h m) refl
        (record { head = signature; there = is; named = sym (ap (λ (o : Option Signature). unwrap_or (option_map (λ x. x.name) o) []) is); takes = refl })

    -- ---- threads

    thread_by : (from : Scope) (by : Maker) (seq : ℕ) → by ≡ maker.Source → IsNamedThread h (record { maker = by; seq = seq })
        → Meant ds from AStart seq (called_thread h (record { maker = by; seq = seq }))
    thread_by from by seq source named =
        let text : unwrap_or (option_map start_name (slice_get h.starts seq)) [] ≡ named.0 = started (slice_get h.starts seq) named.0 named.1 in
        subst (λ (m : Maker). Meant ds from AStart seq (called_thread h (record { maker = m; seq = seq }))) (sym source)
        (meant ds h says from Everywhere AStart seq (called_thread h (record { maker = maker.Source; seq = seq })) refl (named.1 ∙ ap (λ t. Some (Some t)) (sym text)))
      where
        started : (o : Option Start) (name : List ℕ) → option_map (λ x. x.name) o ≡ Some (Some name) → unwrap_or (option_map start_name o) [] ≡ name
        started None name is = absurd cc
        started (Some t) name is = let same : t.name ≡ Some name = cc in ap (λ (n : Option (List ℕ)). unwrap_or n []) same

    pub thread_meant : (from : Scope) (t : ThreadId) → t.maker ≡ maker.Source → IsNamedThread h t → Meant ds from AStart t.seq (called_thread h t)
    thread_meant from t source named = thread_by from t.maker t.seq source named

    -- ---- slots of a module

    pub slot_meant : (k : ℕ) (m : Signature) (slot : ℕ) (v : SlotHead) → slice_get h.modules k ≡ Some m → slice_get (m.parameters ++ m.locals) slot ≡ Some v
        → Meant ds (Within k) (AVariable v.kind) slot (called_slot m slot)
    slot_meant k m slot v is at =
        let text : unwrap_or (option_map (λ (x : SlotHead). x.name) (slice_get (m.parameters ++ m.locals) slot)) [] ≡ v.name = ap (λ (o : Option SlotHead). unwrap_or (option_map (λ x. x.name) o) []) at in
        meant ds h says (Within k) (Within k) (AVariable v.kind) slot (called_slot m slot) (eq-eqb k k refl)
        (record { head = m; there = is; slot = at ∙ (λ i. Some (record { kind = v.kind; name = sym text i })) })
