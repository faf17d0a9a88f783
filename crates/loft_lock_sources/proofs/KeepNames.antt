-- What keeps away from the names of a lock keeps away from its numbers.
use Rattle.std.proofs.Common.{◌≡◌, ℕ, ◌+◌, ◌==◌, inl, inr, Bool, true, false, List, [], ◌∷◌, map, Some, refl, sym, ap, ◌∙◌, subst}
use Rattle.std.specs.Prelude.{slice_get, if◌then◌else◌}
use Rattle.std.specs.Option.{option_map}
use Rattle.std.proofs.lemmas.Bool.{eqb-true}
use Rattle.loft_base.specs.declared.ids.ModuleId.{ModuleId}
use Rattle.loft_tree.specs.declared.kinds.Kind.{Kind}
use Rattle.loft_tree.specs.declared.kinds.Kind.TheVariants.{Int, Thread}
use Rattle.loft_tree.specs.declared.heads.SharedHead.{SharedHead}
use Rattle.loft_tree.specs.declared.heads.Signature.{Signature}
use Rattle.loft_tree.specs.declared.heads.Heads.{Heads}
use Rattle.loft_tree.specs.Fits.{Each}
use Rattle.loft_tree.specs.Source as src
use Rattle.loft_tree.specs.Source.{Ident, Order, CreateThere, ControlThere, BroadcastThere, Declaration, Scheduler, Event, Shared, Module, Start, Outside, Source}
use Rattle.loft_tree.specs.declared.heads.Start.{Start as StartHead}
use Rattle.loft_tree.specs.declared.heads.Client.{Client}
use Rattle.loft_tree.specs.Resolved as res
use Rattle.loft_tree.specs.NamedTree.{NamedModule}
use Rattle.loft_scopes.specs.declared.scope.Scope.{Scope}
use Rattle.loft_scopes.specs.declared.scope.Scope.TheVariants.{Everywhere, Within}
use Rattle.loft_scopes.specs.Scopes.{Sort, AShared, AModule, AVariable, Declared}
use Rattle.loft_numbers.specs.Numbers as num
use Rattle.loft_numbers.specs.Numbers.{number_or_0, if_shared, shared_or, holder_of, number_of, module_of, held_by, stops_in, body_stops, modules_in, starts_in, clients_in}
use Rattle.loft_names.specs.HeadOf.{HasHead, IsHeadIn, IsModuleHead}
use Rattle.loft_names.specs.NamesHold.{MeansA, IsVariable, StatementAgrees, BodyAgrees, OrderAgrees, UsesAgree}
use Rattle.loft_names.proofs.HeadsMeaning.{meaning_has}
use Rattle.loft_locks.specs.Locks.{Lock, Takes, Gives, Other, call_of, TargetKeeps, OrderKeeps}
use Rattle.loft_locks.specs.Marked.{StepKeeps, BodyKeeps}
use Rattle.loft_lock_sources.specs.SourceLocks.{LockNames, SetsOther, MakesOther, StatementKeeps, StatementsKeep, OrderMakesOther, DeclarationKeeps}
use Rattle.loft_lock_sources.proofs.NameLemmas.{meant_is}

-- a module with another number than those of a lock is none of its modules
pub other_call : (l : Lock) (m : ModuleId) → (m.0 ≡ l.takes.0 → ⊥) → (m.0 ≡ l.gives.0 → ⊥) → call_of l m ≡ Other
other_call l m a b = by (m.0 == l.takes.0) (m.0 == l.gives.0) refl refl
  where
    by : (x y : Bool) → (m.0 == l.takes.0) ≡ x → (m.0 == l.gives.0) ≡ y → (if x then Takes else (if y then Gives else Other)) ≡ Other
    by true y e f = absurd (a (eqb-true m.0 l.takes.0 e))
    by false true e f = absurd (b (eqb-true m.0 l.gives.0 f))
    by false false e f = refl

-- the bodies of modules, as they run
abbrev pub map_bodies : List NamedModule → List res.Body
map_bodies ms = map (λ (m : NamedModule). res.body_of m.body) ms

module _ (h : Heads) where
  shared_named : (scope : Scope) (number : ℕ) (text : List ℕ) → IsHeadIn h scope AShared number text → option_map (λ (x : SharedHead). x.name) (slice_get h.shared number) ≡ Some text
  shared_named Everywhere number text has = has
  shared_named (Within m) number text has = absurd has

  module_named : (scope : Scope) (number : ℕ) (text : List ℕ) (kinds : List Kind) → IsHeadIn h scope (AModule kinds) number text → IsModuleHead h number text kinds
  module_named Everywhere number text kinds has = has
  module_named (Within m) number text kinds has = absurd has

-- the numbers of a lock are those of heads with its names
pub record HasNumbers (h : Heads) (l : Lock) (n : LockNames) : Type 0 where
  pub variable : SharedHead
  pub declared : slice_get h.shared l.held.0 ≡ Some variable
  pub named : variable.name ≡ n.held
  pub taker : Signature
  pub takes : slice_get h.modules l.takes.0 ≡ Some taker
  pub takes_named : taker.name ≡ n.takes
  pub giver : Signature
  pub gives : slice_get h.modules l.gives.0 ≡ Some giver
  pub gives_named : giver.name ≡ n.gives

module _ (h : Heads) (ds : List Declared) (each : Each (HasHead h) ds) (l : Lock) (n : LockNames) (has : HasNumbers h l n) where
  module _ (scope : Scope) where
    -- ---- names that are set and called

    other_shared : (name : Ident) (m : MeansA ds scope AShared name) → SetsOther n name → m.declaration.number ≡ l.held.0 → ⊥
    other_shared name m other e =
        let d = m.declaration in
        let own : HasHead h d = meaning_has h ds each scope name d m.means in
        let sorted : IsHeadIn h d.scope AShared d.number d.name.text = subst (λ (t : Sort). IsHeadIn h d.scope t d.number d.name.text) m.sorted own in
        let text : option_map (λ (x : SharedHead). x.name) (slice_get h.shared l.held.0) ≡ Some d.name.text = subst (λ k. option_map (λ (x : SharedHead). x.name) (slice_get h.shared k) ≡ Some d.name.text) e (shared_named h d.scope d.number d.name.text sorted) in
        let held : Some has.variable.name ≡ Some d.name.text = sym (ap (λ o. option_map (λ (x : SharedHead). x.name) o) has.declared) ∙ text in
        let same : has.variable.name ≡ d.name.text = cc in
        other (sym (meant_is ds scope name d m.means).1 ∙ (sym same ∙ has.named))

    target_holds : (at number : ℕ) (sort : Sort) → sort ≡ AShared → (number ≡ l.held.0 → ⊥) → TargetKeeps l (res.target_of (held_by ds scope at (shared_or (if_shared sort number) number)))
    target_holds at number sort e other = subst (λ (t : Sort). TargetKeeps l (res.target_of (held_by ds scope at (shared_or (if_shared t number) number)))) (sym e) other

    slot_holds : (at number : ℕ) (kind : Kind) (sort : Sort) → sort ≡ AVariable kind → TargetKeeps l (res.target_of (held_by ds scope at (shared_or (if_shared sort number) number)))
    slot_holds at number kind sort e = subst (λ (t : Sort). TargetKeeps l (res.target_of (held_by ds scope at (shared_or (if_shared t number) number)))) (sym e) tt

    sets_other : (kind : Kind) (name : Ident) → IsVariable ds scope kind name → SetsOther n name → TargetKeeps l (res.target_of (num.target_of ds scope name))
    sets_other kind name (inl m) other =
        subst (λ o. TargetKeeps l (res.target_of (held_by ds scope name.at (holder_of o)))) (sym m.means) (slot_holds name.at m.declaration.number kind m.declaration.sort m.sorted)
    sets_other kind name (inr (m, is)) other =
        subst (λ o. TargetKeeps l (res.target_of (held_by ds scope name.at (holder_of o)))) (sym m.means) (target_holds name.at m.declaration.number m.declaration.sort m.sorted (other_shared name m other))

    pub makes_other : (name : Ident) (kinds : List Kind) → MeansA ds scope (AModule kinds) name → MakesOther n name → call_of l (module_of ds scope name) ≡ Other
    makes_other name kinds m other =
        let d = m.declaration in
        let own : HasHead h d = meaning_has h ds each scope name d m.means in
        let head = module_named h d.scope d.number d.name.text kinds (subst (λ (t : Sort). IsHeadIn h d.scope t d.number d.name.text) m.sorted own) in
        let number : number_of ds scope name ≡ d.number = ap number_or_0 m.means in
        let text = (meant_is ds scope name d m.means).1 in
        other_call l (module_of ds scope name)
        (λ e.
        let at : slice_get h.modules l.takes.0 ≡ Some head.head = subst (λ k. slice_get h.modules k ≡ Some head.head) (sym number ∙ e) head.there in
        let both : Some has.taker ≡ Some head.head = sym has.takes ∙ at in
        let same : has.taker ≡ head.head = cc in
        let named : has.taker.name ≡ d.name.text = ap (λ (g : Signature). g.name) same ∙ head.named in
        other.0 (sym text ∙ (sym named ∙ has.takes_named)))
        (λ e.
        let at : slice_get h.modules l.gives.0 ≡ Some head.head = subst (λ k. slice_get h.modules k ≡ Some head.head) (sym number ∙ e) head.there in
        let both : Some has.giver ≡ Some head.head = sym has.gives ∙ at in
        let same : has.giver ≡ head.head = cc in
        let named : has.giver.name ≡ d.name.text = ap (λ (g : Signature). g.name) same ∙ head.named in
        other.1 (sym text ∙ (sym named ∙ has.gives_named)))

    -- ---- statements

    mutual
      statement_keeps : (s : src.Statement) (k : ℕ) → StatementAgrees ds scope s → StatementKeeps n s → StepKeeps l (res.step_of (num.statement_of ds scope s k))
      statement_keeps (src.Assign target value) k agrees keeps = sets_other agrees.0 target agrees.1 keeps
      statement_keeps (src.AssignCreate target at creation) k agrees keeps = (sets_other Thread target agrees.0 keeps.0, makes_other creation.called agrees.1.1.0 agrees.1.1.1 keeps.1)
      statement_keeps (src.Create at creation) k agrees keeps = (tt, makes_other creation.called agrees.1.0 agrees.1.1 keeps)
      statement_keeps (src.PrintText at line value) k agrees keeps = tt
      statement_keeps (src.PrintValue at value) k agrees keeps = tt
      statement_keeps (src.Cooperate at instants) k agrees keeps = tt
      statement_keeps (src.Generate at event value) k agrees keeps = tt
      statement_keeps (src.Await at event limit) k agrees keeps = tt
      statement_keeps (src.Select at events limit) k agrees keeps = tt
      statement_keeps (src.Get at event index target) k agrees keeps = sets_other Int target agrees.2 keeps
      statement_keeps (src.Join at thread limit) k agrees keeps = tt
      statement_keeps (src.ControlThread at control thread scheduler) k agrees keeps = tt
      statement_keeps (src.Broadcast at event value) k agrees keeps = tt
      statement_keeps (src.Link at scheduler) k agrees keeps = tt
      statement_keeps (src.Unlink at) k agrees keeps = tt
      statement_keeps (src.Run at called arguments) k agrees keeps = tt
      statement_keeps (src.Halt at) k agrees keeps = tt
      statement_keeps (src.If at test x y) k agrees keeps = (body_keeps x k agrees.1 keeps.0, body_keeps y (k + body_stops x) agrees.2 keeps.1)
      statement_keeps (src.While at test x) k agrees keeps = body_keeps x k agrees.1 keeps
      statement_keeps (src.Repeat at count x) k agrees keeps = body_keeps x k agrees.1 keeps

      pub body_keeps : (b : src.Statements) (k : ℕ) → BodyAgrees ds scope b → StatementsKeep n b → BodyKeeps l (res.body_of (num.body_of ds scope b k))
      body_keeps src.Done k agrees keeps = tt
      body_keeps (src.Then s b) k agrees keeps = (statement_keeps s k agrees.0 keeps.0, body_keeps b (k + stops_in s) agrees.1 keeps.1)

    orders_keep : (os : List Order) → Each (OrderAgrees ds scope) os → Each (OrderMakesOther n) os → Each (OrderKeeps l) (num.client_orders ds scope os)
    orders_keep [] agrees keeps = tt
    orders_keep (CreateThere scheduler called arguments ∷ os) agrees keeps = (makes_other called agrees.0.1 agrees.0.2 keeps.0, orders_keep os agrees.1 keeps.1)
    orders_keep (ControlThere c thread scheduler ∷ os) agrees keeps = (tt, orders_keep os agrees.1 keeps.1)
    orders_keep (BroadcastThere event value ∷ os) agrees keeps = (tt, orders_keep os agrees.1 keeps.1)

  -- ---- declarations

  -- bodies of modules that keep away
  pub bodies_keep : (m : ℕ) (s : Source) → UsesAgree ds m s → Each (DeclarationKeeps n) s → Each (λ (b : res.Body). BodyKeeps l b) (map_bodies (modules_in ds m s))
  bodies_keep m [] uses keeps = tt
  bodies_keep m (Scheduler name ∷ s) uses keeps = bodies_keep m s uses.1 keeps.1
  bodies_keep m (Event name scheduler ∷ s) uses keeps = bodies_keep m s uses.1 keeps.1
  bodies_keep m (Shared name scheduler value ∷ s) uses keeps = bodies_keep m s uses.1 keeps.1
  bodies_keep m (Module head locals body ∷ s) uses keeps = (body_keeps (Within m) body 0 uses.0.2 keeps.0, bodies_keep (m + 1) s uses.1 keeps.1)
  bodies_keep m (Start scheduler called arguments name ∷ s) uses keeps = bodies_keep m s uses.1 keeps.1
  bodies_keep m (Outside name orders ∷ s) uses keeps = bodies_keep m s uses.1 keeps.1

  -- what is started and made outside bodies, of a source whose modules may be any
  abbrev pub OuterKeeps : Declaration → Type 0
  OuterKeeps (Scheduler name) = Unit {0}
  OuterKeeps (Event name scheduler) = Unit {0}
  OuterKeeps (Shared name scheduler value) = Unit {0}
  OuterKeeps (Module head locals body) = Unit {0}
  OuterKeeps (Start scheduler called arguments name) = MakesOther n called
  OuterKeeps (Outside name orders) = Each (OrderMakesOther n) orders

  pub outer_keeps : (s : Source) → Each (DeclarationKeeps n) s → Each OuterKeeps s
  outer_keeps [] f = tt
  outer_keeps (Scheduler name ∷ s) f = (tt, outer_keeps s f.1)
  outer_keeps (Event name scheduler ∷ s) f = (tt, outer_keeps s f.1)
  outer_keeps (Shared name scheduler value ∷ s) f = (tt, outer_keeps s f.1)
  outer_keeps (Module head locals body ∷ s) f = (tt, outer_keeps s f.1)
  outer_keeps (Start scheduler called arguments name ∷ s) f = (f.0, outer_keeps s f.1)
  outer_keeps (Outside name orders ∷ s) f = (f.0, outer_keeps s f.1)

  pub starts_keep : (m : ℕ) (s : Source) → UsesAgree ds m s → Each OuterKeeps s → Each (λ (t : StartHead). call_of l t.module ≡ Other) (starts_in ds s)
  starts_keep m [] uses keeps = tt
  starts_keep m (Scheduler name ∷ s) uses keeps = starts_keep m s uses.1 keeps.1
  starts_keep m (Event name scheduler ∷ s) uses keeps = starts_keep m s uses.1 keeps.1
  starts_keep m (Shared name scheduler value ∷ s) uses keeps = starts_keep m s uses.1 keeps.1
  starts_keep m (Module head locals body ∷ s) uses keeps = starts_keep (m + 1) s uses.1 keeps.1
  starts_keep m (Start scheduler called arguments name ∷ s) uses keeps = (makes_other Everywhere called uses.0.1 uses.0.2 keeps.0, starts_keep m s uses.1 keeps.1)
  starts_keep m (Outside name orders ∷ s) uses keeps = starts_keep m s uses.1 keeps.1

  pub clients_keep : (m : ℕ) (s : Source) → UsesAgree ds m s → Each OuterKeeps s → Each (λ (c : Client). Each (OrderKeeps l) c.orders) (clients_in ds s)
  clients_keep m [] uses keeps = tt
  clients_keep m (Scheduler name ∷ s) uses keeps = clients_keep m s uses.1 keeps.1
  clients_keep m (Event name scheduler ∷ s) uses keeps = clients_keep m s uses.1 keeps.1
  clients_keep m (Shared name scheduler value ∷ s) uses keeps = clients_keep m s uses.1 keeps.1
  clients_keep m (Module head locals body ∷ s) uses keeps = clients_keep (m + 1) s uses.1 keeps.1
  clients_keep m (Start scheduler called arguments name ∷ s) uses keeps = clients_keep m s uses.1 keeps.1
  clients_keep m (Outside name orders ∷ s) uses keeps = (orders_keep Everywhere orders uses.0 keeps.0, clients_keep m s uses.1 keeps.1)
