-- The bodies of a placed program whose names are correct fit.
use Rattle.std.proofs.Common.{◌≡◌, ℕ, zero, suc, ◌<◌, Bool, true, false, List, [], ◌∷◌, ◌++◌, map, length, Option, Some, None, slice_get, refl, sym, ap, ◌∙◌, subst, unwrap_or}
use Rattle.loft_base.specs.declared.ids.SharedId.{SharedId}
use Rattle.loft_base.specs.declared.ids.ModuleId.{ModuleId}
use Rattle.loft_tree.specs.declared.kinds.Kind.{Kind}
use Rattle.loft_tree.specs.declared.kinds.Kind.TheVariants.{Int, Thread}
use Rattle.loft_tree.specs.declared.heads.Place.{Place}
use Rattle.loft_tree.specs.declared.heads.Place.TheVariants.{Sched, Unlinked}
use Rattle.loft_tree.specs.declared.heads.Signature.{Signature}
use Rattle.loft_tree.specs.declared.heads.Heads.{Heads}
use Rattle.loft_tree.specs.declared.named.Target.{Target}
use Rattle.loft_tree.specs.declared.named.Target.TheVariants as target
use Rattle.loft_tree.specs.Fits.{Each, IfThere}
use Rattle.loft_tree.specs.HeadsFit.{kinds_of}
use Rattle.loft_tree.specs.KindOf.{compares}
use Rattle.loft_tree.specs.NamedTree as tree
use Rattle.loft_tree.specs.NamedTree.{EventUse, NamedExpression, NamedCreation, NamedAction, NamedPause, NamedStatement, NamedStatements, NamedModule, NamedProgram}
use Rattle.loft_tree.specs.NamedFits as named
use Rattle.loft_tree.specs.NamedFits.{OperandsAgree, BodyHolds, BodiesHold, NamedFits, StatementHolds, StatementsHold, slots_of}
use Rattle.loft_tree.specs.Resolved.{Empty, Body, exp_of, exp_if, exps_of, target_of, target_if, events_of, action_of, pause_of, step_of, body_of, resolved_of}
use Rattle.loft_place.specs.Links as links
use Rattle.loft_place.specs.Links.{Need, IsThere, IsMet, AreMet, AllowedAt, linked_action, linked_pause, left_by_pause, term_needs, terms_needs, value_needs, target_needs, made_needs, event_need, events_needs, creation_needs, action_needs, pause_needs, shared_home, GoesThrough, Goes, IsPlaced}
use Rattle.loft_place.proofs.Declared.{module_goes}
use Rattle.loft_sense.specs.Tree.{body_at}
use Rattle.loft_sense.specs.Stands.{begin_of, begin_or_unlinked, end_or_unlinked, place_after, leads_step, leads}
use Rattle.loft_soundness.proofs.ListLemmas.{within_some}
use Rattle.loft_soundness.specs.WorkFits.{IsShared, IsEvent, HasKind, IsInt, HasSomeKind, TargetHasKind, ArgumentsFit, CallFits, ActionFits, PauseFits, StepFits, BodyFits}

-- ---- needs and places

met_left : (ms ns : List Need) → AreMet (ms ++ ns) → AreMet ms
met_left [] ns met = tt
met_left (m ∷ ms) ns met = (met.0, met_left ms ns met.1)

met_right : (ms ns : List Need) → AreMet (ms ++ ns) → AreMet ns
met_right [] ns met = met
met_right (m ∷ ms) ns met = met_right ms ns met.1

there_is : (needs here : Place) → IsThere needs here true → needs ≡ here
there_is needs (Sched s) met = met
there_is needs Unlinked met = absurd met

begin_same : (o : Option Signature) → links.begin_of o ≡ begin_or_unlinked o
begin_same None = refl
begin_same (Some m) = refl

pub end_same : (o : Option Signature) → links.end_of o ≡ end_or_unlinked o
end_same None = refl
end_same (Some m) = refl

pub left_same : (pause : NamedPause) (p : Place) → place_after (pause_of pause) p ≡ left_by_pause p pause
left_same (tree.Cooperate instants) p = refl
left_same (tree.Await events limit) p = refl
left_same (tree.Get event index target) p = refl
left_same (tree.Join thread limit) p = refl
left_same (tree.Link s) p = refl
left_same tree.Unlink p = refl
left_same tree.Halt p = refl

operands_map : (b : Bool) (L R M S : Kind → Type 0) → ((kind : Kind) → L kind → M kind) → ((kind : Kind) → R kind → S kind) → OperandsAgree b L R → OperandsAgree b M S
operands_map true L R M S f g h = (h.0, f h.0 h.1, g h.0 h.2)
operands_map false L R M S f g h = (f Int h.0, g Int h.1)

module _ (h : Heads) (slots : List Kind) (here : Place) where
  -- ---- what a statement names

  shared_fits : (at : ℕ) (x : SharedId) → x.0 < length h.shared → AreMet (links.shared_need h here at x ∷ []) → IsShared h here x
  shared_fits at x declared met =
      let head = within_some h.shared x.0 declared in
      let there : IsThere (shared_home (Some head.0)) here true = subst (λ o. IsThere (shared_home o) here true) head.1 met.0 in
      (head.0, head.1, there_is (Sched head.0.scheduler) here there)

  event_fits : (e : EventUse) → e.event.0 < length h.events → IsMet (event_need h here e) → IsEvent h here e.event
  event_fits e declared met =
      let head = within_some h.events e.event.0 declared in
      let there : links.event_home (Some head.0) ≡ here = subst (λ o. links.event_home o ≡ here) head.1 met in
      (head.0, head.1, there)

  events_fit : (es : List EventUse) → Each (named.IsEvent h slots) es → AreMet (events_needs h here es) → Each (IsEvent h here) (events_of es)
  events_fit [] declared met = tt
  events_fit (e ∷ es) declared met = (event_fits e declared.0 met.0, events_fit es declared.1 met.1)

  -- ---- expressions

  exp_fits : (e : NamedExpression) (kind : Kind) → named.HasKind h slots e kind → AreMet (term_needs h here e) → HasKind h slots here (exp_of e) kind
  exp_fits (tree.Number value) kind has met = has.1
  exp_fits (tree.Slot slot) kind has met = has
  exp_fits (tree.Shared at x) kind has met = (shared_fits at x has.0 met, has.1)
  exp_fits (tree.Special builtin) kind has met = has
  exp_fits (tree.Unary operator e) kind has met = (exp_fits e Int has.0 met, has.1)
  exp_fits (tree.Binary operator a b) kind has met = (
    operands_map (compares operator) (named.HasKind h slots a) (named.HasKind h slots b) (HasKind h slots here (exp_of a)) (HasKind h slots here (exp_of b))
        (λ k has. exp_fits a k has (met_left (term_needs h here a) (term_needs h here b) met))
        (λ k has. exp_fits b k has (met_right (term_needs h here a) (term_needs h here b) met)) has.0,
    has.1,
  )

  int_fits : (n : ℕ) (e : NamedExpression) → named.IsOf h slots Int n e → AreMet (term_needs h here e) → IsInt h slots here (exp_of e)
  int_fits n e is met = exp_fits e Int is.has met

  int_if : (n : ℕ) (e : Option NamedExpression) → IfThere (named.IsOf h slots Int n) e → AreMet (value_needs h here e) → IfThere (IsInt h slots here) (exp_if e)
  int_if n None is met = tt
  int_if n (Some e) is met = int_fits n e is met

  value_fits : (n : ℕ) (e : NamedExpression) → named.IsValue h slots n e → AreMet (term_needs h here e) → HasSomeKind h slots here (exp_of e)
  value_fits n e is met = (is.0, exp_fits e is.0 is.1.has met)

  value_if : (n : ℕ) (e : Option NamedExpression) → IfThere (named.IsValue h slots n) e → AreMet (value_needs h here e) → IfThere (HasSomeKind h slots here) (exp_if e)
  value_if n None is met = tt
  value_if n (Some e) is met = value_fits n e is met

  target_fits : (kind : Kind) (t : Target) → named.TargetHasKind h slots t kind → AreMet (target_needs h here t) → TargetHasKind h slots here kind (target_of t)
  target_fits kind (target.Slot slot) has met = has
  target_fits kind (target.Shared at x) has met = (shared_fits at x has.0 met, has.1)

  made_fits : (t : Option Target) → IfThere (λ t. named.TargetHasKind h slots t Thread) t → AreMet (made_needs h here t) → IfThere (TargetHasKind h slots here Thread) (target_if t)
  made_fits None has met = tt
  made_fits (Some t) has met = target_fits Thread t has met

  arguments_fit : (n : ℕ) (kinds : List Kind) (es : List NamedExpression) → named.ArgumentsHold h slots n kinds es → AreMet (terms_needs h here es) → ArgumentsFit h slots here kinds (exps_of es)
  arguments_fit n [] [] hold met = tt
  arguments_fit n [] (e ∷ es) hold met = absurd hold
  arguments_fit n (k ∷ ks) [] hold met = absurd hold
  arguments_fit n (k ∷ ks) (e ∷ es) hold met = (
    exp_fits e k hold.0.has (met_left (term_needs h here e) (terms_needs h here es) met),
    arguments_fit n ks es hold.1 (met_right (term_needs h here e) (terms_needs h here es) met),
  )

  call_by : (n : ℕ) (m : ModuleId) (o : Option Signature) (es : List NamedExpression) → slice_get h.modules m.0 ≡ o → named.IsCall h slots n o es → AreMet (terms_needs h here es) → CallFits h slots here m (exps_of es)
  call_by n m None es at is met = absurd is
  call_by n m (Some head) es at is met = (head, at, arguments_fit n (kinds_of head.parameters) es is met)

  call_fits : (n : ℕ) (m : ModuleId) (es : List NamedExpression) → named.IsCall h slots n (slice_get h.modules m.0) es → AreMet (terms_needs h here es) → CallFits h slots here m (exps_of es)
  call_fits n m es is met = call_by n m (slice_get h.modules m.0) es refl is met

  begins_there : (m : ModuleId) (p : Place) → links.begin_of (slice_get h.modules m.0) ≡ p → begin_of h m ≡ p
  begins_there m p met = sym (begin_same (slice_get h.modules m.0)) ∙ met

  make_fits : (n : ℕ) (c : NamedCreation) → named.CreationHolds h slots n c → AreMet (creation_needs h here c)
      → named.IsScheduler h c.scheduler × (begin_of h c.module ≡ Sched c.scheduler) × CallFits h slots here c.module (exps_of c.arguments)
  make_fits n c holds met = (holds.scheduler, begins_there c.module (Sched c.scheduler) met.0, call_fits n c.module c.arguments holds.call met.1)

  -- ---- actions and pauses

  action_fits : (a : NamedAction) (at n : ℕ) → named.ActionHolds h slots a n → AllowedAt here (linked_action at a) → AreMet (action_needs h here a) → ActionFits h slots here (action_of a)
  action_fits (tree.Assign t e) at n holds allowed met = (
    holds.0,
    target_fits holds.0 t holds.1 (met_left (target_needs h here t) (term_needs h here e) met),
    exp_fits e holds.0 holds.2.has (met_right (target_needs h here t) (term_needs h here e) met),
  )
  action_fits (tree.Make t c) at n holds allowed met =
      let made = make_fits n c holds.1 (met_right (made_needs h here t) (creation_needs h here c) met) in
      (allowed, made_fits t holds.0 (met_left (made_needs h here t) (creation_needs h here c) met), made.0, made.1, made.2)
  action_fits (tree.PrintText line e) at n holds allowed met = (allowed, value_if n e holds.1 met)
  action_fits (tree.PrintValue e) at n holds allowed met = (allowed, value_fits n e holds met)
  action_fits (tree.Generate event e) at n holds allowed met = (event_fits event holds.0 met.0, int_if n e holds.1 met.1)
  action_fits (tree.ControlThread control thread s) at n holds allowed met = (exp_fits thread Thread holds.0.has met, holds.1)
  action_fits (tree.Broadcast event e) at n holds allowed met = (holds.0, int_if n e holds.1 met)

  pause_fits : (a : NamedPause) (at n : ℕ) → named.PauseHolds h slots a n → AllowedAt here (linked_pause at a) → AreMet (pause_needs h here a) → PauseFits h slots here (pause_of a)
  pause_fits (tree.Cooperate e) at n holds allowed met = (allowed, int_if n e holds met)
  pause_fits (tree.Await events e) at n holds allowed met =
      (events_fit events holds.0.each (met_left (events_needs h here events) (value_needs h here e) met), int_if n e holds.1 (met_right (events_needs h here events) (value_needs h here e) met))
  pause_fits (tree.Get event index t) at n holds allowed met = (
    event_fits event holds.0 met.0,
    int_fits n index holds.1 (met_left (term_needs h here index) (target_needs h here t) met.1),
    target_fits Int t holds.2 (met_right (term_needs h here index) (target_needs h here t) met.1),
  )
  pause_fits (tree.Join thread e) at n holds allowed met = (
    allowed,
    exp_fits thread Thread holds.0.has (met_left (term_needs h here thread) (value_needs h here e) met),
    int_if n e holds.1 (met_right (term_needs h here thread) (value_needs h here e) met),
  )
  pause_fits (tree.Link s) at n holds allowed met = holds
  pause_fits tree.Unlink at n holds allowed met = allowed
  pause_fits tree.Halt at n holds allowed met = allowed

-- ---- statements

module _ (h : Heads) (slots : List Kind) where
  -- it fits at p, and leads to q
  abbrev Through : NamedStatement → Place → Place → Type 0
  Through s p q = StepFits h slots (step_of s) p × (leads_step h (step_of s) p ≡ q)

  abbrev ThroughAll : NamedStatements → Place → Place → Type 0
  ThroughAll b p q = BodyFits h slots (body_of b) p × (leads h (body_of b) p ≡ q)

  mutual
    step_fits : (s : NamedStatement) (n : ℕ) (p q : Place) → StatementHolds h slots s n → GoesThrough h p s q → Through s p q
    step_fits (tree.Do at action) n p q holds goes = (action_fits h slots p action at n holds goes.0.allowed goes.0.met, sym goes.1)
    step_fits (tree.Hold at stop pause) n p q holds goes = (pause_fits h slots p pause at n holds goes.0.allowed goes.0.met, left_same pause p ∙ sym goes.1)
    step_fits (tree.Run at stop called m arguments) n p q holds goes =
        ((begins_there h slots p m p goes.0.met.0, call_fits h slots p n m arguments holds goes.0.met.1), sym (end_same (slice_get h.modules m.0)) ∙ sym goes.1)
    step_fits (tree.If at test x y) n p q holds goes =
        let first = body_fits x holds.0 p q holds.3 goes.1 in
        let second = body_fits y holds.0 p q holds.4 goes.2 in
        ((int_fits h slots p holds.0 test holds.2 goes.0.met, first.0, second.0, first.1 ∙ sym second.1), first.1)
    step_fits (tree.While at test x) n p q holds goes =
        let body = body_fits x holds.0 p p holds.3 goes.1 in
        ((int_fits h slots p holds.0 test holds.2 goes.0.met, body.0, body.1), sym goes.2)
    step_fits (tree.Repeat at count x) n p q holds goes =
        let body = body_fits x holds.0 p p holds.3 goes.1 in
        ((int_fits h slots p holds.0 count holds.2 goes.0.met, body.0, body.1), sym goes.2)

    body_fits : (b : NamedStatements) (n : ℕ) (p q : Place) → StatementsHold h slots b n → Goes h p b q → ThroughAll b p q
    body_fits tree.Done n p q holds goes = (tt, sym goes)
    body_fits (tree.Then s rest) n p q holds goes =
        let first = step_fits s n p goes.0 holds.0 goes.1 in
        let others = body_fits rest n goes.0 q holds.1 goes.2 in
        ((first.0, subst (λ r. BodyFits h slots (body_of rest) r) (sym first.1) others.0), ap (λ r. leads h (body_of rest) r) first.1 ∙ others.1)

-- ---- modules

-- the body of a module that is declared
module_body : (h : Heads) (ms : List Signature) (xs : List NamedModule) (k : ℕ) (head : Signature) → BodiesHold h ms xs → slice_get ms k ≡ Some head
    → (x : NamedModule) × (slice_get xs k ≡ Some x) × BodyHolds h head x.body × (unwrap_or (slice_get (map (λ m. body_of m.body) xs) k) Empty ≡ body_of x.body)
module_body h [] [] k head hold at = absurd cc
module_body h [] (x ∷ xs) k head hold at = absurd hold
module_body h (m ∷ ms) [] k head hold at = absurd hold
module_body h (m ∷ ms) (x ∷ xs) zero head hold at = let same : m ≡ head = cc in (x, refl, subst (λ s. BodyHolds h s x.body) same hold.0, refl)
module_body h (m ∷ ms) (x ∷ xs) (suc k) head hold at = module_body h ms xs k head hold.1 at

-- the body of a module fits from where the module begins, and leads to where it ends
pub record ModuleFits (h : Heads) (head : Signature) (b : Body) : Type 0 where
  pub fits : BodyFits h (slots_of head) b head.begin
  pub ends : leads h b head.begin ≡ head.end

pub module_fits : (n : NamedProgram) → NamedFits n → IsPlaced n → (m : ModuleId) (head : Signature) → slice_get n.heads.modules m.0 ≡ Some head
    → ModuleFits n.heads head (body_at (resolved_of n) m)
module_fits n fits placed m head at =
    let x = module_body n.heads n.heads.modules n.modules m.0 head fits.bodies at in
    let goes = module_goes n m head x.0 fits placed (record { head = at; body = x.1 }) in
    let through = body_fits n.heads (slots_of head) x.0.body _ head.begin head.end x.2.statements goes in
    subst (ModuleFits n.heads head) (sym x.3) (record { fits = through.0; ends = through.1 })
