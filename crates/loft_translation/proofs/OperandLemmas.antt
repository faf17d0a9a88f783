-- The operands of statements that stand where a thread goes through them pass the tests of code.
use Rattle.std.proofs.Common.{◌≡◌, ℕ, zero, suc, ◌<◌, ◌≤◌, Bool, true, false, List, [], ◌∷◌, ◌++◌, length, Option, Some, None, slice_get, refl, sym, ap, ◌∙◌, subst, arith}
use Rattle.std.specs.Prelude.{is_some}
use Rattle.std.proofs.lemmas.Bool.{and_from, lt-ltb, eq-eqb}
use Rattle.std.proofs.lemmas.Option.{slice_get_within}
use Rattle.loft_base.specs.declared.ids.SharedId.{SharedId}
use Rattle.loft_base.specs.declared.ids.ModuleId.{ModuleId}
use Rattle.loft_tree.specs.declared.limits.TheConstants.{MAX_NESTING}
use Rattle.loft_tree.specs.declared.kinds.Kind.{Kind}
use Rattle.loft_tree.specs.declared.kinds.Kind.TheVariants.{Int, Thread}
use Rattle.loft_tree.specs.declared.kinds.BinaryOperator.{BinaryOperator}
use Rattle.loft_tree.specs.declared.heads.Place.{Place}
use Rattle.loft_tree.specs.declared.heads.Place.TheVariants.{Sched, Unlinked}
use Rattle.loft_tree.specs.declared.heads.Signature.{Signature}
use Rattle.loft_tree.specs.declared.heads.Heads.{Heads}
use Rattle.loft_tree.specs.declared.named.Target.{Target}
use Rattle.loft_tree.specs.declared.named.Target.TheVariants as target
use Rattle.loft_tree.specs.Fits.{Each, IfThere}
use Rattle.loft_tree.specs.HeadsFit.{kinds_of}
use Rattle.loft_tree.specs.KindOf.{compares}
use Rattle.loft_tree.specs.Levels.{Shape, Signed, Joined, shape_nesting, shape_operands}
use Rattle.loft_tree.specs.NamedTree as tree
use Rattle.loft_tree.specs.NamedTree.{EventUse, NamedExpression}
use Rattle.loft_tree.specs.NamedFits as named
use Rattle.loft_tree.specs.NamedFits.{OperandsAgree}
use Rattle.loft_tree.specs.Resolved.{Exp, exp_of, exp_if, exps_of, target_of, events_of}
use Rattle.loft_tree.specs.Resolved as resolved
use Rattle.loft_place.specs.Links as links
use Rattle.loft_place.specs.Links.{Need, IsThere, IsMet, AreMet, term_needs, terms_needs, value_needs, target_needs, event_need, events_needs, shared_home, event_home}
use Rattle.loft_code.specs.Fits.{NumbersFit, ExpFits}
use Rattle.loft_code.specs.Fits as fits
use Rattle.loft_code.specs.Names.{has_shared, has_event, has_events, has_module, exp_has, value_has, exps_have, target_has}
use Rattle.loft_code.specs.Places.{same_place, shared_at, event_at, begins_at, event_is_here, shared_is_here, exp_is_here, value_is_here, exps_are_here, target_is_here, events_are_here}
use Rattle.loft_code.specs.Kinds.{same_kind, kind_or_int, operands_agree, kind_of, agrees, has_kind, int_if, agrees_if, arguments_agree, call_agrees, target_kind}

-- ---- lists, places and kinds

pub met_left : (ms ns : List Need) → AreMet (ms ++ ns) → AreMet ms
met_left [] ns met = tt
met_left (m ∷ ms) ns met = (met.0, met_left ms ns met.1)

pub met_right : (ms ns : List Need) → AreMet (ms ++ ns) → AreMet ns
met_right [] ns met = met
met_right (m ∷ ms) ns met = met_right ms ns met.1

within_some : {A : Type 0} (xs : List A) (k : ℕ) → k < length xs → (x : A) × (slice_get xs k ≡ Some x)
within_some [] k h = absurd (omega arith)
within_some (x ∷ xs) zero h = (x, refl)
within_some (x ∷ xs) (suc k) h = within_some xs k (omega arith)

same_place_self : (p : Place) → same_place p p ≡ true
same_place_self (Sched s) = eq-eqb s.0 s.0 refl
same_place_self Unlinked = refl

pub same_place_from : (p q : Place) → p ≡ q → same_place p q ≡ true
same_place_from p q e = ap (same_place p) (sym e) ∙ same_place_self p

same_kind_self : (kind : Kind) → same_kind kind kind ≡ true
same_kind_self Int = refl
same_kind_self Thread = refl

pub same_kind_from : (j k : Kind) → j ≡ k → same_kind j k ≡ true
same_kind_from j k e = ap (same_kind j) (sym e) ∙ same_kind_self j

there_is : (needs here : Place) → IsThere needs here true → needs ≡ here
there_is needs (Sched s) met = met
there_is needs Unlinked met = absurd met

-- ---- shapes

joined_same : (operator : BinaryOperator) (a b c d : Shape) → a ≡ b → c ≡ d → Joined operator a c ≡ Joined operator b d
joined_same operator a b c d e f = ap (λ s. Joined operator s c) e ∙ ap (λ s. Joined operator b s) f

shape_same : (e : NamedExpression) → fits.shape_of (exp_of e) ≡ named.shape_of e
shape_same (tree.Number value) = refl
shape_same (tree.Slot slot) = refl
shape_same (tree.Shared at x) = refl
shape_same (tree.Special builtin) = refl
shape_same (tree.Unary operator e) = ap (λ s. Signed s) (shape_same e)
shape_same (tree.Binary operator a b) = joined_same operator _ _ _ _ (shape_same a) (shape_same b)

module _ (h : Heads) (slots : List Kind) (here : Place) where
  -- ---- what a statement names

  shared_passes : (at : ℕ) (x : SharedId) → x.0 < length h.shared → AreMet (links.shared_need h here at x ∷ []) → (has_shared h x ≡ true) × (shared_is_here h here x ≡ true)
  shared_passes at x declared met =
      let head = within_some h.shared x.0 declared in
      let there : IsThere (shared_home (Some head.0)) here true = subst (λ o. IsThere (shared_home o) here true) head.1 met.0 in
      let is : same_place (Sched head.0.scheduler) here ≡ true = same_place_from (Sched head.0.scheduler) here (there_is (Sched head.0.scheduler) here there) in
      (lt-ltb x.0 (length h.shared) declared, ap (shared_at here) head.1 ∙ is)

  pub event_passes : (e : EventUse) → e.event.0 < length h.events → IsMet (event_need h here e) → (has_event h e.event ≡ true) × (event_is_here h here e.event ≡ true)
  event_passes e declared met =
      let head = within_some h.events e.event.0 declared in
      let there : event_home (Some head.0) ≡ here = subst (λ o. event_home o ≡ here) head.1 met in
      (lt-ltb e.event.0 (length h.events) declared, ap (event_at here) head.1 ∙ same_place_from (Sched head.0.scheduler) here there)

  pub events_pass : (es : List EventUse) → Each (named.IsEvent h slots) es → AreMet (events_needs h here es) → (has_events h (events_of es) ≡ true) × (events_are_here h here (events_of es) ≡ true)
  events_pass [] declared met = (refl, refl)
  events_pass (e ∷ es) declared met =
      let first = event_passes e declared.0 met.0 in
      let others = events_pass es declared.1 met.1 in
      (and_from _ _ first.0 others.0, and_from _ _ first.1 others.1)

  -- ---- expressions

  -- an expression of this kind, all of which is declared and here
  pub record ExpPasses (kind : Kind) (e : Exp) : Type 0 where
    pub has : exp_has h slots e ≡ true
    pub is_here : exp_is_here h here e ≡ true
    pub agrees : agrees slots e ≡ true
    pub kind_is : kind_of slots e ≡ kind
    pub numbers : NumbersFit e

  -- two operands that agree by their kinds
  operands_pass : (b : Bool) (a c : NamedExpression) → OperandsAgree b (named.HasKind h slots a) (named.HasKind h slots c)
      → ((kind : Kind) → named.HasKind h slots a kind → ExpPasses kind (exp_of a)) → ((kind : Kind) → named.HasKind h slots c kind → ExpPasses kind (exp_of c))
      → (j : Kind) × (k : Kind) × ExpPasses j (exp_of a) × ExpPasses k (exp_of c) × (operands_agree b j k ≡ true)
  operands_pass true a c agree f g = (agree.0, agree.0, f agree.0 agree.1, g agree.0 agree.2, same_kind_self agree.0)
  operands_pass false a c agree f g = (Int, Int, f Int agree.0, g Int agree.1, refl)

  exp_passes : (e : NamedExpression) (kind : Kind) → named.HasKind h slots e kind → AreMet (term_needs h here e) → ExpPasses kind (exp_of e)
  exp_passes (tree.Number value) kind has met = record { has = refl; is_here = refl; agrees = refl; kind_is = sym has.1; numbers = has.0 }
  exp_passes (tree.Slot slot) kind has met = record { has = ap (λ (o : Option Kind). is_some o) has; is_here = refl; agrees = refl; kind_is = ap kind_or_int has; numbers = tt }
  exp_passes (tree.Shared at x) kind has met =
      let there = shared_passes at x has.0 met in
      record { has = there.0; is_here = there.1; agrees = refl; kind_is = sym has.1; numbers = tt }
  exp_passes (tree.Special builtin) kind has met = record { has = refl; is_here = refl; agrees = refl; kind_is = sym has; numbers = tt }
  exp_passes (tree.Unary operator e) kind has met =
      let inside = exp_passes e Int has.0 met in
      record { has = inside.has; is_here = inside.is_here; agrees = and_from _ _ inside.agrees (same_kind_from _ _ inside.kind_is); kind_is = sym has.1; numbers = inside.numbers }
  exp_passes (tree.Binary operator a b) kind has met =
      let both = operands_pass (compares operator) a b has.0
      (λ k is. exp_passes a k is (met_left (term_needs h here a) (term_needs h here b) met))
      (λ k is. exp_passes b k is (met_right (term_needs h here a) (term_needs h here b) met)) in
      let left = both.2 in
      let right = both.3 in
      let agree : operands_agree (compares operator) (kind_of slots (exp_of a)) (kind_of slots (exp_of b)) ≡ true =
      ap (λ j. operands_agree (compares operator) j (kind_of slots (exp_of b))) left.kind_is ∙ ap (operands_agree (compares operator) both.0) right.kind_is ∙ both.4 in
      record {
        has = and_from _ _ left.has right.has;
        is_here = and_from _ _ left.is_here right.is_here;
        agrees = and_from _ _ (and_from _ _ left.agrees right.agrees) agree;
        kind_is = sym has.1;
        numbers = (left.numbers, right.numbers);
      }

  -- the same, and it is small enough
  pub record OperandPasses (kind : Kind) (e : Exp) : Type 0 where
    pub has : exp_has h slots e ≡ true
    pub is_here : exp_is_here h here e ≡ true
    pub agrees : agrees slots e ≡ true
    pub kind_is : has_kind slots kind e ≡ true
    pub fits : ExpFits e

  pub operand_passes : (n : ℕ) (kind : Kind) (e : NamedExpression) → n ≤ MAX_NESTING → named.IsOf h slots kind n e → AreMet (term_needs h here e) → OperandPasses kind (exp_of e)
  operand_passes n kind e few is met =
      let all = exp_passes e kind is.has met in
      let nesting = ap shape_nesting (shape_same e) in
      let operands = ap shape_operands (shape_same e) in
      record {
        has = all.has;
        is_here = all.is_here;
        agrees = all.agrees;
        kind_is = and_from _ _ all.agrees (same_kind_from _ _ all.kind_is);
        fits = record { numbers = all.numbers; nests = omega (arith, nesting, is.nests, few); few = omega (arith, operands, is.few) };
      }

  -- ---- what may be there, and lists

  -- an int, if there is one
  pub record IntPasses (e : Option Exp) : Type 0 where
    pub has : value_has h slots e ≡ true
    pub is_here : value_is_here h here e ≡ true
    pub kind_is : int_if slots e ≡ true
    pub fits : IfThere ExpFits e

  pub int_passes : (n : ℕ) (e : Option NamedExpression) → n ≤ MAX_NESTING → IfThere (named.IsOf h slots Int n) e → AreMet (value_needs h here e) → IntPasses (exp_if e)
  int_passes n None few is met = record { has = refl; is_here = refl; kind_is = refl; fits = tt }
  int_passes n (Some e) few is met =
      let all = operand_passes n Int e few is met in
      record { has = all.has; is_here = all.is_here; kind_is = all.kind_is; fits = all.fits }

  -- a value of any kind, if there is one
  pub record ValuePasses (e : Option Exp) : Type 0 where
    pub has : value_has h slots e ≡ true
    pub is_here : value_is_here h here e ≡ true
    pub kind_is : agrees_if slots e ≡ true
    pub fits : IfThere ExpFits e

  pub value_passes : (n : ℕ) (e : Option NamedExpression) → n ≤ MAX_NESTING → IfThere (named.IsValue h slots n) e → AreMet (value_needs h here e) → ValuePasses (exp_if e)
  value_passes n None few is met = record { has = refl; is_here = refl; kind_is = refl; fits = tt }
  value_passes n (Some e) few is met =
      let all = operand_passes n is.0 e few is.1 met in
      record { has = all.has; is_here = all.is_here; kind_is = all.agrees; fits = all.fits }

  pub record TargetPasses (kind : Kind) (t : resolved.Target) : Type 0 where
    pub has : target_has h slots t ≡ true
    pub is_here : target_is_here h here t ≡ true
    pub kind_is : target_kind slots t ≡ kind

  pub target_passes : (kind : Kind) (t : Target) → named.TargetHasKind h slots t kind → AreMet (target_needs h here t) → TargetPasses kind (target_of t)
  target_passes kind (target.Slot slot) has met = record { has = ap (λ (o : Option Kind). is_some o) has; is_here = refl; kind_is = ap kind_or_int has }
  target_passes kind (target.Shared at x) has met =
      let there = shared_passes at x has.0 met in
      record { has = there.0; is_here = there.1; kind_is = sym has.1 }

  -- ---- calls

  pub record ArgumentsPass (kinds : List Kind) (es : List Exp) : Type 0 where
    pub has : exps_have h slots es ≡ true
    pub are_here : exps_are_here h here es ≡ true
    pub agree : arguments_agree slots kinds es ≡ true
    pub fit : Each ExpFits es

  arguments_pass : (n : ℕ) (kinds : List Kind) (es : List NamedExpression) → n ≤ MAX_NESTING → named.ArgumentsHold h slots n kinds es → AreMet (terms_needs h here es) → ArgumentsPass kinds (exps_of es)
  arguments_pass n [] [] few hold met = record { has = refl; are_here = refl; agree = refl; fit = tt }
  arguments_pass n [] (e ∷ es) few hold met = absurd hold
  arguments_pass n (k ∷ ks) [] few hold met = absurd hold
  arguments_pass n (k ∷ ks) (e ∷ es) few hold met =
      let first = operand_passes n k e few hold.0 (met_left (term_needs h here e) (terms_needs h here es) met) in
      let others = arguments_pass n ks es few hold.1 (met_right (term_needs h here e) (terms_needs h here es) met) in
      record {
        has = and_from _ _ first.has others.has;
        are_here = and_from _ _ first.is_here others.are_here;
        agree = and_from _ _ first.kind_is others.agree;
        fit = (first.fits, others.fit);
      }

  -- a module that is declared, with arguments that it takes
  pub record CallPasses (m : ModuleId) (es : List Exp) : Type 0 where
    pub has : has_module h m ≡ true
    pub arguments : exps_have h slots es ≡ true
    pub are_here : exps_are_here h here es ≡ true
    pub agrees : call_agrees slots (slice_get h.modules m.0) es ≡ true
    pub fit : Each ExpFits es

  call_by : (n : ℕ) (m : ModuleId) (o : Option Signature) (es : List NamedExpression) → n ≤ MAX_NESTING → slice_get h.modules m.0 ≡ o → named.IsCall h slots n o es → AreMet (terms_needs h here es) → CallPasses m (exps_of es)
  call_by n m None es few at is met = absurd is
  call_by n m (Some head) es few at is met =
      let all = arguments_pass n (kinds_of head.parameters) es few is met in
      record {
        has = lt-ltb m.0 (length h.modules) (slice_get_within h.modules m.0 head at);
        arguments = all.has;
        are_here = all.are_here;
        agrees = ap (λ (s : Option Signature). call_agrees slots s (exps_of es)) at ∙ all.agree;
        fit = all.fit;
      }

  pub call_passes : (n : ℕ) (m : ModuleId) (es : List NamedExpression) → n ≤ MAX_NESTING → named.IsCall h slots n (slice_get h.modules m.0) es → AreMet (terms_needs h here es) → CallPasses m (exps_of es)
  call_passes n m es few is met = call_by n m (slice_get h.modules m.0) es few refl is met

  begins_by : (n : ℕ) (p : Place) (o : Option Signature) (es : List NamedExpression) → named.IsCall h slots n o es → links.begin_of o ≡ p → begins_at p o ≡ true
  begins_by n p None es is begins = absurd is
  begins_by n p (Some head) es is begins = same_place_from head.begin p begins

  -- the module begins where it is to begin
  pub begins_there : (n : ℕ) (m : ModuleId) (p : Place) (es : List NamedExpression) → named.IsCall h slots n (slice_get h.modules m.0) es → links.begin_of (slice_get h.modules m.0) ≡ p → begins_at p (slice_get h.modules m.0) ≡ true
  begins_there n m p es is begins = begins_by n p (slice_get h.modules m.0) es is begins
