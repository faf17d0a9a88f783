-- Expressions without a fault have their kinds also with numbers.
use Rattle.std.proofs.Common.{◌≡◌, ℕ, ◌<◌, ◌≤◌, true, false, ◌&&◌, zero, suc, List, [], ◌∷◌, ◌++◌, length, Option, Some, None, refl, sym, subst, ap, ◌∙◌}
use Rattle.std.specs.Prelude.{slice_get, if◌then◌else◌}
use Rattle.std.proofs.lemmas.Bool.{and_parts, eqb-true}
use Rattle.loft_tree.specs.declared.kinds.Kind.{Kind}
use Rattle.loft_tree.specs.declared.kinds.Kind.TheVariants.{Int}
use Rattle.loft_tree.specs.declared.heads.SlotHead.{SlotHead}
use Rattle.loft_tree.specs.declared.heads.Signature.{Signature}
use Rattle.loft_tree.specs.declared.heads.Heads.{Heads}
use Rattle.loft_tree.specs.declared.limits.TheConstants.{MAX_OPERANDS}
use Rattle.loft_tree.specs.Source.{Ident, Expression, Number, Variable, Special, Unary, Binary}
use Rattle.loft_tree.specs.Fits.{Each, ExpressionFits, WordsFit, IfThere}
use Rattle.loft_tree.specs.HeadsFit.{kinds_of}
use Rattle.loft_tree.specs.KindOf.{builtin_kind, compares}
use Rattle.loft_tree.specs.Levels as levels
use Rattle.loft_tree.specs.Levels.{Shape, Operand, Signed, Joined, shape_nesting, shape_operands}
use Rattle.loft_tree.specs.NamedFits.{HasKind, IsOf, IsValue, OperandsAgree, TargetHasKind, shape_of, slots_of}
use Rattle.loft_scopes.specs.declared.scope.Scope.{Scope}
use Rattle.loft_scopes.specs.declared.scope.Scope.TheVariants.{Everywhere, Within}
use Rattle.loft_scopes.specs.Scopes.{Sort, AScheduler, AnEvent, AShared, AModule, AStart, AClient, AVariable, Declared, is_seen, meaning, same_name}
use Rattle.loft_scopes.specs.Faults.{allowed, begin_of, expression_faults, kind_faults, kind_in, kind_of, meant, operand_faults, target_faults, unlike, used, use_faults, value_use, wants, wants_if, Use, NotDeclared, OtherSort, Means}
use Rattle.loft_numbers.specs.Numbers.{Holder, InShared, InSlot, held_by, holder_of, if_shared, shared_or, target_of, term_of, value_of, variable_term}
use Rattle.loft_names.specs.HeadOf.{HasHead, IsHeadIn}
use Rattle.loft_names.proofs.HeadsLists.{found_in, mapped_within}
use Rattle.loft_names.proofs.HeadsCalls.{kind_holds}
use Rattle.loft_names.proofs.HeadsMeaning.{meaning_has, none_left, none_right}

-- no faults of two lists are none of each
pub none_of_both : {A : Type 0} (xs ys : List A) → xs ++ ys ≡ [] → (xs ≡ []) × (ys ≡ [])
none_of_both xs ys none = (none_left xs ys none, none_right xs ys none)

-- ---- slots

kinds-append : (vs ws : List SlotHead) → kinds_of (vs ++ ws) ≡ kinds_of vs ++ kinds_of ws
kinds-append [] ws = refl
kinds-append (v ∷ vs) ws = ap (λ ks. v.kind ∷ ks) (kinds-append vs ws)

kinds-get : (vs : List SlotHead) (i : ℕ) (v : SlotHead) → slice_get vs i ≡ Some v → slice_get (kinds_of vs) i ≡ Some v.kind
kinds-get [] i v h = absurd cc
kinds-get (w ∷ vs) zero v h = cc
kinds-get (w ∷ vs) (suc i) v h = kinds-get vs i v h

-- ---- kinds

pub known_kind : (found : Use Kind) (at : ℕ) → use_faults at found ≡ [] → (kind : Kind) × (meant found ≡ Some kind)
known_kind NotDeclared at h = absurd cc
known_kind OtherSort at h = absurd cc
known_kind (Means kind) at h = (kind, refl)

-- a kind that is known and isn't unlike the wanted one
pub wanted_kind : (wanted : Kind) (found : Option Kind) (kind : Kind) (at : ℕ) → found ≡ Some kind → unlike (Some wanted) found at ≡ [] → kind ≡ wanted
wanted_kind wanted found kind at is none = sym (kind_holds wanted kind at (ap (λ o. unlike (Some wanted) o at) (sym is) ∙ none))

-- ---- names in a module

module _ (h : Heads) (ds : List Declared) (each : Each (HasHead h) ds) (m : ℕ) (sig : Signature) (there : slice_get h.modules m ≡ Some sig) where
  -- what holds a value is declared, and has this kind
  abbrev pub HolderHasKind : Holder → Kind → Type 0
  HolderHasKind (InShared shared) kind = (shared.0 < length h.shared) × (kind ≡ Int)
  HolderHasKind (InSlot slot) kind = slice_get (slots_of sig) slot ≡ Some kind

  shared_holds : (scope : Scope) (number : ℕ) (name : List ℕ) → IsHeadIn h scope AShared number name → number < length h.shared
  shared_holds Everywhere number name is = mapped_within (λ x. x.name) h.shared number name is
  shared_holds (Within n) number name is = absurd is

  slot_holds : (scope : Scope) (kind : Kind) (number : ℕ) (name : List ℕ) → is_seen scope (Within m) ≡ true → IsHeadIn h scope (AVariable kind) number name
      → slice_get (slots_of sig) number ≡ Some kind
  slot_holds Everywhere kind number name seen is = absurd is
  slot_holds (Within n) kind number name seen is =
      let same : n ≡ m = eqb-true n m seen in
      let one : Some is.head ≡ Some sig = sym is.there ∙ ap (λ k. slice_get h.modules k) same ∙ there in
      let head : is.head ≡ sig = cc in
      let slot : slice_get (sig.parameters ++ sig.locals) number ≡ Some (record { kind = kind; name = name }) = ap (λ s. slice_get (s.parameters ++ s.locals) number) (sym head) ∙ is.slot in
      ap (λ ks. slice_get ks number) (sym (kinds-append sig.parameters sig.locals)) ∙ kinds-get (sig.parameters ++ sig.locals) number (record { kind = kind; name = name }) slot

  sort_holds : (scope : Scope) (sort : Sort) (number : ℕ) (name : List ℕ) (kind : Kind) → is_seen scope (Within m) ≡ true → IsHeadIn h scope sort number name → kind_in sort ≡ Some kind
      → HolderHasKind (shared_or (if_shared sort number) number) kind
  sort_holds scope AScheduler number name kind seen is known = absurd cc
  sort_holds scope AnEvent number name kind seen is known = absurd cc
  sort_holds scope AShared number name kind seen is known = (shared_holds scope number name is, cc)
  sort_holds scope (AModule parameters) number name kind seen is known = absurd cc
  sort_holds scope AStart number name kind seen is known = absurd cc
  sort_holds scope AClient number name kind seen is known = absurd cc
  sort_holds scope (AVariable of) number name kind seen is known = slot_holds scope of number name seen is ∙ known

  -- what a name means is seen from there
  meaning_seen : (name : Ident) (d : Declared) → meaning ds (Within m) name ≡ Some d → is_seen d.scope (Within m) ≡ true
  meaning_seen name d is =
      let found = found_in (λ (x : Declared). same_name name x && is_seen x.scope (Within m)) ds d is in
      (and_parts (same_name name d) (is_seen d.scope (Within m)) found.1).1

  allowed_kind : (o : Option Kind) (kind : Kind) → meant (allowed o) ≡ Some kind → o ≡ Some kind
  allowed_kind None kind h = absurd cc
  allowed_kind (Some x) kind h = h

  -- a name whose kind is known
  pub name_holds : (name : Ident) (kind : Kind) → meant (value_use ds (Within m) name) ≡ Some kind → HolderHasKind (holder_of (meaning ds (Within m) name)) kind
  name_holds name kind known =
      elim (meaning ds (Within m) name) as (λ o. meaning ds (Within m) name ≡ o → meant (used kind_in o) ≡ Some kind → HolderHasKind (holder_of o) kind) [
        | None ↦ λ is k. absurd cc
        | Some d ↦ λ is k. sort_holds d.scope d.sort d.number d.name.text kind (meaning_seen name d is) (meaning_has h ds each (Within m) name d is) (allowed_kind (kind_in d.sort) kind k)
      ] refl known

  variable_holds : (at : ℕ) (holder : Holder) (kind : Kind) → HolderHasKind holder kind → HasKind h (slots_of sig) (variable_term ds (Within m) at holder) kind
  variable_holds at (InShared shared) kind holds = holds
  variable_holds at (InSlot slot) kind holds = holds

  held_holds : (at : ℕ) (holder : Holder) (kind : Kind) → HolderHasKind holder kind → TargetHasKind h (slots_of sig) (held_by ds (Within m) at holder) kind
  held_holds at (InShared shared) kind holds = holds
  held_holds at (InSlot slot) kind holds = holds

  -- a variable that is set
  pub target_holds : (name : Ident) (kind : Kind) → meant (value_use ds (Within m) name) ≡ Some kind → TargetHasKind h (slots_of sig) (target_of ds (Within m) name) kind
  target_holds name kind known = held_holds name.at (holder_of (meaning ds (Within m) name)) kind (name_holds name kind known)

  pub target_wanted : (name : Ident) (kind : Kind) → target_faults ds (Within m) kind name ≡ [] → TargetHasKind h (slots_of sig) (target_of ds (Within m) name) kind
  target_wanted name kind none =
      let parts = none_of_both (use_faults name.at (value_use ds (Within m) name)) (unlike (Some kind) (meant (value_use ds (Within m) name)) name.at) none in
      let known = known_kind (value_use ds (Within m) name) name.at parts.0 in
      let same : known.0 ≡ kind = wanted_kind kind (meant (value_use ds (Within m) name)) known.0 name.at known.1 parts.1 in
      target_holds name kind (known.1 ∙ ap Some same)

  -- ---- expressions

  -- an expression without a fault has a kind
  pub expression_kind : (e : Expression) → expression_faults ds (Within m) e ≡ [] → (kind : Kind) × (kind_of ds (Within m) e ≡ Some kind)
  expression_kind (Number at value) none = (Int, refl)
  expression_kind (Variable name) none = known_kind (value_use ds (Within m) name) name.at none
  expression_kind (Special at builtin) none = (builtin_kind builtin, refl)
  expression_kind (Unary at operator operand) none = (Int, refl)
  expression_kind (Binary operator left right) none = (Int, refl)

  -- the kind of an expression without a fault is the wanted one
  pub is_wanted : (wanted : Kind) (e : Expression) → expression_faults ds (Within m) e ≡ [] → kind_faults ds (Within m) wanted e ≡ [] → kind_of ds (Within m) e ≡ Some wanted
  is_wanted wanted e none agrees =
      let known = expression_kind e none in
      known.1 ∙ ap Some (wanted_kind wanted (kind_of ds (Within m) e) known.0 (begin_of e) known.1 agrees)

  pub has_kind : (e : Expression) (kind : Kind) → WordsFit e → expression_faults ds (Within m) e ≡ [] → kind_of ds (Within m) e ≡ Some kind → HasKind h (slots_of sig) (term_of ds (Within m) e) kind
  has_kind (Number at value) kind words none is = (words, cc)
  has_kind (Variable name) kind words none is = variable_holds name.at (holder_of (meaning ds (Within m) name)) kind (name_holds name kind is)
  has_kind (Special at builtin) kind words none is = cc
  has_kind (Unary at operator operand) kind words none is =
      let parts = none_of_both (expression_faults ds (Within m) operand) (kind_faults ds (Within m) Int operand) none in
      (has_kind operand Int words parts.0 (is_wanted Int operand parts.0 parts.1), cc)
  has_kind (Binary operator left right) kind words none is =
      let one = none_of_both (expression_faults ds (Within m) left) (expression_faults ds (Within m) right ++ operand_faults ds (Within m) operator left right) none in
      let two = none_of_both (expression_faults ds (Within m) right) (operand_faults ds (Within m) operator left right) one.1 in (
        elim (compares operator) as (λ b.
            (if b then unlike (kind_of ds (Within m) left) (kind_of ds (Within m) right) (begin_of right) else kind_faults ds (Within m) Int left ++ kind_faults ds (Within m) Int right) ≡ []
            → OperandsAgree b (HasKind h (slots_of sig) (term_of ds (Within m) left)) (HasKind h (slots_of sig) (term_of ds (Within m) right))) [
              | true ↦ λ agree.
                  let known = expression_kind left one.0 in
                  let other = expression_kind right two.0 in
                  let same : other.0 ≡ known.0 = wanted_kind known.0 (kind_of ds (Within m) right) other.0 (begin_of right) other.1 (ap (λ o. unlike o (kind_of ds (Within m) right) (begin_of right)) (sym known.1) ∙ agree) in
                  (known.0, has_kind left known.0 words.0 one.0 known.1, has_kind right known.0 words.1 two.0 (other.1 ∙ ap Some same))
              | false ↦ λ agree.
                  let ints = none_of_both (kind_faults ds (Within m) Int left) (kind_faults ds (Within m) Int right) agree in
                  (has_kind left Int words.0 one.0 (is_wanted Int left one.0 ints.0), has_kind right Int words.1 two.0 (is_wanted Int right two.0 ints.1))
            ] two.1,
        cc,
      )

-- ---- sizes

shape_kept_variable : (ds : List Declared) (scope : Scope) (at : ℕ) (holder : Holder) → shape_of (variable_term ds scope at holder) ≡ Operand
shape_kept_variable ds scope at (InShared shared) = refl
shape_kept_variable ds scope at (InSlot slot) = refl

-- the operators of an expression stand in one another as before
pub shape_kept : (ds : List Declared) (scope : Scope) (e : Expression) → shape_of (term_of ds scope e) ≡ levels.shape_of e
shape_kept ds scope (Number at value) = refl
shape_kept ds scope (Variable name) = shape_kept_variable ds scope name.at (holder_of (meaning ds scope name))
shape_kept ds scope (Special at builtin) = refl
shape_kept ds scope (Unary at operator operand) = ap Signed (shape_kept ds scope operand)
shape_kept ds scope (Binary operator left right) = (λ i. Joined operator (shape_kept ds scope left i) (shape_kept ds scope right i))

module _ (h : Heads) (ds : List Declared) (each : Each (HasHead h) ds) (m : ℕ) (sig : Signature) (there : slice_get h.modules m ≡ Some sig) where
  -- an expression without a fault, of the kind that it has
  pub is_of : (n : ℕ) (e : Expression) (kind : Kind) → ExpressionFits n e → expression_faults ds (Within m) e ≡ [] → kind_of ds (Within m) e ≡ Some kind → IsOf h (slots_of sig) kind n (term_of ds (Within m) e)
  is_of n e kind fits none is = record {
    has = has_kind h ds each m sig there e kind fits.words none is;
    nests = subst (λ (s : Shape). shape_nesting s ≤ n) (sym (shape_kept ds (Within m) e)) fits.nests;
    few = subst (λ (s : Shape). shape_operands s ≤ MAX_OPERANDS) (sym (shape_kept ds (Within m) e)) fits.few;
  }

  -- of some kind
  pub is_value : (n : ℕ) (e : Expression) → ExpressionFits n e → expression_faults ds (Within m) e ≡ [] → IsValue h (slots_of sig) n (term_of ds (Within m) e)
  is_value n e fits none = let known = expression_kind h ds each m sig there e none in (known.0, is_of n e known.0 fits none known.1)

  -- of the wanted kind
  pub is_of_wanted : (n : ℕ) (kind : Kind) (e : Expression) → ExpressionFits n e → wants ds (Within m) kind e ≡ [] → IsOf h (slots_of sig) kind n (term_of ds (Within m) e)
  is_of_wanted n kind e fits none =
      let parts = none_of_both (expression_faults ds (Within m) e) (kind_faults ds (Within m) kind e) none in
      is_of n e kind fits parts.0 (is_wanted h ds each m sig there kind e parts.0 parts.1)

  pub wanted_if : (n : ℕ) (kind : Kind) (e : Option Expression) → IfThere (ExpressionFits n) e → wants_if ds (Within m) kind e ≡ [] → IfThere (IsOf h (slots_of sig) kind n) (value_of ds (Within m) e)
  wanted_if n kind None fits none = tt
  wanted_if n kind (Some e) fits none = is_of_wanted n kind e fits none
