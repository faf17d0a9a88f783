-- What runs of threads have in common, whoever makes them.
use Rattle.std.proofs.Common.{◌≡◌, ℕ, ℤ, List, [], ◌∷◌, ◌++◌, refl, sym, ap, subst, ◌∙◌, Bool, true, false, Some, length, Result, Ok, Err}
use Rattle.std.proofs.lemmas.List.{map-append, reverse-append}
use Rattle.std.specs.Prelude.{reverse, map, nat_lt, IfOk, if◌then◌else◌}
use Rattle.loft_base.specs.declared.errors.NoMemory.{NoMemory}
use Rattle.loft_base.specs.declared.ids.ModuleId.{ModuleId}
use Rattle.loft_base.specs.declared.ids.ThreadId.{ThreadId}
use Rattle.loft_base.specs.declared.ids.Value.{Value}
use Rattle.loft_sense.specs.declared.limits.TheConstants.{MAX_FRAMES}
use Rattle.loft_orders.specs.declared.order.End.TheVariants.{Deep}
use Rattle.loft_orders.specs.declared.thread.Frame.{Frame}
use Rattle.loft_orders.specs.declared.thread.Thread.{Thread}
use Rattle.loft_orders.specs.declared.thread.Wait.{Wait}
use Rattle.loft_sense.specs.Around.{Beside}
use Rattle.loft_sense.specs.Run.{Control, Active, Outcome, here, begun_frame, run_on, ends}
use Rattle.loft_effect.specs.declared.gone.Gone.{Gone}
use Rattle.loft_effect.specs.declared.around.Around.{Around as AroundInMemory}
use Rattle.loft_effect.specs.declared.gone.Outcome.{Outcome as OutcomeInMemory}
use Rattle.loft_effect.specs.Outcomes.{gone_of, outcome_with}

-- ---- outcomes

-- an outcome that is another one
pub gone_as : (r : Result Gone NoMemory) (x y : Outcome) → x ≡ y → IfOk r (λ g. gone_of g ≡ x) → IfOk r (λ g. gone_of g ≡ y)
gone_as r x y e h = subst (λ (z : Outcome). IfOk r (λ g. gone_of g ≡ z)) e h

-- the same of one that is the same in every program
pub gone_as_all : {P : Type 0} (r : Result Gone NoMemory) (x : P → Outcome) (y : Outcome) (p : P) → x p ≡ y → IfOk r (λ g. (q : P) → gone_of g ≡ x q) → IfOk r (λ g. gone_of g ≡ y)
gone_as_all (Ok g) x y p e h = h p ∙ e
gone_as_all (Err out) x y p e h = h

-- the same of what a run leaves, apart
pub outcome_as : (r : Result OutcomeInMemory NoMemory) (a : AroundInMemory) (x y : Outcome) → x ≡ y → IfOk r (λ o. outcome_with o a ≡ x) → IfOk r (λ o. outcome_with o a ≡ y)
outcome_as r a x y e h = subst (λ (z : Outcome). IfOk r (λ o. outcome_with o a ≡ z)) e h

pub outcome_as_all : {P : Type 0} (r : Result OutcomeInMemory NoMemory) (a : AroundInMemory) (x : P → Outcome) (y : Outcome) (p : P) → x p ≡ y → IfOk r (λ o. (q : P) → outcome_with o a ≡ x q) → IfOk r (λ o. outcome_with o a ≡ y)
outcome_as_all (Ok o) a x y p e h = h p ∙ e
outcome_as_all (Err out) a x y p e h = h

abbrev pub thread_with : ThreadId → ℤ → ℤ → Wait → List Frame → Thread
thread_with id code mask wait frames = record { id = id; code = code; mask = mask; wait = wait; frames = frames }

-- ---- a module that is entered

module _ {A : Type 0} (c : Control A) (left : ℕ) (on : Beside → List (Active A) → Outcome) (arguments : List Value) (m : ModuleId) (r : Active A) (rs : List (Active A)) (b : Beside) where
  -- there may be one frame more
  pub run_enters : nat_lt (length (r ∷ rs)) MAX_FRAMES ≡ true → run_on c left on (Some arguments) m r rs b ≡ on b (begun_frame c m arguments b ∷ r ∷ rs)
  run_enters e = ap (λ (q : Bool). if q then on b (begun_frame c m arguments b ∷ r ∷ rs) else ends (Deep (here r)) b left) e

  -- it would be one too many
  pub run_deep : nat_lt (length (r ∷ rs)) MAX_FRAMES ≡ false → run_on c left on (Some arguments) m r rs b ≡ ends (Deep (here r)) b left
  run_deep e = ap (λ (q : Bool). if q then on b (begun_frame c m arguments b ∷ r ∷ rs) else ends (Deep (here r)) b left) e

-- ---- lists of frames

pub reverse-cons : {A : Type 0} (x : A) (xs : List A) → reverse (x ∷ xs) ≡ reverse xs ++ x ∷ []
reverse-cons x xs = reverse-append (x ∷ []) xs

pub reverse-map : {A B : Type 0} (f : A → B) (xs : List A) → reverse (map f xs) ≡ map f (reverse xs)
reverse-map f [] = refl
reverse-map f (x ∷ xs) =
    reverse-cons (f x) (map f xs) ∙ (ap (λ (l : List _). l ++ f x ∷ []) (reverse-map f xs) ∙ (sym (map-append f (reverse xs) (x ∷ [])) ∙ ap (map f) (sym (reverse-cons x xs))))
