-- Which modules leave: marks that tell only those, and to which no round adds one, tell all of them.
use Rattle.std.proofs.Common.{◌≡◌, Bool, true, false, ◌||◌, inl, inr, refl, ap, ◌∙◌}
use Rattle.std.specs.Prelude.{◌⊎◌, ◌↔◌}
use Rattle.std.proofs.lemmas.Bool.{false≢true}
use Rattle.loft_base.specs.declared.ids.ModuleId.{ModuleId}
use Rattle.loft_tree.specs.Resolved.{Step, Do, Hold, Call, Choose, Loop, Times, Body, Empty, Then, Resolved}
use Rattle.loft_sense.specs.Tree.{body_at}
use Rattle.loft_lock_expansion.specs.Going.{step_goes, body_goes}
use Rattle.loft_locks.specs.Locks.{StepLeaves, BodyLeaves, StepCalls, BodyCalls, Leaves, itself, through}

either : (a b : Bool) → (a || b) ≡ true → (a ≡ true) ⊎ (b ≡ true)
either true b e = inl refl
either false b e = inr e

first_true : (a b : Bool) → a ≡ true → (a || b) ≡ true
first_true true b e = refl
first_true false b e = absurd (false≢true e)

second_true : (a b : Bool) → b ≡ true → (a || b) ≡ true
second_true true b e = refl
second_true false b e = e

-- ---- bodies

module _ (away : ModuleId → Bool) where
  -- why it does
  abbrev Why : Type 0 → (ModuleId → Type 0) → Type 0
  Why Own Calls = Own ⊎ ((c : ModuleId) × Calls c × (away c ≡ true))

  why_left : (A B : Type 0) (C D : ModuleId → Type 0) → Why A C → Why (A ⊎ B) (λ c. C c ⊎ D c)
  why_left A B C D (inl a) = inl (inl a)
  why_left A B C D (inr (c, calls, e)) = inr (c, inl calls, e)

  why_right : (A B : Type 0) (C D : ModuleId → Type 0) → Why B D → Why (A ⊎ B) (λ c. C c ⊎ D c)
  why_right A B C D (inl b) = inl (inr b)
  why_right A B C D (inr (c, calls, e)) = inr (c, inr calls, e)

  why_either : (x y : Bool) (A B : Type 0) (C D : ModuleId → Type 0) → (x || y) ≡ true → (x ≡ true → Why A C) → (y ≡ true → Why B D) → Why (A ⊎ B) (λ c. C c ⊎ D c)
  why_either true y A B C D e f g = why_left A B C D (f refl)
  why_either false y A B C D e f g = why_right A B C D (g e)

  mutual
    step_why : (s : Step) → step_goes away s ≡ true → Why (StepLeaves s) (StepCalls s)
    step_why (Do action) e = absurd (false≢true e)
    step_why (Hold k pause) e = inl e
    step_why (Call k m arguments) e = inr (m, refl, e)
    step_why (Choose test x y) e = why_either (body_goes away x) (body_goes away y) (BodyLeaves x) (BodyLeaves y) (BodyCalls x) (BodyCalls y) e (body_why x) (body_why y)
    step_why (Loop test x) e = body_why x e
    step_why (Times count x) e = body_why x e

    body_why : (b : Body) → body_goes away b ≡ true → Why (BodyLeaves b) (BodyCalls b)
    body_why Empty e = absurd (false≢true e)
    body_why (Then s b) e = why_either (step_goes away s) (body_goes away b) (StepLeaves s) (BodyLeaves b) (StepCalls s) (BodyCalls b) e (step_why s) (body_why b)

  mutual
    step_leaves : (s : Step) → StepLeaves s → step_goes away s ≡ true
    step_leaves (Do action) h = absurd h
    step_leaves (Hold k pause) h = h
    step_leaves (Call k m arguments) h = absurd h
    step_leaves (Choose test x y) (inl h) = first_true (body_goes away x) (body_goes away y) (body_leaves x h)
    step_leaves (Choose test x y) (inr h) = second_true (body_goes away x) (body_goes away y) (body_leaves y h)
    step_leaves (Loop test x) h = body_leaves x h
    step_leaves (Times count x) h = body_leaves x h

    body_leaves : (b : Body) → BodyLeaves b → body_goes away b ≡ true
    body_leaves Empty h = absurd h
    body_leaves (Then s b) (inl h) = first_true (step_goes away s) (body_goes away b) (step_leaves s h)
    body_leaves (Then s b) (inr h) = second_true (step_goes away s) (body_goes away b) (body_leaves b h)

  mutual
    step_calls : (s : Step) (c : ModuleId) → StepCalls s c → away c ≡ true → step_goes away s ≡ true
    step_calls (Do action) c h e = absurd h
    step_calls (Hold k pause) c h e = absurd h
    step_calls (Call k m arguments) c h e = ap away h ∙ e
    step_calls (Choose test x y) c (inl h) e = first_true (body_goes away x) (body_goes away y) (body_calls x c h e)
    step_calls (Choose test x y) c (inr h) e = second_true (body_goes away x) (body_goes away y) (body_calls y c h e)
    step_calls (Loop test x) c h e = body_calls x c h e
    step_calls (Times count x) c h e = body_calls x c h e

    body_calls : (b : Body) (c : ModuleId) → BodyCalls b c → away c ≡ true → body_goes away b ≡ true
    body_calls Empty c h e = absurd h
    body_calls (Then s b) c (inl h) e = first_true (step_goes away s) (body_goes away b) (step_calls s c h e)
    body_calls (Then s b) c (inr h) e = second_true (step_goes away s) (body_goes away b) (body_calls b c h e)

-- ---- programs

module _ (p : Resolved) (away : ModuleId → Bool) where
  -- only modules that leave are marked
  abbrev pub MarksOnly : Type 0
  MarksOnly = (m : ModuleId) → away m ≡ true → Leaves p m

  -- no module is added by one more round
  abbrev pub MarksStay : Type 0
  MarksStay = (m : ModuleId) → body_goes away (body_at p m) ≡ true → away m ≡ true

  pub goes_leaves : MarksOnly → (m : ModuleId) → body_goes away (body_at p m) ≡ true → Leaves p m
  goes_leaves only m e = by (body_why away (body_at p m) e)
    where
      by : (BodyLeaves (body_at p m)) ⊎ ((c : ModuleId) × BodyCalls (body_at p m) c × (away c ≡ true)) → Leaves p m
      by (inl own) = itself m own
      by (inr (c, calls, f)) = through m c calls (only c f)

  leaves_marked : MarksStay → {m : ModuleId} → Leaves p m → away m ≡ true
  leaves_marked stay (itself m own) = stay m (body_leaves away (body_at p m) own)
  leaves_marked stay (through m c calls leaves) = stay m (body_calls away (body_at p m) c calls (leaves_marked stay leaves))

  pub marks_tell_all : MarksOnly → MarksStay → (m : ModuleId) → (away m ≡ true) ↔ Leaves p m
  marks_tell_all only stay m = (only m, λ leaves. leaves_marked stay leaves)
