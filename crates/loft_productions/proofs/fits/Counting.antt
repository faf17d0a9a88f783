-- What was counted, and what is due.
use Rattle.std.proofs.Common.{◌≡◌, ℕ, ◌+◌, ◌≤◌, Bool, true, false, cond, ◌==◌, List, [], ◌∷◌, ◌++◌, Option, Some, None, refl, sym, ap, ◌∙◌, subst, arith}
use Rattle.loft_form.specs.Form.{Limits, State}
use Rattle.loft_form.specs.Spells.{Below, Adds, Pays, owing, from_zero}
use Rattle.loft_grammar.specs.Counts.{number, put, none}
use Rattle.loft_grammar.specs.Language.{Language}
use Rattle.loft_grammar.specs.declared.counts.Counted.{Counted}
use Rattle.loft_grammar.specs.declared.counts.Counted.TheVariants.{Scheduler, Event, Shared, Module, Start, Client, Order, Parameter, Local, Statement, Operand, Argument, Choice}
use Rattle.loft_grammar.specs.declared.counts.Counts.{Counts}

-- by its number each thing that is counted is told apart
abbrev tag : Counted → ℕ
tag Scheduler = 0
tag Event = 1
tag Shared = 2
tag Module = 3
tag Start = 4
tag Client = 5
tag Order = 6
tag Parameter = 7
tag Local = 8
tag Statement = 9
tag Operand = 10
tag Argument = 11
tag Choice = 12

-- one and the same thing is counted
abbrev pub same : Counted → Counted → Bool
same v w = tag v == tag w

-- 1, if that is so
abbrev pub one : Bool → ℕ
one true = 1
one false = 0

same_is : (v w : Counted) → same v w ≡ true → v ≡ w
same_is Scheduler Scheduler e = refl
same_is Event Event e = refl
same_is Shared Shared e = refl
same_is Module Module e = refl
same_is Start Start e = refl
same_is Client Client e = refl
same_is Order Order e = refl
same_is Parameter Parameter e = refl
same_is Local Local e = refl
same_is Statement Statement e = refl
same_is Operand Operand e = refl
same_is Argument Argument e = refl
same_is Choice Choice e = refl
same_is v w e = absurd cc

-- a count that is set; the others stay
number_put : (v w : Counted) (n : ℕ) (c : Counts) → number w (put v n c) ≡ cond (same v w) n (number w c)
number_put Scheduler Scheduler n c = refl
number_put Event Event n c = refl
number_put Shared Shared n c = refl
number_put Module Module n c = refl
number_put Start Start n c = refl
number_put Client Client n c = refl
number_put Order Order n c = refl
number_put Parameter Parameter n c = refl
number_put Local Local n c = refl
number_put Statement Statement n c = refl
number_put Operand Operand n c = refl
number_put Argument Argument n c = refl
number_put Choice Choice n c = refl
number_put v w n c = refl

-- what holds in both cases of one thing counted and another
by_same : (v w : Counted) (P : Bool → Type 0) → (v ≡ w → P true) → P false → P (same v w)
by_same v w P equal other = go (same v w) refl
  where
    go : (b : Bool) → same v w ≡ b → P b
    go true e = equal (same_is v w e)
    go false e = other

number_more : (v w : Counted) (c : Counts) → number w (put v (number v c + 1) c) ≡ number w c + one (same v w)
number_more v w c =
    number_put v w (number v c + 1) c
    ∙ by_same v w (λ b. cond b (number v c + 1) (number w c) ≡ number w c + one b) (λ e. ap (λ u. number u c + 1) e) (omega arith)

-- n is at most the limit, if there is one
abbrev pub UpTo : Option ℕ → ℕ → Type 0
UpTo None n = Unit {0}
UpTo (Some limit) n = n ≤ limit

up_to_none : (o : Option ℕ) → UpTo o 0
up_to_none None = tt
up_to_none (Some limit) = omega arith

up_to_more : (o : Option ℕ) (n : ℕ) → Below o n → UpTo o (n + 1)
up_to_more None n h = tt
up_to_more (Some limit) n h = omega (arith, h)

-- no count is above its limit
pub record Within (lim : Limits Language) (c : Counts) : Type 0 where
  pub each : (w : Counted) → UpTo (lim.most w) (number w c)

within_put : (lim : Limits Language) (v : Counted) (n : ℕ) (c : Counts) → UpTo (lim.most v) n → Within lim c → Within lim (put v n c)
within_put lim v n c few h = record {
  each = λ w. rw number_put (by_same v w (λ b. UpTo (lim.most w) (cond b n (number w c))) (λ e. subst (λ u. UpTo (lim.most u) n) e few) (h.each w));
}

-- how many of these are due
abbrev pub owed : Counted → List Counted → ℕ
owed w [] = 0
owed w (v ∷ vs) = one (same v w) + owed w vs

owed_more : (w v : Counted) (vs : List Counted) → owed w (vs ++ v ∷ []) ≡ owed w vs + one (same v w)
owed_more w v [] = omega arith
owed_more w v (u ∷ us) = omega (arith, owed_more w v us)

-- how many there were, with those that are due
abbrev pub total : Counted → State Language → ℕ
total w c = number w c.counts + owed w c.due

adds_number : (lim : Limits Language) (w : Counted) (vs : List Counted) (c d : Counts) → Adds lim vs c d → number w d ≡ number w c + owed w vs
adds_number lim w [] c d h = let e : number w d ≡ number w c = ap (number w) h in omega arith
adds_number lim w (v ∷ vs) c d h = omega (arith, adds_number lim w vs _ d h.1, number_more v w c)

adds_within : (lim : Limits Language) (vs : List Counted) (c d : Counts) → Adds lim vs c d → Within lim c → Within lim d
adds_within lim [] c d h within = subst (Within lim) (sym h) within
adds_within lim (v ∷ vs) c d h within = adds_within lim vs _ d h.1 (within_put lim v (number v c + 1) c (up_to_more (lim.most v) (number v c) h.0) within)

-- nothing that is paid is lost
pub pays_total : (lim : Limits Language) (w : Counted) (c d : State Language) → Pays lim c d → total w d ≡ total w c
pays_total lim w c d h =
    let e : owed w d.due ≡ 0 = ap (owed w) h.1 in
    omega (arith, adds_number lim w c.due c.counts d.counts h.0)

pub pays_within : (lim : Limits Language) (c d : State Language) → Pays lim c d → Within lim c.counts → Within lim d.counts
pays_within lim c d h within = adds_within lim c.due c.counts d.counts h.0 within

pub owing_total : (v w : Counted) (c : State Language) → total w (owing v c) ≡ total w c + one (same v w)
owing_total v w c = omega (arith, owed_more w v c.due)

pub zero_total : (v w : Counted) (c : State Language) → same v w ≡ false → total w (from_zero v c) ≡ total w c
zero_total v w c other =
    let e : number w (put v 0 c.counts) ≡ number w c.counts = rw (number_put, other) refl in
    omega arith

pub zero_within : (lim : Limits Language) (v : Counted) (c : State Language) → Within lim c.counts → Within lim (from_zero v c).counts
zero_within lim v c within = within_put lim v 0 c.counts (up_to_none (lim.most v)) within

within_nothing : (w : Counted) → number w none ≡ 0
within_nothing Scheduler = refl
within_nothing Event = refl
within_nothing Shared = refl
within_nothing Module = refl
within_nothing Start = refl
within_nothing Client = refl
within_nothing Order = refl
within_nothing Parameter = refl
within_nothing Local = refl
within_nothing Statement = refl
within_nothing Operand = refl
within_nothing Argument = refl
within_nothing Choice = refl

-- where nothing is counted, no count is above its limit
pub none_within : (lim : Limits Language) → Within lim none
none_within lim = record { each = λ w. subst (UpTo (lim.most w)) (sym (within_nothing w)) (up_to_none (lim.most w)) }
