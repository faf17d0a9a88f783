-- What every form of the grammar keeps: how much it counts, that no count passes its limit, and that what is due is paid.
use Rattle.std.proofs.Common.{◌≡◌, ℕ, zero, suc, ◌+◌, ◌≤◌, Bool, true, false, not, ◌&&◌, ◌||◌, List, [], ◌∷◌, Option, Some, None, refl, sym, subst, arith}
use Rattle.std.proofs.Common.{⊎_elim}
use Rattle.loft_form.specs.Form.{leaf, ◌▹◌, ◌∣◌, maybe, many, inside, counted, fresh, made, Limits, State}
use Rattle.loft_form.specs.Spells.{Spelling, SpellsEach, SpellsMaybe, Spells, SpellsRule, owing, from_zero}
use Rattle.loft_form.proofs.Disjoint.{and_true}
use Rattle.loft_lex.specs.Symbol.{Symbol}
use Rattle.loft_grammar.specs.Symbols.{Form}
use Rattle.loft_grammar.specs.Statements.{rules}
use Rattle.loft_grammar.specs.Language.{Language, Rule, Bracketed, Signed, Conditional, Looped, Meaning}
use Rattle.loft_grammar.specs.declared.counts.Counted.{Counted}
use Rattle.loft_grammar.specs.declared.counts.Counted.TheVariants.{Scheduler, Event, Shared, Module, Start, Client, Order, Parameter, Local, Statement, Operand, Argument, Choice}
use Rattle.loft_productions.proofs.fits.Counting.{same, one, total, Within, pays_total, pays_within, owing_total, zero_total, zero_within}
use Rattle.loft_productions.proofs.fits.Rules.{statement_rules}

-- What an `if` and a loop hold counts operands, arguments and choices from 0, and nothing else.
abbrev pub rule_spares : Counted → Rule → Bool
rule_spares w Bracketed = true
rule_spares w Signed = true
rule_spares w Conditional = not (same Operand w) && (not (same Argument w) && not (same Choice w))
rule_spares w Looped = not (same Operand w) && (not (same Argument w) && not (same Choice w))

-- nowhere in the form is this counted from 0
abbrev pub spares : {A : Type 0} → Counted → Form A → Bool
spares w (leaf passes value opens) = true
spares w (f ▹ g) = spares w f && spares w g
spares w (f ∣ g) = spares w f && spares w g
spares w (maybe f) = spares w f
spares w (many f) = spares w f
spares w (inside r) = rule_spares w r
spares w (counted v f) = spares w f
spares w (fresh v f) = not (same v w) && spares w f
spares w (made h f) = spares w f

-- whatever the form stands for, this is counted in it
abbrev pub counts : {A : Type 0} → Counted → Form A → Bool
counts w (leaf passes value opens) = false
counts w (f ▹ g) = counts w f || counts w g
counts w (f ∣ g) = counts w f && counts w g
counts w (maybe f) = false
counts w (many f) = false
counts w (inside r) = false
counts w (counted v f) = same v w || counts w f
counts w (fresh v f) = counts w f
counts w (made h f) = counts w f

-- nothing is due after the form, if b tells that nothing is due before
abbrev pub settles : {A : Type 0} → Bool → Form A → Bool
settles b (leaf passes value opens) = true
settles b (f ▹ g) = settles (settles b f) g
settles b (f ∣ g) = settles b f && settles b g
settles b (maybe f) = b && settles b f
settles b (many f) = b && settles b f
settles b (inside r) = true
settles b (counted v f) = settles false f
settles b (fresh v f) = settles b f
settles b (made h f) = settles b f

or_counts : (p q : Bool) (a b c : ℕ) → a + one p ≤ b → b + one q ≤ c → a + one (p || q) ≤ c
or_counts true q a b c h k = omega arith
or_counts false q a b c h k = omega arith

left_counts : (p q : Bool) (a b : ℕ) → a + one p ≤ b → a + one (p && q) ≤ b
left_counts true true a b h = h
left_counts true false a b h = omega arith
left_counts false q a b h = h

right_counts : (p q : Bool) (a b : ℕ) → a + one q ≤ b → a + one (p && q) ≤ b
right_counts true q a b h = h
right_counts false q a b h = omega arith

not_true : (b : Bool) → not b ≡ true → b ≡ false
not_true true e = absurd cc
not_true false e = refl

module _ (R : State Language → State Language → Type 0) (stays : (c : State Language) → R c c) (joins : (a b c : State Language) → R a b → R b c → R a c) where
  -- what each keeps, all keep
  each_keeps : {A : Type 0} (One : Spelling Language A) → ((ss : List Symbol) (c : State Language) (x : A) (d : State Language) → One ss c x d → R c d)
      → (ss : List Symbol) (c : State Language) (xs : List A) (d : State Language) → SpellsEach One ss c xs d → R c d
  each_keeps One one ss c [] d h = subst (R c) (sym h.1) (stays c)
  each_keeps One one ss c (x ∷ xs) d h = joins c h.2 d (one h.0 c x h.2 h.4) (each_keeps One one h.1 h.2 xs d h.5)

  maybe_keeps : {A : Type 0} (One : Spelling Language A) → ((ss : List Symbol) (c : State Language) (x : A) (d : State Language) → One ss c x d → R c d)
      → (ss : List Symbol) (c : State Language) (x : Option A) (d : State Language) → SpellsMaybe One ss c x d → R c d
  maybe_keeps One one ss c None d h = subst (R c) (sym h.1) (stays c)
  maybe_keeps One one ss c (Some x) d h = one ss c x d h

-- c has at most as many of these as d
abbrev AtMost : Counted → State Language → State Language → Type 0
AtMost w c d = total w c ≤ total w d

-- where no count was past its limit before, none is after it
abbrev Keeps : Limits Language → State Language → State Language → Type 0
Keeps lim c d = Within lim c.counts → Within lim d.counts

module _ (lim : Limits Language) (n : ℕ) (Inner : (r : Rule) → Spelling Language (Meaning r)) where
  module _ (w : Counted) (inner : (r : Rule) (ss : List Symbol) (c : State Language) (x : Meaning r) (d : State Language) → rule_spares w r ≡ true → Inner r ss c x d → total w c ≤ total w d) where
    form_counts : {A : Type 0} (f : Form A) (ss : List Symbol) (c : State Language) (x : A) (d : State Language) → spares w f ≡ true → Spells lim n Inner f ss c x d → total w c + one (counts w f) ≤ total w d
    form_counts (leaf passes value opens) ss c x d spared h = omega (arith, pays_total lim w c d h.5)
    form_counts (f ▹ g) ss c x d spared h =
        let both = and_true (spares w f) (spares w g) spared in
        or_counts (counts w f) (counts w g) (total w c) (total w h.2) (total w d)
        (form_counts f h.0 c x.0 h.2 both.0 h.4) (form_counts g h.1 h.2 x.1 d both.1 h.5)
    form_counts (f ∣ g) ss c x d spared h =
        let both = and_true (spares w f) (spares w g) spared in
        ⊎_elim
        (λ k. left_counts (counts w f) (counts w g) (total w c) (total w d) (form_counts f ss c x d both.0 k))
        (λ k. right_counts (counts w f) (counts w g) (total w c) (total w d) (form_counts g ss c x d both.1 k)) h
    form_counts (maybe f) ss c x d spared h =
        let kept : AtMost w c d = maybe_keeps (AtMost w) (λ a. omega arith) (λ a b e p q. omega arith) (Spells lim n Inner f) (λ ts a y b k. omega (arith, form_counts f ts a y b spared k)) ss c x d h in
        omega arith
    form_counts (many f) ss c x d spared h =
        let kept : AtMost w c d = each_keeps (AtMost w) (λ a. omega arith) (λ a b e p q. omega arith) (Spells lim n Inner f) (λ ts a y b k. omega (arith, form_counts f ts a y b spared k)) ss c x d h in
        omega arith
    form_counts (inside r) ss c x d spared h = omega (arith, inner r ss c x d spared h)
    form_counts (counted v f) ss c x d spared h =
        or_counts (same v w) (counts w f) (total w c) (total w (owing v c)) (total w d)
        (omega (arith, owing_total v w c)) (form_counts f ss (owing v c) x d spared h)
    form_counts (fresh v f) ss c x d spared h =
        let both = and_true (not (same v w)) (spares w f) spared in
        omega (arith, zero_total v w c (not_true (same v w) both.0), form_counts f ss (from_zero v c) x d both.1 h)
    form_counts (made k f) ss c x d spared h = form_counts f ss c h.0 d spared h.2

  module _ (inner : (r : Rule) (ss : List Symbol) (c : State Language) (x : Meaning r) (d : State Language) → Inner r ss c x d → Within lim c.counts → Within lim d.counts) where
    form_keeps : {A : Type 0} (f : Form A) (ss : List Symbol) (c : State Language) (x : A) (d : State Language) → Spells lim n Inner f ss c x d → Within lim c.counts → Within lim d.counts
    form_keeps (leaf passes value opens) ss c x d h within = pays_within lim c d h.5 within
    form_keeps (f ▹ g) ss c x d h within = form_keeps g h.1 h.2 x.1 d h.5 (form_keeps f h.0 c x.0 h.2 h.4 within)
    form_keeps (f ∣ g) ss c x d h within = ⊎_elim (λ k. form_keeps f ss c x d k within) (λ k. form_keeps g ss c x d k within) h
    form_keeps (maybe f) ss c x d h within = maybe_keeps (Keeps lim) (λ a k. k) (λ a b e p q k. q (p k)) (Spells lim n Inner f) (form_keeps f) ss c x d h within
    form_keeps (many f) ss c x d h within = each_keeps (Keeps lim) (λ a k. k) (λ a b e p q k. q (p k)) (Spells lim n Inner f) (form_keeps f) ss c x d h within
    form_keeps (inside r) ss c x d h within = inner r ss c x d h within
    form_keeps (counted v f) ss c x d h within = form_keeps f ss (owing v c) x d h within
    form_keeps (fresh v f) ss c x d h within = form_keeps f ss (from_zero v c) x d h (zero_within lim v c within)
    form_keeps (made k f) ss c x d h within = form_keeps f ss c h.0 d h.2 within

  -- what was paid stays so
  abbrev StaysPaid : State Language → State Language → Type 0
  StaysPaid c d = c.due ≡ [] → d.due ≡ []

  -- nothing is due, if b tells so
  abbrev Paid : Bool → State Language → Type 0
  Paid b c = b ≡ true → c.due ≡ []

  module _ (inner : (r : Rule) (ss : List Symbol) (c : State Language) (x : Meaning r) (d : State Language) → Inner r ss c x d → d.due ≡ []) where
    form_settles : {A : Type 0} (f : Form A) (b : Bool) (ss : List Symbol) (c : State Language) (x : A) (d : State Language) → Spells lim n Inner f ss c x d → Paid b c → Paid (settles b f) d
    form_settles (leaf passes value opens) b ss c x d h paid = λ e. h.5.1
    form_settles (f ▹ g) b ss c x d h paid = form_settles g (settles b f) h.1 h.2 x.1 d h.5 (form_settles f b h.0 c x.0 h.2 h.4 paid)
    form_settles (f ∣ g) b ss c x d h paid =
        λ e. let both = and_true (settles b f) (settles b g) e in
        ⊎_elim (λ k. form_settles f b ss c x d k paid both.0) (λ k. form_settles g b ss c x d k paid both.1) h
    form_settles (maybe f) b ss c x d h paid =
        λ e. let both = and_true b (settles b f) e in
        maybe_keeps StaysPaid (λ a p. p) (λ a u e p q k. q (p k)) (Spells lim n Inner f) (λ ts a y u k p. form_settles f b ts a y u k (λ _. p) both.1) ss c x d h (paid both.0)
    form_settles (many f) b ss c x d h paid =
        λ e. let both = and_true b (settles b f) e in
        each_keeps StaysPaid (λ a p. p) (λ a u e p q k. q (p k)) (Spells lim n Inner f) (λ ts a y u k p. form_settles f b ts a y u k (λ _. p) both.1) ss c x d h (paid both.0)
    form_settles (inside r) b ss c x d h paid = λ e. inner r ss c x d h
    form_settles (counted v f) b ss c x d h paid = form_settles f false ss (owing v c) x d h (λ e. absurd cc)
    form_settles (fresh v f) b ss c x d h paid = form_settles f b ss (from_zero v c) x d h paid
    form_settles (made k f) b ss c x d h paid = form_settles f b ss c h.0 d h.2 paid

-- in this grammar
grammar_spares : (w : Counted) (r : Rule) → rule_spares w r ≡ true → spares w (rules r) ≡ true
unfolding statement_rules
grammar_spares w Bracketed e = refl
grammar_spares w Signed e = refl
grammar_spares Scheduler Conditional e = e
grammar_spares Event Conditional e = e
grammar_spares Shared Conditional e = e
grammar_spares Module Conditional e = e
grammar_spares Start Conditional e = e
grammar_spares Client Conditional e = e
grammar_spares Order Conditional e = e
grammar_spares Parameter Conditional e = e
grammar_spares Local Conditional e = e
grammar_spares Statement Conditional e = e
grammar_spares Operand Conditional e = e
grammar_spares Argument Conditional e = e
grammar_spares Choice Conditional e = e
grammar_spares Scheduler Looped e = e
grammar_spares Event Looped e = e
grammar_spares Shared Looped e = e
grammar_spares Module Looped e = e
grammar_spares Start Looped e = e
grammar_spares Client Looped e = e
grammar_spares Order Looped e = e
grammar_spares Parameter Looped e = e
grammar_spares Local Looped e = e
grammar_spares Statement Looped e = e
grammar_spares Operand Looped e = e
grammar_spares Argument Looped e = e
grammar_spares Choice Looped e = e

grammar_settles : (r : Rule) → settles false (rules r) ≡ true
unfolding statement_rules
grammar_settles Bracketed = refl
grammar_settles Signed = refl
grammar_settles Conditional = refl
grammar_settles Looped = refl

rule_counts : (lim : Limits Language) (w : Counted) (n : ℕ) (r : Rule) (ss : List Symbol) (c : State Language) (x : Meaning r) (d : State Language) → rule_spares w r ≡ true → SpellsRule rules lim n r ss c x d → total w c ≤ total w d
rule_counts lim w zero r ss c x d spared h = absurd h
rule_counts lim w (suc n) r ss c x d spared h = omega (arith, form_counts lim n (SpellsRule rules lim n) w (rule_counts lim w n) (rules r) ss c x d (grammar_spares w r spared) h)

rule_keeps : (lim : Limits Language) (n : ℕ) (r : Rule) (ss : List Symbol) (c : State Language) (x : Meaning r) (d : State Language) → SpellsRule rules lim n r ss c x d → Within lim c.counts → Within lim d.counts
rule_keeps lim zero r ss c x d h within = absurd h
rule_keeps lim (suc n) r ss c x d h within = form_keeps lim n (SpellsRule rules lim n) (rule_keeps lim n) (rules r) ss c x d h within

rule_settles : (lim : Limits Language) (n : ℕ) (r : Rule) (ss : List Symbol) (c : State Language) (x : Meaning r) (d : State Language) → SpellsRule rules lim n r ss c x d → d.due ≡ []
rule_settles lim zero r ss c x d h = absurd h
rule_settles lim (suc n) r ss c x d h = form_settles lim n (SpellsRule rules lim n) (rule_settles lim n) (rules r) false ss c x d h (λ e. absurd cc) (grammar_settles r)

-- which symbols spell which value, where n nestings may still be opened
abbrev pub Spelled : {A : Type 0} → Limits Language → ℕ → Form A → Spelling Language A
Spelled lim n f = Spells lim n (SpellsRule rules lim n) f

-- What a form counts is counted after it, unless it counts it from 0 somewhere.
pub spelled_counts : {A : Type 0} (lim : Limits Language) (n : ℕ) (w : Counted) (f : Form A) (ss : List Symbol) (c : State Language) (x : A) (d : State Language) → spares w f ≡ true → Spelled lim n f ss c x d → total w c + one (counts w f) ≤ total w d
spelled_counts lim n w f ss c x d spared h = form_counts lim n (SpellsRule rules lim n) w (rule_counts lim w n) f ss c x d spared h

-- No count passes its limit.
pub spelled_keeps : {A : Type 0} (lim : Limits Language) (n : ℕ) (f : Form A) (ss : List Symbol) (c : State Language) (x : A) (d : State Language) → Spelled lim n f ss c x d → Within lim c.counts → Within lim d.counts
spelled_keeps lim n f ss c x d h within = form_keeps lim n (SpellsRule rules lim n) (rule_keeps lim n) f ss c x d h within

-- Nothing is due after a form that settles it.
pub spelled_settles : {A : Type 0} (lim : Limits Language) (n : ℕ) (f : Form A) (b : Bool) (ss : List Symbol) (c : State Language) (x : A) (d : State Language) → (b ≡ true → c.due ≡ []) → settles b f ≡ true → Spelled lim n f ss c x d → d.due ≡ []
spelled_settles lim n f b ss c x d paid settled h = form_settles lim n (SpellsRule rules lim n) (rule_settles lim n) f b ss c x d h paid settled
