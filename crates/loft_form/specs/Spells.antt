-- Which symbols spell what.
use Rattle.std.specs.Prelude.{◌≡◌, ℕ, zero, suc, ◌<◌, true, false, ◌==◌, ◌&&◌, List, [], ◌∷◌, ◌++◌, Option, Some, None, ◌⊎◌}
use Rattle.loft_form.specs.Form.{Language, Form, leaf, ◌▹◌, ◌∣◌, maybe, many, inside, counted, fresh, made, Grammar, Limits, State}

-- n is below the limit, if there is one
abbrev pub Below : Option ℕ → ℕ → Type 0
Below None n = Unit {0}
Below (Some limit) n = n < limit

-- the next symbol counts as one more w, besides all that it counts as already
abbrev pub owing : {L : Language} → L.Counted → State L → State L
owing w c = record { counts = c.counts; due = c.due ++ w ∷ [] }

-- w is counted from 0
abbrev pub from_zero : {L : Language} → L.Counted → State L → State L
from_zero {L} w c = record { counts = L.anew w c.counts; due = c.due }

module _ {L : Language} (lim : Limits L) where
  -- these count one more each, and none passes its limit
  abbrev pub Adds : List L.Counted → L.Counts → L.Counts → Type 0
  Adds [] c d = d ≡ c
  Adds (w ∷ ws) c d = Below (lim.most w) (L.number w c) × Adds ws (L.more w c) d

  -- a symbol counts as all that is due
  abbrev pub Pays : State L → State L → Type 0
  Pays c d = Adds c.due c.counts d.counts × (d.due ≡ [])

-- which symbols spell which value, where c was counted before and d after
abbrev pub Spelling : Language → Type 0 → Type 1
Spelling L A = List L.Symbol → State L → A → State L → Type 0

abbrev pub SpellsEach : {L : Language} {A : Type 0} → Spelling L A → Spelling L (List A)
SpellsEach One ss c [] d = (ss ≡ []) × (d ≡ c)
SpellsEach {L} One ss c (x ∷ xs) d =
    (front : List L.Symbol) × (back : List L.Symbol) × (b : State L) × (ss ≡ front ++ back) × One front c x b × SpellsEach One back b xs d

abbrev pub SpellsMaybe : {L : Language} {A : Type 0} → Spelling L A → Spelling L (Option A)
SpellsMaybe One ss c None d = (ss ≡ []) × (d ≡ c)
SpellsMaybe One ss c (Some x) d = One ss c x d

-- n nestings may still be opened, and Inner tells what rules inside spell
abbrev pub Spells : {L : Language} {a : Type 0} → Limits L → ℕ → ((r : L.Rule) → Spelling L (L.Meaning r)) → Form L a → Spelling L a
Spells {L} lim n Inner (leaf test value opens) ss c x d =
    (s : L.Symbol) × (ss ≡ s ∷ []) × (test (L.kind s) ≡ true) × (x ≡ value s) × ((opens && n == 0) ≡ false) × Pays lim c d
Spells {L} lim n Inner (f ▹ g) ss c x d =
    (front : List L.Symbol) × (back : List L.Symbol) × (b : State L) × (ss ≡ front ++ back) × Spells lim n Inner f front c x.0 b × Spells lim n Inner g back b x.1 d
Spells lim n Inner (f ∣ g) ss c x d = Spells lim n Inner f ss c x d ⊎ Spells lim n Inner g ss c x d
Spells lim n Inner (maybe f) ss c x d = SpellsMaybe (Spells lim n Inner f) ss c x d
Spells lim n Inner (many f) ss c x d = SpellsEach (Spells lim n Inner f) ss c x d
Spells lim n Inner (inside r) ss c x d = Inner r ss c x d
Spells lim n Inner (counted w f) ss c x d = Spells lim n Inner f ss (owing w c) x d
Spells lim n Inner (fresh w f) ss c x d = Spells lim n Inner f ss (from_zero w c) x d
Spells lim n Inner (made {a = e} h f) ss c x d = (y : e) × (x ≡ h y) × Spells lim n Inner f ss c y d

-- a rule inside has one nesting fewer
abbrev pub SpellsRule : {L : Language} → Grammar L → Limits L → ℕ → (r : L.Rule) → Spelling L (L.Meaning r)
SpellsRule G lim zero r ss c x d = ⊥
SpellsRule G lim (suc n) r ss c x d = Spells lim n (SpellsRule G lim n) (G r) ss c x d
