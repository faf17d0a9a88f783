-- Where a list of symbols stops to be of a form. Each part is entered exactly where the next symbol begins it.
use Rattle.std.specs.Prelude.{◌≡◌, ℕ, zero, suc, ◌≤◌, Bool, true, false, ◌==◌, ◌&&◌, List, [], ◌∷◌, length, Option, Some, None, ◌⊎◌}
use Rattle.loft_form.specs.declared.fault.Fault.{Fault}
use Rattle.loft_form.specs.declared.fault.Fault.TheVariants.{Expected, TooDeep, TooMany}
use Rattle.loft_form.specs.Form.{Language, Form, leaf, ◌▹◌, ◌∣◌, maybe, many, inside, counted, fresh, made, Grammar, Limits, State, next_begins}
use Rattle.loft_form.specs.Spells.{Below, Pays, owing, from_zero}

-- where n are counted already, one more passes this limit
abbrev pub Passed : Option ℕ → ℕ → ℕ → Type 0
Passed None n limit = ⊥
Passed (Some most) n limit = (most ≤ n) × (limit ≡ most)

-- the first of these that is one too many passes this limit
abbrev pub Passes : {L : Language} → Limits L → List L.Counted → L.Counts → ℕ → Type 0
Passes lim [] c limit = ⊥
Passes {L} lim (w ∷ ws) c limit = Passed (lim.most w) (L.number w c) limit ⊎ (Below (lim.most w) (L.number w c) × Passes lim ws (L.more w c) limit)

-- which symbols are taken, and which are left
abbrev pub Taking : Language → Type 1
Taking L = List L.Symbol → State L → List L.Symbol → State L → Type 0

abbrev pub Stopping : Language → Type 1
Stopping L = List L.Symbol → State L → Fault → Type 0

-- a single symbol that passes the test
abbrev pub TakesOne : {L : Language} → Limits L → (L.Kind → Bool) → Bool → Taking L
TakesOne {L} lim test too_deep ss c rest d = (s : L.Symbol) × (ss ≡ s ∷ rest) × (test (L.kind s) ≡ true) × (too_deep ≡ false) × Pays lim c d

-- It is another symbol, or the end; or it opens too deep a nesting; or it is one too many.
abbrev pub StopsOne : {L : Language} → Limits L → (L.Kind → Bool) → Bool → Stopping L
StopsOne lim test too_deep [] c e = e ≡ Expected 0
StopsOne {L} lim test too_deep (s ∷ ss) c e =
    ((test (L.kind s) ≡ false) × (e ≡ Expected (length (s ∷ ss))))
    ⊎ (((test (L.kind s) ≡ true) × (too_deep ≡ true) × (e ≡ TooDeep (length (s ∷ ss))))
    ⊎ ((limit : ℕ) × (test (L.kind s) ≡ true) × (too_deep ≡ false) × Passes lim c.due c.counts limit × (e ≡ TooMany (length (s ∷ ss)) limit)))

-- k times, and no further one begins
abbrev pub TakesTimes : {L : Language} → (List L.Symbol → Bool) → Taking L → ℕ → Taking L
TakesTimes next One zero ss c rest d = (next ss ≡ false) × (rest ≡ ss) × (d ≡ c)
TakesTimes {L} next One (suc k) ss c rest d = (next ss ≡ true) × (mid : List L.Symbol) × (m : State L) × One ss c mid m × TakesTimes next One k mid m rest d

-- after k times
abbrev pub StopsAfter : {L : Language} → (List L.Symbol → Bool) → Taking L → Stopping L → ℕ → Stopping L
StopsAfter next One Stop zero ss c e = (next ss ≡ true) × Stop ss c e
StopsAfter {L} next One Stop (suc k) ss c e = (next ss ≡ true) × (mid : List L.Symbol) × (m : State L) × One ss c mid m × StopsAfter next One Stop k mid m e

-- which symbols a form takes, where n nestings may still be opened and Inner tells what rules inside take
abbrev pub Takes : {L : Language} {a : Type 0} → Limits L → ℕ → (L.Rule → Taking L) → Form L a → Taking L
Takes lim n Inner (leaf test value opens) ss c rest d = TakesOne lim test (opens && n == 0) ss c rest d
Takes {L} lim n Inner (f ▹ g) ss c rest d = (mid : List L.Symbol) × (m : State L) × Takes lim n Inner f ss c mid m × Takes lim n Inner g mid m rest d
Takes lim n Inner (f ∣ g) ss c rest d = ((next_begins f ss ≡ true) × Takes lim n Inner f ss c rest d) ⊎ ((next_begins g ss ≡ true) × Takes lim n Inner g ss c rest d)
Takes lim n Inner (maybe f) ss c rest d = ((next_begins f ss ≡ true) × Takes lim n Inner f ss c rest d) ⊎ ((next_begins f ss ≡ false) × (rest ≡ ss) × (d ≡ c))
Takes lim n Inner (many f) ss c rest d = (k : ℕ) × TakesTimes (next_begins f) (Takes lim n Inner f) k ss c rest d
Takes lim n Inner (inside r) ss c rest d = Inner r ss c rest d
Takes lim n Inner (counted w f) ss c rest d = Takes lim n Inner f ss (owing w c) rest d
Takes lim n Inner (fresh w f) ss c rest d = Takes lim n Inner f ss (from_zero w c) rest d
Takes lim n Inner (made h f) ss c rest d = Takes lim n Inner f ss c rest d

-- where the symbols stop to be of a form, and why
abbrev pub Stops : {L : Language} {a : Type 0} → Limits L → ℕ → (L.Rule → Taking L) → (L.Rule → Stopping L) → Form L a → Stopping L
Stops lim n Inner Stop (leaf test value opens) ss c e = StopsOne lim test (opens && n == 0) ss c e
Stops {L} lim n Inner Stop (f ▹ g) ss c e = Stops lim n Inner Stop f ss c e ⊎ ((mid : List L.Symbol) × (m : State L) × Takes lim n Inner f ss c mid m × Stops lim n Inner Stop g mid m e)
Stops lim n Inner Stop (f ∣ g) ss c e =
    ((next_begins f ss ≡ true) × Stops lim n Inner Stop f ss c e)
    ⊎ (((next_begins g ss ≡ true) × Stops lim n Inner Stop g ss c e)
    ⊎ ((next_begins f ss ≡ false) × (next_begins g ss ≡ false) × (e ≡ Expected (length ss))))
Stops lim n Inner Stop (maybe f) ss c e = (next_begins f ss ≡ true) × Stops lim n Inner Stop f ss c e
Stops lim n Inner Stop (many f) ss c e = (k : ℕ) × StopsAfter (next_begins f) (Takes lim n Inner f) (Stops lim n Inner Stop f) k ss c e
Stops lim n Inner Stop (inside r) ss c e = Stop r ss c e
Stops lim n Inner Stop (counted w f) ss c e = Stops lim n Inner Stop f ss (owing w c) e
Stops lim n Inner Stop (fresh w f) ss c e = Stops lim n Inner Stop f ss (from_zero w c) e
Stops lim n Inner Stop (made h f) ss c e = Stops lim n Inner Stop f ss c e

-- a rule inside has one nesting fewer
abbrev pub TakesRule : {L : Language} → Grammar L → Limits L → ℕ → L.Rule → Taking L
TakesRule G lim zero r ss c rest d = ⊥
TakesRule G lim (suc n) r ss c rest d = Takes lim n (TakesRule G lim n) (G r) ss c rest d

abbrev pub StopsRule : {L : Language} → Grammar L → Limits L → ℕ → L.Rule → Stopping L
StopsRule G lim zero r ss c e = e ≡ TooDeep (length ss)
StopsRule G lim (suc n) r ss c e = Stops lim n (TakesRule G lim n) (StopsRule G lim n) (G r) ss c e
