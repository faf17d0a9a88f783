-- Grammars as data: forms, each with the type of what it stands for.
use Rattle.std.specs.Prelude.{ℕ, Bool, false, ◌||◌, List, [], ◌∷◌, Option}

-- What a grammar is over: symbols, which differ by their kinds; rules that stand inside themselves, and what they stand for;
-- and what is counted, where `number` tells how many there are, `more` counts one more and `anew` counts from 0.
pub record Language : Type 1 where
  pub Symbol : Type 0
  pub Kind : Type 0
  pub kind : Symbol → Kind
  pub Rule : Type 0
  pub Meaning : Rule → Type 0
  pub Counted : Type 0
  pub Counts : Type 0
  pub number : Counted → Counts → ℕ
  pub more : Counted → Counts → Counts
  pub anew : Counted → Counts → Counts

infixr 30 ◌▹◌
infixr 20 ◌∣◌
-- leaf test value opens: a symbol whose kind passes the test, which stands for its value, and opens a nesting or not.
-- f ▹ g: f and then g. f ∣ g: f or g. inside r: the rule r, one nesting deeper.
-- counted w f: f, whose first symbol counts as one more w. fresh w f: f, where w is counted from 0.
-- made h f: f, which stands for h of what it is made of.
pub data Form (L : Language) : Type 0 → Type 1 where
  leaf : {a : Type 0} → (L.Kind → Bool) → (L.Symbol → a) → Bool → Form L a
  ◌▹◌ : {a b : Type 0} → Form L a → Form L b → Form L (a × b)
  ◌∣◌ : {a : Type 0} → Form L a → Form L a → Form L a
  maybe : {a : Type 0} → Form L a → Form L (Option a)
  many : {a : Type 0} → Form L a → Form L (List a)
  inside : (r : L.Rule) → Form L (L.Meaning r)
  counted : {a : Type 0} → L.Counted → Form L a → Form L a
  fresh : {a : Type 0} → L.Counted → Form L a → Form L a
  made : {a b : Type 0} → (a → b) → Form L a → Form L b

-- a form for each rule
abbrev pub Grammar : Language → Type 1
Grammar L = (r : L.Rule) → Form L (L.Meaning r)

-- how many of each there may be, where there is a limit
pub record Limits (L : Language) : Type 0 where
  pub most : L.Counted → Option ℕ

-- what was counted so far, and what the next symbol counts as
pub record State (L : Language) : Type 0 where
  pub counts : L.Counts
  pub due : List L.Counted

module _ {L : Language} where
  -- a symbol of this kind begins the form
  abbrev pub begins : {a : Type 0} → Form L a → L.Kind → Bool
  begins (leaf test value opens) k = test k
  begins (f ▹ g) k = begins f k
  begins (f ∣ g) k = begins f k || begins g k
  begins (maybe f) k = begins f k
  begins (many f) k = begins f k
  begins (inside r) k = false
  begins (counted w f) k = begins f k
  begins (fresh w f) k = begins f k
  begins (made h f) k = begins f k

  -- the next symbol begins the form
  abbrev pub next_begins : {a : Type 0} → Form L a → List L.Symbol → Bool
  next_begins f [] = false
  next_begins f (s ∷ ss) = begins f (L.kind s)
