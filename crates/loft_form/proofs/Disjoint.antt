-- When the next symbol always tells how a form goes on.
use Rattle.std.proofs.Common.{◌≡◌, Bool, true, false, ◌&&◌, ◌||◌, not, List, [], ◌∷◌, refl}
use Rattle.loft_form.specs.Form.{Language, Form, leaf, ◌▹◌, ◌∣◌, maybe, many, inside, counted, fresh, made, Grammar, begins}

-- What is stated of the rules inside: that they may take nothing, which symbols may be their first, and which may go on with them.
-- All kinds of symbols stand in a list.
pub record Known (L : Language) : Type 0 where
  pub may_be_empty : L.Rule → Bool
  pub may_start : L.Rule → L.Kind → Bool
  pub may_go_on : L.Rule → L.Kind → Bool
  pub kinds : List L.Kind

unfoldable pub every : {A : Type 0} → (A → Bool) → List A → Bool
every p [] = true
every p (x ∷ xs) = p x && every p xs

pub and_true : (a b : Bool) → (a && b) ≡ true → (a ≡ true) × (b ≡ true)
and_true true b e = (refl, e)
and_true false b e = absurd cc

pub or_false : (a b : Bool) → (a || b) ≡ false → (a ≡ false) × (b ≡ false)
or_false true b e = absurd cc
or_false false b e = (refl, e)

pub or_true_right : (a b : Bool) → b ≡ true → (a || b) ≡ true
or_true_right true b e = refl
or_true_right false b e = e

-- the form takes a symbol, and `begins` tells of each symbol whether it may be the first
abbrev pub leading : {L : Language} {a : Type 0} → Form L a → Bool
leading (leaf test value opens) = true
leading (f ▹ g) = leading f
leading (f ∣ g) = leading f && leading g
leading (maybe f) = false
leading (many f) = false
leading (inside r) = false
leading (counted w f) = leading f
leading (fresh w f) = leading f
leading (made h f) = leading f

module _ {L : Language} (R : Known L) where
  -- the form may take no symbol
  abbrev pub nullable : {a : Type 0} → Form L a → Bool
  nullable (leaf test value opens) = false
  nullable (f ▹ g) = nullable f && nullable g
  nullable (f ∣ g) = nullable f || nullable g
  nullable (maybe f) = true
  nullable (many f) = true
  nullable (inside r) = R.may_be_empty r
  nullable (counted w f) = nullable f
  nullable (fresh w f) = nullable f
  nullable (made h f) = nullable f

  -- a symbol of this kind may be the first
  abbrev pub starts : {a : Type 0} → Form L a → L.Kind → Bool
  starts (leaf test value opens) k = test k
  starts (f ▹ g) k = starts f k || (nullable f && starts g k)
  starts (f ∣ g) k = starts f k || starts g k
  starts (maybe f) k = starts f k
  starts (many f) k = starts f k
  starts (inside r) k = R.may_start r k
  starts (counted w f) k = starts f k
  starts (fresh w f) k = starts f k
  starts (made h f) k = starts f k

  -- a symbol of this kind, after the form, may still be of it
  abbrev pub goes_on : {a : Type 0} → Form L a → L.Kind → Bool
  goes_on (leaf test value opens) k = false
  goes_on (f ▹ g) k = goes_on g k || (nullable g && goes_on f k)
  goes_on (f ∣ g) k = goes_on f k || goes_on g k
  goes_on (maybe f) k = begins f k || goes_on f k
  goes_on (many f) k = begins f k || goes_on f k
  goes_on (inside r) k = R.may_go_on r k
  goes_on (counted w f) k = goes_on f k
  goes_on (fresh w f) k = goes_on f k
  goes_on (made h f) k = goes_on f k

  -- no kind passes both tests
  abbrev pub apart : (L.Kind → Bool) → (L.Kind → Bool) → Bool
  apart p q = every (λ k. not (p k && q k)) R.kinds

  -- each kind that passes p passes q
  abbrev pub agrees : (L.Kind → Bool) → (L.Kind → Bool) → Bool
  agrees p q = every (λ k. not (p k) || q k) R.kinds

  -- the next symbol always tells how the form goes on; what is counted takes a symbol
  abbrev pub clear : {a : Type 0} → Form L a → Bool
  clear (leaf test value opens) = true
  clear (f ▹ g) = clear f && (clear g && apart (goes_on f) (starts g))
  clear (f ∣ g) = clear f && (clear g && (leading f && (leading g && apart (begins f) (begins g))))
  clear (maybe f) = clear f && leading f
  clear (many f) = clear f && (leading f && apart (goes_on f) (begins f))
  clear (inside r) = true
  clear (counted w f) = clear f && leading f
  clear (fresh w f) = clear f
  clear (made h f) = clear f

-- what is stated is true of the grammar, whose rules are clear
pub record Fair {L : Language} (G : Grammar L) (R : Known L) : Type 0 where
  pub all_kinds : (p : L.Kind → Bool) → every p R.kinds ≡ true → (k : L.Kind) → p k ≡ true
  pub rule_clear : (r : L.Rule) → clear R (G r) ≡ true
  pub rule_empty : (r : L.Rule) → nullable R (G r) ≡ true → R.may_be_empty r ≡ true
  pub rule_starts : (r : L.Rule) → agrees R (starts R (G r)) (R.may_start r) ≡ true
  pub rule_goes_on : (r : L.Rule) → agrees R (goes_on R (G r)) (R.may_go_on r) ≡ true
