-- Reading from left to right, with the first fault that is met.
use Rattle.std.specs.Prelude.{◌≡◌, ℕ, zero, suc, ◌+◌, Bool, nat_le, ◌==◌, ◌&&◌, if◌then◌else◌, List, [], ◌∷◌, length, Option, Some, None, Result, Ok, Err}
use Rattle.loft_form.specs.declared.fault.Fault.{Fault}
use Rattle.loft_form.specs.declared.fault.Fault.TheVariants.{Expected, TooDeep, TooMany}
use Rattle.loft_form.specs.declared.stop.Stop.{Stop}
use Rattle.loft_form.specs.declared.stop.Stop.TheVariants as stop
use Rattle.loft_form.specs.Form.{Language, Form, leaf, ◌▹◌, ◌∣◌, maybe, many, inside, counted, fresh, made, Grammar, Limits, State, next_begins}
use Rattle.loft_form.specs.Spells.{owing, from_zero}

-- what is left to read, and what was counted
pub record Place (L : Language) : Type 0 where
  pub rest : List L.Symbol
  pub state : State L

abbrev pub Read : Language → Type 0 → Type 0
Read L A = Result (A × Place L) Fault

infixl 10 ◌>>=◌
abbrev pub ◌>>=◌ : {A B : Type 0} → Result A Fault → (A → Result B Fault) → Result B Fault
(Ok x) >>= f = f x
(Err e) >>= f = Err e

abbrev pub done : {L : Language} {A : Type 0} → A → List L.Symbol → State L → Read L A
done x ss c = Ok (x, record { rest = ss; state = c })

-- one more, unless that is too many
abbrev pub within : {A : Type 0} → Option ℕ → ℕ → ℕ → Result A Fault → Result A Fault
within None n left next = next
within (Some limit) n left next = if nat_le limit n then Err (TooMany left limit) else next

abbrev pub tally : {L : Language} → Limits L → ℕ → List L.Counted → L.Counts → Result L.Counts Fault
tally lim left [] c = Ok c
tally {L} lim left (w ∷ ws) c = within (lim.most w) (L.number w c) left (tally lim left ws (L.more w c))

abbrev pub paid : {L : Language} → L.Counts → State L
paid c = record { counts = c; due = [] }

-- A symbol that the form allows. It may open too deep a nesting, and else be one too many.
abbrev pub allowed : {L : Language} {A : Type 0} → Limits L → A → Bool → List L.Symbol → State L → Read L A
allowed lim x too_deep ss c =
    if too_deep then Err (TooDeep (length ss + 1))
    else (tally lim (length ss + 1) c.due c.counts >>= λ after. done x ss (paid after))

unfoldable pub leaf_at : {L : Language} {A : Type 0} → Limits L → Bool → (L.Kind → Bool) → (L.Symbol → A) → List L.Symbol → State L → Read L A
leaf_at lim too_deep test value [] c = Err (Expected 0)
leaf_at {L} lim too_deep test value (s ∷ ss) c = if test (L.kind s) then allowed lim (value s) too_deep ss c else Err (Expected (length ss + 1))

abbrev pub with_first : {L : Language} {A : Type 0} → A → Read L (List A) → Read L (List A)
with_first x (Ok y) = Ok (x ∷ y.0, y.1)
with_first x (Err e) = Err e

-- a form again and again, at most n times
unfoldable pub repeat : {L : Language} {A : Type 0} → ℕ → (List L.Symbol → Bool) → (List L.Symbol → State L → Read L A) → List L.Symbol → State L → Read L (List A)
repeat zero goes_on read ss c = done [] ss c
repeat (suc n) goes_on read ss c =
    if goes_on ss
    then (read ss c >>= λ x. with_first x.0 (repeat n goes_on read x.1.rest x.1.state))
    else done [] ss c

-- a form, where n nestings may still be opened, and rules are read by inner
abbrev pub form_at : {L : Language} {a : Type 0} → Limits L → ℕ → ((r : L.Rule) → List L.Symbol → State L → Read L (L.Meaning r)) → Form L a → List L.Symbol → State L → Read L a
form_at lim n inner (leaf test value opens) ss c = leaf_at lim (opens && n == 0) test value ss c
form_at lim n inner (f ▹ g) ss c = form_at lim n inner f ss c >>= λ x. form_at lim n inner g x.1.rest x.1.state >>= λ y. Ok ((x.0, y.0), y.1)
form_at lim n inner (f ∣ g) ss c =
    if next_begins f ss then form_at lim n inner f ss c else form_at lim n inner g ss c
form_at lim n inner (maybe f) ss c =
    if next_begins f ss then (form_at lim n inner f ss c >>= λ x. Ok (Some x.0, x.1)) else done None ss c
form_at lim n inner (many f) ss c = repeat (length ss) (next_begins f) (form_at lim n inner f) ss c
form_at lim n inner (inside r) ss c = inner r ss c
form_at lim n inner (counted w f) ss c = form_at lim n inner f ss (owing w c)
form_at lim n inner (fresh w f) ss c = form_at lim n inner f ss (from_zero w c)
form_at lim n inner (made h f) ss c = form_at lim n inner f ss c >>= λ x. Ok (h x.0, x.1)

-- a rule inside: one nesting fewer may be opened there
unfoldable pub rule_at : {L : Language} → Grammar L → Limits L → ℕ → (r : L.Rule) → List L.Symbol → State L → Read L (L.Meaning r)
rule_at G lim zero r ss c = Err (TooDeep (length ss))
rule_at G lim (suc n) r ss c = form_at lim n (rule_at G lim n) (G r) ss c

abbrev pub read : {L : Language} {a : Type 0} → Grammar L → Limits L → ℕ → Form L a → List L.Symbol → State L → Read L a
read G lim n f ss c = form_at lim n (rule_at G lim n) f ss c

-- What a reader returned, seen by view, is what reading gives, unless memory ran out.
abbrev pub Fails : {Y : Type 0} → Stop → Result Y Fault → Type 0
Fails stop.NoMemory found = Unit {0}
Fails (stop.Fault f) found = found ≡ Err f

abbrev pub Gives : {X Y : Type 0} → (X → Y) → Result X Stop → Result Y Fault → Type 0
Gives view (Ok x) found = found ≡ Ok (view x)
Gives view (Err e) found = Fails e found

-- what was read, if no symbol is left; the next one may not stand there
abbrev pub with_rest : {A S : Type 0} → A → List S → Result A Fault
with_rest x [] = Ok x
with_rest x (s ∷ ss) = Err (Expected (length (s ∷ ss)))

-- reading all of the symbols
abbrev pub all_of : {L : Language} {A : Type 0} → Read L A → Result A Fault
all_of (Ok x) = with_rest x.0 x.1.rest
all_of (Err e) = Err e
