-- The fault of a list of symbols that are all to be of a form. Each kind of fault is asked for by itself: Expected of the grammar without limits,
-- TooDeep with the limit on nestings alone, TooMany with the limits on counts alone. The fault is the first of those that there are.
use Rattle.std.specs.Prelude.{◌≡◌, ℕ, ◌<◌, List, length, None, ◌⊎◌}
use Rattle.loft_form.specs.declared.fault.Fault.{Fault}
use Rattle.loft_form.specs.declared.fault.Fault.TheVariants.{Expected, TooDeep, TooMany}
use Rattle.loft_form.specs.Form.{Language, Form, Grammar, Limits, State}
use Rattle.loft_form.specs.Spells.{Spells, SpellsRule}
use Rattle.loft_form.specs.Stops.{Stopping, Takes, Stops, TakesRule, StopsRule}

-- no limit on any count
abbrev pub unlimited : {L : Language} → Limits L
unlimited = record { most = λ w. None }

-- all of the symbols spell the value
abbrev pub SpellsWhole : {L : Language} {a : Type 0} → Grammar L → Limits L → ℕ → Form L a → List L.Symbol → State L → a → Type 0
SpellsWhole {L} G lim n f ss c x = (d : State L) × Spells lim n (SpellsRule G lim n) f ss c x d

-- the symbols stop to be of the form; or the form takes some of them, and no further one may come after
abbrev pub StopsWhole : {L : Language} {a : Type 0} → Grammar L → Limits L → ℕ → Form L a → Stopping L
StopsWhole {L} G lim n f ss c e =
    Stops lim n (TakesRule G lim n) (StopsRule G lim n) f ss c e
    ⊎ ((rest : List L.Symbol) × (d : State L) × Takes lim n (TakesRule G lim n) f ss c rest d × (0 < length rest) × (e ≡ Expected (length rest)))

-- What the symbols have of each kind. Without limits means that some number m of nestings is enough for this answer.
abbrev pub HasFault : {L : Language} {a : Type 0} → Grammar L → Limits L → ℕ → Form L a → Stopping L
HasFault G lim n f ss c (Expected k) = (m : ℕ) × StopsWhole G unlimited m f ss c (Expected k)
HasFault G lim n f ss c (TooDeep k) = StopsWhole G unlimited n f ss c (TooDeep k)
HasFault G lim n f ss c (TooMany k limit) = (m : ℕ) × StopsWhole G lim m f ss c (TooMany k limit)

-- how many symbols are left at the fault
abbrev pub left_of : Fault → ℕ
left_of (Expected k) = k
left_of (TooDeep k) = k
left_of (TooMany k limit) = k

-- at one symbol Expected comes first, then TooDeep, then TooMany
abbrev pub rank_of : Fault → ℕ
rank_of (Expected k) = 0
rank_of (TooDeep k) = 1
rank_of (TooMany k limit) = 2

-- e is at an earlier symbol than d (more are left there), or at the same one and of an earlier kind
abbrev pub Precedes : Fault → Fault → Type 0
Precedes e d = (left_of d < left_of e) ⊎ ((left_of d ≡ left_of e) × (rank_of e < rank_of d))

-- the fault of the symbols: they have it, and it precedes each other one that they have
pub record IsFaultOf {L : Language} {a : Type 0} (G : Grammar L) (lim : Limits L) (n : ℕ) (f : Form L a) (ss : List L.Symbol) (c : State L) (e : Fault) : Type 0 where
  pub there : HasFault G lim n f ss c e
  pub first : (d : Fault) → HasFault G lim n f ss c d → (d ≡ e) ⊎ Precedes e d
