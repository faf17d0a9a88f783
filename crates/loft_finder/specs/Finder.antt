-- Where threads may stand, by their ids (docs/SEMANTICS.md, "Waiting lists").
use Rattle.std.specs.Prelude.{◌≡◌, ◌≢◌, ℕ, Bool, true, false, not, ◌||◌}
use Rattle.std.specs.declared.cmp.Ordering.{Ordering}
use Rattle.std.specs.Ordering.{nat_cmp, ordering_then}
use Rattle.std.specs.BTreeSet.{contains}
use Rattle.loft_base.specs.declared.ids.ThreadId.{ThreadId}
use Rattle.loft_finder.specs.declared.key.IdKey.{IdKey}
use Rattle.loft_finder.specs.declared.finder.Finder.{Finder}
use Rattle.loft_finder.specs.Keys.{id_key, key_cmp}

-- a key with a position
abbrev pub Place : Type 0
Place = IdKey × ℕ

abbrev pub place_cmp : Place → Place → Ordering
place_cmp x y = ordering_then (key_cmp x.0 y.0) (nat_cmp x.1 y.1)

-- whether a thread with this id may stand at this position: where positions are listed, it is listed there
abbrev pub may_stand : Finder → ThreadId → ℕ → Bool
may_stand f t i = not f.is_on || contains place_cmp f.places (id_key t, i)

abbrev pub AllMayStand : Finder → Type 0
AllMayStand f = (t : ThreadId) (i : ℕ) → may_stand f t i ≡ true

abbrev pub NobodyStands : Finder → Type 0
NobodyStands f = (t : ThreadId) (i : ℕ) → may_stand f t i ≡ false

-- each thread may stand wherever it might
abbrev pub KeepsAll : Finder → Finder → Type 0
KeepsAll old new = (t : ThreadId) (i : ℕ) → may_stand old t i ≡ true → may_stand new t i ≡ true

-- the same of the other positions
abbrev pub KeepsOthers : ℕ → Finder → Finder → Type 0
KeepsOthers p old new = (t : ThreadId) (i : ℕ) → i ≢ p → may_stand old t i ≡ true → may_stand new t i ≡ true
