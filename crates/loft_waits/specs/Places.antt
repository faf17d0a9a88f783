-- The lists in which waiting threads stand, and what they and the flags of those who can go have to do with the waits.
use Rattle.std.specs.Prelude.{◌≡◌, ◌≢◌, ℕ, suc, ◌+◌, ◌<◌, ◌≤◌, ◌==◌, ◌&&◌, ◌||◌, ◌⊎◌, ℤ, pos, Bool, true, false, List, length, slice_index_or, Option, Some, None}
use Rattle.std.specs.declared.cmp.Ordering.{Ordering}
use Rattle.std.specs.Ordering.{nat_cmp, ordering_then}
use Rattle.std.specs.List.{list_any}
use Rattle.std.specs.BTreeSet.{BTreeSet, contains}
use Rattle.loft_base.specs.declared.ids.ThreadId.{ThreadId}
use Rattle.loft_orders.specs.declared.thread.Wait.{Wait}
use Rattle.loft_orders.specs.declared.thread.Wait.TheVariants as wait
use Rattle.loft_sense.specs.CanGo.{same_thread}
use Rattle.loft_finder.specs.Keys.{id_key}
use Rattle.loft_waits.specs.declared.key.Key.{Key}
use Rattle.loft_waits.specs.declared.key.Key.TheVariants.{Event, Value, End, Close}
use Rattle.loft_waits.specs.declared.places.Places.{Places}
use Rattle.loft_waits.specs.contracts.key.KeyOrd.TheImpl as key_ord
use Rattle.loft_waits.specs.Told.{Told, wait_at, ready_at}

abbrev pub key_cmp : Key → Key → Ordering
key_cmp = (key_ord.ghosts).cmp

-- a key with a position
abbrev pub Place : Type 0
Place = Key × ℕ

abbrev pub place_cmp : Place → Place → Ordering
place_cmp x y = ordering_then (key_cmp x.0 y.0) (nat_cmp x.1 y.1)

-- whether a position is in a set under a key
abbrev pub is_placed : BTreeSet Place → Key → ℕ → Bool
is_placed set key i = contains place_cmp set (key, i)

-- the key is the close with this number
abbrev pub is_close : ℕ → Key → Bool
is_close n (Close m) = n == m
is_close n key = false

-- whether a position is listed under a key
abbrev pub is_listed : Places → Key → ℕ → Bool
is_listed places key i = (is_close places.due key && list_any (λ j. j == i) places.soon.items) || is_placed places.set key i

-- it waits for this event
abbrev pub names_event : ℕ → Option Wait → Bool
names_event e (Some (wait.Events events left)) = list_any (λ x. e == x.0) events
names_event e w = false

-- it waits for the value of this event with this index
abbrev pub names_value : ℕ → ℕ → Option Wait → Bool
names_value e n (Some (wait.Index event (pos at))) = e == event.0 && n == at
names_value e n w = false

-- it waits for the end of this thread
abbrev pub names_thread : ThreadId → Option Wait → Bool
names_thread t (Some (wait.Join thread left)) = same_thread thread t
names_thread t w = false

-- a number that isn't negative
abbrev pub number_of : Option ℤ → Option ℕ
number_of (Some (pos n)) = Some n
number_of left = None

-- after how many closes it is over, whatever comes: its number has run out, or its value has not come
abbrev pub ends_in : Option Wait → Option ℕ
ends_in (Some (wait.Coop left)) = number_of (Some left)
ends_in (Some (wait.Events events left)) = number_of left
ends_in (Some (wait.Index event at)) = Some 1
ends_in (Some (wait.Join thread left)) = number_of left
ends_in w = None

-- a position whose thread waits so is listed under each key that can make it go
pub record IsListed (places : Places) (clock i : ℕ) (w : Option Wait) : Type 0 where
  pub events : (e : ℕ) → names_event e w ≡ true → is_listed places (Event e) i ≡ true
  pub values : (e n : ℕ) → names_value e n w ≡ true → is_listed places (Value e n) i ≡ true
  pub ends : (t : ThreadId) → names_thread t w ≡ true → is_listed places (End (id_key t)) i ≡ true
  pub later : (n : ℕ) → ends_in w ≡ Some (suc n) → is_listed places (Close (clock + suc n)) i ≡ true

-- the byte of a flag
abbrev pub flag : Bool → ℕ
flag false = 0
flag true = 1

-- Each flag says whether the thread at its position can go, and whoever waits is listed. Others may be listed too.
pub record IsKept (t : Told) (ready : List ℕ) (places : Places) : Type 0 where
  pub few : t.closes < 9223372036854775808
  pub many : length t.waits ≤ length ready
  pub flags : (i : ℕ) → slice_index_or ready i 0 ≡ flag (ready_at t i)
  pub listed : (i : ℕ) → IsListed places t.closes i (wait_at t i)

-- the other positions are listed wherever they were
abbrev pub KeepsOthers : ℕ → Places → Places → Type 0
KeepsOthers p old new = (k : Key) (i : ℕ) → i ≢ p → is_listed old k i ≡ true → is_listed new k i ≡ true

-- all positions are listed wherever they were
abbrev pub KeepsAll : Places → Places → Type 0
KeepsAll old new = (k : Key) (i : ℕ) → is_listed old k i ≡ true → is_listed new k i ≡ true

-- all positions are listed wherever they were, but for this key
abbrev pub KeepsBut : Key → Places → Places → Type 0
KeepsBut but old new = (k : Key) (i : ℕ) → k ≢ but → is_listed old k i ≡ true → is_listed new k i ≡ true

-- each flag is set anew or stays
abbrev pub SetsSome : Told → List ℕ → List ℕ → Type 0
SetsSome t old new = (i : ℕ) → (slice_index_or new i 0 ≡ flag (ready_at t i)) ⊎ (slice_index_or new i 0 ≡ slice_index_or old i 0)

-- the flag of each position that is in a set under a key is set anew
abbrev pub SetsPlaced : Told → BTreeSet Place → Key → List ℕ → Type 0
SetsPlaced t set k new = (i : ℕ) → i < length t.waits → is_placed set k i ≡ true → slice_index_or new i 0 ≡ flag (ready_at t i)

-- the flag of each position that is listed under a key is set anew
abbrev pub SetsListed : Told → Places → Key → List ℕ → Type 0
SetsListed t places k new = (i : ℕ) → i < length t.waits → is_listed places k i ≡ true → slice_index_or new i 0 ≡ flag (ready_at t i)
