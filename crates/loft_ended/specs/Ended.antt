-- A set of threads beside a list of them.
use Rattle.std.specs.Prelude.{◌≡◌, Bool, ◌||◌, ◌&&◌, List}
use Rattle.std.specs.BTreeSet.{contains}
use Rattle.loft_base.specs.declared.ids.ThreadId.{ThreadId}
use Rattle.loft_ended.specs.declared.keys.Keys.{Keys}
use Rattle.loft_ended.specs.Numbers.{has_number}
use Rattle.loft_finder.specs.Keys.{id_key, key_cmp}
use Rattle.loft_sense.specs.CanGo.{same_maker, is_known}

-- a thread is in the list of its maker's, or in the tree
abbrev pub has_thread : Keys → ThreadId → Bool
has_thread keys t = (same_maker keys.maker t.maker && has_number t.seq keys.numbers.items) || contains key_cmp keys.others (id_key t)

-- the set has the threads of the list
abbrev pub HasKeys : Keys → List ThreadId → Type 0
HasKeys keys threads = (t : ThreadId) → has_thread keys t ≡ is_known t threads
