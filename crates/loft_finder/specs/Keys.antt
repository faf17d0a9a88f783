-- Ids of threads, as keys of sets.
use Rattle.std.specs.declared.cmp.Ordering.{Ordering}
use Rattle.loft_base.specs.declared.ids.Maker.{Maker}
use Rattle.loft_base.specs.declared.ids.Maker.TheVariants as maker
use Rattle.loft_base.specs.declared.ids.ThreadId.{ThreadId}
use Rattle.loft_finder.specs.declared.key.IdKey.{IdKey}
use Rattle.loft_finder.specs.declared.key.MakerKey.{MakerKey}
use Rattle.loft_finder.specs.declared.key.MakerKey.TheVariants.{Source, Sched, Client}
use Rattle.loft_finder.specs.contracts.key.IdKeyOrd.TheImpl as key_ord

-- the id of a thread, as a key
abbrev pub maker_key : Maker → MakerKey
maker_key maker.Source = Source
maker_key (maker.Sched n) = Sched n
maker_key (maker.Client n) = Client n

abbrev pub id_key : ThreadId → IdKey
id_key t = record { seq = t.seq; maker = maker_key t.maker }

abbrev pub key_cmp : IdKey → IdKey → Ordering
key_cmp = (key_ord.ghosts).cmp
