-- What a pass of one actor says of the actor's entries.
use Rattle.std.proofs.Common.{◌≡◌, List, [], inl, refl, sym, ap, subst, Some}
use Rattle.std.proofs.lemmas.List.Elements.{All-nil}
use Rattle.atomic_table.specs.Seated.{TableId}
use Rattle.loft_code.specs.declared.raw.CodeProgram.{CodeProgram}
use Rattle.loft_orders.specs.declared.entry.Actor.{Actor}
use Rattle.loft_orders.specs.declared.entry.Entry.{Entry}
use Rattle.loft_seat.specs.declared.seat.Seat.{Seat}
use Rattle.loft_seat.specs.Seats.{entries_in, entries_of, IsOf, IsSeat, HasSame, IsNewPass}

pub entries_is : {b : TableId} {x : CodeProgram} {a : Actor} {list : List Entry} {v : Seat} → IsSeat b x a list v → entries_of v ≡ list
entries_is seat = ap entries_in seat.own

-- the pass by its own entries
pub reseat : {b : TableId} {x : CodeProgram} {a : Actor} {list : List Entry} {v : Seat} → IsSeat b x a list v → HasSame b x a v v
reseat {b} {x} {a} {list} {v} seat = subst (λ (l : List Entry). IsSeat b x a l v) (sym (entries_is seat)) seat

-- the pass by a list that is the same
pub seat_as : {b : TableId} {x : CodeProgram} {a : Actor} {l list : List Entry} {v : Seat} → l ≡ list → IsSeat b x a l v → IsSeat b x a list v
seat_as {b} {x} {a} {l} {list} {v} is seat = subst (λ (k : List Entry). IsSeat b x a k v) is seat

-- a new pass has no entries
pub new_seat : (x : CodeProgram) (a : Actor) (v : Seat) → IsNewPass a v.pass → v.pass.knows.code ≡ Some x → IsSeat v.pass.baton x a [] v
new_seat x a v new code = record { baton = refl; idle = new.idle; code = code; own = new.own; mine = All-nil (IsOf a); current = inl refl }
