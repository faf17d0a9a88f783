-- What each actor of a pass owes, by its own entries alone (docs/SEMANTICS.md, "Legal").
use Rattle.std.specs.Prelude.{List}
use Rattle.std.specs.List.{All}
use Rattle.loft_base.specs.declared.options.RunOptions.{RunOptions}
use Rattle.loft_sense.specs.Machine.{Prog, heads}
use Rattle.loft_history.specs.Legal.{IsDeclared, IsFaithful}
use Rattle.loft_baton.specs.declared.knows.Own.{Own}

-- each actor is declared, and its entries are those that it has to make
abbrev pub AreFaithful : Prog → RunOptions → List Own → Type 0
AreFaithful x o own = All (λ w. IsDeclared (heads x) o w.actor × IsFaithful x o w.actor w.entries) own
