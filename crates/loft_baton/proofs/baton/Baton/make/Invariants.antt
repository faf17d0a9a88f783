use Rattle.std.specs.Prelude.{Some}
use Rattle.loft_orders.specs.declared.entry.Actor.TheVariants.{Client}
use Rattle.loft_baton.proofs.baton.Baton.make.Given as goal

abbrev pub ghosts-begin : goal.ghosts-begin
ghosts-begin g a = record { code = Some a.c.now; actor = Client 0 }
