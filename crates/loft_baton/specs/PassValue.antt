-- What a pass is to a contract: whose it is, and what it knows.
use Rattle.atomic_table.specs.Seated.{TableId}
use Rattle.loft_baton.specs.declared.knows.Knows.{Knows}

pub record PassValue : Type 0 where
  pub baton : TableId
  pub knows : Knows
