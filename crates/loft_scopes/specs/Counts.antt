-- Room for the numbers of more declarations.
use Rattle.std.specs.Prelude.{ℕ, ◌+◌, ◌<◌, ◌^◌}
use Rattle.loft_scopes.specs.declared.counts.DeclarationCounts.{DeclarationCounts}

-- so many declarations more can be numbered
pub record HasRoom (n : DeclarationCounts) (more : ℕ) : Type 0 where
  pub schedulers : n.schedulers + more < 2 ^ 32
  pub events : n.events + more < 2 ^ 32
  pub shared : n.shared + more < 2 ^ 32
  pub modules : n.modules + more < 2 ^ 32
  pub starts : n.starts + more < 2 ^ 32
  pub clients : n.clients + more < 2 ^ 32
