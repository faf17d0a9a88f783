-- The passes of callers in a run (docs/EMBEDDING.md, "A whole run").
use Rattle.std.specs.Prelude.{◌≡◌, ℕ, ◌+◌, List, map, length, Some}
use Rattle.atomic_table.specs.Seated.{TableId}
use Rattle.loft_code.specs.declared.raw.CodeProgram.{CodeProgram}
use Rattle.loft_orders.specs.declared.entry.Actor.{Actor}
use Rattle.loft_orders.specs.declared.entry.Actor.TheVariants.{Client}
use Rattle.loft_baton.specs.PassValue.{PassValue}
use Rattle.loft_ft.specs.Calls.{MayCall, IsFaithfulCaller, caller_of}

-- the pass of a caller that may call, for this code; its entries so far are those that it may make
pub record IsAtWork (b : TableId) (x : CodeProgram) (p : PassValue) : Type 0 where
  pub may : MayCall b p
  pub code : p.knows.code ≡ Some x
  pub faithful : IsFaithfulCaller p.knows

-- it is still the same caller's, who may call again
pub record GoesOn (b : TableId) (x : CodeProgram) (old new : PassValue) : Type 0 where
  pub at_work : IsAtWork b x new
  pub caller : caller_of new.knows ≡ caller_of old.knows

-- the pass of the caller of this index: its number follows those of the clients of the source
pub record IsCallerOf (b : TableId) (x : CodeProgram) (i : ℕ) (p : PassValue) : Type 0 where
  pub at_work : IsAtWork b x p
  pub caller : caller_of p.knows ≡ length x.heads.clients + i

abbrev pub caller_in : PassValue → Actor
caller_in p = Client (caller_of p.knows)

abbrev pub callers_in : List PassValue → List Actor
callers_in ps = map caller_in ps
