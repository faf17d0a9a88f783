-- The passes of callers, and what the small program of the tests has.
use Rattle.std.specs.Prelude.{◌≡◌, ℕ, [], Option}
use Rattle.atomic_table.specs.Seated.{TableId}
use Rattle.loft_code.specs.declared.raw.CodeProgram.{CodeProgram}
use Rattle.loft_sense.specs.Heads.{scheduler}
use Rattle.loft_tree.specs.HeadsFit.{HeadsFit}
use Rattle.loft_baton.specs.PassValue.{PassValue}
use Rattle.loft_ft.specs.Calls.{ForCode, IsEvent, MayCall, caller_of}

-- an idle pass of this baton, whose one actor is this caller
pub record IsOfCaller (b : TableId) (c : ℕ) (p : PassValue) : Type 0 where
  pub may : MayCall b p
  pub caller : caller_of p.knows ≡ c

-- the first event is on the board of a scheduler
abbrev pub HasEvent : Option CodeProgram → Type 0
HasEvent code = ForCode (λ x. IsEvent x.heads (record { 0 = 0 })) code

-- a thread of the first module can begin in the first scheduler
abbrev pub MayBegin : Option CodeProgram → Type 0
MayBegin code = ForCode (λ x. HeadsFit x.heads (scheduler 0) (record { 0 = 0 }) []) code
