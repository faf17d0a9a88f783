-- What valid code keeps: each operation leads to operations that are there (docs/CODE.md, "What valid code keeps").
use Rattle.std.specs.Prelude.{◌≡◌, ℕ, false, List, Some, slice_get}
use Rattle.loft_base.specs.declared.ids.ModuleId.{ModuleId}
use Rattle.loft_tree.specs.declared.heads.Place.{Place}
use Rattle.loft_tree.specs.declared.heads.Signature.{Signature}
use Rattle.loft_tree.specs.declared.heads.Heads.{Heads}
use Rattle.loft_tree.specs.Fits.{Each}
use Rattle.loft_code.specs.declared.ways.Way.{Way}
use Rattle.loft_code.specs.Operations.{Line, Automata, goes_on_at}
use Rattle.loft_tree.specs.NamedFits.{slots_of}
use Rattle.loft_code.specs.Names.{has_bad_name}
use Rattle.loft_code.specs.Places.{place_left, has_bad_place}
use Rattle.loft_code.specs.Kinds.{has_bad_kind}
use Rattle.loft_code.specs.Valid.{jumps_out, has_bad_stop, has_bad_count}

-- a module that is declared, and its operations
pub record IsModule (c : Automata) (m : ModuleId) (signature : Signature) (lines : List Line) : Type 0 where
  pub declared : slice_get c.heads.modules m.0 ≡ Some signature
  pub code : slice_get c.modules m.0 ≡ Some lines

-- there is an operation of this number, place and depth
pub record IsReached (lines : List Line) (there : Place) (w : Way) : Type 0 where
  pub next : Line
  pub at : slice_get lines w.at ≡ Some next
  pub place : next.place ≡ there
  pub depth : next.depth ≡ w.depth

-- each operation at which operation p goes on is there, at the place where that one leaves the thread, and at its depth
abbrev pub LeadsOn : Heads → List Line → ℕ → Line → Type 0
LeadsOn h lines p l = Each (IsReached lines (place_left h l.place l.operation)) (goes_on_at l.operation p l.depth)

-- a module begins at operation 0, in its place and without counts
pub record BeginsWell (signature : Signature) (lines : List Line) : Type 0 where
  pub first : Line
  pub at : slice_get lines 0 ≡ Some first
  pub place : first.place ≡ signature.begin
  pub depth : first.depth ≡ 0

-- a module ends in its place and without counts
pub record EndsWell (signature : Signature) (l : Line) : Type 0 where
  pub place : l.place ≡ signature.end
  pub depth : l.depth ≡ 0

-- operation p passes all tests
pub record Passes (h : Heads) (signature : Signature) (lines : List Line) (p : ℕ) (l : Line) : Type 0 where
  pub jump : jumps_out lines p l.operation ≡ false
  pub name : has_bad_name h (slots_of signature) l ≡ false
  pub stop : has_bad_stop lines p l.operation ≡ false
  pub place : has_bad_place h signature lines p l ≡ false
  pub count : has_bad_count lines p l ≡ false
  pub kind : has_bad_kind h (slots_of signature) l ≡ false
