-- What a reader does that keeps why it stopped.
use Rattle.std.specs.Prelude.{◌≡◌, Some, None, Ok, Err, ◌⊎◌}
use Rattle.loft_form.specs.declared.fault.Fault.{Fault}
use Rattle.loft_form.specs.declared.stop.Stop.TheVariants as stop
use Rattle.loft_form.specs.Reading.{Read}
use Rattle.loft_grammar.specs.declared.reader.Reader.{Reader}
use Rattle.loft_grammar.specs.Language.{Language}
use Rattle.loft_grammar.specs.View.{place_of}

-- Where it has not stopped, neither had it before, and reading gives the value and where it stands now. Where a fault stopped it,
-- that one had stopped it before, or nothing had and reading gives the fault.
abbrev pub Takes : {A : Type 0} → Reader → Reader → A → Read Language A → Type 0
Takes old new x found =
    (new.stopped ≡ None → (old.stopped ≡ None) × (found ≡ Ok (x, place_of new.cursor)))
    × ((f : Fault) → new.stopped ≡ Some (stop.Fault f) → (old.stopped ≡ Some (stop.Fault f)) ⊎ ((old.stopped ≡ None) × (found ≡ Err f)))
