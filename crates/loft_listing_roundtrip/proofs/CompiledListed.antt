-- What is written of compiled code is a listing of it.
use Rattle.std.proofs.Common.{[]}
use Rattle.loft_tree.specs.Fits.{SourceFits}
use Rattle.loft_tree.specs.Resolved.{resolved_of}
use Rattle.loft_tree.specs.Source.{Source}
use Rattle.loft_scopes.specs.Scopes.{declared}
use Rattle.loft_scopes.specs.Faults.{NamesFit, twice_from, uses_from}
use Rattle.loft_numbers.specs.Numbers.{numbered}
use Rattle.loft_names.proofs.HeadsMeaning.{none_right}
use Rattle.loft_names.proofs.HoldsPrograms.{uses_agree}
use Rattle.loft_names.proofs.NumberedFits.{numbered_fits}
use Rattle.loft_place.specs.Links.{IsPlaced}
use Rattle.loft_code.specs.Operations.{Automata}
use Rattle.loft_translation.specs.Compiled.{compiled}
use Rattle.loft_translation.proofs.ProgramLemmas.{code_fits, code_valid}
use Rattle.loft_listing.specs.Listing.{listing_text}
use Rattle.loft_listing_reader.specs.Lists.{Lists}
use Rattle.loft_listing_roundtrip.proofs.Canonical.{names_threads}
use Rattle.loft_listing_roundtrip.proofs.Roundtrip.{written_is_listing}

pub compiled_is_listed : (p : Source) → SourceFits p → NamesFit p → IsPlaced (numbered p)
    → Lists (listing_text (compiled (resolved_of (numbered p)))) (compiled (resolved_of (numbered p)))
compiled_is_listed p fits names placed =
    let c : Automata = compiled (resolved_of (numbered p)) in
    let holds = numbered_fits p fits names in
    written_is_listing c (code_fits (numbered p) holds placed) (code_valid (numbered p) holds placed)
    (names_threads p (uses_agree (declared p) 0 p (none_right (twice_from [] (declared p)) (uses_from (declared p) 0 p) names.faultless)))
