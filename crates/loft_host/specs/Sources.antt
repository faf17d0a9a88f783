-- The code of a text, and why a text has none (docs/EMBEDDING.md, "A whole run").
use Rattle.std.specs.Prelude.{◌≡◌, ◌≢◌, ℕ, List}
use Rattle.loft_tree.specs.Source.{Source}
use Rattle.loft_tree.specs.Resolved.{resolved_of}
use Rattle.loft_grammar.specs.Texts.{Reads}
use Rattle.loft_parse.specs.Faults.{IsFault}
use Rattle.loft_scopes.specs.Faults.{NameFault, NamesFit}
use Rattle.loft_scopes.specs.declared.error.NameError.TheVariants.{NoMemory as no_memory}
use Rattle.loft_numbers.specs.Numbers.{numbered}
use Rattle.loft_place.specs.Links.{PlaceFault}
use Rattle.loft_code.specs.View.{automata_of}
use Rattle.loft_code.specs.declared.raw.CodeProgram.{CodeProgram}
use Rattle.loft_translation.specs.Compiled.{compiled}
use Rattle.loft_host.specs.declared.source.SourceError.{SourceError}
use Rattle.loft_host.specs.declared.source.SourceError.TheVariants.{Text, Names, Links, NoMemory}

-- the text is that of a program, whose names and kinds are correct, and the code is the compiler's of it
abbrev pub IsCodeOf : List ℕ → CodeProgram → Type 0
IsCodeOf text c = (p : Source) × Reads text p × NamesFit p × (automata_of c ≡ compiled (resolved_of (numbered p)))

-- an error has its cause, but for a want of memory: a fault of the text, or of the names or the links of its program
abbrev pub IsCause : List ℕ → SourceError → Type 0
IsCause text (Text e) = IsFault text e
IsCause text (Names e) = e ≢ no_memory → (p : Source) × Reads text p × NameFault p e
IsCause text (Links e) = (p : Source) × Reads text p × NamesFit p × PlaceFault (numbered p) e
IsCause text NoMemory = Unit {0}
