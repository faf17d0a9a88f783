-- Each text is that of one program or has one fault, since `parsed` tells which.
use Rattle.std.proofs.Common.{◌≡◌, ℕ, List, Result, Ok, Err, refl, sym, ◌∙◌, ◌⊎◌, inl, inr}
use Rattle.loft_tree.specs.Source.{Source}
use Rattle.loft_parse.specs.declared.error.ParseError.{ParseError}
use Rattle.loft_grammar.specs.Texts.{Reads}
use Rattle.loft_parse.specs.Faults.{SourceFault}
use Rattle.loft_parse.specs.Parsing.{parsed}
use Rattle.loft_parse.proofs.Laws.{parsed_reads, reads_parsed}
use Rattle.loft_parse.proofs.SourceFaults.{parsed_fault, fault_parsed}

pub one_program : (text : List ℕ) (p q : Source) → Reads text p → Reads text q → p ≡ q
one_program text p q reads other = let both = sym (reads_parsed text p reads) ∙ reads_parsed text q other in cc

pub one_fault : (text : List ℕ) (d e : ParseError) → SourceFault text d → SourceFault text e → d ≡ e
one_fault text d e fault other = let both = sym (fault_parsed text d fault) ∙ fault_parsed text e other in cc

pub never_both : (text : List ℕ) (p : Source) (e : ParseError) → Reads text p → SourceFault text e → ⊥
never_both text p e reads fault = let both = sym (reads_parsed text p reads) ∙ fault_parsed text e fault in cc

pub program_or_fault : (text : List ℕ) → ((p : Source) × Reads text p) ⊎ ((e : ParseError) × SourceFault text e)
program_or_fault text = go (parsed text) refl
  where
    go : (r : Result Source ParseError) → parsed text ≡ r → ((p : Source) × Reads text p) ⊎ ((e : ParseError) × SourceFault text e)
    go (Ok p) is = inl (p, parsed_reads text p is)
    go (Err e) is = inr (e, parsed_fault text e is)
