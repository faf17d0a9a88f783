-- A fault of the grammar depends on no symbol after it.
use Rattle.std.proofs.Common.{◌≡◌, ℕ, ◌+◌, ◌-◌, ◌<◌, ◌≤◌, List, [], ◌∷◌, ◌++◌, length, drop, Ok, sym, ap, subst, ◌∙◌, append_assoc, arith, ◌⊎◌, inl, inr}
use Rattle.std.proofs.lemmas.Bool.{cases_lt}
use Rattle.loft_lex.specs.declared.token.Token.{Token}
use Rattle.loft_lex.specs.Symbol.{Symbol, symbols}
use Rattle.loft_lex.specs.Cut.{Cut}
use Rattle.loft_lex.proofs.Readings.{complete}
use Rattle.loft_tree.specs.Source.{Source}
use Rattle.loft_form.specs.declared.fault.Fault.{Fault}
use Rattle.loft_form.specs.declared.fault.Fault.TheVariants as fault
use Rattle.loft_form.specs.Faults.{IsFaultOf, left_of}
use Rattle.loft_form.proofs.Local.{moved, fault_whatever}
use Rattle.loft_parse.specs.declared.error.ParseError.{ParseError}
use Rattle.loft_parse.specs.declared.error.ParseError.TheVariants.{Expected, TooDeep, TooMany}
use Rattle.loft_grammar.specs.Statements.{rules}
use Rattle.loft_grammar.specs.Items.{program}
use Rattle.loft_grammar.specs.Limits.{limits, nesting, beginning}
use Rattle.loft_parse.specs.Faults.{first_place, place, located, SourceFault}
use Rattle.loft_grammar.specs.Texts.{Reads}
use Rattle.loft_parse.specs.Alike.{AgreeUpTo, StandsAt}
use Rattle.loft_productions.proofs.Checked.{checked}
use Rattle.loft_parse.proofs.Offsets.{Between, tokens_between, rises, symbol_at, same_offset, token_count}
use Rattle.loft_parse.proofs.TextLaws.{never_both}

-- the offset of a located fault
located_at : (end : ℕ) (ts : List Token) (f : Fault) (offset : ℕ) → StandsAt (located end ts f) offset → place end ts (left_of f) ≡ offset
located_at end ts (fault.Expected left) offset h = h
located_at end ts (fault.TooDeep left) offset h = h
located_at end ts (fault.TooMany left limit) offset h = h

-- two texts that begin with the same symbols, and the tokens of each
module _ (text other : List ℕ) (ts us : List Token) (before : List Symbol) (last : Symbol) (rest rest' : List Symbol)
    (begins : symbols text ts ≡ before ++ last ∷ rest) (other_begins : symbols other us ≡ before ++ last ∷ rest') where
  -- a fault whose offset is at most that of the last common symbol is at that symbol or before it
  is_before : Between (length text) 0 ts → (left : ℕ) → place (length text) ts left ≤ last.at → length rest < left
  is_before rising left up = go (cases_lt (length rest) left)
    where
      go : (length rest < left) ⊎ (left ≤ length rest) → length rest < left
      go (inl less) = less
      go (inr more) =
          let many = token_count text ts before last rest begins in
          let at = symbol_at (length text) text ts before last rest begins in
          let later = rises (length text) 0 ts rising (length before) (length ts - left) (omega arith) (omega arith) in
          absurd (omega arith)

  same_place : (left : ℕ) → length rest < left → place (length other) us (left - length rest + length rest') ≡ place (length text) ts left
  same_place left less =
      let many = token_count text ts before last rest begins in
      let others = token_count other us before last rest' other_begins in
      let index : length us - (left - length rest + length rest') ≡ length ts - left = omega arith in
      ap (λ i. first_place (length other) (drop i us)) index ∙ same_offset (length text) (length other) text other ts us before last rest rest' begins other_begins (length ts - left) (omega arith)

  same_located : (f : Fault) → length rest < left_of f → located (length other) us (moved (length rest) (length rest') f) ≡ located (length text) ts f
  same_located (fault.Expected left) less = ap (λ at. Expected at) (same_place left less)
  same_located (fault.TooDeep left) less = ap (λ at. TooDeep at) (same_place left less)
  same_located (fault.TooMany left limit) less = ap (λ at. TooMany at limit) (same_place left less)

  -- the fault of the one is that of the other
  moved_fault : Cut text (Ok ts) → Cut other (Ok us) → (f : Fault) → IsFaultOf rules limits nesting program (symbols text ts) beginning f → (offset : ℕ) → StandsAt (located (length text) ts f) offset → offset ≤ last.at
      → SourceFault other (located (length text) ts f)
  moved_fault found other_found f is offset stands up =
      let at = located_at (length text) ts f offset stands in
      let less = is_before (tokens_between text ts (complete found)) (left_of f) (omega arith) in
      let here = subst (λ ss. IsFaultOf rules limits nesting program ss beginning f) begins is in
      let there = fault_whatever checked limits nesting before last rest rest' beginning f here less in
      inr (us, moved (length rest) (length rest') f, other_found, subst (λ ss. IsFaultOf rules limits nesting program ss beginning (moved (length rest) (length rest') f)) (sym other_begins) there, sym (same_located f less))

one_cut : (text : List ℕ) (ts us : List Token) → Cut text (Ok ts) → Cut text (Ok us) → ts ≡ us
one_cut text ts us found other = let both = sym (complete found) ∙ complete other in cc

-- a text that begins with the same symbols, up to and with the one at the fault, has the same fault
pub same_fault : (text other : List ℕ) (e : ParseError) (offset : ℕ) → SourceFault text e → StandsAt e offset → AgreeUpTo offset text other → SourceFault other e
same_fault text other e offset (inl (f, found, is)) stands (before, last, up, (ts, rest, cut, begins), agrees) = absurd (let both = sym (complete found) ∙ complete cut in cc)
same_fault text other e offset (inr (ts, f, found, fault, is)) stands (before, last, up, (us, rest, cut, begins), (vs, rest', other_cut, other_begins)) =
    let same = one_cut text us ts cut found in
    let split : symbols text ts ≡ before ++ last ∷ rest = ap (symbols text) (sym same) ∙ begins ∙ append_assoc before (last ∷ []) rest in
    let other_split : symbols other vs ≡ before ++ last ∷ rest' = other_begins ∙ append_assoc before (last ∷ []) rest' in
    subst (SourceFault other) (sym is)
    (moved_fault text other ts vs before last rest rest' split other_split found other_cut f fault offset (subst (λ d. StandsAt d offset) is stands) up)

-- so it is no program
pub no_program : (text other : List ℕ) (e : ParseError) (offset : ℕ) → SourceFault text e → StandsAt e offset → AgreeUpTo offset text other → (p : Source) → Reads other p → ⊥
no_program text other e offset fault stands agree p reads = never_both other p e reads (same_fault text other e offset fault stands agree)
