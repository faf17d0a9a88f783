-- A text is at most one part, cut at most one way, and the digits of at most one number.
use Rattle.std.proofs.Common.{◌≡◌, ℕ, true, false, ◌==◌, not, List, [], ◌∷◌, ◌++◌, Ok, refl, sym, subst, ap, ◌∙◌, arith}
use Rattle.std.specs.Fmt.{decimal}
use Rattle.std.proofs.lemmas.Bool.{and_parts, eq-eqb}
use Rattle.std.proofs.lemmas.Fmt.{decimal_injective}
use Rattle.loft_lex.specs.declared.token.Token.{Token}
use Rattle.loft_lex.specs.Symbol.{symbols}
use Rattle.loft_lex.proofs.Readings.{found_is_cut}
use Rattle.loft_form.specs.Form.{Limits}
use Rattle.loft_form.specs.Faults.{SpellsWhole}
use Rattle.loft_form.proofs.Checked.{Checked}
use Rattle.loft_form.proofs.Whole.{spelled_whole}
use Rattle.loft_grammar.specs.Language.{Language}
use Rattle.loft_grammar.specs.Symbols.{Form}
use Rattle.loft_grammar.specs.Statements.{rules}
use Rattle.loft_grammar.specs.Limits.{beginning, nesting}
use Rattle.loft_grammar.specs.Texts.{SpellsPart}
use Rattle.loft_productions.proofs.Checked.{known}
use Rattle.loft_show.specs.PartReads.{ReadsAs}
use Rattle.loft_listing_line.specs.Cuts.{IsCutAt, IsWithout, is_other}
use Rattle.loft_listing_line.specs.RowsFit.{IsSmall}

-- ---- parts

one_part : {A : Type 0} {f : Form A} → Checked rules known f → (lim : Limits Language) (text : List ℕ) (x y : A) → SpellsPart lim f text x → SpellsPart lim f text y → x ≡ y
one_part {A} {f} checked lim text x y (ts, cut, whole) (us, other, also) =
    let both = sym ((found_is_cut text (Ok ts)).1 cut) ∙ (found_is_cut text (Ok us)).1 other in
    let same : us ≡ ts = cc in
    let moved : SpellsWhole rules lim nesting f (symbols text ts) beginning y = subst (λ (vs : List Token). SpellsWhole rules lim nesting f (symbols text vs) beginning y) same also in
    let answers = sym (spelled_whole checked lim nesting (symbols text ts) beginning x whole) ∙ spelled_whole checked lim nesting (symbols text ts) beginning y moved in
    cc

-- two parts with one text are the same, but for offsets
pub one_reading : {A : Type 0} {f : Form A} → Checked rules known f → (lim : Limits Language) (bare : A → A) (text other : List ℕ) (x y : A) → text ≡ other → ReadsAs lim f bare text x → ReadsAs lim f bare other y
    → bare x ≡ bare y
one_reading {A} {f} checked lim bare text other x y same (p, spells, is) (q, also, are) =
    let moved : SpellsPart lim f text q = subst (λ (t : List ℕ). SpellsPart lim f t q) (sym same) also in
    sym is ∙ ap bare (one_part checked lim text p q spells moved) ∙ are

-- ---- cuts

never_there : (byte : ℕ) (bs : List ℕ) → IsWithout byte (byte ∷ bs) → ⊥
never_there byte bs without =
    let first = (and_parts (is_other byte byte) _ without).0 in
    let same : (byte == byte) ≡ true = eq-eqb byte byte refl in
    let both : true ≡ false = sym first ∙ ap not same in absurd cc

-- what stands before the first of these bytes, and after it
same_cut : (byte : ℕ) (b1 a1 b2 a2 : List ℕ) → b1 ++ byte ∷ a1 ≡ b2 ++ byte ∷ a2 → IsWithout byte b1 → IsWithout byte b2 → (b1 ≡ b2) × (a1 ≡ a2)
same_cut byte [] a1 [] a2 same first second = let rest : a1 ≡ a2 = cc in (refl, rest)
same_cut byte [] a1 (c ∷ b2) a2 same first second = let e : c ≡ byte = cc in absurd (never_there byte b2 (subst (λ (n : ℕ). IsWithout byte (n ∷ b2)) e second))
same_cut byte (c ∷ b1) a1 [] a2 same first second = let e : c ≡ byte = cc in absurd (never_there byte b1 (subst (λ (n : ℕ). IsWithout byte (n ∷ b1)) e first))
same_cut byte (c ∷ b1) a1 (d ∷ b2) a2 same first second =
    let e : c ≡ d = cc in
    let more : b1 ++ byte ∷ a1 ≡ b2 ++ byte ∷ a2 = cc in
    let rest = same_cut byte b1 a1 b2 a2 more (and_parts (is_other byte c) _ first).1 (and_parts (is_other byte d) _ second).1 in
    ((λ i. e i ∷ rest.0 i), rest.1)

pub one_cut : (byte : ℕ) (text other b1 a1 b2 a2 : List ℕ) → text ≡ other → IsCutAt byte text b1 a1 → IsCutAt byte other b2 a2 → (b1 ≡ b2) × (a1 ≡ a2)
one_cut byte text other b1 a1 b2 a2 same cut also = same_cut byte b1 a1 b2 a2 (sym cut.whole ∙ same ∙ also.whole) cut.first also.first

-- ---- numbers

pub one_number : (m n : ℕ) → IsSmall m → IsSmall n → decimal m ≡ decimal n → m ≡ n
one_number m n small also same = decimal_injective m n (omega arith) (omega arith) same
