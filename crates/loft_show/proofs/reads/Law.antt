-- The canonical text of a program reads as that program.
use Rattle.std.proofs.Common.{◌≡◌, List, [], ◌∷◌, map, refl, sym, ap, subst, ◌∙◌}
use Rattle.loft_lex.specs.Symbol.{Symbol, symbols}
use Rattle.loft_tree.specs.Source.{Source}
use Rattle.loft_tree.specs.Fits.{SourceFits}
use Rattle.loft_form.specs.Spells.{SpellsRule}
use Rattle.loft_grammar.specs.Statements.{rules}
use Rattle.loft_grammar.specs.Limits.{limits, nesting, beginning}
use Rattle.loft_grammar.specs.Texts.{SpellsProgram, Reads}
use Rattle.loft_show.specs.Canon.{Piece, source_lines, Canon}
use Rattle.loft_show.specs.Places.{without_places}
use Rattle.loft_show.proofs.reads.Keeps.{kept_rule}
use Rattle.loft_show.proofs.reads.Bare.{bare_symbol, bare_rule}
use Rattle.loft_show.proofs.reads.Unplaced.{rule_kept, program_kept}
use Rattle.loft_show.proofs.reads.Spelling.{bare, syms, line_pieces}
use Rattle.loft_show.proofs.reads.Declarations.{source_is}
use Rattle.loft_show.proofs.reads.Lexes.{says_lines}
use Rattle.loft_show.proofs.reads.Lines.{source_kept}

pub bare_symbols : (ss : List Symbol) → map bare_symbol ss ≡ map bare (map (λ (x : Symbol). x.what) ss)
bare_symbols [] = refl
bare_symbols (s ∷ ss) = ap (λ ts. bare_symbol s ∷ ts) (bare_symbols ss)

pub symbols_of : (ps : List Piece) → map bare (map (λ (p : Piece). p.what) ps) ≡ syms ps
symbols_of [] = refl
symbols_of (p ∷ ps) = ap (λ ts. bare p.what ∷ ts) (symbols_of ps)

-- what symbols without places spell, the symbols spell with places
with_places : (ss : List Symbol) (p : Source) → SpellsProgram (map bare_symbol ss) p → (q : Source) × (p ≡ without_places q) × SpellsProgram ss q
with_places ss p (d, spells) =
    let kept = kept_rule rules bare_symbol limits bare_rule (λ n Inner inner. rule_kept limits n Inner inner) in
    let (q, is, whole) = (program_kept limits nesting (SpellsRule rules limits nesting) (kept nesting)).keeps ss beginning p d spells in
    (q, is, (d, whole))

pub canon_is : (p : Source) → SourceFits p → (q : Source) × Reads (Canon p) q × (without_places q ≡ without_places p)
canon_is p fits =
    let (ts, cut, says) = says_lines (source_lines p) (source_kept p fits.each) in
    let bares : map bare_symbol (symbols (Canon p) ts) ≡ syms (line_pieces (source_lines p)) = bare_symbols (symbols (Canon p) ts) ∙ ap (map bare) says ∙ symbols_of (line_pieces (source_lines p)) in
    let (q, is, whole) = with_places (symbols (Canon p) ts) (without_places p) (subst (λ ss. SpellsProgram ss (without_places p)) (sym bares) (source_is p fits)) in
    (q, (ts, cut, whole), sym is)
