-- Names and the word `unlinked`.
use Rattle.std.proofs.Common.{◌≡◌, ℕ, true, not, ◌&&◌, nat_le, is_some, length, List, [], codes, Some, refl, sym, ap, ◌∙◌}
use Rattle.std.specs.Str.{bytes_eq}
use Rattle.std.proofs.lemmas.List.{append-nil}
use Rattle.std.proofs.lemmas.Slice.Eq.{bytes_eq-Decides}
use Rattle.std.specs.List.{list_all}
use Rattle.loft_lex.specs.Bytes.{is_letter, is_name_byte, begins}
use Rattle.loft_lex.specs.Fits.{is_name}
use Rattle.loft_lex.specs.Word.{is_word}
use Rattle.loft_lex.specs.declared.word.Word.TheVariants as w
use Rattle.loft_lex.proofs.Runs.{right_of}
use Rattle.loft_lex.proofs.Words.{word_of-spelling}
use Rattle.loft_tree.specs.Source.{PlaceName, InScheduler, Unlinked}
use Rattle.loft_tree.specs.Fits.{PlaceFits}
use Rattle.loft_show.specs.Canon.{place_pieces, pieces_text}
use Rattle.loft_show.specs.Places.{bare_place}

word_no_name : (text : List ℕ) → text ≡ codes "unlinked" → is_name text ≡ true → ⊥
word_no_name text same is =
    let plain : not (is_word text) ≡ true = right_of (begins is_letter text && list_all is_name_byte text && nat_le (length text) 64) (not (is_word text)) is in
    let word : is_word text ≡ true = ap is_word same ∙ ap is_some (word_of-spelling w.Unlinked) in
    cc

-- `unlinked` is no name of a scheduler
pub only_unlinked : (p : PlaceName) (text word : List ℕ) → PlaceFits p → text ≡ pieces_text (place_pieces p []) → word ≡ codes "unlinked" → bytes_eq text word ≡ true → Some Unlinked ≡ Some (bare_place p)
only_unlinked (InScheduler n) text word fits same spelled is =
    absurd (word_no_name n.text (sym (append-nil n.text) ∙ sym same ∙ (bytes_eq-Decides text word).0 is ∙ spelled) fits)
only_unlinked Unlinked text word fits same spelled is = refl
