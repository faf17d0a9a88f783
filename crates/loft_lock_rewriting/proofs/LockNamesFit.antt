-- The names that a form writes are names.
use Rattle.std.proofs.Common.{◌≡◌, ℕ, ◌≤◌, Bool, true, false, not, ◌==◌, nat_le, List, length, Option, Some, None, is_some, refl, sym, ap, ◌∙◌, arith}
use Rattle.std.specs.List.{list_all}
use Rattle.std.proofs.lemmas.Bool.Decides.{nat_tests}
use Rattle.std.proofs.lemmas.Bool.{false≢true}
use Rattle.loft_lex.specs.Bytes.{is_letter, is_name_byte, begins}
use Rattle.loft_lex.specs.Word as words
use Rattle.loft_lex.specs.declared.word.Word.{Word}
use Rattle.loft_lex.specs.declared.word.Word.TheVariants as word
use Rattle.loft_lex.specs.Fits.{is_name}
use Rattle.loft_lex.proofs.Spelled.{found_spelled}
use Rattle.loft_lex.proofs.Runs.{both, left_of, right_of}
use Rattle.loft_lock_forms.specs.Rewriting.{held_name, free_name, takes_name, gives_name}

abbrev not_line : ℕ → Bool
not_line b = not (b == 95)

-- no word has a `_`
words_no_lines : (v : Word) → list_all not_line (words.spelling v) ≡ true
words_no_lines word.Scheduler = refl
words_no_lines word.Event = refl
words_no_lines word.In = refl
words_no_lines word.Shared = refl
words_no_lines word.Module = refl
words_no_lines word.To = refl
words_no_lines word.Local = refl
words_no_lines word.Int = refl
words_no_lines word.Thread = refl
words_no_lines word.Start = refl
words_no_lines word.As = refl
words_no_lines word.Outside = refl
words_no_lines word.End = refl
words_no_lines word.Print = refl
words_no_lines word.Cooperate = refl
words_no_lines word.Generate = refl
words_no_lines word.Await = refl
words_no_lines word.For = refl
words_no_lines word.Select = refl
words_no_lines word.Get = refl
words_no_lines word.At = refl
words_no_lines word.Into = refl
words_no_lines word.Join = refl
words_no_lines word.Create = refl
words_no_lines word.Stop = refl
words_no_lines word.Suspend = refl
words_no_lines word.Resume = refl
words_no_lines word.Broadcast = refl
words_no_lines word.Link = refl
words_no_lines word.Unlink = refl
words_no_lines word.If = refl
words_no_lines word.Then = refl
words_no_lines word.Else = refl
words_no_lines word.While = refl
words_no_lines word.Do = refl
words_no_lines word.Repeat = refl
words_no_lines word.Run = refl
words_no_lines word.Halt = refl
words_no_lines word.SelfWord = refl
words_no_lines word.Code = refl
words_no_lines word.Mask = refl
words_no_lines word.Unlinked = refl

word_no_line : (bytes : List ℕ) → words.is_word bytes ≡ true → list_all not_line bytes ≡ true
unfolding words.word_of
word_no_line bytes is = by_word (words.word_of bytes) refl is
  where
    by_word : (o : Option Word) → words.word_of bytes ≡ o → is_some o ≡ true → list_all not_line bytes ≡ true
    by_word None e some = absurd (false≢true some)
    by_word (Some v) e some = ap (list_all not_line) (sym (found_spelled words.spelling bytes words.words v e)) ∙ words_no_lines v

no_word : (bytes : List ℕ) → list_all not_line bytes ≡ false → not (words.is_word bytes) ≡ true
no_word bytes lines = by_test (words.is_word bytes) refl
  where
    by_test : (t : Bool) → words.is_word bytes ≡ t → not t ≡ true
    by_test false e = refl
    by_test true e = absurd (false≢true (sym lines ∙ word_no_line bytes e))

name_bytes : (l : List ℕ) → is_name l ≡ true → list_all is_name_byte l ≡ true
name_bytes l h = right_of (begins is_letter l) (list_all is_name_byte l) (left_of _ _ (left_of _ _ h))

fits : (n : ℕ) → n ≤ 64 → nat_le n 64 ≡ true
fits n h = grind (arith, nat_tests)

pub held_fits : (l : List ℕ) → is_name l ≡ true → length l ≤ 57 → is_name (held_name l) ≡ true
held_fits l h short = both _ _ (both _ _ (name_bytes l h) (fits (length (held_name l)) (omega (arith, short)))) (no_word (held_name l) refl)

pub free_fits : (l : List ℕ) → is_name l ≡ true → length l ≤ 57 → is_name (free_name l) ≡ true
free_fits l h short = both _ _ (both _ _ (name_bytes l h) (fits (length (free_name l)) (omega (arith, short)))) (no_word (free_name l) refl)

pub takes_fits : (l : List ℕ) → is_name l ≡ true → length l ≤ 57 → is_name (takes_name l) ≡ true
takes_fits l h short = both _ _ (both _ _ (name_bytes l h) (fits (length (takes_name l)) (omega (arith, short)))) (no_word (takes_name l) refl)

pub gives_fits : (l : List ℕ) → is_name l ≡ true → length l ≤ 57 → is_name (gives_name l) ≡ true
gives_fits l h short = both _ _ (both _ _ (name_bytes l h) (fits (length (gives_name l)) (omega (arith, short)))) (no_word (gives_name l) refl)
