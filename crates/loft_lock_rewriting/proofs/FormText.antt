-- The text that replaces a form is cut into what it says.
use Rattle.std.proofs.Common.{◌≡◌, ℕ, ◌+◌, ◌≤◌, true, List, [], ◌∷◌, ◌++◌, length, length-append, Option, None, refl, arith}
use Rattle.std.specs.Prelude.{codes}
use Rattle.loft_lex.specs.Sign as signs
use Rattle.loft_lex.specs.declared.word.Word.TheVariants as word
use Rattle.loft_lex.specs.declared.sign.Sign.TheVariants as sign
use Rattle.loft_lex.specs.Fits.{is_name}
use Rattle.loft_lex.specs.declared.token.TokenKind.TheVariants as kind
use Rattle.loft_lex.specs.Symbol.{What, Mark as Sign_of}
use Rattle.loft_lock_forms.specs.Marks.{Use, TakeOf, GiveOf, Mark}
use Rattle.loft_lock_forms.specs.Rewriting.{LockForm, Declares, TakesIt, GivesIt, held_name, free_name, takes_name, gives_name, form_text, form_says, IsShort}
use Rattle.loft_lock_forms.specs.Marks.{form_mark}
use Rattle.loft_lock_rewriting.proofs.Uses.{none, form_uses}
use Rattle.loft_lock_rewriting.proofs.Putting.{SaysAt, put_word, put_sign, put_name, put_used, put_digit, put_blank}
use Rattle.loft_lock_rewriting.proofs.Starts.{end_ends}
use Rattle.loft_lock_rewriting.proofs.LockNamesFit.{held_fits, free_fits, takes_fits, gives_fits}

-- the names of a form are such
abbrev pub FormHas : (List ℕ → Type 0) → LockForm → Type 0
FormHas P (Declares l a) = P l × P a
FormHas P (TakesIt l) = P l
FormHas P (GivesIt l) = P l

abbrev pub IsName : List ℕ → Type 0
IsName text = is_name text ≡ true

abbrev pub FormFits : LockForm → Type 0
FormFits f = FormHas IsName f

put_end : {whole : ℕ} {us : List (Option Use)} {ms : List Mark} (rest : List ℕ) (ws : List What) → SaysAt whole rest us ms ws → SaysAt whole (59 ∷ rest) (None ∷ us) ms (Sign_of sign.Semicolon ∷ ws)
put_end rest ws c = put_sign sign.Semicolon rest ws (end_ends rest) c

declares : {whole : ℕ} {us : List (Option Use)} {ms : List Mark} (l a rest : List ℕ) (ws : List What) → is_name l ≡ true → is_name a ≡ true → length l ≤ 57 → SaysAt whole rest us ms ws
    → SaysAt whole (form_text (Declares l a) rest) (none 54 us) ms (form_says (Declares l a) ws)
unfolding signs.sign_of
declares l a rest ws name place short c =
    put_word word.Shared _ _ refl (put_blank 32 _ _ refl (put_name (held_name l) _ _ (held_fits l name short) refl (put_blank 32 _ _ refl (
    put_word word.In _ _ refl (put_blank 32 _ _ refl (put_name a _ _ place refl (put_blank 32 _ _ refl (put_sign sign.Equals _ _ refl (
    put_blank 32 _ _ refl (put_digit 48 _ _ refl (omega arith) refl (put_end _ _ (put_blank 32 _ _ refl (
    put_word word.Event _ _ refl (put_blank 32 _ _ refl (put_name (free_name l) _ _ (free_fits l name short) refl (put_blank 32 _ _ refl (
    put_word word.In _ _ refl (put_blank 32 _ _ refl (put_name a _ _ place refl (put_end _ _ (
    put_blank 32 _ _ refl (put_word word.Module _ _ refl (put_blank 32 _ _ refl (put_name (takes_name l) _ _ (takes_fits l name short) refl (
    put_sign sign.Open _ _ refl (put_sign sign.Close _ _ refl (put_blank 32 _ _ refl (put_word word.In _ _ refl (put_blank 32 _ _ refl (
    put_name a _ _ place refl (put_blank 32 _ _ refl (put_word word.While _ _ refl (put_blank 32 _ _ refl (put_sign sign.Open _ _ refl (
    put_name (held_name l) _ _ (held_fits l name short) refl (put_sign sign.Close _ _ refl (put_blank 32 _ _ refl (put_word word.Do _ _ refl (
    put_blank 32 _ _ refl (put_word word.Await _ _ refl (put_blank 32 _ _ refl (put_name (free_name l) _ _ (free_fits l name short) refl (
    put_end _ _ (put_blank 32 _ _ refl (put_word word.If _ _ refl (put_blank 32 _ _ refl (put_sign sign.Open _ _ refl (
    put_name (held_name l) _ _ (held_fits l name short) refl (put_sign sign.Close _ _ refl (put_blank 32 _ _ refl (put_word word.Then _ _ refl (
    put_blank 32 _ _ refl (put_word word.Cooperate _ _ refl (put_end _ _ (put_blank 32 _ _ refl (
    put_word word.End _ _ refl (put_blank 32 _ _ refl (put_word word.End _ _ refl (put_blank 32 _ _ refl (put_name (held_name l) _ _ (held_fits l name short) refl (
    put_blank 32 _ _ refl (put_sign sign.Equals _ _ refl (put_blank 32 _ _ refl (put_digit 49 _ _ refl (omega arith) refl (
    put_end _ _ (put_blank 32 _ _ refl (put_word word.End _ _ refl (put_blank 32 _ _ refl (put_word word.Module _ _ refl (
    put_blank 32 _ _ refl (put_name (gives_name l) _ _ (gives_fits l name short) refl (put_sign sign.Open _ _ refl (put_sign sign.Close _ _ refl (
    put_blank 32 _ _ refl (put_word word.In _ _ refl (put_blank 32 _ _ refl (put_name a _ _ place refl (put_blank 32 _ _ refl (
    put_name (held_name l) _ _ (held_fits l name short) refl (put_blank 32 _ _ refl (put_sign sign.Equals _ _ refl (put_blank 32 _ _ refl (
    put_digit 48 _ _ refl (omega arith) refl (put_end _ _ (put_blank 32 _ _ refl (put_word word.Generate _ _ refl (
    put_blank 32 _ _ refl (put_name (free_name l) _ _ (free_fits l name short) refl (put_end _ _ (
    put_blank 32 _ _ refl (put_word word.End _ _ refl (put_blank 32 _ _ refl (c)))))))))))))))))))))))))))))))))))))))))))))))))))))))))))))))))))))))))))))))))))))))))))))

pub form_cut : {whole : ℕ} {us : List (Option Use)} {ms : List Mark} (f : LockForm) (start : ℕ) (rest : List ℕ) (ws : List What) → start + length (form_text f rest) ≡ whole → FormFits f → IsShort f → SaysAt whole rest us ms ws
    → SaysAt whole (form_text f rest) (form_uses f us) (form_mark f start ms) (form_says f ws)
unfolding signs.sign_of
form_cut (Declares l a) start rest ws there fits short c = declares l a rest ws fits.0 fits.1 short c
form_cut (TakesIt l) start rest ws there name short c =
    put_word word.Run _ _ refl (put_blank 32 _ _ refl (put_used (start + 4) (TakeOf l) kind.Name (takes_name l) _ _ (omega (arith, there)) (takes_fits l name short) refl (put_sign sign.Open _ _ refl (
    put_sign sign.Close _ _ refl (put_end _ _ (c))))))
form_cut (GivesIt l) start rest ws there name short c =
    put_word word.Run _ _ refl (put_blank 32 _ _ refl (put_used (start + 4) (GiveOf l) kind.Name (gives_name l) _ _ (omega (arith, there)) (gives_fits l name short) refl (put_sign sign.Open _ _ refl (
    put_sign sign.Close _ _ refl (put_end _ _ (c))))))

-- ---- how long it is

nothing_longer : (rest : List ℕ) → length rest ≡ length {A = ℕ} [] + length rest
nothing_longer rest = omega arith

longer : (bytes : List ℕ) (xs ys rest : List ℕ) → length xs ≡ length ys + length rest → length (bytes ++ xs) ≡ length (bytes ++ ys) + length rest
longer bytes xs ys rest e = omega (arith, e, length-append bytes xs, length-append bytes ys)

pub form_length : (f : LockForm) (rest : List ℕ) → length (form_text f rest) ≡ length (form_text f []) + length rest
form_length (Declares l a) rest =
    longer (codes "shared held_") _ _ rest (longer l _ _ rest (longer (codes " in ") _ _ rest (longer a _ _ rest (longer (codes " = 0; event free_") _ _ rest (longer l _ _ rest (longer (codes " in ") _ _ rest (longer a _ _ rest (longer (codes "; module lock_") _ _ rest (longer l _ _ rest (longer (codes "() in ") _ _ rest (longer a _ _ rest (longer (codes " while (held_") _ _ rest (longer l _ _ rest (longer (codes ") do await free_") _ _ rest (longer l _ _ rest (longer (codes "; if (held_") _ _ rest (longer l _ _ rest (longer (codes ") then cooperate; end end held_") _ _ rest (longer l _ _ rest (longer (codes " = 1; end module unlock_") _ _ rest (longer l _ _ rest (longer (codes "() in ") _ _ rest (longer a _ _ rest (longer (codes " held_") _ _ rest (longer l _ _ rest (longer (codes " = 0; generate free_") _ _ rest (longer l _ _ rest (longer (codes "; end ") rest [] rest (nothing_longer rest)))))))))))))))))))))))))))))
form_length (TakesIt l) rest = longer (codes "run lock_") _ _ rest (longer l _ _ rest (longer (codes "();") rest [] rest (nothing_longer rest)))
form_length (GivesIt l) rest = longer (codes "run unlock_") _ _ rest (longer l _ _ rest (longer (codes "();") rest [] rest (nothing_longer rest)))
