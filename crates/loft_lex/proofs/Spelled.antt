-- What the spellings of words and signs look like.
use Rattle.std.proofs.Common.{◌≡◌, ℕ, Bool, true, false, not, ◌&&◌, if◌then◌else◌, nat_le, Option, Some, None, is_some, List, [], ◌∷◌, length, codes, refl, sym, ap, ◌∙◌}
use Rattle.std.specs.List.{find, list_all}
use Rattle.std.specs.Str.{bytes_eq}
use Rattle.std.proofs.lemmas.Slice.Eq.{bytes_eq-Decides}
use Rattle.loft_lex.proofs.Runs.{left_of, right_of}
use Rattle.loft_lex.specs.Bytes.{is_letter, is_name_byte, begins}
use Rattle.loft_lex.specs.Cut.{begins_other}
use Rattle.loft_lex.specs.Word as words
use Rattle.loft_lex.specs.Sign as signs
use Rattle.loft_lex.specs.declared.word.Word.{Word}
use Rattle.loft_lex.specs.declared.word.Word.TheVariants as word
use Rattle.loft_lex.specs.declared.sign.Sign.{Sign}
use Rattle.loft_lex.specs.declared.sign.Sign.TheVariants as sign

found_after : {X : Type 0} (spelling : X → List ℕ) (bytes : List ℕ) (x y : X) (others : Option X) (test : Bool) → bytes_eq (spelling x) bytes ≡ test → (others ≡ Some y → spelling y ≡ bytes) → (if test then Some x else others) ≡ Some y → spelling y ≡ bytes
found_after spelling bytes x y others true same later found =
    let e : x ≡ y = cc in
    ap spelling (sym e) ∙ (bytes_eq-Decides (spelling x) bytes).0 same
found_after spelling bytes x y others false same later found = later found

-- what is found by its spelling is spelled so
pub found_spelled : {X : Type 0} (spelling : X → List ℕ) (bytes : List ℕ) (xs : List X) (y : X) → find (λ x. bytes_eq (spelling x) bytes) xs ≡ Some y → spelling y ≡ bytes
found_spelled spelling bytes [] y found = cc
found_spelled spelling bytes (x ∷ xs) y found = found_after spelling bytes x y (find (λ x. bytes_eq (spelling x) bytes) xs) (bytes_eq (spelling x) bytes) refl (found_spelled spelling bytes xs y) found

-- what spells one satisfies what all spellings satisfy
spelled_passes : {X : Type 0} (spelling : X → List ℕ) (test : List ℕ → Bool) (all : (x : X) → test (spelling x) ≡ true) (bytes : List ℕ) (found : Option X) → ((y : X) → found ≡ Some y → spelling y ≡ bytes) → is_some found ≡ true → test bytes ≡ true
spelled_passes spelling test all bytes None spelled some = cc
spelled_passes spelling test all bytes (Some y) spelled some = ap test (sym (spelled y refl)) ∙ all y

word_spelled : (bytes : List ℕ) (word : Word) → words.word_of bytes ≡ Some word → words.spelling word ≡ bytes
unfolding words.word_of
word_spelled bytes word found = found_spelled words.spelling bytes words.words word found

sign_spelled : (bytes : List ℕ) (sign : Sign) → signs.sign_of bytes ≡ Some sign → signs.spelling sign ≡ bytes
unfolding signs.sign_of
sign_spelled bytes sign found = found_spelled signs.spelling bytes signs.signs sign found

-- a word looks like a name
abbrev pub like_name : List ℕ → Bool
like_name bytes = begins is_letter bytes && (list_all is_name_byte bytes && nat_le (length bytes) 64)

-- a sign has one byte or two, begins nothing else, and isn't `//`
abbrev pub like_sign : List ℕ → Bool
like_sign bytes = begins (λ b. not (begins_other b)) bytes && (nat_le (length bytes) 2 && not (bytes_eq bytes (codes "//")))

words_like_names : (word : Word) → like_name (words.spelling word) ≡ true
words_like_names word.Scheduler = refl
words_like_names word.Event = refl
words_like_names word.In = refl
words_like_names word.Shared = refl
words_like_names word.Module = refl
words_like_names word.To = refl
words_like_names word.Local = refl
words_like_names word.Int = refl
words_like_names word.Thread = refl
words_like_names word.Start = refl
words_like_names word.As = refl
words_like_names word.Outside = refl
words_like_names word.End = refl
words_like_names word.Print = refl
words_like_names word.Cooperate = refl
words_like_names word.Generate = refl
words_like_names word.Await = refl
words_like_names word.For = refl
words_like_names word.Select = refl
words_like_names word.Get = refl
words_like_names word.At = refl
words_like_names word.Into = refl
words_like_names word.Join = refl
words_like_names word.Create = refl
words_like_names word.Stop = refl
words_like_names word.Suspend = refl
words_like_names word.Resume = refl
words_like_names word.Broadcast = refl
words_like_names word.Link = refl
words_like_names word.Unlink = refl
words_like_names word.If = refl
words_like_names word.Then = refl
words_like_names word.Else = refl
words_like_names word.While = refl
words_like_names word.Do = refl
words_like_names word.Repeat = refl
words_like_names word.Run = refl
words_like_names word.Halt = refl
words_like_names word.SelfWord = refl
words_like_names word.Code = refl
words_like_names word.Mask = refl
words_like_names word.Unlinked = refl

signs_like_signs : (sign : Sign) → like_sign (signs.spelling sign) ≡ true
signs_like_signs sign.Semicolon = refl
signs_like_signs sign.Comma = refl
signs_like_signs sign.Dot = refl
signs_like_signs sign.Open = refl
signs_like_signs sign.Close = refl
signs_like_signs sign.OpenBrace = refl
signs_like_signs sign.CloseBrace = refl
signs_like_signs sign.Equals = refl
signs_like_signs sign.Plus = refl
signs_like_signs sign.Minus = refl
signs_like_signs sign.Star = refl
signs_like_signs sign.Slash = refl
signs_like_signs sign.Percent = refl
signs_like_signs sign.Not = refl
signs_like_signs sign.Same = refl
signs_like_signs sign.Differs = refl
signs_like_signs sign.Less = refl
signs_like_signs sign.LessOrSame = refl
signs_like_signs sign.Greater = refl
signs_like_signs sign.GreaterOrSame = refl
signs_like_signs sign.And = refl
signs_like_signs sign.Or = refl

pub word_like_name : (bytes : List ℕ) → words.is_word bytes ≡ true → like_name bytes ≡ true
word_like_name bytes h = spelled_passes words.spelling like_name words_like_names bytes (words.word_of bytes) (word_spelled bytes) h

pub sign_like_sign : (bytes : List ℕ) → signs.is_sign bytes ≡ true → like_sign bytes ≡ true
sign_like_sign bytes h = spelled_passes signs.spelling like_sign signs_like_signs bytes (signs.sign_of bytes) (sign_spelled bytes) h

unlike : (bytes : List ℕ) (test : Bool) → signs.is_sign bytes ≡ test → like_sign bytes ≡ false → test ≡ false
unlike bytes true sign not_like = let like = sign_like_sign bytes sign in cc
unlike bytes false sign not_like = refl

and_false : (p : Bool) → (p && false) ≡ false
and_false true = refl
and_false false = refl

-- no sign has three bytes
pub no_sign_of_three : (a b c : ℕ) → signs.is_sign (a ∷ b ∷ c ∷ []) ≡ false
no_sign_of_three a b c = unlike (a ∷ b ∷ c ∷ []) (signs.is_sign (a ∷ b ∷ c ∷ [])) refl (and_false (not (begins_other a)))

-- what a sign looks like, part by part
pub sign_parts : (bytes : List ℕ) → signs.is_sign bytes ≡ true → (begins (λ b. not (begins_other b)) bytes ≡ true) × (nat_le (length bytes) 2 ≡ true) × (not (bytes_eq bytes (codes "//")) ≡ true)
sign_parts bytes sign = parts_of (begins (λ b. not (begins_other b)) bytes) (nat_le (length bytes) 2) (not (bytes_eq bytes (codes "//"))) (sign_like_sign bytes sign)
  where
    parts_of : (p q r : Bool) → (p && (q && r)) ≡ true → (p ≡ true) × (q ≡ true) × (r ≡ true)
    parts_of p q r h = (left_of p (q && r) h, left_of q r (right_of p (q && r) h), right_of q r (right_of p (q && r) h))
