-- What is known where a form stands.
use Rattle.std.proofs.Common.{◌≡◌, ℕ, ◌+◌, length, Bool, true, false, if◌then◌else◌, List, [], ◌∷◌, ◌++◌, Option, Some, None, Ok, Err, codes, refl, sym, ap, subst}
use Rattle.std.specs.Str.{bytes_eq}
use Rattle.std.proofs.lemmas.Bool.{false≢true}
use Rattle.loft_tree.specs.Fits.{Each}
use Rattle.loft_lex.specs.Bytes.{is_letter, begins}
use Rattle.loft_lex.specs.Word as words
use Rattle.loft_lex.specs.Sign as signs
use Rattle.loft_lex.specs.declared.word.Word.{Word}
use Rattle.loft_lex.specs.declared.word.Word.TheVariants as word
use Rattle.loft_lex.specs.declared.sign.Sign.{Sign}
use Rattle.loft_lex.specs.declared.token.TokenKind.{TokenKind}
use Rattle.loft_lex.specs.declared.token.TokenKind.TheVariants as kind
use Rattle.loft_lex.specs.Fits.{IsOfKind}
use Rattle.loft_lex.specs.Symbol.{What, Named, Keyword, Numeral, Quoted, Mark, Unreadable, keyword, mark, what_of}
use Rattle.loft_lex.specs.Tokens.{Found, moved, with_token}
use Rattle.loft_lex.specs.Cut.{Cut, nothing, blank, comment, token as one_token, long_name, large_number, number_and_letter, long_text, text_to_end, text_to_line_feed, bad_byte_inside, bad_byte}
use Rattle.loft_lex.proofs.Runs.{left_of}
use Rattle.loft_grammar.specs.Language.{is_word, kind_of}
use Rattle.loft_lock_forms.specs.Rewriting.{LockForm, Declares, TakesIt, GivesIt, named, is_end, ended, placed, after_lock, lock_form, unlock_form, form_at, form_text, all_say}
use Rattle.loft_lock_rewriting.proofs.Cutting.{slice_whole, all_moved, comment_moved}
use Rattle.loft_lock_rewriting.proofs.Starts.{SameStart, letters}
use Rattle.loft_lock_rewriting.proofs.FormText.{FormHas, IsName}

-- where it's a name, it's such a one
abbrev pub NameHas : (List ℕ → Type 0) → What → Type 0
NameHas P (Named text) = P text
NameHas P (Keyword v) = Unit {0}
NameHas P (Numeral v) = Unit {0}
NameHas P (Quoted text) = Unit {0}
NameHas P (Mark v) = Unit {0}
NameHas P Unreadable = Unit {0}

abbrev pub NameFits : What → Type 0
NameFits x = NameHas IsName x

word_fits : (o : Option Word) → NameFits (keyword o)
word_fits None = tt
word_fits (Some v) = tt

sign_fits : (o : Option Sign) → NameFits (mark o)
sign_fits None = tt
sign_fits (Some v) = tt

pub of_kind_fits : (k : TokenKind) (bytes : List ℕ) → IsOfKind k bytes → NameFits (what_of k bytes)
of_kind_fits kind.Name bytes h = h
of_kind_fits kind.Word bytes h = word_fits (words.word_of bytes)
of_kind_fits (kind.Number n) bytes h = tt
of_kind_fits kind.Text bytes h = tt
of_kind_fits kind.Sign bytes h = sign_fits (signs.sign_of bytes)

abbrev pub NamesIn : List ℕ → Found → Type 0
NamesIn text (Ok ts) = Each NameFits (all_say text ts)
NamesIn text (Err e) = Unit {0}

name_blank : (b : ℕ) (rest : List ℕ) (found : Found) → NamesIn rest found → NamesIn (b ∷ rest) (moved 1 found)
name_blank b rest (Ok ts) h = subst (Each NameFits) (sym (all_moved (b ∷ []) rest ts)) h
name_blank b rest (Err e) h = tt

name_comment : (line rest : List ℕ) (found : Found) → NamesIn rest found → NamesIn (47 ∷ 47 ∷ (line ++ rest)) (moved (2 + length line) found)
name_comment line rest (Ok ts) h = subst (Each NameFits) (sym (comment_moved line rest ts)) h
name_comment line rest (Err e) h = tt

name_token : (k : TokenKind) (bytes rest : List ℕ) (found : Found) → IsOfKind k bytes → NamesIn rest found → NamesIn (bytes ++ rest) (with_token (record { kind = k; from = 0; to = length bytes }) (moved (length bytes) found))
name_token k bytes rest (Ok ts) of_kind h = (subst NameFits (sym (ap (what_of k) (slice_whole bytes rest))) (of_kind_fits k bytes of_kind), subst (Each NameFits) (sym (all_moved bytes rest ts)) h)
name_token k bytes rest (Err e) of_kind h = tt

-- all names that a text's tokens say are names
pub names_in : {text : List ℕ} {found : Found} → Cut text found → NamesIn text found
names_in nothing = tt
names_in (blank b rest found is c) = name_blank b rest found (names_in c)
names_in (comment line rest found all stop c) = name_comment line rest found (names_in c)
names_in (one_token k bytes rest found of_kind whole c) = name_token k bytes rest found of_kind (names_in c)
names_in (long_name bytes rest letter all many) = tt
names_in (large_number digits rest first all stop large) = tt
names_in (number_and_letter digits rest first all letter) = tt
names_in (long_text inside rest all many) = tt
names_in (text_to_end inside text) = tt
names_in (text_to_line_feed inside rest text) = tt
names_in (bad_byte_inside inside b rest text bad) = tt
names_in (bad_byte b rest other no_sign whole) = tt

-- ---- a form by its tokens

module _ (P : List ℕ → Type 0) where
  -- what a name tells, told of a name
  by_name : (Q : LockForm → Type 0) (x : What) (next : List ℕ → Option LockForm) (f : LockForm) → named x next ≡ Some f → NameHas P x → ((l : List ℕ) → P l → next l ≡ Some f → Q f) → Q f
  by_name Q (Named text) next f e h step = step text h e
  by_name Q (Keyword v) next f e h step = absurd cc
  by_name Q (Numeral v) next f e h step = absurd cc
  by_name Q (Quoted text) next f e h step = absurd cc
  by_name Q (Mark v) next f e h step = absurd cc
  by_name Q Unreadable next f e h step = absurd cc

  by_test : (Q : Type 0) (t : Bool) (f : LockForm) (one other : Option LockForm) → (if t then one else other) ≡ Some f → (one ≡ Some f → Q) → (other ≡ Some f → Q) → Q
  by_test Q true f one other e left right = left e
  by_test Q false f one other e left right = right e

  ended_fits : (g : LockForm) (xs : List What) (f : LockForm) → ended g xs ≡ Some f → FormHas P g → FormHas P f
  ended_fits g [] f e h = absurd cc
  ended_fits g (x ∷ xs) f e h = by_test (FormHas P f) (is_end x) f (Some g) None e (λ d. let same : g ≡ f = cc in subst (FormHas P) same h) (λ d. absurd cc)

  placed_fits : (l : List ℕ) (xs : List What) (f : LockForm) → P l → placed l xs ≡ Some f → Each (NameHas P) xs → FormHas P f
  placed_fits l [] f h e each = absurd cc
  placed_fits l (x ∷ xs) f h e each = by_name (FormHas P) x (λ a. ended (Declares l a) xs) f e each.0 (λ a place d. ended_fits (Declares l a) xs f d (h, place))

  after_fits : (l : List ℕ) (xs : List What) (f : LockForm) → P l → after_lock l xs ≡ Some f → Each (NameHas P) xs → FormHas P f
  after_fits l [] f h e each = absurd cc
  after_fits l (x ∷ xs) f h e each = by_test (FormHas P f) (is_end x) f _ _ e
      (λ d. let same : TakesIt l ≡ f = cc in subst (FormHas P) same h)
      (λ d. by_test (FormHas P f) (is_word word.In (kind_of x)) f (placed l xs) None d (λ g. placed_fits l xs f h g each.1) (λ g. absurd cc))

  lock_fits : (xs : List What) (f : LockForm) → lock_form xs ≡ Some f → Each (NameHas P) xs → FormHas P f
  lock_fits [] f e each = absurd cc
  lock_fits (x ∷ xs) f e each = by_name (FormHas P) x (λ l. after_lock l xs) f e each.0 (λ l h d. after_fits l xs f h d each.1)

  unlock_fits : (xs : List What) (f : LockForm) → unlock_form xs ≡ Some f → Each (NameHas P) xs → FormHas P f
  unlock_fits [] f e each = absurd cc
  unlock_fits (x ∷ xs) f e each = by_name (FormHas P) x (λ l. ended (GivesIt l) xs) f e each.0 (λ l h d. ended_fits (GivesIt l) xs f d h)

  pub form_fits : (x : What) (xs : List What) (f : LockForm) → form_at x xs ≡ Some f → NameHas P x → Each (NameHas P) xs → FormHas P f
  form_fits x xs f e h each = by_name (FormHas P) x _ f e h (λ word is d. by_test (FormHas P f) (bytes_eq word (codes "lock")) f _ _ d
      (λ g. lock_fits xs f g each)
      (λ g. by_test (FormHas P f) (bytes_eq word (codes "unlock")) f _ _ g (λ k. unlock_fits xs f k each) (λ k. absurd cc)))

-- ---- where it begins

pub record Lettered (bytes : List ℕ) : Type 0 where
  pub first : ℕ
  pub others : List ℕ
  pub are : bytes ≡ first ∷ others
  pub letter : is_letter first ≡ true

begins_lettered : (bytes : List ℕ) → begins is_letter bytes ≡ true → Lettered bytes
begins_lettered [] h = absurd (false≢true h)
begins_lettered (b ∷ bs) h = record { first = b; others = bs; are = refl; letter = h }

no_word_form : (o : Option Word) (xs : List What) (f : LockForm) → form_at (keyword o) xs ≡ Some f → ⊥
no_word_form None xs f e = cc
no_word_form (Some v) xs f e = cc

no_sign_form : (o : Option Sign) (xs : List What) (f : LockForm) → form_at (mark o) xs ≡ Some f → ⊥
no_sign_form None xs f e = cc
no_sign_form (Some v) xs f e = cc

pub form_lettered : (k : TokenKind) (bytes : List ℕ) (xs : List What) (f : LockForm) → IsOfKind k bytes → form_at (what_of k bytes) xs ≡ Some f → Lettered bytes
form_lettered kind.Name bytes xs f h e = begins_lettered bytes (left_of _ _ (left_of _ _ (left_of _ _ h)))
form_lettered kind.Word bytes xs f h e = absurd (no_word_form (words.word_of bytes) xs f e)
form_lettered (kind.Number n) bytes xs f h e = absurd cc
form_lettered kind.Text bytes xs f h e = absurd cc
form_lettered kind.Sign bytes xs f h e = absurd (no_sign_form (signs.sign_of bytes) xs f e)

pub text_lettered : (f : LockForm) (rest : List ℕ) → Lettered (form_text f rest)
text_lettered (Declares l a) rest = record { first = _; others = _; are = refl; letter = refl }
text_lettered (TakesIt l) rest = record { first = _; others = _; are = refl; letter = refl }
text_lettered (GivesIt l) rest = record { first = _; others = _; are = refl; letter = refl }

both_lettered : (xs ys : List ℕ) → Lettered xs → Lettered ys → SameStart xs ys
both_lettered xs ys a b =
    let one : SameStart (a.first ∷ a.others) (b.first ∷ b.others) = letters a.first b.first a.others b.others a.letter b.letter in
    subst (λ (us : List ℕ). SameStart us ys) (sym a.are) (subst (SameStart (a.first ∷ a.others)) (sym b.are) one)

pub form_starts : (k : TokenKind) (bytes rest other : List ℕ) (xs : List What) (f : LockForm) → IsOfKind k bytes → form_at (what_of k bytes) xs ≡ Some f → SameStart (bytes ++ rest) (form_text f other)
form_starts k bytes rest other xs f h e =
    let a = form_lettered k bytes xs f h e in
    let longer : Lettered (bytes ++ rest) = record { first = a.first; others = a.others ++ rest; are = ap (λ (us : List ℕ). us ++ rest) a.are; letter = a.letter } in
    both_lettered _ _ longer (text_lettered f other)
