-- The text that `expand` reads in place of a source with locks (docs/LOCKS.md, "Forms").
use Rattle.std.specs.Prelude.{◌≡◌, ◌≤◌, ℕ, zero, suc, pos, Bool, List, [], ◌∷◌, ◌++◌, length, map, drop, slice_range, Option, Some, None, if◌then◌else◌, codes, Ok}
use Rattle.std.specs.Str.{bytes_eq}
use Rattle.loft_lex.specs.declared.word.Word.TheVariants as w
use Rattle.loft_lex.specs.declared.sign.Sign.TheVariants as s
use Rattle.loft_lex.specs.declared.token.Token.{Token}
use Rattle.loft_lex.specs.Symbol.{What, Named, Keyword, Numeral, Quoted, Mark, Unreadable, what_of}
use Rattle.loft_lex.specs.Cut.{Cut}
use Rattle.loft_grammar.specs.Language.{is_sign, is_word, kind_of}

-- ---- forms

-- the three forms, by their names
pub data LockForm : Type 0 where
  Declares : (lock at : List ℕ) → LockForm
  TakesIt : (lock : List ℕ) → LockForm
  GivesIt : (lock : List ℕ) → LockForm

abbrev pub lock_of : LockForm → List ℕ
lock_of (Declares l a) = l
lock_of (TakesIt l) = l
lock_of (GivesIt l) = l

-- how many tokens follow the first
abbrev pub more_of : LockForm → ℕ
more_of (Declares l a) = 4
more_of (TakesIt l) = 2
more_of (GivesIt l) = 2

-- it's a name, which the form is then told by
abbrev pub named : What → (List ℕ → Option LockForm) → Option LockForm
named (Named text) next = next text
named (Keyword v) next = None
named (Numeral v) next = None
named (Quoted text) next = None
named (Mark v) next = None
named Unreadable next = None

abbrev pub is_end : What → Bool
is_end x = is_sign s.Semicolon (kind_of x)

-- the form ends here
abbrev pub ended : LockForm → List What → Option LockForm
ended f [] = None
ended f (x ∷ xs) = if is_end x then Some f else None

abbrev pub placed : List ℕ → List What → Option LockForm
placed l [] = None
placed l (x ∷ xs) = named x (λ a. ended (Declares l a) xs)

abbrev pub after_lock : List ℕ → List What → Option LockForm
after_lock l [] = None
after_lock l (x ∷ xs) = if is_end x then Some (TakesIt l) else (if is_word w.In (kind_of x) then placed l xs else None)

abbrev pub lock_form : List What → Option LockForm
lock_form [] = None
lock_form (x ∷ xs) = named x (λ l. after_lock l xs)

abbrev pub unlock_form : List What → Option LockForm
unlock_form [] = None
unlock_form (x ∷ xs) = named x (λ l. ended (GivesIt l) xs)

-- the form that begins with this, if one does
abbrev pub form_at : What → List What → Option LockForm
form_at x xs = named x (λ word. if bytes_eq word (codes "lock") then lock_form xs else (if bytes_eq word (codes "unlock") then unlock_form xs else None))

-- ---- what replaces a form

-- its bytes, before those that follow
abbrev pub form_text : LockForm → List ℕ → List ℕ
form_text (Declares l a) rest =
    codes "shared held_" ++ (l ++ (codes " in " ++ (a ++ (codes " = 0; event free_" ++ (l ++ (codes " in " ++ (a ++ (codes "; module lock_" ++ (l ++ (codes "() in " ++ (a
    ++ (codes " while (held_" ++ (l ++ (codes ") do await free_" ++ (l ++ (codes "; if (held_" ++ (l ++ (codes ") then cooperate; end end held_" ++ (l
    ++ (codes " = 1; end module unlock_" ++ (l ++ (codes "() in " ++ (a ++ (codes " held_" ++ (l ++ (codes " = 0; generate free_" ++ (l ++ (codes "; end " ++ rest))))))))))))))))))))))))))))
form_text (TakesIt l) rest = codes "run lock_" ++ (l ++ (codes "();" ++ rest))
form_text (GivesIt l) rest = codes "run unlock_" ++ (l ++ (codes "();" ++ rest))

abbrev pub held_name : List ℕ → List ℕ
held_name l = codes "held_" ++ l

abbrev pub free_name : List ℕ → List ℕ
free_name l = codes "free_" ++ l

abbrev pub takes_name : List ℕ → List ℕ
takes_name l = codes "lock_" ++ l

abbrev pub gives_name : List ℕ → List ℕ
gives_name l = codes "unlock_" ++ l

-- what its tokens say, before those that follow
abbrev pub form_says : LockForm → List What → List What
form_says (Declares l a) rest =
    Keyword w.Shared ∷ Named (held_name l) ∷ Keyword w.In ∷ Named a ∷ Mark s.Equals ∷ Numeral (pos 0) ∷ Mark s.Semicolon
    ∷ Keyword w.Event ∷ Named (free_name l) ∷ Keyword w.In ∷ Named a ∷ Mark s.Semicolon
    ∷ Keyword w.Module ∷ Named (takes_name l) ∷ Mark s.Open ∷ Mark s.Close ∷ Keyword w.In ∷ Named a
    ∷ Keyword w.While ∷ Mark s.Open ∷ Named (held_name l) ∷ Mark s.Close ∷ Keyword w.Do
    ∷ Keyword w.Await ∷ Named (free_name l) ∷ Mark s.Semicolon
    ∷ Keyword w.If ∷ Mark s.Open ∷ Named (held_name l) ∷ Mark s.Close ∷ Keyword w.Then
    ∷ Keyword w.Cooperate ∷ Mark s.Semicolon ∷ Keyword w.End ∷ Keyword w.End
    ∷ Named (held_name l) ∷ Mark s.Equals ∷ Numeral (pos 1) ∷ Mark s.Semicolon ∷ Keyword w.End
    ∷ Keyword w.Module ∷ Named (gives_name l) ∷ Mark s.Open ∷ Mark s.Close ∷ Keyword w.In ∷ Named a
    ∷ Named (held_name l) ∷ Mark s.Equals ∷ Numeral (pos 0) ∷ Mark s.Semicolon
    ∷ Keyword w.Generate ∷ Named (free_name l) ∷ Mark s.Semicolon ∷ Keyword w.End ∷ rest
form_says (TakesIt l) rest = Keyword w.Run ∷ Named (takes_name l) ∷ Mark s.Open ∷ Mark s.Close ∷ Mark s.Semicolon ∷ rest
form_says (GivesIt l) rest = Keyword w.Run ∷ Named (gives_name l) ∷ Mark s.Open ∷ Mark s.Close ∷ Mark s.Semicolon ∷ rest

-- ---- a whole text

abbrev pub with_form : {A : Type 0} → Option LockForm → A → (LockForm → A) → A
with_form None other at_form = other
with_form (Some f) other at_form = at_form f

-- what a token of the text says, and what all do
abbrev pub says : List ℕ → Token → What
says text t = what_of t.kind (slice_range text t.from t.to)

abbrev pub all_say : List ℕ → List Token → List What
all_say text ts = map (says text) ts

-- What is written for the text from `at` on, of which these are the tokens; the first `skip` of them belong to a form before.
abbrev pub written : List ℕ → ℕ → ℕ → List Token → List ℕ
written text at zero [] = drop at text
written text at (suc skip) [] = []
written text at zero (t ∷ ts) =
    with_form (form_at (says text t) (all_say text ts)) (slice_range text at t.to ++ written text t.to 0 ts)
    (λ f. slice_range text at t.from ++ form_text f (written text t.to (more_of f) ts))
written text at (suc skip) (t ∷ ts) = written text t.to skip ts

-- what is said there, by what is said here
abbrev pub rewritten : ℕ → List What → List What
rewritten skip [] = []
rewritten zero (x ∷ xs) = with_form (form_at x xs) (x ∷ rewritten 0 xs) (λ f. form_says f (rewritten (more_of f) xs))
rewritten (suc skip) (x ∷ xs) = rewritten skip xs

-- the forms, in order
abbrev pub forms : ℕ → List What → List LockForm
forms skip [] = []
forms zero (x ∷ xs) = with_form (form_at x xs) (forms 0 xs) (λ f. f ∷ forms (more_of f) xs)
forms (suc skip) (x ∷ xs) = forms skip xs

-- the name leaves room for what is put before it
abbrev pub IsShort : LockForm → Type 0
IsShort f = length (lock_of f) ≤ 57

-- the text is cut into tokens that say this
pub record Says (text : List ℕ) (ws : List What) : Type 0 where
  pub tokens : List Token
  pub cut : Cut text (Ok tokens)
  pub all : all_say text tokens ≡ ws
