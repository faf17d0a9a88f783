-- What forms and marks in memory are as plain values.
use Rattle.std.specs.Prelude.{ℕ, zero, suc, Bool, false, ◌||◌, List, [], ◌∷◌, ◌++◌, map, length, nat_lt, Option, Some, None, if◌then◌else◌, codes}
use Rattle.std.specs.Borrow.{Bor}
use Rattle.std.specs.List.{list_any}
use Rattle.std.specs.Str.{bytes_eq}
use Rattle.loft_lex.specs.Symbol.{Symbol, What, Named, Keyword, Numeral, Quoted, Mark, Unreadable}
use Rattle.loft_lock_forms.specs.Rewriting.{LockForm, Declares, TakesIt, GivesIt, form_at, lock_form, lock_of, more_of, unlock_form, with_form}
use Rattle.loft_lock_forms.specs.Marks.{Use, TakeOf, GiveOf, Mark as MarkOf}
use Rattle.loft_lock_forms.specs.declared.form.Form.{Form}
use Rattle.loft_lock_forms.specs.declared.form.Form.TheVariants as form
use Rattle.loft_lock_forms.specs.declared.writing.Use.{Use as UseInMemory}
use Rattle.loft_lock_forms.specs.declared.writing.Use.TheVariants as used
use Rattle.loft_lock_forms.specs.declared.writing.Mark.{Mark as MarkInMemory}

abbrev pub form_seen : Form → LockForm
form_seen (form.Declares lock at) = Declares lock.now at.now
form_seen (form.Takes lock) = TakesIt lock.now
form_seen (form.Gives lock) = GivesIt lock.now

-- the form that begins with a name, before these
abbrev pub forms_of_name : List ℕ → List What → Option LockForm
forms_of_name word xs = if bytes_eq word (codes "lock") then lock_form xs else (if bytes_eq word (codes "unlock") then unlock_form xs else None)

-- the form that begins with the first of these
abbrev pub first_form : List What → Option LockForm
first_form [] = None
first_form (x ∷ xs) = form_at x xs

abbrev pub use_seen : UseInMemory → Use
use_seen (used.Take lock) = TakeOf lock.now
use_seen (used.Give lock) = GiveOf lock.now

abbrev pub mark_seen : MarkInMemory → MarkOf
mark_seen m = record { at = m.at; used = use_seen m.used }

abbrev pub marks_seen : List MarkInMemory → List MarkOf
marks_seen ms = map mark_seen ms

-- the mark before others, where there is one
abbrev pub with_mark : Option MarkOf → List MarkOf → List MarkOf
with_mark None ms = ms
with_mark (Some m) ms = m ∷ ms

-- ---- names

-- what the tokens say
abbrev pub whats : List Symbol → List What
whats ss = map (λ s. s.what) ss

abbrev pub place_in : List Symbol → ℕ
place_in [] = 0
place_in (s ∷ ss) = s.at

abbrev pub names_seen : List (Bor (List ℕ)) → List (List ℕ)
names_seen ls = map (λ l. l.now) ls

-- the locks that the forms declare
abbrev pub locks_of : List LockForm → List (List ℕ)
locks_of [] = []
locks_of (Declares l a ∷ fs) = l ∷ locks_of fs
locks_of (TakesIt l ∷ fs) = locks_of fs
locks_of (GivesIt l ∷ fs) = locks_of fs

-- the lock that the form declares, if it is there and declares one
abbrev pub lock_in : Option LockForm → List (List ℕ)
lock_in None = []
lock_in (Some (Declares l a)) = l ∷ []
lock_in (Some (TakesIt l)) = []
lock_in (Some (GivesIt l)) = []

abbrev pub is_long : Option LockForm → Bool
is_long None = false
is_long (Some f) = nat_lt 57 (length (lock_of f))

-- how many tokens after the first of these belong to a form, and the form that begins with the first
abbrev pub next_of : ℕ → List What → ℕ × Option LockForm
next_of zero xs = with_form (first_form xs) (0, None) (λ f. (more_of f, Some f))
next_of (suc k) xs = (k, None)

-- the first form of one of these locks declares the name
abbrev pub declares_one : List (Bor (List ℕ)) → List ℕ → Bool
declares_one ls name =
    list_any (λ l. bytes_eq name (codes "held_" ++ l.now)) ls || (list_any (λ l. bytes_eq name (codes "free_" ++ l.now)) ls
    || (list_any (λ l. bytes_eq name (codes "lock_" ++ l.now)) ls || list_any (λ l. bytes_eq name (codes "unlock_" ++ l.now)) ls))

abbrev pub says_one : List (Bor (List ℕ)) → What → Bool
says_one ls (Named name) = declares_one ls name
says_one ls (Keyword v) = false
says_one ls (Numeral v) = false
says_one ls (Quoted text) = false
says_one ls (Mark v) = false
says_one ls Unreadable = false

abbrev pub first_one : List (Bor (List ℕ)) → List Symbol → Option ℕ
first_one ls [] = None
first_one ls (s ∷ ss) = if says_one ls s.what then Some s.at else first_one ls ss

-- ---- what replaces the first form, in three parts

abbrev pub heads_text : (l a rest : List ℕ) → List ℕ
heads_text l a rest = codes "shared held_" ++ (l ++ (codes " in " ++ (a ++ (codes " = 0; event free_" ++ (l ++ (codes " in " ++ (a ++ rest)))))))

abbrev pub taker_text : (l a rest : List ℕ) → List ℕ
taker_text l a rest =
    codes "; module lock_" ++ (l ++ (codes "() in " ++ (a ++ (codes " while (held_" ++ (l ++ (codes ") do await free_" ++ (l ++ (codes "; if (held_" ++ (l
    ++ (codes ") then cooperate; end end held_" ++ (l ++ rest)))))))))))

abbrev pub giver_text : (l a rest : List ℕ) → List ℕ
giver_text l a rest =
    codes " = 1; end module unlock_" ++ (l ++ (codes "() in " ++ (a ++ (codes " held_" ++ (l ++ (codes " = 0; generate free_" ++ (l ++ (codes "; end " ++ rest))))))))
