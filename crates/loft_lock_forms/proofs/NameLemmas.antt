-- Names of a source, by its symbols and by its tokens.
use Rattle.std.proofs.Common.{◌≡◌, ◌∙◌, sym, ap, refl, arith, ℕ, zero, suc, ◌<◌, ◌≤◌, ◌-◌, ◌||◌, ◌++◌, Bool, true, false, List, [], ◌∷◌, take, drop, length, Option, Some, None}
use Rattle.std.specs.Prelude.{nat_lt, if◌then◌else◌, codes}
use Rattle.std.specs.List.{list_any}
use Rattle.std.specs.Borrow.{Bor}
use Rattle.std.specs.Str.{bytes_eq}
use Rattle.std.proofs.lemmas.Bool.Decides.{not_from_Decides}
use Rattle.std.proofs.lemmas.Slice.Eq.{bytes_eq-Decides}
use Rattle.std.proofs.lemmas.List.{take-append-drop}
use Rattle.std.proofs.Math.Seq.{take-append_seam, drop-append_seam}
use Rattle.loft_lex.specs.declared.token.Token.{Token}
use Rattle.loft_lex.specs.declared.symbol.Symbol.{Symbol as SymbolInMemory}
use Rattle.loft_lex.specs.Seen.{symbol_seen}
use Rattle.loft_lex.specs.TextSymbols.{symbols_seen}
use Rattle.loft_lex.specs.Symbol.{Symbol, What, Named, Keyword, Numeral, Quoted, Mark, Unreadable, symbols}
use Rattle.loft_lock_forms.specs.Rewriting.{LockForm, Declares, TakesIt, GivesIt, lock_of, more_of, form_at, with_form, says, all_say, forms}
use Rattle.loft_lock_forms.specs.Names.{place_of, long_name, declares_name, is_declared, says_declared, reserved_name}
use Rattle.loft_lock_forms.specs.Seen.{whats, place_in, names_seen, lock_in, locks_of, is_long, next_of, declares_one, says_one, first_one, first_form}

pub whats_say : (text : List ℕ) (ts : List Token) → whats (symbols text ts) ≡ all_say text ts
whats_say text [] = refl
whats_say text (t ∷ ts) = ap (λ (xs : List What). says text t ∷ xs) (whats_say text ts)

pub with_same : {A : Type 0} → (o : Option LockForm) (a b : A) (f g : LockForm → A) → a ≡ b → ((x : LockForm) → f x ≡ g x) → with_form o a f ≡ with_form o b g
with_same None a b f g same each = same
with_same (Some x) a b f g same each = each x

cond_same : {A : Type 0} → (b : Bool) (x y u v : A) → x ≡ y → u ≡ v → (if b then x else u) ≡ (if b then y else v)
cond_same true x y u v e d = e
cond_same false x y u v e d = d

same_bool : (a b : Bool) → (a ≡ true → b ≡ true) → (b ≡ true → a ≡ true) → a ≡ b
same_bool false false f g = refl
same_bool false true f g = g refl
same_bool true b f g = sym (f refl)

-- ---- long names

-- the offset of the first long name, by symbols
abbrev pub first_long : ℕ → List Symbol → Option ℕ
first_long skip [] = None
first_long zero (s ∷ ss) = with_form (form_at s.what (whats ss)) (first_long 0 ss) (λ f. if nat_lt 57 (length (lock_of f)) then Some (place_in ss) else first_long (more_of f) ss)
first_long (suc skip) (s ∷ ss) = first_long skip ss

place_is : (text : List ℕ) (ts : List Token) → place_in (symbols text ts) ≡ place_of ts
place_is text [] = refl
place_is text (t ∷ ts) = refl

pub long_is : (text : List ℕ) (skip : ℕ) (ts : List Token) → first_long skip (symbols text ts) ≡ long_name text skip ts
long_is text skip [] = refl
long_is text (suc skip) (t ∷ ts) = long_is text skip ts
long_is text zero (t ∷ ts) =
    ap (λ (xs : List What). with_form (form_at (says text t) xs) (first_long 0 (symbols text ts)) (λ f. if nat_lt 57 (length (lock_of f)) then Some (place_in (symbols text ts)) else first_long (more_of f) (symbols text ts))) (whats_say text ts)
    ∙ with_same (form_at (says text t) (all_say text ts)) _ _ _ _ (long_is text 0 ts) (λ f. cond_same (nat_lt 57 (length (lock_of f))) _ _ _ _ (ap Some (place_is text ts)) (long_is text (more_of f) ts))

less_one : (k : ℕ) → k ≡ suc k - 1
less_one k = omega arith

pub next_skips : (k : ℕ) (xs : List What) → 0 < k → next_of k xs ≡ (k - 1, None)
next_skips zero xs some = elim some [ ]
next_skips (suc k) xs some = ap (λ (n : ℕ). (n, None)) (less_one k)

-- what `next_of` says where no token belongs to a form before
abbrev begun : Option LockForm → ℕ × Option LockForm
begun o = with_form o (0, None) (λ f. (more_of f, Some f))

long_next : (k : ℕ) (s : Symbol) (ss : List Symbol) → first_long k (s ∷ ss) ≡ (if is_long (next_of k (whats (s ∷ ss))).1 then Some (place_in ss) else first_long (next_of k (whats (s ∷ ss))).0 ss)
long_next (suc k) s ss = refl
long_next zero s ss = by (first_form (whats (s ∷ ss)))
  where
    by : (o : Option LockForm) → with_form o (first_long 0 ss) (λ f. if nat_lt 57 (length (lock_of f)) then Some (place_in ss) else first_long (more_of f) ss)
        ≡ (if is_long (begun o).1 then Some (place_in ss) else first_long (begun o).0 ss)
    by None = refl
    by (Some f) = refl

-- the first of these begins a form with a long name
pub long_first : (k : ℕ) (rest : List SymbolInMemory) → 1 ≤ length rest → is_long (next_of k (whats (symbols_seen rest))).1 ≡ true
    → first_long k (symbols_seen rest) ≡ Some (place_in (drop 1 (symbols_seen rest)))
long_first k [] some e = elim some [ ]
long_first k (s ∷ rest) some e =
    long_next k (symbol_seen s) (symbols_seen rest)
    ∙ ap (λ (b : Bool). if b then Some (place_in (symbols_seen rest)) else first_long (next_of k (whats (symbols_seen (s ∷ rest)))).0 (symbols_seen rest)) e

pub long_end : (k : ℕ) (rest : List SymbolInMemory) → length rest < 1 → first_long k (symbols_seen rest) ≡ None
long_end k [] below = refl
long_end k (s ∷ rest) below = absurd (omega (arith, below))

-- ---- forms

pub forms_next : (k : ℕ) (x : What) (xs : List What) → locks_of (forms k (x ∷ xs)) ≡ lock_in (next_of k (x ∷ xs)).1 ++ locks_of (forms (next_of k (x ∷ xs)).0 xs)
forms_next (suc k) x xs = refl
forms_next zero x xs = by (first_form (x ∷ xs))
  where
    by : (o : Option LockForm) → locks_of (with_form o (forms 0 xs) (λ f. f ∷ forms (more_of f) xs))
        ≡ lock_in (begun o).1 ++ locks_of (forms (begun o).0 xs)
    by None = refl
    by (Some (Declares l a)) = refl
    by (Some (TakesIt l)) = refl
    by (Some (GivesIt l)) = refl

-- ---- reserved names

any_seen : (p : List ℕ → Bool) (ls : List (Bor (List ℕ))) → list_any (λ l. p l.now) ls ≡ list_any p (names_seen ls)
any_seen p [] = refl
any_seen p (l ∷ ls) = ap (λ (b : Bool). p l.now || b) (any_seen p ls)

rearranged : (h f t g a b c d : Bool) → ((h || f || t || g) || (a || (b || (c || d)))) ≡ ((h || a) || ((f || b) || ((t || c) || (g || d))))
rearranged true f t g a b c d = refl
rearranged false true t g true b c d = refl
rearranged false false true g true true c d = refl
rearranged false false false true true true true d = refl
rearranged false false false false true true true d = refl
rearranged false false false true true true false d = refl
rearranged false false false false true true false d = refl
rearranged false false true g true false c d = refl
rearranged false false false true true false true d = refl
rearranged false false false false true false true d = refl
rearranged false false false true true false false d = refl
rearranged false false false false true false false d = refl
rearranged false true t g false b c d = refl
rearranged false false true g false true c d = refl
rearranged false false false true false true true d = refl
rearranged false false false false false true true d = refl
rearranged false false false true false true false d = refl
rearranged false false false false false true false d = refl
rearranged false false true g false false c d = refl
rearranged false false false true false false true d = refl
rearranged false false false false false false true d = refl
rearranged false false false true false false false d = refl
rearranged false false false false false false false d = refl

-- the same of plain names
abbrev any_of : List (List ℕ) → List ℕ → Bool
any_of ls name =
    list_any (λ l. bytes_eq name (codes "held_" ++ l)) ls || (list_any (λ l. bytes_eq name (codes "free_" ++ l)) ls
    || (list_any (λ l. bytes_eq name (codes "lock_" ++ l)) ls || list_any (λ l. bytes_eq name (codes "unlock_" ++ l)) ls))

declared_any : (fs : List LockForm) (name : List ℕ) → is_declared fs name ≡ any_of (locks_of fs) name
declared_any [] name = refl
declared_any (Declares l a ∷ fs) name =
    let ls = locks_of fs in
    ap (λ (b : Bool). declares_name l name || b) (declared_any fs name)
    ∙ rearranged (bytes_eq name (codes "held_" ++ l)) (bytes_eq name (codes "free_" ++ l)) (bytes_eq name (codes "lock_" ++ l)) (bytes_eq name (codes "unlock_" ++ l))
    (list_any (λ k. bytes_eq name (codes "held_" ++ k)) ls) (list_any (λ k. bytes_eq name (codes "free_" ++ k)) ls)
    (list_any (λ k. bytes_eq name (codes "lock_" ++ k)) ls) (list_any (λ k. bytes_eq name (codes "unlock_" ++ k)) ls)
declared_any (TakesIt l ∷ fs) name = declared_any fs name
declared_any (GivesIt l ∷ fs) name = declared_any fs name

one_any : (ls : List (Bor (List ℕ))) (name : List ℕ) → declares_one ls name ≡ any_of (names_seen ls) name
one_any ls name = λ i.
    any_seen (λ l. bytes_eq name (codes "held_" ++ l)) ls i || (any_seen (λ l. bytes_eq name (codes "free_" ++ l)) ls i
    || (any_seen (λ l. bytes_eq name (codes "lock_" ++ l)) ls i || any_seen (λ l. bytes_eq name (codes "unlock_" ++ l)) ls i))

says_is : (ls : List (Bor (List ℕ))) (fs : List LockForm) → names_seen ls ≡ locks_of fs → (x : What) → says_one ls x ≡ says_declared fs x
says_is ls fs e (Named name) = one_any ls name ∙ (ap (λ (ks : List (List ℕ)). any_of ks name) e ∙ sym (declared_any fs name))
says_is ls fs e (Keyword v) = refl
says_is ls fs e (Numeral v) = refl
says_is ls fs e (Quoted text) = refl
says_is ls fs e (Mark v) = refl
says_is ls fs e Unreadable = refl

pub one_is : (ls : List (Bor (List ℕ))) (fs : List LockForm) → names_seen ls ≡ locks_of fs → (text : List ℕ) (ts : List Token) → first_one ls (symbols text ts) ≡ reserved_name text fs ts
one_is ls fs e text [] = refl
one_is ls fs e text (t ∷ ts) =
    ap (λ (b : Bool). if b then Some t.from else first_one ls (symbols text ts)) (says_is ls fs e (says text t))
    ∙ cond_same (says_declared fs (says text t)) _ _ _ _ refl (one_is ls fs e text ts)

-- ---- names after a front

-- a name that begins with the front is it with what comes after it
front_name : (name front : List ℕ) → bytes_eq (take (length front) name) front ≡ true → name ≡ front ++ drop (length front) name
front_name name front e = sym (take-append-drop (length front) name) ∙ ap (λ (l : List ℕ). l ++ drop (length front) name) ((bytes_eq-Decides (take (length front) name) front).0 e)

after_front : (name front l : List ℕ) → bytes_eq (take (length front) name) front ≡ true → bytes_eq (drop (length front) name) l ≡ bytes_eq name (front ++ l)
after_front name front l e = same_bool _ _
    (λ d. (bytes_eq-Decides name (front ++ l)).1 (front_name name front e ∙ ap (λ (x : List ℕ). front ++ x) ((bytes_eq-Decides (drop (length front) name) l).0 d)))
    (λ d. (bytes_eq-Decides (drop (length front) name) l).1 (ap (drop (length front)) ((bytes_eq-Decides name (front ++ l)).0 d) ∙ drop-append_seam front l))

no_front : (name front l : List ℕ) → bytes_eq (take (length front) name) front ≡ false → bytes_eq name (front ++ l) ≡ false
no_front name front l e = by (bytes_eq name (front ++ l)) refl
  where
    by : (b : Bool) → bytes_eq name (front ++ l) ≡ b → b ≡ false
    by false d = refl
    by true d = absurd (not_from_Decides _ (bytes_eq-Decides (take (length front) name) front) e (ap (take (length front)) ((bytes_eq-Decides name (front ++ l)).0 d) ∙ take-append_seam front l))

pub any_after : (name front rest : List ℕ) → bytes_eq (take (length front) name) front ≡ true → rest ≡ drop (length front) name → (ls : List (Bor (List ℕ)))
    → list_any (λ l. bytes_eq rest l.now) ls ≡ list_any (λ l. bytes_eq name (front ++ l.now)) ls
any_after name front rest e is [] = refl
any_after name front rest e is (l ∷ ls) = λ i. (ap (λ (r : List ℕ). bytes_eq r l.now) is ∙ after_front name front l.now e) i || any_after name front rest e is ls i

pub none_after : (name front : List ℕ) → bytes_eq (take (length front) name) front ≡ false → (ls : List (Bor (List ℕ))) → list_any (λ l. bytes_eq name (front ++ l.now)) ls ≡ false
none_after name front e [] = refl
none_after name front e (l ∷ ls) = ap (λ (b : Bool). b || list_any (λ l. bytes_eq name (front ++ l.now)) ls) (no_front name front l.now e) ∙ none_after name front e ls
