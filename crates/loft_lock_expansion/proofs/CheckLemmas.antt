-- What the checks of an expansion come to, where they find nothing.
use Rattle.std.proofs.Common.{◌≡◌, ℕ, zero, suc, ◌+◌, false, ◌||◌, List, [], ◌∷◌, ◌++◌, length, Option, Some, None, refl, arith}
use Rattle.std.specs.Prelude.{if◌then◌else◌, nat_lt}
use Rattle.std.specs.Str.{bytes_eq}
use Rattle.std.proofs.lemmas.Bool.{ltb-false}
use Rattle.std.proofs.lemmas.Slice.Eq.{bytes_eq-Decides}
use Rattle.loft_base.specs.declared.ids.ModuleId.{ModuleId}
use Rattle.loft_lex.specs.declared.token.Token.{Token}
use Rattle.loft_lex.specs.Symbol.{What, Named, Keyword, Numeral, Quoted, Mark, Unreadable}
use Rattle.loft_tree.specs.Fits.{Each}
use Rattle.loft_tree.specs.NamedTree.{NamedModule}
use Rattle.loft_locks.proofs.RefusalLemmas.{none_first, not_chosen, or_parts}
use Rattle.loft_lock_forms.specs.Rewriting.{LockForm, Declares, TakesIt, GivesIt, lock_of, more_of, form_at, held_name, free_name, takes_name, gives_name, with_form, says, all_say, forms, IsShort}
use Rattle.loft_lock_rewriting.specs.Locked.{SaysOther, IsOther}
use Rattle.loft_lock_expansion.specs.Checks.{fault_in, first_fault}
use Rattle.loft_lock_forms.specs.Names.{place_of, long_name, declares_name, is_declared, says_declared, reserved_name}

-- ---- names that are too long

short_by : (o : Option LockForm) (text : List ℕ) (ts : List Token) → with_form o (long_name text 0 ts) (λ f. if nat_lt 57 (length (lock_of f)) then Some (place_of ts) else long_name text (more_of f) ts) ≡ None
    → ((skip : ℕ) → long_name text skip ts ≡ None → Each IsShort (forms skip (all_say text ts))) → Each IsShort (with_form o (forms 0 (all_say text ts)) (λ f. f ∷ forms (more_of f) (all_say text ts)))
short_by None text ts e rest = rest 0 e
short_by (Some f) text ts e rest =
    let parts = not_chosen (nat_lt 57 (length (lock_of f))) (place_of ts) (long_name text (more_of f) ts) e in
    (omega (arith, ltb-false 57 (length (lock_of f)) parts.0), rest (more_of f) parts.1)

pub short_forms : (text : List ℕ) (skip : ℕ) (ts : List Token) → long_name text skip ts ≡ None → Each IsShort (forms skip (all_say text ts))
short_forms text skip [] e = tt
short_forms text zero (t ∷ ts) e = short_by (form_at (says text t) (all_say text ts)) text ts e (λ skip. short_forms text skip ts)
short_forms text (suc skip) (t ∷ ts) e = short_forms text skip ts e

-- ---- names that are reserved

free_of : (text : List ℕ) (fs : List LockForm) (ts : List Token) → reserved_name text fs ts ≡ None → Each (λ (x : What). says_declared fs x ≡ false) (all_say text ts)
free_of text fs [] e = tt
free_of text fs (t ∷ ts) e =
    let parts = not_chosen (says_declared fs (says text t)) t.from (reserved_name text fs ts) e in
    (parts.0, free_of text fs ts parts.1)

declares_not : (before : List LockForm) (l a : List ℕ) (after : List LockForm) (name : List ℕ) → is_declared (before ++ Declares l a ∷ after) name ≡ false → declares_name l name ≡ false
declares_not [] l a after name e = (or_parts (declares_name l name) (is_declared after name) e).0
declares_not (Declares k b ∷ before) l a after name e = declares_not before l a after name (or_parts (declares_name k name) (is_declared (before ++ Declares l a ∷ after) name) e).1
declares_not (TakesIt k ∷ before) l a after name e = declares_not before l a after name e
declares_not (GivesIt k ∷ before) l a after name e = declares_not before l a after name e

apart : (a b : List ℕ) → bytes_eq a b ≡ false → a ≡ b → ⊥
apart a b off e = let yes = (bytes_eq-Decides a b).1 e in cc

is_other : (l name : List ℕ) → declares_name l name ≡ false → IsOther l name
is_other l name e =
    let held = bytes_eq name (held_name l) in
    let free = bytes_eq name (free_name l) in
    let takes = bytes_eq name (takes_name l) in
    let given = or_parts (held || free || takes) (bytes_eq name (gives_name l)) e in
    let taken = or_parts (held || free) takes given.0 in
    let first = or_parts held free taken.0 in
    (apart name (held_name l) first.0, apart name (takes_name l) taken.1, apart name (gives_name l) given.1)

says_other : (before : List LockForm) (l a : List ℕ) (after : List LockForm) (x : What) → says_declared (before ++ Declares l a ∷ after) x ≡ false → SaysOther l x
says_other before l a after (Named name) e = is_other l name (declares_not before l a after name e)
says_other before l a after (Keyword v) e = tt
says_other before l a after (Numeral v) e = tt
says_other before l a after (Quoted text) e = tt
says_other before l a after (Mark v) e = tt
says_other before l a after Unreadable e = tt

each_says_other : (before : List LockForm) (l a : List ℕ) (after : List LockForm) (xs : List What) → Each (λ (x : What). says_declared (before ++ Declares l a ∷ after) x ≡ false) xs → Each (SaysOther l) xs
each_says_other before l a after [] f = tt
each_says_other before l a after (x ∷ xs) f = (says_other before l a after x f.0, each_says_other before l a after xs f.1)

pub reserved_for : (text : List ℕ) (ts : List Token) (before : List LockForm) (l a : List ℕ) (after : List LockForm) → reserved_name text (before ++ Declares l a ∷ after) ts ≡ None → Each (SaysOther l) (all_say text ts)
reserved_for text ts before l a after e = each_says_other before l a after (all_say text ts) (free_of text (before ++ Declares l a ∷ after) ts e)

-- ---- modules

no_fault : (m : ModuleId) (o : Option (List ℕ)) → fault_in m o ≡ None → o ≡ None
no_fault m None e = refl
no_fault m (Some l) e = absurd cc

pub no_faults : (fault : NamedModule → Option (List ℕ)) (m : ℕ) (ms : List NamedModule) → first_fault fault m ms ≡ None → Each (λ (x : NamedModule). fault x ≡ None) ms
no_faults fault m [] e = tt
no_faults fault m (x ∷ xs) e =
    let parts = none_first (fault_in (record { 0 = m }) (fault x)) (first_fault fault (m + 1) xs) e in
    (no_fault (record { 0 = m }) (fault x) parts.0, no_faults fault (m + 1) xs parts.1)
