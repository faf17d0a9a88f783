-- What single symbols count as, and what they stand for.
use Rattle.std.proofs.Common.{◌≡◌, ℕ, ◌+◌, Bool, true, false, cond, nat_le, List, [], ◌∷◌, ◌++◌, length, Option, Some, None, Result, Ok, Err, refl, sym, ap, ◌∙◌}
use Rattle.std.proofs.lemmas.List.{append-nil}
use Rattle.loft_lex.specs.Symbol.{Symbol}
use Rattle.loft_form.specs.declared.fault.Fault.{Fault}
use Rattle.loft_form.specs.declared.fault.Fault.TheVariants.{Expected, TooMany}
use Rattle.loft_form.specs.Form.{Limits, State, next_begins}
use Rattle.loft_form.specs.Reading.{Read, ◌>>=◌, done, within, tally, paid, allowed, leaf_at, read}
use Rattle.loft_grammar.specs.declared.counts.Counted.{Counted}
use Rattle.loft_grammar.specs.declared.counts.Counts.{Counts}
use Rattle.loft_grammar.specs.Counts.{number, put}
use Rattle.loft_grammar.specs.Language.{Language, Kind, kind_of}
use Rattle.loft_grammar.specs.Symbols.{Form, counting}
use Rattle.loft_grammar.specs.Statements.{rules}
use Rattle.loft_grammar.specs.View.{owed}

cond_bind : {A B : Type 0} (b : Bool) (e : Fault) (r : Result A Fault) (f : A → Result B Fault) → (cond b (Err e) r >>= f) ≡ cond b (Err e) (r >>= f)
cond_bind true e r f = refl
cond_bind false e r f = refl

within_bind : {A B : Type 0} (o : Option ℕ) (n left : ℕ) (r : Result A Fault) (f : A → Result B Fault) → (within o n left r >>= f) ≡ within o n left (r >>= f)
within_bind None n left r f = refl
within_bind (Some limit) n left r f = cond_bind (nat_le limit n) (TooMany left limit) r f

-- what is counted in two parts
pub tally_append : (lim : Limits Language) (left : ℕ) (ws vs : List Counted) (c : Counts) → tally lim left (ws ++ vs) c ≡ (tally lim left ws c >>= λ d. tally lim left vs d)
tally_append lim left [] vs c = refl
tally_append lim left (w ∷ ws) vs c =
    ap (within (lim.most w) (number w c) left) (tally_append lim left ws vs (put w (number w c + 1) c))
    ∙ sym (within_bind (lim.most w) (number w c) left (tally lim left ws (put w (number w c + 1) c)) (λ d. tally lim left vs d))

-- a form that may be counted
pub counting_is : {A : Type 0} (lim : Limits Language) (what : Option Counted) (f : Form A) (ss : List Symbol) (c : State Language) → read rules lim 0 (counting what f) ss c ≡ read rules lim 0 f ss (owed what c)
counting_is lim None f ss c = ap (λ (due : List Counted). read rules lim 0 f ss (record { counts = c.counts; due = due })) (sym (append-nil c.due))
counting_is lim (Some w) f ss c = refl

pub counting_begins : {A : Type 0} (what : Option Counted) (f : Form A) (ss : List Symbol) → next_begins (counting what f) ss ≡ next_begins f ss
counting_begins None f ss = refl
counting_begins (Some w) f [] = refl
counting_begins (Some w) f (s ∷ ss) = refl

-- what a symbol stands for, without its place
abbrev pub unplaced : Read Language ℕ → Read Language (Unit {0})
unplaced (Ok x) = Ok (tt, x.1)
unplaced (Err e) = Err e

unplaced_tally : (r : Result Counts Fault) (at : ℕ) (ss : List Symbol) → (r >>= λ after. done tt ss (paid {L = Language} after)) ≡ unplaced (r >>= λ after. done at ss (paid {L = Language} after))
unplaced_tally (Ok d) at ss = refl
unplaced_tally (Err e) at ss = refl

unplaced_cond : (b : Bool) (r s : Read Language ℕ) → cond b (unplaced r) (unplaced s) ≡ unplaced (cond b r s)
unplaced_cond true r s = refl
unplaced_cond false r s = refl

unplaced_allowed : (lim : Limits Language) (at : ℕ) (too_deep : Bool) (ss : List Symbol) (c : State Language) → allowed lim tt too_deep ss c ≡ unplaced (allowed lim at too_deep ss c)
unplaced_allowed lim at true ss c = refl
unplaced_allowed lim at false ss c = unplaced_tally (tally lim (length ss + 1) c.due c.counts) at ss

pub without_place : (lim : Limits Language) (too_deep : Bool) (test : Kind → Bool) (ss : List Symbol) (c : State Language) → leaf_at lim too_deep test (λ _. tt) ss c ≡ unplaced (leaf_at lim too_deep test (λ x. x.at) ss c)
unfolding leaf_at
without_place lim too_deep test [] c = refl
without_place lim too_deep test (s ∷ ss) c =
    ap (λ (r : Read Language (Unit {0})). cond (test (kind_of s.what)) r (Err (Expected (length ss + 1)))) (unplaced_allowed lim s.at too_deep ss c)
    ∙ unplaced_cond (test (kind_of s.what)) (allowed lim s.at too_deep ss c) (Err (Expected (length ss + 1)))

pub uncounted_without_place : (lim : Limits Language) (too_deep : Bool) (test : Kind → Bool) (ss : List Symbol) (c : State Language) → leaf_at lim too_deep test (λ _. tt) ss c ≡ unplaced (leaf_at lim too_deep test (λ x. x.at) ss (owed None c))
uncounted_without_place lim too_deep test ss c =
    without_place lim too_deep test ss c
    ∙ ap (λ (due : List Counted). unplaced (leaf_at lim too_deep test (λ x. x.at) ss (record { counts = c.counts; due = due }))) (sym (append-nil c.due))

-- nothing more is counted
pub uncounted : {A : Type 0} (lim : Limits Language) (too_deep : Bool) (test : Kind → Bool) (value : Symbol → A) (ss : List Symbol) (c : State Language) → leaf_at lim too_deep test value ss c ≡ leaf_at lim too_deep test value ss (owed None c)
uncounted lim too_deep test value ss c =
    ap (λ (due : List Counted). leaf_at lim too_deep test value ss (record { counts = c.counts; due = due })) (sym (append-nil c.due))
