-- What a reader of one symbol finds: no symbol, another, or one that may stand there.
use Rattle.std.proofs.Common.{◌≡◌, ℕ, ◌+◌, ◌-◌, ◌<◌, ◌≤◌, Bool, true, false, List, [], ◌∷◌, length, take, drop, get_or, Ok, Err, Result, refl, ap, ◌∙◌, arith, map, Option}
use Rattle.std.proofs.Math.Seq.{take-length}
use Rattle.std.proofs.lemmas.List.{length-map}
use Rattle.loft_lex.specs.Symbol.{Symbol}
use Rattle.loft_lex.specs.Seen.{symbol_seen, what_seen}
use Rattle.loft_lex.specs.declared.symbol.Symbol.{Symbol as InMemory}
use Rattle.loft_form.specs.declared.fault.Fault.{Fault}
use Rattle.loft_form.specs.declared.fault.Fault.TheVariants.{Expected, TooDeep}
use Rattle.loft_form.specs.declared.stop.Stop.{Stop}
use Rattle.loft_form.specs.declared.stop.Stop.TheVariants as stop
use Rattle.loft_form.specs.Form.{Limits, State, leaf}
use Rattle.loft_form.specs.Reading.{◌>>=◌, done, tally, paid, leaf_at, read, Gives, Fails}
use Rattle.loft_grammar.specs.declared.counts.Counted.{Counted}
use Rattle.loft_grammar.specs.declared.counts.Counts.{Counts}
use Rattle.loft_grammar.specs.declared.cursor.Cursor.{Cursor}
use Rattle.loft_grammar.specs.Language.{Language, Kind, kind_of}
use Rattle.loft_grammar.specs.Symbols.{counting}
use Rattle.loft_grammar.specs.Statements.{rules}
use Rattle.loft_grammar.specs.View.{itself, owed}
use Rattle.loft_grammar.proofs.Leaves.{counting_is}

-- the symbols after the first
abbrev pub rest_of : List InMemory → List InMemory
rest_of ss = take (length ss - 1) (drop 1 ss)

rest_is : (s : InMemory) (ss : List InMemory) → rest_of (s ∷ ss) ≡ ss
rest_is s ss =
    let one : length (s ∷ ss) - 1 ≡ length ss = omega arith in
    ap (λ (n : ℕ). take n ss) one ∙ take-length ss

pub no_symbol : {A : Type 0} (lim : Limits Language) (too_deep : Bool) (test : Kind → Bool) (value : Symbol → A) (ss : List InMemory) (c : State Language) → length ss < 1
    → leaf_at lim too_deep test value (map symbol_seen ss) c ≡ Err (Expected 0)
unfolding leaf_at
no_symbol lim too_deep test value [] c none = refl
no_symbol lim too_deep test value (s ∷ ss) c none = absurd (omega arith)

pub refused : {A : Type 0} (lim : Limits Language) (too_deep : Bool) (test : Kind → Bool) (value : Symbol → A) (ss : List InMemory) (c : State Language) (blank : InMemory) → 1 ≤ length ss
    → test (kind_of (what_seen (get_or ss 0 blank).what)) ≡ false
    → leaf_at lim too_deep test value (map symbol_seen ss) c ≡ Err (Expected (length (rest_of ss) + 1))
unfolding leaf_at
refused lim too_deep test value [] c blank some other = absurd (omega arith)
refused lim too_deep test value (s ∷ ss) c blank some other = rw (rest_is s ss, other, length-map ss symbol_seen) refl

pub nested : {A : Type 0} (lim : Limits Language) (test : Kind → Bool) (value : Symbol → A) (ss : List InMemory) (c : State Language) (blank : InMemory) → 1 ≤ length ss
    → test (kind_of (what_seen (get_or ss 0 blank).what)) ≡ true
    → leaf_at lim true test value (map symbol_seen ss) c ≡ Err (TooDeep (length (rest_of ss) + 1))
unfolding leaf_at
nested lim test value [] c blank some stands = absurd (omega arith)
nested lim test value (s ∷ ss) c blank some stands = rw (rest_is s ss, stands, length-map ss symbol_seen) refl

-- one that may stand there is counted
pub first_counted : {A : Type 0} (lim : Limits Language) (test : Kind → Bool) (value : Symbol → A) (ss : List InMemory) (c : State Language) (blank : InMemory) → 1 ≤ length ss
    → test (kind_of (what_seen (get_or ss 0 blank).what)) ≡ true
    → leaf_at lim false test value (map symbol_seen ss) c
    ≡ (tally lim (length (rest_of ss) + 1) c.due c.counts >>= λ after. done (value (symbol_seen (get_or ss 0 blank))) (map symbol_seen (rest_of ss)) (paid after))
unfolding leaf_at
first_counted lim test value [] c blank some stands = absurd (omega arith)
first_counted lim test value (s ∷ ss) c blank some stands = rw (rest_is s ss, stands, length-map ss symbol_seen) refl

fails_on : {A B : Type 0} (e : Stop) (r : Result A Fault) (f : A → Result B Fault) → Fails e r → Fails e (r >>= f)
fails_on stop.NoMemory r f fails = fails
fails_on (stop.Fault fault) r f fails = rw fails refl

-- what is due can't be counted
pub stopped : {A : Type 0} (lim : Limits Language) (too_deep : Bool) (test : Kind → Bool) (value : Symbol → A) (ss : List InMemory) (c : State Language) (blank : InMemory) (result : Result (A × Cursor) Stop) (e : Stop) → 1 ≤ length ss
    → test (kind_of (what_seen (get_or ss 0 blank).what)) ≡ true → too_deep ≡ false
    → result ≡ Err e → Fails e (tally lim (length (rest_of ss) + 1) c.due c.counts)
    → Gives itself result (leaf_at lim too_deep test value (map symbol_seen ss) c)
stopped lim too_deep test value ss c blank result e some stands deep is fails =
    rw (is, deep, first_counted lim test value ss c blank some stands) (fails_on e _ _ fails)

-- what is due is counted
pub read_first : {A : Type 0} (lim : Limits Language) (too_deep : Bool) (test : Kind → Bool) (value : Symbol → A) (ss : List InMemory) (c : State Language) (blank : InMemory) (after : Counts) → 1 ≤ length ss
    → test (kind_of (what_seen (get_or ss 0 blank).what)) ≡ true → too_deep ≡ false
    → tally lim (length (rest_of ss) + 1) c.due c.counts ≡ Ok after
    → leaf_at lim too_deep test value (map symbol_seen ss) c ≡ done (value (symbol_seen (get_or ss 0 blank))) (map symbol_seen (rest_of ss)) (paid {L = Language} after)
read_first lim too_deep test value ss c blank after some stands deep counted =
    rw (deep, first_counted lim test value ss c blank some stands, counted) refl

-- the same of a form that may be counted
pub stopped_counting : {A : Type 0} (lim : Limits Language) (what : Option Counted) (test : Kind → Bool) (value : Symbol → A) (ss : List InMemory) (c : State Language) (blank : InMemory) (result : Result (A × Cursor) Stop) (e : Stop) → 1 ≤ length ss
    → test (kind_of (what_seen (get_or ss 0 blank).what)) ≡ true → result ≡ Err e
    → Fails e (tally lim (length (rest_of ss) + 1) (owed what c).due c.counts)
    → Gives itself result (read rules lim 0 (counting what (leaf test value false)) (map symbol_seen ss) c)
stopped_counting {A} lim what test value ss c blank result e some stands is fails =
    rw (counting_is lim what (leaf test value false) (map symbol_seen ss) c)
    (stopped lim false test value ss (owed what c) blank result e some stands refl is fails)

pub read_counting : {A : Type 0} (lim : Limits Language) (what : Option Counted) (test : Kind → Bool) (value : Symbol → A) (ss : List InMemory) (c : State Language) (blank : InMemory) (after : Counts) → 1 ≤ length ss
    → test (kind_of (what_seen (get_or ss 0 blank).what)) ≡ true
    → tally lim (length (rest_of ss) + 1) (owed what c).due c.counts ≡ Ok after
    → read rules lim 0 (counting what (leaf test value false)) (map symbol_seen ss) c ≡ done (value (symbol_seen (get_or ss 0 blank))) (map symbol_seen (rest_of ss)) (paid {L = Language} after)
read_counting {A} lim what test value ss c blank after some stands counted =
    counting_is lim what (leaf test value false) (map symbol_seen ss) c
    ∙ read_first lim false test value ss (owed what c) blank after some stands refl counted
