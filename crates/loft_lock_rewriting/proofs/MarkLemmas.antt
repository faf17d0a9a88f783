-- The `run`s of the modules of a lock in a rewritten text are those that its marks tell.
use Rattle.std.proofs.Common.{◌≡◌, ℕ, suc, ◌+◌, ◌<◌, ◌≤◌, ◌==◌, Bool, true, false, List, [], ◌∷◌, ◌++◌, length, map, Option, Some, None, Ok, refl, sym, ap, subst, ◌∙◌, append_assoc, arith}
use Rattle.std.specs.Prelude.{if◌then◌else◌}
use Rattle.std.proofs.lemmas.Bool.{eq-eqb, eqb-true}
use Rattle.loft_tree.specs.Fits.{Each}
use Rattle.loft_tree.specs.Source.{Source}
use Rattle.loft_lex.specs.declared.token.Token.{Token}
use Rattle.loft_lex.specs.Symbol.{What, Symbol, symbols}
use Rattle.loft_lex.specs.Tokens.{Rising}
use Rattle.loft_lex.specs.Cut.{Cut}
use Rattle.loft_lex.proofs.Spans.{all_rise}
use Rattle.loft_lex.proofs.Readings.{complete}
use Rattle.loft_grammar.specs.Texts.{Reads}
use Rattle.loft_scopes.specs.Faults.{NamesFit}
use Rattle.loft_names.proofs.HeadsLists.{each-append}
use Rattle.loft_lock_forms.specs.Marks.{Use, Mark, use_at}
use Rattle.loft_lock_sources.proofs.ToldLemmas.{TellsName, Tells, runs_told}
use Rattle.loft_lock_symbols.proofs.RunLemmas.{is_run, RunIn, program_runs}
use Rattle.loft_lock_forms.specs.Rewriting.{all_say, written, rewritten, forms, IsShort}
use Rattle.loft_lock_rewriting.specs.Locked.{lock_names, IsDeclared}
use Rattle.loft_lock_forms.specs.Marks.{text_marks}
use Rattle.loft_lock_rewriting.specs.Told.{IsTold}
use Rattle.loft_lock_rewriting.proofs.Uses.{uses}
use Rattle.loft_lock_rewriting.proofs.Putting.{mark_of, marks_at}
use Rattle.loft_lock_rewriting.proofs.Rewritten.{rewritten_at}
use Rattle.loft_lock_rewriting.proofs.LockSplit.{what_in, said_symbols}
use Rattle.loft_lock_rewriting.proofs.LockTwice.{texts_have_locks}
use Rattle.loft_lock_rewriting.proofs.TellLemmas.{TellsIn, tells}

-- ---- symbols in order

-- each begins at this offset or later, and after the one before
abbrev Ordered : ℕ → List Symbol → Type 0
Ordered k [] = Unit {0}
Ordered k (s ∷ ss) = (k ≤ s.at) × Ordered (suc s.at) ss

ordered : (text : List ℕ) (j k : ℕ) (ts : List Token) → j ≤ k → Rising k ts → Ordered j (symbols text ts)
ordered text j k [] less h = tt
ordered text j k (t ∷ ts) less h = (omega (arith, less, h.0), ordered text (suc t.from) t.to ts (omega (arith, h.1)) h.2)

-- ---- marks of symbols

abbrev marks_of : List Symbol → List (Option Use) → List Mark
marks_of [] us = []
marks_of (s ∷ ss) [] = []
marks_of (s ∷ ss) (u ∷ us) = mark_of u s.at (marks_of ss us)

same_marks : (text : List ℕ) (ts : List Token) (us : List (Option Use)) → marks_at 0 ts us ≡ marks_of (symbols text ts) us
same_marks text [] us = refl
same_marks text (t ∷ ts) [] = refl
same_marks text (t ∷ ts) (u ∷ us) = let e : 0 + t.from ≡ t.from = omega arith in let others = same_marks text ts us in rw (e, others) refl

off_by : (a k : ℕ) → (a ≡ k → ⊥) → (x y : Option Use) → (if a == k then x else y) ≡ y
off_by a k off x y = by (a == k) refl
  where
    by : (b : Bool) → (a == k) ≡ b → (if b then x else y) ≡ y
    by true e = absurd (off (eqb-true a k e))
    by false e = refl

none_there : (ss : List Symbol) (us : List (Option Use)) (k j : ℕ) → Ordered k ss → j < k → use_at (marks_of ss us) j ≡ None
none_there [] us k j o less = refl
none_there (s ∷ ss) [] k j o less = refl
none_there (s ∷ ss) (None ∷ us) k j o less = none_there ss us (suc s.at) j o.1 (omega (arith, less, o.0))
none_there (s ∷ ss) (Some u ∷ us) k j o less =
    off_by s.at j (λ e. omega (arith, e, less, o.0)) (Some u) (use_at (marks_of ss us) j) ∙ none_there ss us (suc s.at) j o.1 (omega (arith, less, o.0))

-- what the first stands for
used_here : (s : Symbol) (ss : List Symbol) (u : Option Use) (us : List (Option Use)) → Ordered (suc s.at) ss → use_at (marks_of (s ∷ ss) (u ∷ us)) s.at ≡ u
used_here s ss None us o = none_there ss us (suc s.at) s.at o (omega arith)
used_here s ss (Some u) us o = ap (λ b. if b then Some u else use_at (marks_of ss us) s.at) (eq-eqb s.at s.at refl)

-- those before
abbrev Before : ℕ → List Mark → Type 0
Before k ms = Each (λ (m : Mark). m.at < k) ms

before_more : (j k : ℕ) (ms : List Mark) → j ≤ k → Before j ms → Before k ms
before_more j k [] less h = tt
before_more j k (m ∷ ms) less h = (omega (arith, less, h.0), before_more j k ms less h.1)

past : (done ms : List Mark) (k : ℕ) → Before k done → use_at (done ++ ms) k ≡ use_at ms k
past [] ms k h = refl
past (m ∷ done) ms k h = off_by m.at k (λ e. omega (arith, e, h.0)) (Some m.used) (use_at (done ++ ms) k) ∙ past done ms k h.1

-- ---- names after `run`

module _ (l a : List ℕ) where
  abbrev Told : List Mark → Bool → List Symbol → Type 0
  Told marks after ss = RunIn (Tells (lock_names l a) l marks) after ss

  runs_in : (done : List Mark) (k : ℕ) (after : Bool) (ss : List Symbol) (us : List (Option Use)) → Before k done → Ordered k ss → TellsIn l a after (map what_in ss) us → Told (done ++ marks_of ss us) after ss
  runs_in done k after [] us before o h = tt
  runs_in done k after (s ∷ ss) [] before o h = absurd h
  runs_in done k after (s ∷ ss) (u ∷ us) before o h = (λ is named. subst (TellsName (lock_names l a) l _) (sym here) (h.0 is named), rest u (λ earlier less. runs_in earlier (suc s.at) (is_run s) ss us less o.1 h.1))
    where
      here : use_at (done ++ marks_of (s ∷ ss) (u ∷ us)) s.at ≡ u
      here = past done (marks_of (s ∷ ss) (u ∷ us)) s.at (before_more k s.at done o.0 before) ∙ used_here s ss u us o.1

      rest : (v : Option Use) → ((earlier : List Mark) → Before (suc s.at) earlier → Told (earlier ++ marks_of ss us) (is_run s) ss) → Told (done ++ marks_of (s ∷ ss) (v ∷ us)) (is_run s) ss
      rest None later = later done (before_more k (suc s.at) done (omega (arith, o.0)) before)
      rest (Some v) later =
          let one : Mark = record { at = s.at; used = v } in
          subst (λ (ms : List Mark). Told ms (is_run s) ss) (append_assoc done (one ∷ []) (marks_of ss us))
          (later (done ++ one ∷ []) (each-append (λ (m : Mark). m.at < suc s.at) done (one ∷ []) (before_more k (suc s.at) done (omega (arith, o.0)) before) (omega arith, tt)))

-- ---- a whole text

pub marks_tell : (text : List ℕ) (ts : List Token) (s : Source) (l a : List ℕ) → Cut text (Ok ts) → Each IsShort (forms 0 (all_say text ts)) → IsDeclared (all_say text ts) l a → Reads (written text 0 0 ts) s → NamesFit s → IsTold s (text_marks text ts) l a
marks_tell text ts s l a c short d reads fit =
    let out = written text 0 0 ts in
    let ss = symbols out reads.0 in
    let us = uses 0 (all_say text ts) in
    let at = rewritten_at text ts c short in
    let found = complete reads.1 in
    let same : Ok at.tokens ≡ Ok reads.0 = sym (complete at.cut) ∙ found in
    let tokens : at.tokens ≡ reads.0 = cc in
    let said : map what_in ss ≡ rewritten 0 (all_say text ts) = said_symbols out reads.0 ∙ ap (all_say out) (sym tokens) ∙ at.all in
    let zero_and : 0 + length out ≡ length out = omega arith in
    let marks : marks_of ss us ≡ text_marks text ts = sym (same_marks out reads.0 us) ∙ ap (λ (t : List Token). marks_at 0 t us) (sym tokens) ∙ at.told 0 zero_and in
    let told : TellsIn l a false (map what_in ss) us = subst (λ (ws : List What). TellsIn l a false ws us) (sym said) (tells l a (all_say text ts) 0 false d.reserved) in
    let runs = runs_in l a [] 0 false ss us tt (ordered out 0 0 reads.0 (omega arith) (all_rise out reads.0 found)) told in
    runs_told s (lock_names l a) fit (texts_have_locks text ts s l a c short d reads fit) l (text_marks text ts)
    (program_runs (Tells (lock_names l a) l (text_marks text ts)) ss s reads.2 (subst (λ (ms : List Mark). RunIn (Tells (lock_names l a) l ms) false ss) marks runs))
