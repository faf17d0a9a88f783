-- Reading all of the symbols stops where all of them stop to be of the form, and only there; it gives what they spell.
use Rattle.std.proofs.Common.{◌≡◌, ℕ, ◌<◌, List, [], ◌∷◌, ◌++◌, length, Result, Ok, Err, refl, sym, ap, subst, ◌∙◌, arith, inl, inr}
use Rattle.std.proofs.lemmas.List.{append-nil}
use Rattle.loft_form.specs.declared.fault.Fault.{Fault}
use Rattle.loft_form.specs.declared.fault.Fault.TheVariants.{Expected}
use Rattle.loft_form.specs.Form.{Language, Form, Grammar, Limits, State}
use Rattle.loft_form.specs.Spells.{Spells, SpellsRule}
use Rattle.loft_form.specs.Reading.{Place, Read, done, read, with_rest, all_of}
use Rattle.loft_form.specs.Stops.{Takes, Stops, TakesRule, StopsRule}
use Rattle.loft_form.specs.Faults.{SpellsWhole, StopsWhole}
use Rattle.loft_form.proofs.Sound.{Found, read_found}
use Rattle.loft_form.proofs.Complete.{spelled_read}
use Rattle.loft_form.proofs.Stopping.{Runs, read_runs, taken_read, stopped_read}
use Rattle.loft_form.proofs.Disjoint.{Known}
use Rattle.loft_form.proofs.Checked.{Checked}

with_rest_more : {A S : Type 0} (x : A) (rest : List S) → 0 < length rest → with_rest x rest ≡ Err (Expected (length rest))
with_rest_more x [] h = absurd (omega arith)
with_rest_more x (s ∷ rest) h = refl

module _ {L : Language} {a : Type 0} {G : Grammar L} {R : Known L} {f : Form L a} (checked : Checked G R f) (lim : Limits L) (n : ℕ) (ss : List L.Symbol) (c : State L) where
  -- what all of the symbols are
  abbrev Whole : Result a Fault → Type 0
  Whole (Ok x) = SpellsWhole G lim n f ss c x
  Whole (Err e) = StopsWhole G lim n f ss c e

  rest_is : (x : a) (p : Place L) (front : List L.Symbol) → ss ≡ front ++ p.rest → Spells lim n (SpellsRule G lim n) f front c x p.state → Takes lim n (TakesRule G lim n) f ss c p.rest p.state
      → (rest : List L.Symbol) → p.rest ≡ rest → Whole (with_rest x rest)
  rest_is x p front split spells takes [] e =
      let all : front ≡ ss = sym (split ∙ ap (λ (t : List L.Symbol). front ++ t) e ∙ append-nil front) in
      (p.state, subst (λ t. Spells lim n (SpellsRule G lim n) f t c x p.state) all spells)
  rest_is x p front split spells takes (s ∷ rest) e =
      inr (s ∷ rest, p.state, subst (λ t. Takes lim n (TakesRule G lim n) f ss c t p.state) e takes, omega arith, refl)

  whole_is : (r : Read L a) → Found (Spells lim n (SpellsRule G lim n) f) ss c r → Runs (Takes lim n (TakesRule G lim n) f) (Stops lim n (TakesRule G lim n) (StopsRule G lim n) f) ss c r → Whole (all_of r)
  whole_is (Ok x) p t = rest_is x.0 x.1 p.0 p.1 p.2 t x.1.rest refl
  whole_is (Err e) p t = inl t

  all_is : Whole (all_of (read G lim n f ss c))
  all_is = whole_is (read G lim n f ss c) (read_found G lim n f ss c) (read_runs G R checked.fair lim n f checked.form_clear ss c)

  -- What is read of all of the symbols is spelled by them,
  pub whole_found : (x : a) → all_of (read G lim n f ss c) ≡ Ok x → SpellsWhole G lim n f ss c x
  whole_found x e = subst Whole e all_is

  -- and what they spell is read.
  pub spelled_whole : (x : a) → SpellsWhole G lim n f ss c x → all_of (read G lim n f ss c) ≡ Ok x
  spelled_whole x (d, p) =
      let r : read G lim n f ss c ≡ done x [] d = ap (λ t. read G lim n f t c) (sym (append-nil ss)) ∙ spelled_read G R checked.fair lim n f checked.form_clear ss [] c x d p tt in
      ap all_of r

  -- Where reading all of them fails they stop to be of the form,
  pub whole_stops : (e : Fault) → all_of (read G lim n f ss c) ≡ Err e → StopsWhole G lim n f ss c e
  whole_stops e h = subst Whole h all_is

  -- and where they stop to be of it reading fails.
  pub stopped_whole : (e : Fault) → StopsWhole G lim n f ss c e → all_of (read G lim n f ss c) ≡ Err e
  stopped_whole e (inl p) = ap all_of (stopped_read G R checked.fair lim n f checked.form_clear ss c e p)
  stopped_whole e (inr (rest, d, p, more, h)) =
      let x = taken_read G R checked.fair lim n f checked.form_clear ss c rest d p in
      ap all_of x.1 ∙ with_rest_more x.0 rest more ∙ ap (λ (g : Fault). Err g) (sym h)
