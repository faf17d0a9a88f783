-- Needs that stand one after the other.
use Rattle.std.proofs.Common.{◌≡◌, ℕ, ◌+◌, ◌<◌, inl, inr, List, [], ◌∷◌, ◌++◌, length, get_or, drop, drop-cons, add-one, refl, sym, ap, subst, ◌∙◌}
use Rattle.std.specs.Prelude.{Result, Ok, Err}
use Rattle.loft_place.specs.declared.error.PlaceError.{PlaceError}
use Rattle.loft_place.specs.Links.{Need, AreMet, FirstUnmet, IsAnswer}
use Rattle.loft_place.proofs.Rests.{NeedsLeft}

pub AreMet-append : (ms ns : List Need) → AreMet ms → AreMet ns → AreMet (ms ++ ns)
AreMet-append [] ns met others = others
AreMet-append (m ∷ ms) ns met others = (met.0, AreMet-append ms ns met.1 others)

-- the first that isn't met stays the first
pub unmet_before : (ms ns : List Need) (e : PlaceError) → FirstUnmet ms e → FirstUnmet (ms ++ ns) e
unmet_before [] ns e unmet = absurd unmet
unmet_before (m ∷ ms) ns e (inl here) = inl here
unmet_before (m ∷ ms) ns e (inr later) = inr (later.0, unmet_before ms ns e later.1)

-- the first that isn't met stands after needs that are
pub unmet_after : (ms ns : List Need) (e : PlaceError) → AreMet ms → FirstUnmet ns e → FirstUnmet (ms ++ ns) e
unmet_after [] ns e met unmet = unmet
unmet_after (m ∷ ms) ns e met unmet = inr (met.0, unmet_after ms ns e met.1 unmet)

-- an answer to the needs that are left is one to all
pub answer_after : {A : Type 0} (ms ns : List Need) (r : Result A PlaceError) → AreMet ms → IsAnswer ns r → IsAnswer (ms ++ ns) r
answer_after ms ns (Ok x) met answer = AreMet-append ms ns met answer
answer_after ms ns (Err e) met answer = unmet_after ms ns e met answer

pub ruleset needs = (AreMet-append, unmet_before, unmet_after, answer_after)

-- the first of those that are left is asked
pub first_left : {A : Type 0} (needs : List A → List Need) (one : A → List Need) (xs : List A) (i : ℕ) (x : A)
    → ((y : A) (ys : List A) → needs (y ∷ ys) ≡ one y ++ needs ys) → i < length xs → x ≡ get_or xs i x
    → needs (drop i xs) ≡ one x ++ needs (drop (i + 1) xs)
first_left needs one xs i x each lt is =
    let split : drop i xs ≡ x ∷ drop (i + 1) xs = drop-cons xs i x lt ∙ rw (← is, add-one) refl in
    ap needs split ∙ each x (drop (i + 1) xs)

pub left_after : (rest whole ms ns : List Need) → rest ≡ ms ++ ns → AreMet ms → NeedsLeft rest whole → NeedsLeft ns whole
left_after rest whole ms ns is met left = record {
  met = λ others. left.met (subst AreMet (sym is) (AreMet-append ms ns met others));
  unmet = λ e unmet. left.unmet e (subst (λ ks. FirstUnmet ks e) (sym is) (unmet_after ms ns e met unmet));
}

pub unmet_left : (rest whole ms ns : List Need) (e : PlaceError) → rest ≡ ms ++ ns → FirstUnmet ms e → NeedsLeft rest whole → FirstUnmet whole e
unmet_left rest whole ms ns e is unmet left = left.unmet e (subst (λ ks. FirstUnmet ks e) (sym is) (unmet_before ms ns e unmet))
