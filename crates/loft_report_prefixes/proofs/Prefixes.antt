-- A text that stops at its end can be completed.
use Rattle.std.proofs.Common.{◌≡◌, ℕ, zero, suc, ◌<◌, ◌≤◌, List, [], ◌∷◌, ◌++◌, length, ◌⊎◌, inl, inr, refl, sym, ap, subst, ◌∙◌, append_assoc, length-append, arith}
use Rattle.std.proofs.lemmas.List.{append-nil, nil_from_length}
use Rattle.std.proofs.Math.Dec.{leb}
use Rattle.std.proofs.lemmas.Bool.Decides.{leb_tells}
use Rattle.std.specs.Prelude.{true, false}
use Rattle.loft_spelling.specs.Script.{IsSpelled}
use Rattle.loft_spelling.specs.Stops.{StopsAfter}
use Rattle.loft_spelling.specs.Parts.{Left, script, parts_next}
use Rattle.loft_report_shape.specs.Told.{Report}
use Rattle.loft_report_shape.specs.Report.{grammar, beginning, Shape, StopsAt, GoesOn}
use Rattle.loft_report_shape.proofs.Verdicts.{no_both, stop_stays}
use Rattle.loft_report_prefixes.proofs.Completing.{Completed, completes}

-- from a place on, the text with more bytes is spelled
abbrev Longer : Left grammar → List ℕ → Type 0
Longer at text = (more : List ℕ) × (last : Left grammar) × IsSpelled (script grammar) at (text ++ more) last

can_go_on : (n : ℕ) (at : Left grammar) (text : List ℕ) (k : ℕ) → StopsAfter (script grammar) n at text k → length text ≤ k → Longer at text
can_go_on zero at text k (inl (over, some, e)) all = absurd (omega (arith, some, e, all))
can_go_on zero at text k (inr (over, w, rest, t, isnt, e)) all = go t.begun.0 t.begun.1 (completes (parts_next grammar at.parts at.told (w ++ t.begun.0)).parts (parts_next grammar at.parts at.told (w ++ t.begun.0)).told)
  where
    none : rest ≡ []
    none = nil_from_length rest (omega (arith, ap length t.split, length-append w rest, e, all))

    text_is : text ≡ w
    text_is = t.split ∙ ap (λ r. w ++ r) none ∙ append-nil w

    go : (m : List ℕ) → (script grammar).whole at (w ++ m) ≡ true → Completed (parts_next grammar at.parts at.told (w ++ m)).parts (parts_next grammar at.parts at.told (w ++ m)).told → Longer at text
    go m whole (x, last, (ws, s)) = (m ++ x, last, ((w ++ m) ∷ ws, (x, ap (λ v. v ++ (m ++ x)) text_is ∙ sym (append_assoc w m x), whole, s)))
can_go_on (suc n) at text k (w, rest, j, t, whole, s, e) all = go (can_go_on n (parts_next grammar at.parts at.told w) rest j s (omega (arith, ap length t.split, length-append w rest, e, all)))
  where
    go : Longer (parts_next grammar at.parts at.told w) rest → Longer at text
    go (x, last, (ws, sp)) = (x, last, (w ∷ ws, (rest ++ x, ap (λ v. v ++ x) t.split ∙ append_assoc w rest x, whole, sp)))

pub prefix : (text : List ℕ) → StopsAt text (length text) → (more : List ℕ) × (r : Report) × (0 < length more) × Shape (text ++ more) r
prefix text (n, s) = go (can_go_on n beginning text (length text) s (omega arith))
  where
    go : Longer beginning text → (more : List ℕ) × (r : Report) × (0 < length more) × Shape (text ++ more) r
    go ([], last, sp) = absurd (no_both text last.told.report (length text) (last, subst (λ v. IsSpelled (script grammar) beginning v last) (append-nil text) sp, refl) (n, s))
    go (b ∷ more, last, sp) = (b ∷ more, last.told.report, omega arith, (last, sp, refl))

-- no stop is past the end
stops_within : (n : ℕ) (at : Left grammar) (text : List ℕ) (k : ℕ) → StopsAfter (script grammar) n at text k → k ≤ length text
stops_within zero at text k (inl (over, some, e)) = omega (arith, e)
stops_within zero at text k (inr (over, w, rest, t, isnt, e)) = omega (arith, ap length t.split, length-append w rest, e)
stops_within (suc n) at text k (w, rest, j, t, whole, s, e) = omega (arith, ap length t.split, length-append w rest, e, stops_within n (parts_next grammar at.parts at.told w) rest j s)

pub within : (text : List ℕ) (k : ℕ) → StopsAt text k → k ≤ length text
within text k (n, s) = stops_within n beginning text k s

pub goes_on : (text more : List ℕ) (r : Report) → Shape (text ++ more) r → GoesOn text
goes_on text more r shape k s = go (leb_tells (length text) k)
  where
    go : ((leb (length text) k ≡ true) × (length text ≤ k)) ⊎ ((leb (length text) k ≡ false) × (k < length text)) → length text ≤ k
    go (inl p) = p.1
    go (inr p) = absurd (no_both (text ++ more) r k shape (stop_stays text more k s p.1))
