-- Parts that are appended one after the other.
use Rattle.std.proofs.Common.{◌≡◌, ℕ, Bool, true, List, [], ◌++◌, sym, ap, ◌∙◌}
use Rattle.loft_value_text.specs.Appending.{Appends}

-- one part and then another are both together
pub appends_then : {W K : Type 0} (is_whole : W → Bool) (kept : W → K) (extended : K → List ℕ → K) → ((k : K) (a b : List ℕ) → extended k (a ++ b) ≡ extended (extended k a) b)
    → (old now new : W) (x y all : List ℕ) → all ≡ x ++ y → Appends is_whole kept extended old now x → Appends is_whole kept extended now new y → Appends is_whole kept extended old new all
appends_then is_whole kept extended together old now new x y all is first then = λ whole.
    let second = then whole in
    let before = first second.0 in
    (before.0, second.1 ∙ ap (λ k. extended k y) before.1 ∙ sym (together (kept old) x y) ∙ ap (extended (kept old)) (sym is))

-- what was appended so far, with what is left, is all
abbrev pub Still : {W K : Type 0} → (W → Bool) → (W → K) → (K → List ℕ → K) → W → W → List ℕ → List ℕ → Type 0
Still is_whole kept extended old new left all = is_whole new ≡ true → (is_whole old ≡ true) × (extended (kept new) left ≡ extended (kept old) all)

-- where nothing is left, all was appended
pub still_done : {W K : Type 0} (is_whole : W → Bool) (kept : W → K) (extended : K → List ℕ → K) → ((w : W) → extended (kept w) [] ≡ kept w)
    → (old new : W) (left all : List ℕ) → left ≡ [] → Still is_whole kept extended old new left all → Appends is_whole kept extended old new all
still_done is_whole kept extended nothing old new left all none still = λ whole.
    let before = still whole in
    (before.0, sym (nothing new) ∙ ap (extended (kept new)) (sym none) ∙ before.1)
