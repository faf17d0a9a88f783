-- Where two texts differ, of which one is parted.
use Rattle.std.proofs.Common.{◌≡◌, ℕ, ◌+◌, ◌≤◌, false, List, [], ◌∷◌, ◌++◌, length, sym, ap, subst, ◌∙◌}
use Rattle.std.specs.Prelude.{take, drop}
use Rattle.std.proofs.lemmas.List.{append-nil, take-append-drop, length-take-le}
use Rattle.std.proofs.lemmas.Bool.{eqb-false}
use Rattle.std.proofs.Math.Seq.{take-append_seam, take-append-add, take-length}
use Rattle.loft_report_shape.specs.Grammar.{head_is}
use Rattle.loft_replay_error.specs.Difference.{DifferAt}

cancel : (p a b : List ℕ) → p ++ a ≡ p ++ b → a ≡ b
cancel [] a b e = e
cancel (c ∷ p) a b e = cancel p a b (let f = e in cc)

one_of : (l : List ℕ) (b : ℕ) → head_is b l ≡ false → take 1 l ≡ b ∷ [] → ⊥
one_of [] b other e = absurd cc
one_of (c ∷ l) b other e = eqb-false c b other (let f : c ∷ [] ≡ b ∷ [] = e in cc)

-- a text that ends, and one that goes on
pub one_ends : (w more : List ℕ) (b : ℕ) → DifferAt (w ++ b ∷ more) w (length w)
one_ends w more b = (
  take-append_seam w (b ∷ more) ∙ sym (take-length w),
  λ e. absurd (let f : b ∷ [] ≡ [] = cancel w (b ∷ []) [] (sym (take-append-add w (b ∷ more) 1) ∙ (e ∙ (ap (take (length w + 1)) (sym (append-nil w)) ∙ take-append-add w [] 1))) in cc),
)

-- texts with different bytes
pub other_byte_comes : (w l more : List ℕ) (b : ℕ) → head_is b l ≡ false → DifferAt (w ++ l) (w ++ b ∷ more) (length w)
other_byte_comes w l more b other = (
  take-append_seam w l ∙ sym (take-append_seam w (b ∷ more)),
  λ e. one_of l b other (cancel w (take 1 l) (b ∷ []) (sym (take-append-add w l 1) ∙ (e ∙ take-append-add w (b ∷ more) 1))),
)

-- the same at a number of bytes
abbrev pub At : List ℕ → ℕ → Type 0
At text k = (take k text ++ drop k text ≡ text) × (length (take k text) ≡ k)

pub parted : (text : List ℕ) (k : ℕ) → k ≤ length text → At text k
parted text k within = (take-append-drop k text, length-take-le k text within)

pub ends_at : (text t : List ℕ) (k b : ℕ) (more : List ℕ) → k ≤ length text → drop k text ≡ b ∷ more → take k text ≡ t → DifferAt text t k
ends_at text t k b more within left same =
    let p = parted text k within in
    let d : DifferAt (take k text ++ b ∷ more) (take k text) (length (take k text)) = one_ends (take k text) more b in
    let d1 : DifferAt (take k text ++ b ∷ more) (take k text) k = subst (λ n. DifferAt (take k text ++ b ∷ more) (take k text) n) p.1 d in
    let d2 : DifferAt (take k text ++ b ∷ more) t k = subst (λ u. DifferAt (take k text ++ b ∷ more) u k) same d1 in
    subst (λ u. DifferAt u t k) (ap (λ (l : List ℕ). take k text ++ l) (sym left) ∙ p.0) d2

pub differs_at : (text t : List ℕ) (k b : ℕ) (more : List ℕ) → k ≤ length text → head_is b (drop k text) ≡ false → t ≡ take k text ++ b ∷ more → DifferAt text t k
differs_at text t k b more within other is =
    let p = parted text k within in
    let d : DifferAt (take k text ++ drop k text) (take k text ++ b ∷ more) (length (take k text)) = other_byte_comes (take k text) (drop k text) more b other in
    let d1 : DifferAt (take k text ++ drop k text) (take k text ++ b ∷ more) k = subst (λ n. DifferAt (take k text ++ drop k text) (take k text ++ b ∷ more) n) p.1 d in
    let d2 : DifferAt (take k text ++ drop k text) t k = subst (λ u. DifferAt (take k text ++ drop k text) u k) (sym is) d1 in
    subst (λ u. DifferAt u t k) p.0 d2
