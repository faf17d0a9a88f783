-- Starts one by one.
use Rattle.std.proofs.Common.{arith, ◌≡◌, ℕ, suc, ◌+◌, ◌-◌, ◌<◌, List, [], ◌∷◌, ◌++◌, ap, sym, ◌∙◌}
use Rattle.std.proofs.lemmas.List.{append_assoc}
use Rattle.loft_gen.specs.Generated.{start_line, starts_text}

-- of so many starts those that are left: the first of them, and the others
pub one_more : (before : List ℕ) (n many : ℕ) → n < many
    → before ++ starts_text (n + 1) (many - n) ≡ (before ++ (start_line (n + 1) ++ 10 ∷ [])) ++ starts_text (n + 1 + 1) (many - (n + 1))
one_more before n many less =
    let rest : List ℕ = starts_text (n + 1 + 1) (many - (n + 1)) in
    let count : many - n ≡ suc (many - (n + 1)) = omega arith in
    ap (λ (m : ℕ). before ++ starts_text (n + 1) m) count
    ∙ sym (append_assoc before (start_line (n + 1) ++ 10 ∷ []) rest ∙ ap (λ (t : List ℕ). before ++ t) (append_assoc (start_line (n + 1)) (10 ∷ []) rest))
