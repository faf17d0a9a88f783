-- The head of a report can be read in one way.
use Rattle.std.proofs.Common.{◌≡◌, ℕ, ◌^◌, ◌<◌, List, [], ◌∷◌, ◌++◌, length, map, codes, refl, ap, ◌∙◌, arith}
use Rattle.std.specs.Fmt.{decimal}
use Rattle.loft_base.specs.declared.options.RunOptions.{RunOptions}
use Rattle.loft_base.specs.Options.{AreInRange}
use Rattle.loft_tree.specs.Fits.{Each}
use Rattle.loft_tree.specs.declared.heads.Heads.{Heads}
use Rattle.loft_orders.specs.Lines.{text_of}
use Rattle.loft_history.specs.History.{Choice}
use Rattle.loft_history.specs.Report.{choice_line, head_lines}
use Rattle.loft_report_head.specs.Declared.{HasOwnNames, IsDeclared}
use Rattle.loft_report_head.proofs.Lines.{peel, number_line}
use Rattle.loft_report_head.proofs.Choices.{choice_plain, same_choice}

-- the lines of as many choices
same_choices : (h : Heads) → HasOwnNames h → (cs ds : List Choice) (x y : List ℕ) → length cs ≡ length ds → Each (IsDeclared h) cs → Each (IsDeclared h) ds
    → text_of (map (choice_line h) cs) ++ x ≡ text_of (map (choice_line h) ds) ++ y → (cs ≡ ds) × (x ≡ y)
same_choices h own [] [] x y n p q e = (refl, e)
same_choices h own [] (d ∷ ds) x y n p q e = absurd (omega (arith, n))
same_choices h own (c ∷ cs) [] x y n p q e = absurd (omega (arith, n))
same_choices h own (c ∷ cs) (d ∷ ds) x y n p q e =
    let l = peel (choice_line h c) (choice_line h d) (map (choice_line h) cs) (map (choice_line h) ds) x y (choice_plain h own c p.0) (choice_plain h own d q.0) e in
    let first : c ≡ d = same_choice h own c d p.0 q.0 l.0 in
    let rest = same_choices h own cs ds x y (omega (arith, n)) p.1 q.1 l.1 in
    ((let f = rest.0 in cc), rest.1)

abbrev options_of : ℕ → ℕ → ℕ → ℕ → RunOptions
options_of instants budget block workers = record { limits = record { instants = instants; budget = budget; block = block }; workers = workers }

same_options : (o q : RunOptions) → o.limits.instants ≡ q.limits.instants → o.limits.budget ≡ q.limits.budget → o.limits.block ≡ q.limits.block → o.workers ≡ q.workers → o ≡ q
same_options o q i j k w =
    ap (λ (n : ℕ). options_of n o.limits.budget o.limits.block o.workers) i
    ∙ ap (λ (n : ℕ). options_of q.limits.instants n o.limits.block o.workers) j
    ∙ ap (λ (n : ℕ). options_of q.limits.instants q.limits.budget n o.workers) k
    ∙ ap (λ (n : ℕ). options_of q.limits.instants q.limits.budget q.limits.block n) w

pub one_head : (h : Heads) (o q : RunOptions) (cs ds : List Choice) (x y : List ℕ) → HasOwnNames h → AreInRange o → AreInRange q → length cs < 2 ^ 64 → length ds < 2 ^ 64
    → Each (IsDeclared h) cs → Each (IsDeclared h) ds → text_of (head_lines h o cs) ++ x ≡ text_of (head_lines h q ds) ++ y → (o ≡ q) × (cs ≡ ds) × (x ≡ y)
one_head h o q cs ds x y own p r m n a b e =
    let c0 = map (choice_line h) cs in
    let d0 = map (choice_line h) ds in
    let c1 = (codes "history " ++ decimal (length cs)) ∷ c0 in
    let d1 = (codes "history " ++ decimal (length ds)) ∷ d0 in
    let c2 = (codes "workers " ++ decimal o.workers) ∷ c1 in
    let d2 = (codes "workers " ++ decimal q.workers) ∷ d1 in
    let c3 = (codes "block " ++ decimal o.limits.block) ∷ c2 in
    let d3 = (codes "block " ++ decimal q.limits.block) ∷ d2 in
    let c4 = (codes "budget " ++ decimal o.limits.budget) ∷ c3 in
    let d4 = (codes "budget " ++ decimal q.limits.budget) ∷ d3 in
    let c5 = (codes "instants " ++ decimal o.limits.instants) ∷ c4 in
    let d5 = (codes "instants " ++ decimal q.limits.instants) ∷ d4 in
    let l6 = peel (codes "loft-report 1") (codes "loft-report 1") c5 d5 x y refl refl e in
    let l5 = number_line (codes "instants ") o.limits.instants q.limits.instants c4 d4 x y refl (omega (arith, p.limits.instants.1)) (omega (arith, r.limits.instants.1)) l6.1 in
    let l4 = number_line (codes "budget ") o.limits.budget q.limits.budget c3 d3 x y refl (omega (arith, p.limits.budget.1)) (omega (arith, r.limits.budget.1)) l5.1 in
    let l3 = number_line (codes "block ") o.limits.block q.limits.block c2 d2 x y refl (omega (arith, p.limits.block.1)) (omega (arith, r.limits.block.1)) l4.1 in
    let l2 = number_line (codes "workers ") o.workers q.workers c1 d1 x y refl (omega (arith, p.workers.1)) (omega (arith, r.workers.1)) l3.1 in
    let l1 = number_line (codes "history ") (length cs) (length ds) c0 d0 x y refl m n l2.1 in
    let l0 = same_choices h own cs ds x y l1.0 a b l1.1 in
    (same_options o q l5.0 l4.0 l3.0 l2.0, l0.0, l0.1)
