-- The lines before the starts, in two pieces and the number of rounds between them.
use Rattle.std.proofs.Common.{◌≡◌, ℕ, List, ◌++◌, ap, ◌∙◌, sym}
use Rattle.std.specs.Prelude.{codes}
use Rattle.std.specs.Fmt.{decimal}
use Rattle.std.proofs.lemmas.List.{append_assoc}
use Rattle.loft_gen.specs.Generated.{lines_of, walk_lines}

abbrev pub front : List ℕ
front = codes "scheduler A0;\nscheduler A1;\nscheduler A2;\nscheduler A3;\nshared x0 in A0 = 0;\nshared x1 in A1 = 0;\nshared x2 in A2 = 0;\nshared x3 in A3 = 0;\nmodule walk(int k) in A0\n  local int n;\n  repeat ("

abbrev pub back : List ℕ
back = codes ") do\n    x0 = x0 + k;\n    link A1;\n    x1 = x1 + k;\n    link A2;\n    x2 = x2 + k;\n    link A3;\n    x3 = x3 + k;\n    unlink;\n    n = n + k;\n    link A0;\n  end\n  x0 = x0 + n;\nend\n"

pub walk_is : (before : List ℕ) (rounds : ℕ) → (before ++ (front ++ decimal rounds)) ++ back ≡ before ++ lines_of (walk_lines rounds)
walk_is before rounds =
    append_assoc before (front ++ decimal rounds) back
    ∙ ap (λ (t : List ℕ). before ++ t) (append_assoc front (decimal rounds) back ∙ ap (λ (t : List ℕ). front ++ t) (sym (append_assoc (decimal rounds) (codes ") do") _)))
