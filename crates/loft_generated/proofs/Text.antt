-- A generated source is the canonical text of its program.
use Rattle.std.proofs.Common.{arith, ◌≡◌, ℕ, List, [], ◌∷◌, ◌++◌, map, refl, ap, sym, ◌∙◌}
use Rattle.std.specs.Prelude.{codes}
use Rattle.std.specs.Fmt.{decimal}
use Rattle.std.specs.List.{range_with_len}
use Rattle.std.proofs.lemmas.Fmt.{decimal_digit}
use Rattle.std.proofs.lemmas.List.{append_assoc}
use Rattle.loft_show.specs.Canon.{Canon, lines_text, source_lines}
use Rattle.loft_gen.specs.Generated.{generated, lines_of, rounds_of, start_line, threads_of, walk_lines}
use Rattle.loft_generated.specs.Walks.{walks_of, start, walks}

starts_are : (ns : List ℕ) → lines_of (map start_line ns) ≡ lines_text (source_lines (map start ns))
starts_are [] = refl
starts_are (n ∷ ns) = ap (λ (t : List ℕ). start_line n ++ 10 ∷ t) (starts_are ns)

-- the text before the number of rounds in two parts, and the text after the line of it
abbrev back : List ℕ
back = codes "    x0 = x0 + k;\n    link A1;\n    x1 = x1 + k;\n    link A2;\n    x2 = x2 + k;\n    link A3;\n    x3 = x3 + k;\n    unlink;\n    n = n + k;\n    link A0;\n  end\n  x0 = x0 + n;\nend\n"

abbrev shared_line : List ℕ → List ℕ → List ℕ → List ℕ
shared_line front value rest = front ++ ((value ++ codes ";") ++ 10 ∷ rest)

-- the canonical text, where 0 is spelled so and these are the lines of the starts
abbrev spelled_with : List ℕ → ℕ → List ℕ → List ℕ
spelled_with value rounds starts =
    shared_line (codes "scheduler A0;\nscheduler A1;\nscheduler A2;\nscheduler A3;\nshared x0 in A0 = ") value
    (shared_line (codes "shared x1 in A1 = ") value
    (shared_line (codes "shared x2 in A2 = ") value
    (shared_line (codes "shared x3 in A3 = ") value
    (codes "module walk(int k) in A0\n  local int n;\n  repeat (" ++ ((decimal rounds ++ codes ") do") ++ 10 ∷ (back ++ starts))))))

abbrev zero_text : List ℕ
zero_text = codes "0"

-- what comes before the starts stands before them
grouped : (rounds : ℕ) (starts : List ℕ) → lines_of (walk_lines rounds) ++ starts ≡ spelled_with zero_text rounds starts
grouped rounds starts =
    ap (λ (t : List ℕ). codes "scheduler A0;\nscheduler A1;\nscheduler A2;\nscheduler A3;\nshared x0 in A0 = 0;\nshared x1 in A1 = 0;\nshared x2 in A2 = 0;\nshared x3 in A3 = 0;\nmodule walk(int k) in A0\n  local int n;\n  repeat (" ++ t)
    (append_assoc (decimal rounds ++ codes ") do") (10 ∷ back) starts)

text_is : (rounds : ℕ) (ns : List ℕ) → lines_of (walk_lines rounds) ++ lines_of (map start_line ns) ≡ Canon (walks rounds ns)
text_is rounds ns =
    grouped rounds (lines_of (map start_line ns))
    ∙ ap (spelled_with zero_text rounds) (starts_are ns)
    ∙ ap (λ (value : List ℕ). spelled_with value rounds (lines_text (source_lines (map start ns)))) (sym (decimal_digit 0 (omega arith)))

pub canonical : (k : ℕ) → generated k ≡ Canon (walks_of k)
canonical k = text_is (rounds_of k) (range_with_len 1 (threads_of k))
