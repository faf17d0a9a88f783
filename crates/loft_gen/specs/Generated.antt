-- The source that is made from a number (docs/GENERATED.md, "The source").
use Rattle.std.specs.Prelude.{ℕ, ◌+◌, ◌*◌, ◌%◌, List, [], ◌∷◌, ◌++◌, map, codes}
use Rattle.std.specs.Fmt.{decimal}
use Rattle.std.specs.List.{range_with_len}

-- how many threads the source of K starts, and how many rounds each of them makes
abbrev pub threads_of : ℕ → ℕ
threads_of k = 25 + 25 * (k % 8)

abbrev pub rounds_of : ℕ → ℕ
rounds_of k = 1 + k % 5

-- each line, and a line feed after it
abbrev pub lines_of : List (List ℕ) → List ℕ
lines_of [] = []
lines_of (l ∷ ls) = l ++ 10 ∷ lines_of ls

-- four schedulers with a variable each, and the module in which a thread makes so many rounds over them
abbrev pub walk_lines : ℕ → List (List ℕ)
walk_lines rounds =
    codes "scheduler A0;"
    ∷ codes "scheduler A1;"
    ∷ codes "scheduler A2;"
    ∷ codes "scheduler A3;"
    ∷ codes "shared x0 in A0 = 0;"
    ∷ codes "shared x1 in A1 = 0;"
    ∷ codes "shared x2 in A2 = 0;"
    ∷ codes "shared x3 in A3 = 0;"
    ∷ codes "module walk(int k) in A0"
    ∷ codes "  local int n;"
    ∷ (codes "  repeat (" ++ (decimal rounds ++ codes ") do"))
    ∷ codes "    x0 = x0 + k;"
    ∷ codes "    link A1;"
    ∷ codes "    x1 = x1 + k;"
    ∷ codes "    link A2;"
    ∷ codes "    x2 = x2 + k;"
    ∷ codes "    link A3;"
    ∷ codes "    x3 = x3 + k;"
    ∷ codes "    unlink;"
    ∷ codes "    n = n + k;"
    ∷ codes "    link A0;"
    ∷ codes "  end"
    ∷ codes "  x0 = x0 + n;"
    ∷ codes "end"
    ∷ []

-- the start of the thread with this number
abbrev pub start_line : ℕ → List ℕ
start_line number = codes "start A0.walk(" ++ (decimal number ++ codes ");")

-- so many starts, numbered from this one on
abbrev pub starts_text : ℕ → ℕ → List ℕ
starts_text first many = lines_of (map start_line (range_with_len first many))

-- the source of K: the lines of the walk, and then one start for each number from 1 to that of its threads
abbrev pub generated : ℕ → List ℕ
generated k = lines_of (walk_lines (rounds_of k)) ++ starts_text 1 (threads_of k)
