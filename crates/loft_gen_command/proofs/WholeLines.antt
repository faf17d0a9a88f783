-- A source that is made and a summary are whole lines.
use Rattle.std.proofs.Common.{◌≡◌, ℕ, ◌+◌, List, [], ◌∷◌, ◌++◌, map, true, refl, sym, ap, ◌∙◌, append_assoc, codes}
use Rattle.std.specs.List.{range_with_len}
use Rattle.std.specs.Fmt.{decimal}
use Rattle.loft_base.specs.Writing.{are_lines, are_lines-end}
use Rattle.loft_base.proofs.WholeLines.{line_then, lines_then}
use Rattle.loft_orders.specs.Lines.{text_of}
use Rattle.loft_orders.specs.declared.note.FinalState.{FinalState}
use Rattle.loft_gen.specs.Generated.{rounds_of, threads_of, lines_of, walk_lines, start_line, starts_text, generated}
use Rattle.loft_summary.specs.Lines.{value_line, shared_text, count_line, done_among, all_acts}
use Rattle.loft_sense.specs.Tally.{capped}
use Rattle.loft_generated_run.specs.Summary.{IsSummary}

-- ---- the source

made_lines : (ls : List (List ℕ)) → are_lines (lines_of ls) ≡ true
made_lines [] = refl
made_lines (l ∷ ls) = line_then l (lines_of ls) (made_lines ls)

pub generated_lines : (k : ℕ) → are_lines (generated k) ≡ true
generated_lines k = lines_then (lines_of (walk_lines (rounds_of k))) (starts_text 1 (threads_of k)) (made_lines (walk_lines (rounds_of k))) (made_lines (map start_line (range_with_len 1 (threads_of k))))

-- ---- the summary

text_lines : (ls : List (List ℕ)) → are_lines (text_of ls) ≡ true
text_lines [] = refl
text_lines (l ∷ ls) = lines_then (l ++ 10 ∷ []) (text_of ls) (are_lines-end l) (text_lines ls)

count_lines : (word : List ℕ) (n : ℕ) → are_lines (count_line word n) ≡ true
count_lines word n = ap are_lines (sym (append_assoc word (decimal n) (10 ∷ []))) ∙ are_lines-end (word ++ decimal n)

shared_lines : (k : ℕ) (finals : List FinalState) → are_lines (shared_text k finals) ≡ true
shared_lines k [] = refl
shared_lines k (f ∷ fs) = lines_then (text_of (map (value_line k) f.shared)) (shared_text (k + 1) fs) (text_lines (map (value_line k) f.shared)) (shared_lines (k + 1) fs)

pub summary_lines : (k : ℕ) (text : List ℕ) → IsSummary k text → are_lines text ≡ true
summary_lines k text is =
    let ended = count_line (codes "ended ") (capped (done_among (all_acts is.notes))) in
    let shared = shared_text 0 is.finals ++ ended in
    let rounds = count_line (codes "rounds ") (rounds_of k) in
    let threads = count_line (codes "threads ") (threads_of k) in
    let schedulers = codes "schedulers 4\n" in
    let last = lines_then (shared_text 0 is.finals) ended (shared_lines 0 is.finals) (count_lines (codes "ended ") (capped (done_among (all_acts is.notes)))) in
    let from_rounds = lines_then rounds shared (count_lines (codes "rounds ") (rounds_of k)) last in
    let from_threads = lines_then threads (rounds ++ shared) (count_lines (codes "threads ") (threads_of k)) from_rounds in
    let from_schedulers = lines_then schedulers (threads ++ (rounds ++ shared)) refl from_threads in
    ap are_lines is.whole ∙ lines_then (count_line (codes "gen ") k) (schedulers ++ (threads ++ (rounds ++ shared))) (count_lines (codes "gen ") k) from_schedulers
