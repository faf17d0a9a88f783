-- A text is at most one operation, but for offsets.
use Rattle.std.proofs.Common.{◌≡◌, ℕ, Bool, true, false, ◌==◌, List, [], ◌∷◌, ◌++◌, get_or, refl, sym, ap, ◌∙◌}
use Rattle.std.specs.Prelude.{if◌then◌else◌}
use Rattle.std.specs.Fmt.{decimal}
use Rattle.std.specs.Str.{bytes_eq}
use Rattle.std.proofs.lemmas.Bool.{eqb-true}
use Rattle.loft_tree.specs.Source.{Expression, Statement}
use Rattle.loft_tree.specs.Fits.{ExpressionFits}
use Rattle.loft_grammar.specs.Limits.{limits, line_limits, nesting}
use Rattle.loft_productions.proofs.Checked.{statement_checked, whole_checked}
use Rattle.loft_show.specs.Places.{bare_expression, bare_statement}
use Rattle.loft_show.specs.PartReads.{IsOneLine}
use Rattle.loft_show.proofs.reads.PartLaw.{expression_reads, statement_reads}
use Rattle.loft_grammar.specs.PartsFit.{LineFits}
use Rattle.loft_listing_line.specs.declared.sort.DeedSort.{DeedSort}
use Rattle.loft_listing_line.specs.declared.sort.DeedSort.TheVariants as deed
use Rattle.loft_listing_line.specs.Instructions.{Instruction, Do, Stop, Branch, Enter, Count, Turn, Jump, End, bare_instruction, feed, instruction_text, statement_text}
use Rattle.loft_listing_line.specs.RowsFit.{InstructionFits, IsSmall}
use Rattle.loft_listing_line.specs.Sorts.{begins_deed, sort_of_instruction}
use Rattle.loft_listing_line.proofs.Bare.{action_line, stop_line}
use Rattle.loft_listing_line.proofs.Columns.{branch_cut, count_cut, jump_cut, line_bytes, number_cut, turn_cut}
use Rattle.loft_listing_line.proofs.Semicolons.{has_semicolon}
use Rattle.loft_listing_line.proofs.Sorting.{deed_begins, enter, enter_only, first_byte, stop_or_do}
use Rattle.loft_listing_line.proofs.Without.{decimal_without}
use Rattle.loft_listing_laws.proofs.OnePart.{one_cut, one_number, one_reading}

-- ---- sorts

-- the sort of the operations that begin with the byte
deed_by : ℕ → DeedSort
deed_by b = if b == 98 then deed.Branch else if b == 99 then deed.Count else if b == 116 then deed.Turn else if b == 106 then deed.Jump else deed.End

is_by : (sort : DeedSort) (b : ℕ) → begins_deed sort b ≡ true → deed_by b ≡ sort
unfolding deed_by
is_by deed.Do b is = absurd cc
is_by deed.Stop b is = absurd cc
is_by deed.Branch b is = ap deed_by (eqb-true b 98 is)
is_by deed.Enter b is = absurd cc
is_by deed.Count b is = ap deed_by (eqb-true b 99 is)
is_by deed.Turn b is = ap deed_by (eqb-true b 116 is)
is_by deed.Jump b is = ap deed_by (eqb-true b 106 is)
is_by deed.End b is = ap deed_by (eqb-true b 101 is)

-- the sort of an operation by its text
deed_of : List ℕ → DeedSort
deed_of text = if has_semicolon text then (if get_or text 0 0 == 64 then deed.Stop else deed.Do) else if bytes_eq text enter then deed.Enter else deed_by (get_or text 0 0)

deed_is : (i : Instruction) (text : List ℕ) → InstructionFits i → text ≡ instruction_text i → deed_of text ≡ sort_of_instruction i
unfolding deed_of
deed_is i text fits same = go (has_semicolon text) refl (bytes_eq text enter) refl where
  go : (b : Bool) → has_semicolon text ≡ b → (c : Bool) → bytes_eq text enter ≡ c
      → (if b then (if get_or text 0 0 == 64 then deed.Stop else deed.Do) else if c then deed.Enter else deed_by (get_or text 0 0)) ≡ sort_of_instruction i
  go true some c is = stop_or_do i text fits same some
  go false none true is = enter_only i text fits same none is
  go false none false other = is_by (sort_of_instruction i) (get_or text 0 0) (first_byte (begins_deed (sort_of_instruction i)) text (deed_begins i text fits same none other))

-- ---- parts of operations

one_statement : (x y : Statement) → IsOneLine x → IsOneLine y → LineFits x → LineFits y → statement_text x ≡ statement_text y → bare_statement x ≡ bare_statement y
one_statement x y one also fits fit same = one_reading statement_checked line_limits bare_statement (statement_text x) (statement_text y) x y same (statement_reads x one fits) (statement_reads y also fit)

one_value : (e f : Expression) → ExpressionFits nesting e → ExpressionFits nesting f → line_bytes e ≡ line_bytes f → bare_expression e ≡ bare_expression f
one_value e f fits fit same = one_reading whole_checked limits bare_expression (line_bytes e) (line_bytes f) e f same (expression_reads e fits) (expression_reads f fit)

-- digits that stand before a line feed
last_number : (m n : ℕ) → IsSmall m → IsSmall n → decimal m ++ feed ≡ decimal n ++ feed → m ≡ n
last_number m n small also same =
    let cut = one_cut 10 (decimal m ++ feed) (decimal n ++ feed) (decimal m) [] (decimal n) [] same
    (record { whole = refl; first = decimal_without 10 m small refl }) (record { whole = refl; first = decimal_without 10 n also refl }) in
    one_number m n small also cut.0

-- digits that stand before a blank
next_number : (m n : ℕ) (a b : List ℕ) → IsSmall m → IsSmall n → decimal m ++ 32 ∷ a ≡ decimal n ++ 32 ∷ b → (m ≡ n) × (a ≡ b)
next_number m n a b small also same =
    let cut = one_cut 32 (decimal m ++ 32 ∷ a) (decimal n ++ 32 ∷ b) (decimal m) a (decimal n) b same (number_cut m _ a small refl) (number_cut n _ b also refl) in
    (one_number m n small also cut.0, cut.1)

-- ---- operations of one sort

same_do : (x y : Statement) → InstructionFits (Do x) → InstructionFits (Do y) → instruction_text (Do x) ≡ instruction_text (Do y) → bare_instruction (Do x) ≡ bare_instruction (Do y)
same_do x y fits fit same = ap Do (one_statement x y (action_line x fits) (action_line y fit) fits.1 fit.1 same)

same_stop : (k l : ℕ) (x y : Statement) → InstructionFits (Stop k x) → InstructionFits (Stop l y) → instruction_text (Stop k x) ≡ instruction_text (Stop l y) → bare_instruction (Stop k x) ≡ bare_instruction (Stop l y)
same_stop k l x y fits fit same =
    let tail : decimal k ++ 32 ∷ statement_text x ≡ decimal l ++ 32 ∷ statement_text y = cc in
    let both = next_number k l (statement_text x) (statement_text y) fits.0 fit.0 tail in
    (λ i. Stop (both.0 i) (one_statement x y (stop_line x fits.1) (stop_line y fit.1) fits.1.1 fit.1.1 both.1 i))

same_branch : (t u : ℕ) (e f : Expression) → InstructionFits (Branch t e) → InstructionFits (Branch u f) → instruction_text (Branch t e) ≡ instruction_text (Branch u f) → bare_instruction (Branch t e) ≡ bare_instruction (Branch u f)
same_branch t u e f fits fit same =
    let cut = one_cut 32 _ _ _ _ _ _ same (branch_cut (instruction_text (Branch t e)) t e refl) (branch_cut (instruction_text (Branch u f)) u f refl) in
    let both = next_number t u (line_bytes e) (line_bytes f) fits.0 fit.0 cut.1 in
    (λ i. Branch (both.0 i) (one_value e f fits.1 fit.1 both.1 i))

same_count : (e f : Expression) → InstructionFits (Count e) → InstructionFits (Count f) → instruction_text (Count e) ≡ instruction_text (Count f) → bare_instruction (Count e) ≡ bare_instruction (Count f)
same_count e f fits fit same =
    let cut = one_cut 32 _ _ _ _ _ _ same (count_cut (instruction_text (Count e)) e refl) (count_cut (instruction_text (Count f)) f refl) in
    ap Count (one_value e f fits fit cut.1)

same_turn : (t u : ℕ) → IsSmall t → IsSmall u → instruction_text (Turn t) ≡ instruction_text (Turn u) → bare_instruction (Turn t) ≡ bare_instruction (Turn u)
same_turn t u small also same = let cut = one_cut 32 _ _ _ _ _ _ same (turn_cut (instruction_text (Turn t)) t refl) (turn_cut (instruction_text (Turn u)) u refl) in ap Turn (last_number t u small also cut.1)

same_jump : (t u : ℕ) → IsSmall t → IsSmall u → instruction_text (Jump t) ≡ instruction_text (Jump u) → bare_instruction (Jump t) ≡ bare_instruction (Jump u)
same_jump t u small also same = let cut = one_cut 32 _ _ _ _ _ _ same (jump_cut (instruction_text (Jump t)) t refl) (jump_cut (instruction_text (Jump u)) u refl) in ap Jump (last_number t u small also cut.1)

-- ---- all

of_sort : (i j : Instruction) → sort_of_instruction i ≡ sort_of_instruction j → InstructionFits i → InstructionFits j → instruction_text i ≡ instruction_text j → bare_instruction i ≡ bare_instruction j
of_sort (Do x) (Do y) sort fits fit same = same_do x y fits fit same
of_sort (Do x) j sort fits fit same = absurd cc
of_sort (Stop k x) (Stop l y) sort fits fit same = same_stop k l x y fits fit same
of_sort (Stop k x) j sort fits fit same = absurd cc
of_sort (Branch t e) (Branch u f) sort fits fit same = same_branch t u e f fits fit same
of_sort (Branch t e) j sort fits fit same = absurd cc
of_sort Enter Enter sort fits fit same = refl
of_sort Enter j sort fits fit same = absurd cc
of_sort (Count e) (Count f) sort fits fit same = same_count e f fits fit same
of_sort (Count e) j sort fits fit same = absurd cc
of_sort (Turn t) (Turn u) sort fits fit same = same_turn t u fits fit same
of_sort (Turn t) j sort fits fit same = absurd cc
of_sort (Jump t) (Jump u) sort fits fit same = same_jump t u fits fit same
of_sort (Jump t) j sort fits fit same = absurd cc
of_sort End End sort fits fit same = refl
of_sort End j sort fits fit same = absurd cc

pub one_deed : (i j : Instruction) → InstructionFits i → InstructionFits j → instruction_text i ≡ instruction_text j → bare_instruction i ≡ bare_instruction j
one_deed i j fits fit same = of_sort i j (sym (deed_is i (instruction_text i) fits refl) ∙ deed_is j (instruction_text i) fit same) fits fit same
