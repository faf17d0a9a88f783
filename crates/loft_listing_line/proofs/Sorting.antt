-- Of which sorts the lines and operations with a text are.
use Rattle.std.proofs.Common.{◌≡◌, ℕ, ◌<◌, ◌==◌, Bool, true, false, List, [], ◌∷◌, ◌++◌, length, get_or, if◌then◌else◌, codes, refl, sym, ap, subst, ◌∙◌, arith}
use Rattle.std.specs.List.{list_all}
use Rattle.std.specs.Char.{is_ascii_digit}
use Rattle.std.specs.Fmt.{decimal}
use Rattle.std.specs.Str.{bytes_eq}
use Rattle.std.proofs.lemmas.Fmt.{decimal_is_IsNumeral}
use Rattle.std.proofs.lemmas.Slice.Eq.{bytes_eq-Decides}
use Rattle.std.proofs.lemmas.Bool.Decides.{nat_tests}
use Rattle.loft_lex.specs.Bytes.{is_digit, is_letter, begins}
use Rattle.loft_lex.proofs.Runs.{left_of}
use Rattle.loft_tree.specs.Source as src
use Rattle.loft_tree.specs.Source.{Statement, Assign, AssignCreate, Create, PrintText, PrintValue, Cooperate, Generate, Await, Select, Get, Join, ControlThread, Broadcast, Link, Unlink, Run, Halt, If, While, Repeat, Declaration, Scheduler, Event, Shared, Module, Start, Outside}
use Rattle.loft_tree.specs.declared.kinds.Control.TheVariants as control
use Rattle.loft_lex.specs.declared.sign.Sign.TheVariants as s
use Rattle.loft_lex.specs.declared.word.Word.TheVariants as w
use Rattle.loft_show.specs.Canon.{pieces_text, spaced, sign, word, ended, expression_pieces, creation_pieces, space}
use Rattle.loft_listing_line.specs.Instructions.{Instruction, Do, Stop, Branch, Enter, Count, Turn, Jump, End as EndOf, statement_text, instruction_text}
use Rattle.loft_listing_line.specs.Rows.{ListingLine, Title, Item, Head, Local, Operation, End, Client, Order, Close, line_text}
use Rattle.loft_listing_line.specs.RowsFit.{IsSmall, IsOneLineItem, IsStatementOf, InstructionFits, ListingLineFits, IsLine}
use Rattle.loft_listing_line.specs.Sorts.{begins_line, begins_deed, sort_of, sort_of_instruction}
use Rattle.loft_listing_line.specs.declared.sort.LineSort.TheVariants as sort
use Rattle.loft_listing_line.specs.declared.sort.DeedSort.TheVariants as deed
use Rattle.loft_listing_line.specs.declared.sort.StatementSort.TheVariants as statement
use Rattle.loft_listing_line.proofs.Cutting.{small_fits}
use Rattle.loft_listing_line.proofs.Without.{decimal_digits, name_begins}
use Rattle.loft_listing_line.proofs.Semicolons.{has_semicolon, is_statement, semicolons}

abbrev pub title : List ℕ
title = codes "loft-listing 1" ++ 10 ∷ []

abbrev pub end : List ℕ
end = codes "end" ++ 10 ∷ []

abbrev pub enter : List ℕ
enter = codes "enter" ++ 10 ∷ []

-- ---- first bytes

digits_first : (bs rest : List ℕ) → 0 < length bs → list_all is_ascii_digit bs ≡ true → begins is_digit (bs ++ rest) ≡ true
digits_first [] rest some all = absurd (omega arith)
digits_first (b ∷ bs) rest some all = left_of (is_ascii_digit b) (list_all is_ascii_digit bs) all

number_first : (n : ℕ) (rest : List ℕ) → IsSmall n → begins is_digit (decimal n ++ rest) ≡ true
number_first n rest small = digits_first (decimal n) rest (decimal_is_IsNumeral n (small_fits n small)).0.0 (decimal_digits n small)

item_first : (d : Declaration) → IsOneLineItem d → begins (begins_line sort.Item) (line_text (Item d)) ≡ true
item_first (Scheduler n) one = refl
item_first (Event n scheduler) one = refl
item_first (Shared n scheduler value) one = refl
item_first (Module head locals body) one = absurd one
item_first (Start scheduler called arguments n) one = refl
item_first (Outside n orders) one = absurd one

order_first : (x : src.Order) → begins (begins_line sort.Order) (line_text (Order x)) ≡ true
order_first (src.CreateThere scheduler called arguments) = refl
order_first (src.ControlThere control thread scheduler) = refl
order_first (src.BroadcastThere event value) = refl

-- lines but for two begin as those of their sort do
line_first : (l : ListingLine) → ListingLineFits l → (line_text l ≡ title → ⊥) → (line_text l ≡ end → ⊥) → begins (begins_line (sort_of l)) (line_text l) ≡ true
line_first Title fits other more = absurd (other refl)
line_first (Item d) fits other more = item_first d fits.0
line_first (Head h) fits other more = refl
line_first (Local v) fits other more = refl
line_first (Operation n p depth i) fits other more = number_first n _ fits.0
line_first End fits other more = absurd (more refl)
line_first (Client n) fits other more = refl
line_first (Order x) fits other more = order_first x
line_first Close fits other more = refl

differs : (text other : List ℕ) → bytes_eq text other ≡ false → text ≡ other → ⊥
differs text other is same = let yes' = (bytes_eq-Decides text other).1 same in cc

pub line_begins : (l : ListingLine) (text : List ℕ) → IsLine text l → bytes_eq text title ≡ false → bytes_eq text end ≡ false → begins (begins_line (sort_of l)) text ≡ true
line_begins l text is other more =
    subst (λ t. begins (begins_line (sort_of l)) t ≡ true) (sym is.written)
    (line_first l is.fits (λ e. differs text title other (is.written ∙ e)) (λ e. differs text end more (is.written ∙ e)))

-- ---- the two lines that are told by all their bytes

abbrev tail : List ℕ → List ℕ
tail [] = []
tail (b ∷ bs) = bs

-- texts of which only one passes a test are two
apart : (test : List ℕ → Bool) (text other : List ℕ) → text ≡ other → test text ≡ true → test other ≡ false → ⊥
apart test text other same is outside = let h : test other ≡ true = subst (λ t. test t ≡ true) same is in cc

title_only : (l : ListingLine) → ListingLineFits l → line_text l ≡ title → sort.Title ≡ sort_of l
title_only Title fits e = refl
title_only (Item d) fits e = absurd (apart (begins (begins_line sort.Item)) (line_text (Item d)) title e (item_first d fits.0) refl)
title_only (Head h) fits e = absurd (apart (begins (begins_line sort.Head)) (line_text (Head h)) title e refl refl)
title_only (Local v) fits e = absurd (apart (λ t. begins (λ b. b == 99) (tail (tail t))) (line_text (Local v)) title e refl refl)
title_only (Operation n p depth i) fits e = absurd (apart (begins is_digit) (line_text (Operation n p depth i)) title e (number_first n _ fits.0) refl)
title_only End fits e = absurd (apart (begins (λ b. b == 101)) (line_text End) title e refl refl)
title_only (Client n) fits e = absurd (apart (begins (begins_line sort.Client)) (line_text (Client n)) title e refl refl)
title_only (Order x) fits e = absurd (apart (begins (begins_line sort.Order)) (line_text (Order x)) title e (order_first x) refl)
title_only Close fits e = absurd (apart (begins (begins_line sort.Close)) (line_text Close) title e refl refl)

never_end : (d : Declaration) → IsOneLineItem d → line_text (Item d) ≡ end → ⊥
never_end (Scheduler n) one e = apart (begins (λ b. b == 115)) (line_text (Item (Scheduler n))) end e refl refl
never_end (Event n scheduler) one e = apart (λ t. begins (λ b. b == 118) (tail t)) (line_text (Item (Event n scheduler))) end e refl refl
never_end (Shared n scheduler value) one e = apart (begins (λ b. b == 115)) (line_text (Item (Shared n scheduler value))) end e refl refl
never_end (Module head locals body) one e = one
never_end (Start scheduler called arguments n) one e = apart (begins (λ b. b == 115)) (line_text (Item (Start scheduler called arguments n))) end e refl refl
never_end (Outside n orders) one e = one

end_only : (l : ListingLine) → ListingLineFits l → line_text l ≡ end → sort.End ≡ sort_of l
end_only Title fits e = absurd (apart (begins (λ b. b == 108)) title end e refl refl)
end_only (Item d) fits e = absurd (never_end d fits.0 e)
end_only (Head h) fits e = absurd (apart (begins (begins_line sort.Head)) (line_text (Head h)) end e refl refl)
end_only (Local v) fits e = absurd (apart (begins (begins_line sort.Local)) (line_text (Local v)) end e refl refl)
end_only (Operation n p depth i) fits e = absurd (apart (begins is_digit) (line_text (Operation n p depth i)) end e (number_first n _ fits.0) refl)
end_only End fits e = refl
end_only (Client n) fits e = absurd (apart (begins (begins_line sort.Client)) (line_text (Client n)) end e refl refl)
end_only (Order x) fits e = absurd (apart (begins (begins_line sort.Order)) (line_text (Order x)) end e (order_first x) refl)
end_only Close fits e = absurd (apart (begins (begins_line sort.Close)) (line_text Close) end e refl refl)

pub is_title : (l : ListingLine) (text : List ℕ) → IsLine text l → bytes_eq text title ≡ true → sort.Title ≡ sort_of l
is_title l text is same = title_only l is.fits (sym is.written ∙ (bytes_eq-Decides text title).0 same)

pub is_end : (l : ListingLine) (text : List ℕ) → IsLine text l → bytes_eq text end ≡ true → sort.End ≡ sort_of l
is_end l text is same = end_only l is.fits (sym is.written ∙ (bytes_eq-Decides text end).0 same)

-- ---- operations

not_at : (b : ℕ) (t : Bool) → (b == 64) ≡ t → is_letter b ≡ true → t ≡ false
not_at b true is letter = let same : b ≡ 64 = grind (arith, nat_tests) in let h : is_letter 64 ≡ true = subst (λ c. is_letter c ≡ true) same letter in absurd cc
not_at b false is letter = refl

name_not_at : (bytes rest more : List ℕ) → begins is_letter bytes ≡ true → begins (λ b. b == 64) ((bytes ++ rest) ++ more) ≡ false
name_not_at [] rest more is = absurd cc
name_not_at (b ∷ bs) rest more is = not_at b (b == 64) refl is

-- no statement begins with `@`
statement_not_at : (x : Statement) → IsStatementOf statement.Action x → begins (λ b. b == 64) (statement_text x) ≡ false
statement_not_at (Assign target value) of =
    name_not_at target.text (pieces_text (spaced (sign s.Equals) ∷ ended (expression_pieces value space))) (10 ∷ []) (name_begins target.text of.1.0)
statement_not_at (AssignCreate target at creation) of =
    name_not_at target.text (pieces_text (spaced (sign s.Equals) ∷ spaced (word w.Create) ∷ ended (creation_pieces creation))) (10 ∷ []) (name_begins target.text of.1.0)
statement_not_at (Create at creation) of = refl
statement_not_at (PrintText at text value) of = refl
statement_not_at (PrintValue at value) of = refl
statement_not_at (Cooperate at instants) of = refl
statement_not_at (Generate at event value) of = refl
statement_not_at (Await at event limit) of = refl
statement_not_at (Select at [] limit) of = refl
statement_not_at (Select at (event ∷ events) limit) of = refl
statement_not_at (Get at event index target) of = refl
statement_not_at (Join at thread limit) of = refl
statement_not_at (ControlThread at control.Stop thread scheduler) of = refl
statement_not_at (ControlThread at control.Suspend thread scheduler) of = refl
statement_not_at (ControlThread at control.Resume thread scheduler) of = refl
statement_not_at (Broadcast at event value) of = refl
statement_not_at (Link at scheduler) of = refl
statement_not_at (Unlink at) of = refl
statement_not_at (Run at called arguments) of = refl
statement_not_at (Halt at) of = refl
statement_not_at (If at test first second) of = refl
statement_not_at (While at test body) of = refl
statement_not_at (Repeat at count body) of = refl

-- what has a semicolon is told by the first byte
pub stop_first : (i : Instruction) (text : List ℕ) → InstructionFits i → text ≡ instruction_text i → has_semicolon text ≡ true → begins (λ b. b == 64) text ≡ true → deed.Stop ≡ sort_of_instruction i
stop_first i text fits same some first =
    go i fits (sym (semicolons i fits) ∙ ap has_semicolon (sym same) ∙ some) (ap (begins (λ b. b == 64)) (sym same) ∙ first)
  where
    go : (j : Instruction) → InstructionFits j → is_statement (sort_of_instruction j) ≡ true → begins (λ b. b == 64) (instruction_text j) ≡ true → deed.Stop ≡ sort_of_instruction j
    go (Do x) ok is at = let never = statement_not_at x ok in absurd cc
    go (Stop k x) ok is at = refl
    go (Branch t test) ok is at = absurd cc
    go Enter ok is at = absurd cc
    go (Count count) ok is at = absurd cc
    go (Turn t) ok is at = absurd cc
    go (Jump t) ok is at = absurd cc
    go EndOf ok is at = absurd cc

pub do_first : (i : Instruction) (text : List ℕ) → InstructionFits i → text ≡ instruction_text i → has_semicolon text ≡ true → begins (λ b. b == 64) text ≡ false → deed.Do ≡ sort_of_instruction i
do_first i text fits same some first =
    go i (sym (semicolons i fits) ∙ ap has_semicolon (sym same) ∙ some) (ap (begins (λ b. b == 64)) (sym same) ∙ first)
  where
    go : (j : Instruction) → is_statement (sort_of_instruction j) ≡ true → begins (λ b. b == 64) (instruction_text j) ≡ false → deed.Do ≡ sort_of_instruction j
    go (Do x) is at = refl
    go (Stop k x) is at = absurd cc
    go (Branch t test) is at = absurd cc
    go Enter is at = absurd cc
    go (Count count) is at = absurd cc
    go (Turn t) is at = absurd cc
    go (Jump t) is at = absurd cc
    go EndOf is at = absurd cc

pub enter_only : (i : Instruction) (text : List ℕ) → InstructionFits i → text ≡ instruction_text i → has_semicolon text ≡ false → bytes_eq text enter ≡ true → deed.Enter ≡ sort_of_instruction i
enter_only i text fits same none is =
    go i (sym (semicolons i fits) ∙ ap has_semicolon (sym same) ∙ none) (sym same ∙ (bytes_eq-Decides text enter).0 is)
  where
    go : (j : Instruction) → is_statement (sort_of_instruction j) ≡ false → instruction_text j ≡ enter → deed.Enter ≡ sort_of_instruction j
    go (Do x) plain e = absurd cc
    go (Stop k x) plain e = absurd cc
    go (Branch t test) plain e = absurd (apart (begins (begins_deed deed.Branch)) (instruction_text (Branch t test)) enter e refl refl)
    go Enter plain e = refl
    go (Count count) plain e = absurd (apart (begins (begins_deed deed.Count)) (instruction_text (Count count)) enter e refl refl)
    go (Turn t) plain e = absurd (apart (begins (begins_deed deed.Turn)) (instruction_text (Turn t)) enter e refl refl)
    go (Jump t) plain e = absurd (apart (begins (begins_deed deed.Jump)) (instruction_text (Jump t)) enter e refl refl)
    go EndOf plain e = absurd (apart (λ t. begins (λ b. b == 100) (tail (tail t))) (instruction_text EndOf) enter e refl refl)

pub deed_begins : (i : Instruction) (text : List ℕ) → InstructionFits i → text ≡ instruction_text i → has_semicolon text ≡ false → bytes_eq text enter ≡ false → begins (begins_deed (sort_of_instruction i)) text ≡ true
deed_begins i text fits same none is =
    ap (begins (begins_deed (sort_of_instruction i))) same ∙ go i (sym (semicolons i fits) ∙ ap has_semicolon (sym same) ∙ none) (λ e. differs text enter is (same ∙ e))
  where
    go : (j : Instruction) → is_statement (sort_of_instruction j) ≡ false → (instruction_text j ≡ enter → ⊥) → begins (begins_deed (sort_of_instruction j)) (instruction_text j) ≡ true
    go (Do x) plain other = absurd cc
    go (Stop k x) plain other = absurd cc
    go (Branch t test) plain other = refl
    go Enter plain other = absurd (other refl)
    go (Count count) plain other = refl
    go (Turn t) plain other = refl
    go (Jump t) plain other = refl
    go EndOf plain other = refl

-- ---- the first byte of a list

pub first_byte : (class : ℕ → Bool) (text : List ℕ) → begins class text ≡ true → class (get_or text 0 0) ≡ true
first_byte class [] is = absurd cc
first_byte class (b ∷ bs) is = is

pub stop_or_do : (i : Instruction) (text : List ℕ) → InstructionFits i → text ≡ instruction_text i → has_semicolon text ≡ true
    → (if get_or text 0 0 == 64 then deed.Stop else deed.Do) ≡ sort_of_instruction i
stop_or_do i [] fits same some = absurd cc
stop_or_do i (b ∷ bs) fits same some = go (b == 64) refl
  where
    go : (t : Bool) → (b == 64) ≡ t → (if t then deed.Stop else deed.Do) ≡ sort_of_instruction i
    go true is = stop_first i (b ∷ bs) fits same some is
    go false is = do_first i (b ∷ bs) fits same some is
